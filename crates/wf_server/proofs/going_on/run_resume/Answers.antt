use Rattle.std.proofs.Common.{inl, inr, refl}
use Rattle.transcript_commands.specs.Load.{FileNames}
use Rattle.transcript_commands.specs.Start.{names_in}
use Rattle.wf_server.specs.GoingOn.{options_by}
use Rattle.wf_server.proofs.ResumeLaws.{all_refused, begun_there, gone_on, lanes_there, refused_usage, served_usage}
use Rattle.wf_server.proofs.going_on.run_resume.Goals as goal

pub begin-requires-clause-within : goal.begin-requires-clause-within
begin-requires-clause-within g c = record {
  some = c.requires.options.some;
  few_lanes = c.requires.options.lanes;
  few_rounds = c.requires.options.rounds;
}

pub go_on-requires-clause-some : goal.go_on-requires-clause-some
go_on-requires-clause-some g c =
    let names : FileNames = names_in c.args.earlier in
    lanes_there (g.F.Shelf.file c.args.outside.now.shelf.now) names (options_by c.args.earlier) c.in-Ok.beginning c.requires.options.some c.in-Ok.ensures.begins

pub go_on-requires-clause-begun : goal.go_on-requires-clause-begun
go_on-requires-clause-begun g c =
    let names : FileNames = names_in c.args.earlier in
    begun_there (g.F.Shelf.file c.args.outside.now.shelf.now) names (options_by c.args.earlier) c.in-Ok.beginning c.in-Ok.ensures.begins

pub returns-in-Ok-clause-resumes : goal.returns-in-Ok-clause-resumes
returns-in-Ok-clause-resumes g c repeats once =
    let names : FileNames = names_in c.args.earlier in
    gone_on names (options_by c.args.earlier) repeats c.in-Ok.beginning _ c.requires.options
    c.in-Ok.ensures.loads c.go_on.ensures.served c.go_on.ensures.behind.begins c.go_on.ensures.behind.wants
    c.lines_fit.ensures c.jobs_stay_named.ensures c.go_on.ensures.named
    (λ never. elim (once never) [
      | inl serves ↦ inl (c.go_on.ensures.behind.once serves)
      | inr none ↦ inr none
    ])
    c.in-Ok.ensures.begins

pub returns-in-Ok-clause-ended : goal.returns-in-Ok-clause-ended
returns-in-Ok-clause-ended g c =
    let names : FileNames = names_in c.args.earlier in
    let h = begun_there (g.F.Shelf.file c.args.outside.now.shelf.now) names (options_by c.args.earlier) c.in-Ok.beginning c.in-Ok.ensures.begins in
    record {
      status = c.go_on.ensures.status;
      usage = served_usage _ _ _ _ _ _ _ (c.go_on.ensures.served h.0 h.1.0 h.1.1.0 h.1.1.1);
      same = record { shelf = refl; source = refl; sink = refl };
    }

pub returns-in-Err-clause-resumes : goal.returns-in-Err-clause-resumes
returns-in-Err-clause-resumes g c repeats once =
    let names : FileNames = names_in c.args.earlier in
    all_refused names (options_by c.args.earlier) repeats c.in-Err.refusal _ c.requires.options refl c.refuse.ensures.told refl c.in-Err.ensures.ending
    c.in-Err.ensures.loads
    c.refuse.ensures.refuses c.refuse.ensures.counts c.in-Err.ensures.begins

pub returns-in-Err-clause-ended : goal.returns-in-Err-clause-ended
returns-in-Err-clause-ended g c = record {
  status = c.refuse.ensures.status;
  usage = refused_usage c.in-Err.refusal _ _ _ c.in-Err.ensures.ending c.refuse.ensures.refuses;
  same = record { shelf = refl; source = refl; sink = refl };
}
