use Rattle.std.proofs.Common.{ap, refl, sym, subst, ◌∙◌}
use Rattle.std.proofs.lemmas.Bool.{false≢true}
use Rattle.run_record.specs.Fault.{is_before_input, status_of}
use Rattle.run_record.specs.Report.{Told}
use Rattle.wf_commands.specs.Load.{IsLoadEnding}
use Rattle.wf_board.specs.Laws.Histories.{AreAnsweredOnce}
use Rattle.wf_board.specs.Laws.States.{opening_state}
use Rattle.wf_server.proofs.WayLaws.{once_legal}
use Rattle.wf_server.proofs.ServeLaws.{is_served, loads_late, refused_run}
use Rattle.command_words.specs.Command.{options_in}
use Rattle.wf_server.proofs.serve.run_serve.Goals as goal

pub returns-in-Ok-clause-serves : goal.returns-in-Ok-clause-serves
returns-in-Ok-clause-serves g c = record {
  within = c.requires.options;
  serves = is_served (g.F.Shelf.file c.args.outside.now.shelf.now c.args.policy.now) c.in-Ok.p (options_in c.args.options) _ c.in-Ok.ensures.policy
      c.in-Ok.ensures.sound c.serve_policy.ensures.served.served c.serve_policy.ensures.served.wants c.serve_policy.ensures.served.fits;
  orderly = record {
    early = λ e. let late = c.serve_policy.ensures.late in cc;
    loads = loads_late _ _ _ c.serve_policy.ensures.late c.in-Ok.ensures.loads;
    reads = c.serve_policy.ensures.served.served.read_faults;
    writes = c.serve_policy.ensures.served.served.write_faults;
  };
}

pub returns-in-Err-clause-serves : goal.returns-in-Err-clause-serves
returns-in-Err-clause-serves g c =
    refused_run c.args.policy.now (options_in c.args.options) _ c.in-Err.fault c.bare_report.ensures.fault c.in-Err.ensures.policy c.in-Err.ensures.ending
    (record { unread = refl; unwritten = refl; untold = c.bare_report.ensures.told }) c.in-Err.ensures.loads refl refl c.requires.options

pub returns-in-Ok-clause-ended : goal.returns-in-Ok-clause-ended
returns-in-Ok-clause-ended g c = record {
  status = c.serve_policy.ensures.status;
  usage = λ is. false≢true (sym c.serve_policy.ensures.late ∙ ap is_before_input is);
  same = record { shelf = refl; source = refl; sink = refl };
}

pub returns-in-Err-clause-ended : goal.returns-in-Err-clause-ended
returns-in-Err-clause-ended g c = record {
  status = c.bare_report.ensures.status ∙ sym (ap status_of c.bare_report.ensures.fault);
  usage = λ is. subst IsLoadEnding (sym c.bare_report.ensures.fault ∙ is) c.in-Err.ensures.ending;
  same = record { shelf = refl; source = refl; sink = refl };
}

pub returns-in-Err-clause-once : goal.returns-in-Err-clause-once
returns-in-Err-clause-once g c serves = subst (λ (t : Told). AreAnsweredOnce t.entries) (sym c.bare_report.ensures.told) tt

pub returns-in-Ok-clause-no_rounds : goal.returns-in-Ok-clause-no_rounds
returns-in-Ok-clause-no_rounds g c none = once_legal (opening_state c.in-Ok.p) c.args.options.rounds _ c.serve_policy.ensures.served.served.legal none

pub returns-in-Err-clause-no_rounds : goal.returns-in-Err-clause-no_rounds
returns-in-Err-clause-no_rounds g c none = subst (λ (t : Told). AreAnsweredOnce t.entries) (sym c.bare_report.ensures.told) tt
