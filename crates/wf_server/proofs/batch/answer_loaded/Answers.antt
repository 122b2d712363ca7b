use Rattle.std.proofs.Common.{arith, refl}
use Rattle.wf_server.specs.Batches.{told_of}
use Rattle.std.proofs.lemmas.Grind.{common_steps}
use Rattle.wf_server.proofs.BatchLaws.{added_on, begins_grown, grown_past, jobs_grown, loaded_answers, setting_grown, some_behind}
use Rattle.wf_server.proofs.batch.answer_loaded.Goals as goal

pub entries_after-requires : goal.entries_after-requires
entries_after-requires g c =
    grown_past c.args.desk c.serve_jobs-served.result c.len-done.result _ c.serve_jobs-served.ensures.grown (grind (arith, common_steps))
    (grind (arith, common_steps))

pub returns-clause-some : goal.returns-clause-some
returns-clause-some g c =
    some_behind c.serve_jobs-served.result c.len-done.result c.entries_after.result.now c.write_entries-written.result (grind (arith, common_steps))
    c.write_entries-written.ensures.some

pub returns-clause-on : goal.returns-clause-on
returns-clause-on g c = record {
  on = record {
    setting = setting_grown c.args.desk c.serve_jobs-served.result c.serve_jobs-served.ensures.grown;
    begins = begins_grown c.args.desk c.serve_jobs-served.result c.serve_jobs-served.ensures.grown c.journal.ensures.sound.kept;
    once = c.serve_jobs-served.ensures.once;
  };
  jobs = jobs_grown c.args.desk c.serve_jobs-served.result c.serve_jobs-served.ensures.grown;
}

pub returns-clause-answers : goal.returns-clause-answers
returns-clause-answers g c held before told loaded added =
    loaded_answers held (g.K.Sink.held c.args.sink.now) (g.K.Sink.held c.write_entries-written.new.sink) c.args.desk c.serve_jobs-served.result
    c.policy.result.now before (told_of c.serve_jobs-served.result told)
    c.len-done.result c.entries_after.result.now c.write_entries-written.result
    (record {
      loaded = loaded;
      added = added_on c.args.desk c.serve_jobs-served.result before told c.serve_jobs-served.ensures.grown added;
      same = refl;
      grown = c.serve_jobs-served.ensures.grown;
      sound = c.serve_jobs-served.ensures.sound;
      done = c.serve_jobs-served.ensures.done;
    })
    c.texts_stay.ensures (grind (arith, common_steps)) (grind (arith, common_steps)) (grind (arith, common_steps))
    c.write_entries-written.ensures.all c.write_entries-written.ensures.part c.write_entries-written.ensures.some
