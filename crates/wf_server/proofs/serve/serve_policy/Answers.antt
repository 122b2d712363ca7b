use Rattle.wf_server.proofs.Fitting.{served_fits}
use Rattle.wf_server.proofs.SessionLaws.{serves_kept, serves_late}
use Rattle.command_words.specs.Command.{options_in}
use Rattle.wf_server.specs.Laws.Serving.{setting}
use Rattle.wf_server.proofs.serve.serve_policy.Goals as goal

pub returns-clause-served : goal.returns-clause-served
returns-clause-served g c =
    let set = setting c.args.policy (options_in c.args.options) in
    let served = serves_kept set _ _ _ _ _ _ c.admin.ensures.sound c.histories_keep_completable.ensures c.histories_are_exact.ensures
    c.run_session.ensures.legal c.run_session.ensures.serves in
    record {
      served = served;
      wants = c.run_session.ensures.wants;
      fits = served_fits c.args.policy (options_in c.args.options) _ _ _ _ _ c.lines_fit.ensures c.jobs_stay_named.ensures c.jobs_are_in_order.ensures
          c.requires.options c.requires.file c.know_names.ensures served c.run_session.ensures.wants;
    }

pub returns-clause-late : goal.returns-clause-late
returns-clause-late g c = serves_late (setting c.args.policy (options_in c.args.options)) _ _ _ _ _ _ c.run_session.ensures.serves
