use Rattle.std.proofs.Common.{List, ℕ, Some, refl, subst, ◌∙◌}
use Rattle.wf_names.specs.declared.limits.TheConstants.{LINE_LIMIT}
use Rattle.wf_outside.specs.Laws.Outside.{HasPart}
use Rattle.wf_commands.proofs.Runs.{with_answer, with_part, without_answer}
use Rattle.wf_commands.specs.CnfAnswers.{ModelAsked}
use Rattle.wf_commands.proofs.CnfRuns.{model_stays}
use Rattle.wf_commands.proofs.model.run_model.Goals as goal

pub returns-in-Ok-put_and_flush-clause-reads : goal.returns-in-Ok-put_and_flush-clause-reads
returns-in-Ok-put_and_flush-clause-reads g c =
    let filed = g.F.Shelf.file c.args.outside.now.shelf.now c.args.model.now in
    record {
      once = with_answer (Some LINE_LIMIT) c.args.policy.now (λ seen p. ModelAsked p c.args.flow.now filed seen) c.in-Ok.answer _
          (record {
            given = c.in-Ok.ensures.answer;
            named = c.in-Ok.ensures.named;
            loads = c.in-Ok.ensures.loads;
            reads = c.in-Ok.ensures.reads;
            input = c.in-Ok.ensures.input;
            untold = c.bare_report.ensures.told;
          })
          (c.bare_report.ensures.fault ∙ c.ending.ensures)
          (let all = c.in-Ok-put_and_flush.ensures.all in let value = c.as_slice.ensures.value in cc) c.in-Ok-put_and_flush.ensures.stays;
      without = model_stays filed _ c.in-Ok.ensures.without;
    }

pub returns-in-Ok-clause-reads : goal.returns-in-Ok-clause-reads
returns-in-Ok-clause-reads g c =
    let filed = g.F.Shelf.file c.args.outside.now.shelf.now c.args.model.now in
    record {
      once = with_part (Some LINE_LIMIT) c.args.policy.now (λ seen p. ModelAsked p c.args.flow.now filed seen) c.in-Ok.answer _
          (record {
            given = c.in-Ok.ensures.answer;
            named = c.in-Ok.ensures.named;
            loads = c.in-Ok.ensures.loads;
            reads = c.in-Ok.ensures.reads;
            input = c.in-Ok.ensures.input;
            untold = c.bare_report-in-Err-put_and_flush.ensures.told;
          })
          c.bare_report-in-Err-put_and_flush.ensures.fault
          (subst (λ (text : List ℕ). HasPart (g.K.Sink.held c.args.outside.now.sink.now) (g.K.Sink.held c.put_and_flush.new.sink) text) c.as_slice.ensures.value
          c.in-Err-put_and_flush.ensures.part)
          c.in-Err-put_and_flush.ensures.rose;
      without = model_stays filed _ c.in-Ok.ensures.without;
    }

pub returns-clause-reads : goal.returns-clause-reads
returns-clause-reads g c =
    let filed = g.F.Shelf.file c.args.outside.now.shelf.now c.args.model.now in
    rw (c.bare_report-in-Err.ensures.fault, c.bare_report-in-Err.ensures.told)
    (record {
      once = without_answer (Some LINE_LIMIT) c.args.policy.now
          (λ seen p. ModelAsked p c.args.flow.now filed seen) _ c.in-Err.ensures.answer c.in-Err.ensures.ending c.in-Err.ensures.named c.in-Err.ensures.loads
          c.in-Err.ensures.reads c.in-Err.ensures.input
          (record { output = refl; writes = refl; untold = refl });
      without = c.in-Err.ensures.without;
    })
