use Rattle.std.proofs.Common.{List, ℕ, ap, refl, sym, subst, ◌∙◌}
use Rattle.wf_outside.specs.Laws.Outside.{HasPart}
use Rattle.run_record.specs.Fault.{status_of}
use Rattle.wf_commands.proofs.Endings.{answered_usage, unanswered_usage}
use Rattle.wf_commands.proofs.Runs.{with_answer, with_part, without_answer}
use Rattle.wf_commands.proofs.once.answer_once.Goals as goal

pub returns-in-Ok-put_and_flush-clause-answers : goal.returns-in-Ok-put_and_flush-clause-answers
returns-in-Ok-put_and_flush-clause-answers g c =
    with_answer (g.A.Answers.limit c.args.command.now) c.args.policy.now (g.A.Answers.answers c.args.command.now) c.in-Ok.answer _
    (record {
      given = c.in-Ok.ensures.answer;
      named = c.in-Ok.ensures.named;
      loads = c.in-Ok.ensures.loads;
      reads = c.in-Ok.ensures.reads;
      input =
          c.in-Ok.ensures.input;
      untold = c.bare_report.ensures.told;
    })
    (c.bare_report.ensures.fault ∙ c.ending.ensures) (let all = c.in-Ok-put_and_flush.ensures.all in let value = c.as_slice.ensures.value in cc)
    c.in-Ok-put_and_flush.ensures.stays

pub returns-in-Ok-clause-answers : goal.returns-in-Ok-clause-answers
returns-in-Ok-clause-answers g c =
    with_part (g.A.Answers.limit c.args.command.now) c.args.policy.now (g.A.Answers.answers c.args.command.now) c.in-Ok.answer _
    (record {
      given = c.in-Ok.ensures.answer;
      named = c.in-Ok.ensures.named;
      loads = c.in-Ok.ensures.loads;
      reads = c.in-Ok.ensures.reads;
      input =
          c.in-Ok.ensures.input;
      untold = c.bare_report-in-Err-put_and_flush.ensures.told;
    })
    c.bare_report-in-Err-put_and_flush.ensures.fault
    (subst (λ (text : List ℕ). HasPart (g.K.Sink.held c.args.outside.now.sink.now) (g.K.Sink.held c.put_and_flush.new.sink) text) c.as_slice.ensures.value
    c.in-Err-put_and_flush.ensures.part)
    c.in-Err-put_and_flush.ensures.rose

pub returns-clause-answers : goal.returns-clause-answers
returns-clause-answers g c =
    rw (c.bare_report-in-Err.ensures.fault, c.bare_report-in-Err.ensures.told)
    (without_answer (g.A.Answers.limit c.args.command.now) c.args.policy.now (g.A.Answers.answers c.args.command.now) _ c.in-Err.ensures.answer
    c.in-Err.ensures.ending c.in-Err.ensures.named c.in-Err.ensures.loads c.in-Err.ensures.reads c.in-Err.ensures.input
    (record { output = refl; writes = refl; untold = refl }))

pub returns-in-Ok-put_and_flush-clause-ended : goal.returns-in-Ok-put_and_flush-clause-ended
returns-in-Ok-put_and_flush-clause-ended g c = record {
  status = c.bare_report.ensures.status ∙ sym (ap status_of c.bare_report.ensures.fault);
  usage = λ is. answered_usage c.in-Ok.answer.found (sym (c.bare_report.ensures.fault ∙ c.ending.ensures) ∙ is);
  same = record { shelf = refl; source = refl; sink = refl };
}

pub returns-in-Ok-put_and_flush-clause-untouched : goal.returns-in-Ok-put_and_flush-clause-untouched
returns-in-Ok-put_and_flush-clause-untouched g c = c.in-Ok.ensures.untouched

pub returns-in-Ok-clause-untouched : goal.returns-in-Ok-clause-untouched
returns-in-Ok-clause-untouched g c = c.in-Ok.ensures.untouched

pub returns-clause-ended : goal.returns-clause-ended
returns-clause-ended g c = record {
  status = c.bare_report-in-Err.ensures.status ∙ sym (ap status_of c.bare_report-in-Err.ensures.fault);
  usage = λ is. unanswered_usage _ c.in-Err.ensures.ending (sym c.bare_report-in-Err.ensures.fault ∙ is);
  same = record { shelf = refl; source = refl; sink = refl };
}

pub returns-clause-untouched : goal.returns-clause-untouched
returns-clause-untouched g c = c.in-Err.ensures.untouched
