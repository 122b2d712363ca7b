use Rattle.std.proofs.Common.{refl, inl, ◌∙◌}
use Rattle.wf_commands.specs.CnfAnswers.{ClausesAsked}
use Rattle.wf_commands.proofs.CnfRuns.{none_written, written_so}
use Rattle.wf_commands.proofs.clauses.run_clauses.Goals as goal

pub returns-in-Ok-clause-writes : goal.returns-in-Ok-clause-writes
returns-in-Ok-clause-writes g c =
    written_so c.args.policy.now c.args.flow.now c.in-Ok.encoder _ c.write_clauses-written.result
    (record {
      given = c.in-Ok.ensures.clauses;
      named = c.in-Ok.ensures.named;
      loads = c.in-Ok.ensures.loads;
      reads = c.in-Ok.ensures.reads;
      input = c.in-Ok.ensures.input;
      untold = c.bare_report.ensures.told;
    })
    (c.bare_report.ensures.fault ∙ c.ending_written.ensures) c.write_clauses-written.ensures.all c.write_clauses-written.ensures.part
    c.write_clauses-written.ensures.rose c.write_clauses-written.ensures.stays

pub returns-in-Err-clause-writes : goal.returns-in-Err-clause-writes
returns-in-Err-clause-writes g c =
    inl (rw (c.bare_report-in-Err.ensures.fault, c.bare_report-in-Err.ensures.told)
    (none_written c.args.policy.now
    (λ seen p. ClausesAsked p c.args.flow.now seen) _ c.in-Err.ensures.clauses c.in-Err.ensures.ending c.in-Err.ensures.named c.in-Err.ensures.loads
    c.in-Err.ensures.reads c.in-Err.ensures.input
    (record { output = refl; writes = refl; untold = refl })))
