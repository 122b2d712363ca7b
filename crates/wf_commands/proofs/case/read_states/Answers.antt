use Rattle.std.proofs.Common.{◌+◌, Some, ap, ◌∙◌}
use Rattle.run_record.specs.declared.fault.InputFault.TheVariants.{NoUser}
use Rattle.wf_commands.specs.Cases.{next_said}
use Rattle.wf_commands.proofs.StatesSaid.{said_done, said_failed, said_next}
use Rattle.wf_commands.proofs.case.read_states.Goals as goal

pub items-preserved : goal.items-preserved
items-preserved c = record {
  read = said_next (next_said c.args.p.now) c.args.items.now c.items.item-index c.item-item.result c.items.c _ _ c.items-test.true c.item-item.is
      c.in_ok-c.ensures.case c.items.invariant.read;
  said = c.in_ok-c.ensures.said ∙ ap (λ n. n + 1) c.items.invariant.said;
  sound = c.in_ok-c.ensures.sound;
}

pub returns-in_err-c-clause-case : goal.returns-in_err-c-clause-case
returns-in_err-c-clause-case c =
    said_failed (next_said c.args.p.now) c.args.items.now c.items.item-index c.item-item.result c.items.c (λ place. Some (NoUser place)) (λ d. d)
    c.from_residual.result c.in_err-c.field-0.0 _ c.from_residual.ensures.1 c.items-test.true c.item-item.is c.in_err-c.ensures.case c.items.invariant.read

pub returns-clause-case : goal.returns-clause-case
returns-clause-case c = said_done (next_said c.args.p.now) c.args.items.now c.items.item-index c.items.c _ c.items-test.false c.items.invariant.read
