use Rattle.policy_reader.proofs.Words.{◌∙◌, next_held}
use Rattle.policy_reader.proofs.Loops.{each_more}
use Rattle.policy_reader.proofs.rosters.all_held.Goals as goal

pub items-preserved : goal.items-preserved
items-preserved c = (
  each_more (next_held c.args.u) c.items.roster c.next_held.new.roster _ c.args.items.now
      c.items.value-index c.value-item.result c.items-test.true c.value-item.is c.items.invariant.0 c.in-Ok.ensures.read,
  c.in-Ok.ensures.users ∙ c.items.invariant.1,
  c.in-Ok.ensures.roles ∙ c.items.invariant.2,
)
