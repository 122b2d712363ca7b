use Rattle.std.proofs.Common.{sym, ◌∙◌}
use Rattle.std.specs.FinSet as set
use Rattle.policy_book.proofs.Counting.{holder_known}
use Rattle.policy_book.proofs.authority.holders_of_some.Goals as goal

pub returns-clause-known : goal.returns-clause-known
returns-clause-known c = λ u has.
    holder_known c.args.roster.now u c.roles.r (λ r. set.contains c.args.flow.now.permits (r, c.args.s)) c.roles-2.ensures.sound
    (sym (c.roles.invariant u) ∙ has)
