use Rattle.policy_reader.proofs.Words.{◌∙◌, sym, ap, length, arith}
use Rattle.std.specs.FinSet as set
use Rattle.policy_reader.proofs.Held.{any_at}
use Rattle.policy_reader.proofs.file.some_user_has.Goals as goal

pub returns-then-has : goal.returns-then-has
returns-then-has c =
    sym (any_at (length c.args.roster.now.users) (λ u. set.contains c.args.roster.now.members (u, c.args.r)) c.users.u
    (omega (arith, c.users-test.true, c.len-u-end.ensures.count, ap length c.users-2.ensures.names))
    (sym c.has.ensures ∙ c.if-has.true))
