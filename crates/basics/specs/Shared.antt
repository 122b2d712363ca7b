-- What a borrow of a shared part leaves behind.
use Rattle.std.specs.Prelude.{◌≡◌, Result}
use Rattle.std.specs.Borrow.{LendsSoOk, Fml, RattleType, MutBor}
use Rattle.basics.specs.contracts.shared.Shared.{the_row}

-- the part ends as the last value written through the borrow, and after a refusal as it was
abbrev pub FollowsEdit : (R : RattleType) → MutBor R.Denot → {E : Type 0} →
    Result (MutBor R.Denot) E → Fml
FollowsEdit R s r = LendsSoOk (the_row R) R s r (λ n w. n ≡ w) (λ n. n ≡ s.now)
