-- Inside: what is true of pairs of numbers as they are read.
use Rattle.std.specs.Prelude.{ℕ, ◌<◌}
use Rattle.basics.specs.Laws.Pairs.{Pairs, AllPairs}

-- the numbers of all pairs are below n
abbrev pub AreBelow : ℕ → Pairs → Type 0
AreBelow n pairs = AllPairs (λ a b. (a < n) × (b < n)) pairs
