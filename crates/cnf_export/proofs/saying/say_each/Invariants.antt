use Rattle.std.proofs.Common.{◌≡◌, ◌-◌, ◌++◌, ℕ, Bool, map}
use Rattle.cnf_export.specs.Laws.Encodings.{numbers}
use Rattle.cnf_export.specs.Saying.{Says}
use Rattle.cnf_export.proofs.saying.say_each.Given as goal

abbrev pub invariant-numbers : goal.invariant-numbers
invariant-numbers g l =
    (said : ℕ → Bool) → Says (goal.F-post g l.test) l.n said → l.into ++ map said (numbers l.k (l.n - l.k)) ≡ l.fn.into ++ map said (numbers 0 l.n)
