-- What a policy is that a file gave: it can be printed and read again. The rest that a file needs
-- every policy keeps: distinct names of a name's form, numbers in range, limits, groups with a
-- step, and for a complement its listed relation.
use Rattle.std.specs.Prelude.{◌≡◌, ℕ, ◌<◌, true, false, List, length, map}
use Rattle.std.specs.Ordering.{nat_cmp}
use Rattle.std.specs.Cmp.Lexicographic.{slice_cmp}
use Rattle.std.specs.List.{AllByRecursion}
use Rattle.std.specs.List.Sorted.{IsStrictlySortedBy}
use Rattle.policy_book.specs.Laws.Shapes.{PolicyShape}
use Rattle.policy_reader.specs.Rosters.{some_user_has}

-- names ascend in byte order, each once
abbrev pub Ascend : List (List ℕ) → Type 0
Ascend names = IsStrictlySortedBy (slice_cmp nat_cmp) names

-- users and relations are numbered in the order of their names, and some user holds the admin role
pub record IsFreshPolicy (p : PolicyShape) : Type 0 where
  pub users : Ascend p.roster.users
  pub relations : Ascend (map (λ r. r.name) p.relations)
  pub admin : some_user_has p.roster p.admin ≡ true

-- so are the workflows: there is one at least, and none is retired
pub record IsPrintable (p : PolicyShape) : Type 0 where
  pub begun : IsFreshPolicy p
  pub flows : Ascend p.flow_names
  pub some : 0 < length p.flow_names
  pub active : AllByRecursion (λ w. w.retired ≡ false) p.flows
