use Rattle.std.proofs.Common.{◌≡◌, ℕ, Bool, List, false, sym, ◌∙◌, ap, nat_eq, arith}
use Rattle.std.specs.Cmp.Lexicographic.{pointwise}
use Rattle.user_relations.proofs.Named.{same_is_name, other_is_name, found_declared}
use Rattle.user_relations.proofs.kinds.find.Goals as goal

pub known_name-requires : goal.known_name-requires
known_name-requires c = same_is_name

pub known_name-requires-2 : goal.known_name-requires-2
known_name-requires-2 c = other_is_name

-- a name is not a known one
not_known : (name known text : List ℕ) (same : Bool) → known ≡ text → same ≡ pointwise nat_eq name known → same ≡ false → pointwise nat_eq name text ≡ false
not_known name known text same is told other = ap (pointwise nat_eq name) (sym is) ∙ sym told ∙ other

pub returns-in-Some-clause-place : goal.returns-in-Some-clause-place
returns-in-Some-clause-place c = grind (arith, found_declared, not_known)

pub returns-in-None-clause-place : goal.returns-in-None-clause-place
returns-in-None-clause-place c = grind (arith, found_declared, not_known)
