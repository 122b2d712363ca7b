-- Sets of pairs.
use Rattle.std.proofs.Common.{◌≡◌, ℕ, ◌+◌, ◌≤◌, arith}
use Rattle.std.specs.FinSet as set
use Rattle.policy_reader.proofs.Words.{Pairs, pair_cmp, pair_cmp_total, pair_cmp-IsAntisymmetric, FlowShape, PermitsRolesBelow}

-- a set is known by what it has
pub same_pairs : (s t : Pairs) → ((q : ℕ × ℕ) → set.contains s q ≡ set.contains t q) → s ≡ t
same_pairs s t each = set.same_set pair_cmp_total pair_cmp-IsAntisymmetric s t each

-- how many pairs a set has
pub len_insert : (s : Pairs) (p : ℕ × ℕ) → set.len (set.insert s p) ≤ set.len s + 1
len_insert s p = grind (arith, set.len-insert pair_cmp_total s p)

-- a workflow that permits nothing
pub none_permitted : (n : ℕ) (flow : FlowShape) → flow.permits ≡ set.empty → PermitsRolesBelow n flow
none_permitted n flow e = rw e (λ r s here. let none = set.contains-empty pair_cmp (r, s) in cc)
