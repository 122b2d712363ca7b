-- The permissions of a workflow are read from what they are written as.
use Rattle.std.proofs.Common.{◌≡◌, ℕ, ◌<◌, Bool, false, nat_eq, nat_lt, ◌||◌, List, [], ◌∷◌, ◌++◌, length, map, refl, sym, ap, subst, ◌∙◌, arith, codes, Some}
use Rattle.std.proofs.Common.{Ok}
use Rattle.std.specs.FinSet as set
use Rattle.policy_reader.proofs.Prints.{IsDistinct, list_any, nat_eq_equiv, slice_cmp-IsAntisymmetric, nat_cmp-IsAntisymmetric, eq_same, or-false, lt_back}
use Rattle.policy_reader.proofs.Prints.{lt_yes, Members, get_member, place_of, AreNames, Pairs, AllPairs, FlowShape, Flows, name_at, chosen, permit_entry}
use Rattle.policy_reader.proofs.Prints.{permits_data}
use Rattle.std.proofs.lemmas.List.Folds.{list_any-append}
use Rattle.policy_reader.specs.Parts.{value_at, array_in, table_in, table_at, text_in, named_in, once}
use Rattle.policy_reader.specs.Flows.{permits_of, next_permit, next_permitted}
use Rattle.policy_reader.proofs.Readings.{list_back, middle, new_middle, items_back, text_at, place_at, number_back}
use Rattle.policy_reader.proofs.Sets.{by_second, at, lines, line_back, same_part, whole_part, no_part}
use Rattle.policy_reader.proofs.Tabled.{Apart, numbers, numbers_among, numbers_distinct, tabled}

module _ (f : ℕ) (roles : List (List ℕ)) (whole : FlowShape) (named : AreNames roles) (steps : AreNames whole.steps)
    (within : AllPairs (λ r s. (r < length roles) × (s < length whole.steps)) whole.permits) where
  abbrev with_permits : Pairs → FlowShape
  with_permits permits = record { steps = whole.steps; order = whole.order; permits = permits }

  -- what was read with the steps so far
  abbrev is_done : List ℕ → ℕ → Bool
  is_done ss m = list_any (nat_eq m) ss

  abbrev state : List ℕ → FlowShape
  state ss = with_permits (lines by_second whole.permits (is_done ss))

  permitted_again : (s r : ℕ) (some : Pairs) → r < length roles → set.contains some (r, s) ≡ false →
      next_permitted f roles s (with_permits some) (text_at roles r) ≡ Ok (with_permits (set.insert some (r, s)))
  unfolding next_permitted named_in once text_in
  permitted_again s r some lt fresh = rw (number_back Flows f roles r named lt, fresh) refl

  abbrev total : ℕ
  total = length whole.steps

  abbrev order : List ℕ
  order = numbers (permit_entry roles whole) total

  apart : (i j : ℕ) → i < j → j < total → Apart (permit_entry roles whole) j i
  apart i j lt below e =
      let same : name_at whole.steps j ≡ name_at whole.steps i = slice_cmp-IsAntisymmetric nat_cmp-IsAntisymmetric _ _ e in
      let places : Some j ≡ Some i = sym (place_at whole.steps j steps below) ∙ ap (place_of whole.steps) same ∙
      place_at whole.steps i steps (omega (arith, lt, below)) in
      let equal : j ≡ i = cc in
      omega (arith, lt, equal)

  among : (m : ℕ) → list_any (nat_eq m) order ≡ nat_lt m total
  among m = numbers_among (permit_entry roles whole) total apart total m (omega arith)

  step : (ss : List ℕ) (s : ℕ) (after : List ℕ) → order ≡ ss ++ s ∷ after →
      next_permit f roles (state ss) (permit_entry roles whole s) ≡ Ok (state (ss ++ s ∷ []))
  unfolding next_permit array_in
  step ss s after e =
      let lt : s < total = lt_back s total (sym (among s) ∙ ap (list_any (nat_eq s)) e ∙ middle nat_eq ss s after (eq_same s)) in
      let new = new_middle nat_eq (λ x y. nat_eq_equiv.symm x y) ss s after
      (subst (IsDistinct nat_eq) e (numbers_distinct (permit_entry roles whole) total apart total (omega arith))) in
      rw (number_back Flows f whole.steps s steps lt, items_back (map (text_at roles) (chosen (length roles) (at by_second whole.permits s))))
      (line_back by_second whole.permits (is_done ss) s new (length roles) (λ q h. (within.each q.0 q.1 h).0) (next_permitted f roles s) (text_at roles)
      with_permits (permitted_again s)
      ∙ ap (λ some. Ok (with_permits some)) (same_part whole.permits (λ q. is_done ss q.1 || nat_eq q.1 s) (λ q. is_done (ss ++ s ∷ []) q.1)
      (λ q h. ap (λ b. is_done ss q.1 || b) (sym (or-false (nat_eq q.1 s))) ∙ sym (list_any-append (nat_eq q.1) ss (s ∷ [])))))

  -- the permissions are read from what they are written as
  pub permits_back : (again : Members) → get_member (codes "permit") again ≡ Some (permits_data roles whole) →
      permits_of f roles (with_permits set.empty) again ≡ Ok whole
  unfolding permits_of table_at value_at table_in
  permits_back again there =
      let none = no_part whole.permits (λ q. false) (λ q. refl) in
      let all = whole_part whole.permits (λ q. is_done order q.1) (λ q h. among q.1 ∙ lt_yes q.1 total (within.each q.0 q.1 h).1) in
      rw (there, tabled (permit_entry roles whole) total, ← none)
      (list_back (next_permit f roles) (permit_entry roles whole) state order step ∙ ap (λ some. Ok (with_permits some)) all)
