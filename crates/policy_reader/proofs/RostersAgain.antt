-- The users and their roles, and lists of names, are read from what they are written as.
use Rattle.std.proofs.Common.{◌≡◌, ℕ, suc, ◌<◌, false, nat_lt, List, [], length, map, take, refl, ap, ◌∙◌, arith, ◌≤◌, Bool, nat_eq, ◌∷◌, ◌++◌, get_or, sym}
use Rattle.std.proofs.Common.{codes, Some, Ok, is_some, position, slice_get}
use Rattle.std.specs.FinSet as set
use Rattle.policy_reader.proofs.Prints.{length-map, length-take-le, take_all, lt_yes, lt_no, Members, get_member, string, AreNames, place_of, USER_LIMIT}
use Rattle.policy_reader.proofs.Prints.{ROLE_LIMIT, STEP_LIMIT, Pairs, RosterShape, has_role, IsSoundRoster, each, Users, Roles, Flows, Ascend, chosen}
use Rattle.policy_reader.proofs.Prints.{user_entry, users_data, names_array, pointwise, none_cons, PolicyPart}
use Rattle.policy_reader.specs.Laws.Grammars.{today}
use Rattle.policy_reader.specs.Parts.{value_at, array_in, table_in, array_at, table_at, count_in, items_at, entries_at, text_in, name_in, text_name_in}
use Rattle.policy_reader.specs.Parts.{named_in, once, next_name}
use Rattle.policy_reader.specs.Rosters.{roster_of, next_user, next_held, roles_of, next_role}
use Rattle.policy_reader.proofs.Readings.{count_back, upto, upto_length, take_next, items_back, text_at, form_at, number_back, at_least-ok, at_most-ok}
use Rattle.policy_reader.proofs.Readings.{list_back, got_middle}
use Rattle.policy_reader.proofs.Sets.{by_first, lines, line_back, next_line, whole_part, no_part}
use Rattle.policy_reader.proofs.Tabled.{tabled_in_order}
use Rattle.std.proofs.lemmas.List.Quantifiers.{position-Some}
use Rattle.policy_reader.specs.Flows.{steps_named}

module _ (whole : RosterShape) (sound : IsSoundRoster whole) (roles : AreNames whole.roles) (users : AreNames whole.users) where
  abbrev held : ℕ → List ℕ
  held u = chosen (length whole.roles) (has_role whole u)

  -- the roster of the first so many users, with a part of its members
  abbrev with_members : ℕ → Pairs → RosterShape
  with_members u members = record { users = take u whole.users; roles = whole.roles; members = members }

  abbrev state : ℕ → RosterShape
  state u = with_members u (lines by_first whole.members (λ m. nat_lt m u))

  held_again : (u r : ℕ) (some : Pairs) → r < length whole.roles → set.contains some (u, r) ≡ false
      → next_held u (with_members (suc u) some) (text_at whole.roles r) ≡ Ok (with_members (suc u) (set.insert some (u, r)))
  unfolding next_held named_in once text_in
  held_again u r some lt fresh = rw (number_back Users u whole.roles r roles lt, fresh) refl

  user_again : (u : ℕ) → u < length whole.users → next_user (state u) (user_entry whole u) ≡ Ok (state (suc u))
  unfolding next_user name_in array_in
  user_again u lt =
      rw (
        length-take-le u whole.users (omega (arith, lt)),
        form_at whole.users u users lt,
        items_back (map (text_at whole.roles) (held u)),
        take_next whole.users u [] lt,
      )
      (line_back by_first whole.members (λ m. nat_lt m u) u (lt_no u u (omega arith)) (length whole.roles) (λ q h. (sound.members.each q.0 q.1 h).1)
      (next_held u) (text_at whole.roles) (with_members (suc u)) (held_again u)
      ∙ ap (λ some. Ok (with_members (suc u) some)) (next_line whole.members u))

  abbrev total : ℕ
  total = length whole.users

  -- the roster is read from what its users are written as
  pub roster_back : (again : Members) → Ascend whole.users → 0 < total → get_member (codes "users") again ≡ Some (users_data whole) →
      roster_of today whole.roles again ≡ Ok whole
  unfolding roster_of entries_at table_at count_in value_at table_in
  roster_back again ascend some there =
      let tabled = tabled_in_order (user_entry whole) whole.users total ascend (λ n. refl) (omega arith) in
      let none = no_part whole.members (λ q. nat_lt q.0 0) (λ q. lt_no q.0 0 (omega arith)) in
      let all = whole_part whole.members (λ q. nat_lt q.0 total) (λ q h. lt_yes q.0 total (sound.members.each q.0 q.1 h).0) in
      rw (
        there,
        tabled,
        length-map (upto total) (user_entry whole),
        upto_length total,
        at_least-ok Users 0 total some,
        at_most-ok Users 0 total USER_LIMIT sound.users,
        ← none,
      )
      (ap (each next_user (state 0)) tabled ∙ count_back next_user (user_entry whole) state total user_again ∙
      (λ i. Ok (record { users = take_all total whole.users (omega arith) i; roles = whole.roles; members = all i })))

-- ---- lists of names

none_passes : (p : List ℕ → Bool) (before rest : List (List ℕ)) → ((k : ℕ) → k < length before → p (get_or (before ++ rest) k []) ≡ false) →
    is_some (position p before) ≡ false
none_passes p [] rest h = refl
none_passes p (x ∷ before) rest h = none_cons p x before (h 0 (omega arith)) (none_passes p before rest (λ k lt. h (suc k) (omega (arith, lt))))

-- a name that stands first after some names is none of them
not_before : (p : List ℕ → Bool) (before : List (List ℕ)) (x : List ℕ) (after : List (List ℕ)) → position p (before ++ x ∷ after) ≡ Some (length before) →
    is_some (position p before) ≡ false
not_before p before x after e = none_passes p before (x ∷ after) (position-Some p (before ++ x ∷ after) (length before) [] e).2

-- the next of some names
name_again : (names : List (List ℕ)) → AreNames names → (t : PolicyPart) (f : ℕ) (before : List (List ℕ)) (x : List ℕ) (after : List (List ℕ)) →
    names ≡ before ++ x ∷ after
    → next_name t f before (string x) ≡ Ok (before ++ x ∷ [])
unfolding next_name text_name_in text_in name_in once
name_again names h t f before x after e =
    let here = ap (λ ns. slice_get ns (length before)) e ∙ got_middle before x after in
    rw (h.form (length before) x here, not_before (pointwise nat_eq x) before x after (ap (λ ns. place_of ns x) (sym e) ∙ h.alone (length before) x here)) refl

-- the roles are read from what they are written as
pub roles_back : (again : Members) (roles : List (List ℕ)) → AreNames roles → 0 < length roles → length roles ≤ ROLE_LIMIT →
    get_member (codes "roles") again ≡ Some (names_array roles) → roles_of again ≡ Ok roles
unfolding roles_of items_at array_at count_in value_at array_in next_role
roles_back again roles named some few there =
    rw (
      there,
      items_back (map string roles),
      length-map roles string,
      at_least-ok Roles 0 (length roles) some,
      at_most-ok Roles 0 (length roles) ROLE_LIMIT few,
      items_back (map string roles),
    )
    (list_back next_role string (λ ns. ns) roles (λ before x after e. name_again roles named Roles (length before) before x after e))

-- the steps of a workflow are read from what they are written as
pub steps_back : (f : ℕ) (again : Members) (steps : List (List ℕ)) → AreNames steps → 0 < length steps → length steps ≤ STEP_LIMIT →
    get_member (codes "steps") again ≡ Some (names_array steps) → steps_named today f again ≡ Ok steps
unfolding steps_named items_at array_at count_in value_at array_in
steps_back f again steps named some few there =
    rw (
      there,
      items_back (map string steps),
      length-map steps string,
      at_least-ok Flows f (length steps) some,
      at_most-ok Flows f (length steps) STEP_LIMIT few,
      items_back (map string steps),
    )
    (list_back (next_name Flows f) string (λ ns. ns) steps (name_again steps named Flows f))
