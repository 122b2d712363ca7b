-- The users of a group's steps, and how many they are.
use Rattle.std.proofs.Common.{◌≡◌, refl, sym, ap, ◌∙◌, ℕ, zero, suc, ◌+◌, ◌<◌, ◌≤◌, Bool, true, false, ◌||◌, nat_eq, cond, List, [], ◌∷◌, length, Some}
use Rattle.std.proofs.Common.{inl, inr, arith}
use Rattle.std.proofs.lemmas.Bool.{false≢true}
use Rattle.basics.proofs.Booleans.{bool_cases, differ, eq_above, eq_back, eq_is, eq_same, or_cases, or_left, or_right}
use Rattle.wf_names.specs.UserSets.{count_below}
use Rattle.constraint_forms.specs.Assign.{is_member}
use Rattle.constraint_forms.specs.Rules.{count_members, different, is_among, users_from}

-- a member's user is among them
pub among_from : (k : ℕ) (group : List Bool) (f : ℕ → ℕ) (x y u : ℕ) → is_member group x ≡ true → y ≡ k + x → f y ≡ u →
    is_among (users_from k group (λ s. Some (f s))) u ≡ true
among_from k [] f x y u one same is = absurd (false≢true one)
among_from k (true ∷ bs) f zero y u one same is = grind (arith, or_left, eq_is)
among_from k (false ∷ bs) f zero y u one same is = absurd (false≢true one)
among_from k (true ∷ bs) f (suc x) y u one same is = grind (arith, or_right, (among_from (k + 1) bs f x y u one (omega (arith, same)) is))
among_from k (false ∷ bs) f (suc x) y u one same is = among_from (k + 1) bs f x y u one (omega (arith, same)) is

-- a member that has a user
pub record HasMember (k : ℕ) (group : List Bool) (f : ℕ → ℕ) (u : ℕ) : Type 0 where
  pub at : ℕ
  pub place : ℕ
  pub same : place ≡ k + at
  pub below : at < length group
  pub member : is_member group at ≡ true
  pub user : f place ≡ u

member_behind : (k : ℕ) (b : Bool) (bs : List Bool) (f : ℕ → ℕ) (u : ℕ) → HasMember (k + 1) bs f u → HasMember k (b ∷ bs) f u
member_behind k b bs f u h = record {
  at = suc h.at;
  place = h.place;
  same = let same = h.same in omega (arith, same);
  below = let below = h.below in omega (arith, below);
  member = h.member;
  user = h.user;
}

pub member_among : (k : ℕ) (group : List Bool) (f : ℕ → ℕ) (u : ℕ) → is_among (users_from k group (λ s. Some (f s))) u ≡ true → HasMember k group f u
member_among k [] f u one = absurd (false≢true one)
member_among k (true ∷ bs) f u one = elim (or_cases (nat_eq (f k) u) (is_among (users_from (k + 1) bs (λ s. Some (f s))) u) one) [
  | inl here ↦ record { at = 0; place = k; same = omega arith; below = omega arith; member = refl; user = eq_back (f k) u here }
  | inr later ↦ member_behind k true bs f u (member_among (k + 1) bs f u later)
]
member_among k (false ∷ bs) f u one = member_behind k false bs f u (member_among (k + 1) bs f u one)

-- where a group has members there is one
pub record IsMember (group : List Bool) : Type 0 where
  pub at : ℕ
  pub member : is_member group at ≡ true

pub some_counted : (group : List Bool) → 0 < count_members group → IsMember group
some_counted [] some = absurd (omega (arith, some))
some_counted (true ∷ bs) some = record { at = 0; member = refl }
some_counted (false ∷ bs) some =
    let rest = some_counted bs (omega (arith, some)) in
    record { at = suc rest.at; member = rest.member }

-- ---- how many

none_below : (n : ℕ) → count_below n (λ w. false) ≡ 0
unfolding count_below
none_below zero = refl
none_below (suc n) = let rest = none_below n in omega (arith, rest)

-- one more user, who may be among the others
more_above : (test : ℕ → Bool) (u n : ℕ) → n ≤ u → count_below n (λ w. nat_eq u w || test w) ≡ count_below n test
unfolding count_below
more_above test u zero low = refl
more_above test u (suc n) low = grind (arith, eq_above, (more_above test u n (omega (arith, low))))

more_below : (test : ℕ → Bool) (u n : ℕ) → u < n → count_below n (λ w. nat_eq u w || test w) ≡ cond (test u) 0 1 + count_below n test
unfolding count_below
more_below test u zero low = absurd (omega (arith, low))
more_below test u (suc n) low = grind (arith, bool_cases, eq_back, more_above, differ, eq_is, (more_below test u n))

-- users below a number
abbrev pub AreBelow : ℕ → List ℕ → Type 0
AreBelow n us = (u : ℕ) → is_among us u ≡ true → u < n

-- so many are different as there are numbers among them
pub different_counted : (n : ℕ) (us : List ℕ) → AreBelow n us → different us ≡ count_below n (is_among us)
different_counted n [] below = sym (none_below n)
different_counted n (u ∷ us) below =
    ap (λ k. cond (is_among us u) 0 1 + k) (different_counted n us (λ v one. below v (or_right (nat_eq u v) (is_among us v) one)))
    ∙ sym (more_below (is_among us) u n (below u (or_left (nat_eq u u) (is_among us u) (eq_same u))))
