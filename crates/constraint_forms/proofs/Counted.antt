-- A count of the members' users, member by member.
use Rattle.std.proofs.Common.{◌≡◌, ◌≢◌, ℕ, zero, suc, ◌+◌, ◌<◌, ◌≤◌, Bool, true, false, cond, not, ◌&&◌, ◌||◌, ◌==◌, nat_lt, List, [], ◌∷◌, length}
use Rattle.std.proofs.Common.{slice_set, get_or-set_same, get_or-set_other, Option, Some, None, is_none, ◌⊎◌, inl, inr, sym, ap, subst}
use Rattle.std.proofs.Common.{◌∙◌, arith, add-zero, zero-add}
use Rattle.basics.proofs.Booleans.{bool_cases, eq_back, eq_same, lt_yes, lt_no, not_true}
use Rattle.constraint_forms.specs.Assign.{is_member, user_at}
use Rattle.constraint_forms.specs.Rules.{different, free_from, is_among, user_onto, users_from}
use Rattle.constraint_forms.specs.Kept.{too_few_with, too_many_with}
use Rattle.constraint_forms.proofs.Counting.{AgreeFrom, from_zero, users_from-same, free_from-same}

-- ---- one member more with a user

pub record HasOneMore (us vs : List ℕ) (m n u : ℕ) : Type 0 where
  pub among : (w : ℕ) → is_among us w ≡ ((u == w) || is_among vs w)
  pub count : different us ≡ cond (is_among vs u) 0 1 + different vs
  pub free : n ≡ 1 + m

turn : (a b c : Bool) → (a || (b || c)) ≡ (b || (a || c))
turn a b c = grind arith

onto-more : (o : Option ℕ) (us vs : List ℕ) (m n u : ℕ) → HasOneMore us vs m n u →
    HasOneMore (user_onto o us) (user_onto o vs) (cond (is_none o) 1 0 + m) (cond (is_none o) 1 0 + n) u
onto-more o us vs m n u h = grind (arith, turn, bool_cases, eq_back, eq_same, not_true)

-- two assignments of which one gives a member to a user and the other to nobody, and which agree elsewhere
pub record AddsOne (k i u : ℕ) (f g : ℕ → Option ℕ) : Type 0 where
  pub given : f (k + i) ≡ Some u
  pub free : g (k + i) ≡ None
  pub others : (j : ℕ) → j ≢ i → f (k + j) ≡ g (k + j)

adds-after : (k i u : ℕ) (f g : ℕ → Option ℕ) → AddsOne k (suc i) u f g → AddsOne (k + 1) i u f g
adds-after k i u f g h =
    let e : k + suc i ≡ (k + 1) + i = omega arith in record {
      given = subst (λ n. f n ≡ Some u) e h.given;
      free = subst (λ n. g n ≡ None) e h.free;
      others = λ j ne.
          let d : k + suc j ≡ (k + 1) + j = omega arith in
          subst (λ n. f n ≡ g n) d (h.others (suc j) (λ is. ne (omega (arith, is))));
    }

one_more : (k i u : ℕ) (bs : List Bool) (f g : ℕ → Option ℕ) → AddsOne k i u f g → is_member bs i ≡ true →
    HasOneMore (users_from k bs f) (users_from k bs g) (free_from k bs f) (free_from k bs g) u
one_more k i u [] f g h is = absurd (cc)
one_more k zero u (false ∷ bs) f g h is = absurd (cc)
one_more k zero u (true ∷ bs) f g h is =
    let given : f k ≡ Some u = subst (λ n. f n ≡ Some u) (add-zero k) h.given in
    let free : g k ≡ None = subst (λ n. g n ≡ None) (add-zero k) h.free in
    let agree : AgreeFrom (k + 1) bs f g = λ j t.
    let d : k + suc j ≡ (k + 1) + j = omega arith in
    subst (λ n. f n ≡ g n) d (h.others (suc j) (λ e. absurd (omega (arith, e)))) in
    let same = users_from-same f g (k + 1) bs agree in
    let same_free = free_from-same f g (k + 1) bs agree in
    rw (given, free) (record {
      among = λ w. ap (λ us. (u == w) || is_among us w) same;
      count = ap (λ us. cond (is_among us u) 0 1 + different us) same;
      free = omega (arith, same_free);
    })
one_more k (suc i) u (true ∷ bs) f g h is =
    let here : f k ≡ g k = subst (λ n. f n ≡ g n) (add-zero k) (h.others zero (λ e. absurd (omega (arith, e)))) in
    rw here (onto-more (g k) _ _ _ _ u (one_more (k + 1) i u bs f g (adds-after k i u f g h) is))
one_more k (suc i) u (false ∷ bs) f g h is = one_more (k + 1) i u bs f g (adds-after k i u f g h) is

pub one_more_member : (i u : ℕ) (bs : List Bool) (f g : ℕ → Option ℕ) → f i ≡ Some u → g i ≡ None → ((j : ℕ) → j ≢ i → f j ≡ g j) → is_member bs i ≡ true →
    HasOneMore (users_from 0 bs f) (users_from 0 bs g) (free_from 0 bs f) (free_from 0 bs g) u
one_more_member i u bs f g given free others is = one_more 0 i u bs f g (record {
  given = ap f (zero-add i) ∙ given;
  free = ap g (zero-add i) ∙ free;
  others = λ j ne. ap f (zero-add j) ∙ others j ne ∙ sym (ap g (zero-add j));
}) is

-- ---- whom a limit leaves

-- what is counted once the step s of a group is given to u, by what is counted while it is given to nobody
module _ (group : List Bool) (a : List (Option ℕ)) (s u : ℕ) (within : s < length a) where
  abbrev given : ℕ → Option ℕ
  given = user_at (slice_set a s (Some u))

  abbrev others : ℕ → Option ℕ
  others = user_at (slice_set a s None)

  abbrev users : List ℕ
  users = users_from 0 group others

  member_given : is_member group s ≡ true → HasOneMore (users_from 0 group given) users (free_from 0 group given) (free_from 0 group others) u
  member_given is =
      one_more_member s u group given others (get_or-set_same a s (Some u) None within) (get_or-set_same a s None None within)
      (λ j ne. get_or-set_other a s j (Some u) None ne ∙ sym (get_or-set_other a s j None None ne)) is

  other_agrees : is_member group s ≡ false → AgreeFrom 0 group given others
  other_agrees is = from_zero group given others (λ j t.
      let ne : j ≢ s = λ e. cc (sym is ∙ ap (is_member group) (sym e) ∙ t) in
      get_or-set_other a s j (Some u) None ne ∙ sym (get_or-set_other a s j None None ne))

  many_member : (limit : ℕ) → is_member group s ≡ true → too_many_with limit group a s u ≡ nat_lt limit (cond (is_among users u) 0 1 + different users)
  many_member limit is = ap (nat_lt limit) (member_given is).count

  many_other : (limit : ℕ) → is_member group s ≡ false → too_many_with limit group a s u ≡ nat_lt limit (different users)
  many_other limit is = ap (λ us. nat_lt limit (different us)) (users_from-same given others 0 group (other_agrees is))

  pub most_out : (limit : ℕ) → limit < different users → too_many_with limit group a s u ≡ true
  most_out limit over = at (bool_cases (is_member group s)) (is_among users u)
    where
      more : (b : Bool) → limit < cond b 0 1 + different users
      more true = omega (arith, over)
      more false = omega (arith, over)

      at : (is_member group s ≡ true) ⊎ (is_member group s ≡ false) → Bool → too_many_with limit group a s u ≡ true
      at (inl is) b = many_member limit is ∙ lt_yes limit _ (more (is_among users u))
      at (inr is) b = many_other limit is ∙ lt_yes limit _ over

  pub most_meets : (limit : ℕ) → different users ≡ limit → is_member group s ≡ true → not (too_many_with limit group a s u) ≡ is_among users u
  most_meets limit full is = ap not (many_member limit is) ∙ at (is_among users u)
    where
      at : (b : Bool) → not (nat_lt limit (cond b 0 1 + different users)) ≡ b
      at true = ap not (lt_no limit (0 + different users) (omega (arith, full)))
      at false = ap not (lt_yes limit (1 + different users) (omega (arith, full)))

  pub most_full : (limit : ℕ) → different users ≡ limit → is_member group s ≡ false → too_many_with limit group a s u ≡ false
  most_full limit full is = many_other limit is ∙ lt_no limit (different users) (omega (arith, full))

  pub most_keeps : (limit : ℕ) → different users < limit → too_many_with limit group a s u ≡ false
  most_keeps limit under = at (bool_cases (is_member group s))
    where
      more : (b : Bool) → cond b 0 1 + different users ≤ limit
      more true = omega (arith, under)
      more false = omega (arith, under)

      at : (is_member group s ≡ true) ⊎ (is_member group s ≡ false) → too_many_with limit group a s u ≡ false
      at (inl is) = many_member limit is ∙ lt_no limit _ (more (is_among users u))
      at (inr is) = many_other limit is ∙ lt_no limit _ (omega (arith, under))

  -- how many users the members could have while the step is given to nobody
  abbrev reach : ℕ
  reach = different users + free_from 0 group others

  few_member : (limit : ℕ) → is_member group s ≡ true →
      too_few_with limit group a s u ≡ nat_lt ((cond (is_among users u) 0 1 + different users) + free_from 0 group given) limit
  few_member limit is = ap (λ n. nat_lt (n + free_from 0 group given) limit) (member_given is).count

  few_other : (limit : ℕ) → is_member group s ≡ false → too_few_with limit group a s u ≡ nat_lt reach limit
  few_other limit is =
      λ i. nat_lt (different (users_from-same given others 0 group (other_agrees is) i) + free_from-same given others 0 group (other_agrees is) i) limit

  pub least_out : (limit : ℕ) → reach < limit → too_few_with limit group a s u ≡ true
  least_out limit under = at (bool_cases (is_member group s))
    where
      more : (b : Bool) → free_from 0 group others ≡ 1 + free_from 0 group given → (cond b 0 1 + different users) + free_from 0 group given < limit
      more true e = omega (arith, under, e)
      more false e = omega (arith, under, e)

      at : (is_member group s ≡ true) ⊎ (is_member group s ≡ false) → too_few_with limit group a s u ≡ true
      at (inl is) = few_member limit is ∙ lt_yes _ limit (more (is_among users u) (member_given is).free)
      at (inr is) = few_other limit is ∙ lt_yes reach limit under

  pub least_strikes : (limit : ℕ) → reach ≡ limit → is_member group s ≡ true → too_few_with limit group a s u ≡ is_among users u
  least_strikes limit full is = few_member limit is ∙ at (is_among users u) (member_given is).free
    where
      at : (b : Bool) → free_from 0 group others ≡ 1 + free_from 0 group given → nat_lt ((cond b 0 1 + different users) + free_from 0 group given) limit ≡ b
      at true e = lt_yes _ limit (omega (arith, full, e))
      at false e = lt_no _ limit (omega (arith, full, e))

  pub least_full : (limit : ℕ) → reach ≡ limit → is_member group s ≡ false → too_few_with limit group a s u ≡ false
  least_full limit full is = few_other limit is ∙ lt_no reach limit (omega (arith, full))

  pub least_keeps : (limit : ℕ) → limit < reach → too_few_with limit group a s u ≡ false
  least_keeps limit over = at (bool_cases (is_member group s))
    where
      more : (b : Bool) → free_from 0 group others ≡ 1 + free_from 0 group given → limit ≤ (cond b 0 1 + different users) + free_from 0 group given
      more true e = omega (arith, over, e)
      more false e = omega (arith, over, e)

      at : (is_member group s ≡ true) ⊎ (is_member group s ≡ false) → too_few_with limit group a s u ≡ false
      at (inl is) = few_member limit is ∙ lt_no _ limit (more (is_among users u) (member_given is).free)
      at (inr is) = few_other limit is ∙ lt_no reach limit (omega (arith, over))

-- whom a test leaves of a set
pub nobody_left : (b t : Bool) → t ≡ true → false ≡ (b && not t)
nobody_left b t e = grind arith

pub all_left : (b t : Bool) → t ≡ false → b ≡ (b && not t)
all_left b t e = grind arith
