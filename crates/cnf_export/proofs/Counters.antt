-- A sequential counter counts.
use Rattle.std.proofs.Common.{◌≡◌, sym, ap, ◌∙◌, ℕ, zero, suc, ◌+◌, ◌<◌, Bool, false, ◌&&◌, ◌||◌, nat_lt, cond, arith}
use Rattle.std.proofs.lemmas.Bool.Decides.{nat_tests}
use Rattle.wf_names.specs.UserSets.{count_below}

-- what the clauses of a counter say: z tells whether a user counts, and c u j that more than j of the
-- users up to u do
pub record IsCounter (z : ℕ → Bool) (c : ℕ → ℕ → Bool) (n high : ℕ) : Type 0 where
  pub first : 0 < n → 0 < high → c 0 0 ≡ z 0
  pub first_more : (j : ℕ) → 0 < n → suc j < high → c 0 (suc j) ≡ false
  pub next : (u : ℕ) → suc u < n → 0 < high → c (suc u) 0 ≡ (c u 0 || z (suc u))
  pub next_more : (u j : ℕ) → suc u < n → suc j < high → c (suc u) (suc j) ≡ (c u (suc j) || (z (suc u) && c u j))

one_first : (b : Bool) → b ≡ nat_lt 0 (0 + cond b 1 0)
one_first b = grind arith

none_first : (b : Bool) (j : ℕ) → false ≡ nat_lt (suc j) (0 + cond b 1 0)
none_first b j = grind (arith, nat_tests)

one_next : (b : Bool) (k : ℕ) → (nat_lt 0 k || b) ≡ nat_lt 0 (k + cond b 1 0)
one_next b k = grind (arith, nat_tests)

one_more : (b : Bool) (k j : ℕ) → (nat_lt (suc j) k || (b && nat_lt j k)) ≡ nat_lt (suc j) (k + cond b 1 0)
one_more b k j = grind (arith, nat_tests)

pub counted : (z : ℕ → Bool) (c : ℕ → ℕ → Bool) (n high : ℕ) → IsCounter z c n high → (u j : ℕ) → u < n → j < high → c u j ≡ nat_lt j (count_below (suc u) z)
unfolding count_below
counted z c n high is zero zero below less = is.first below less ∙ one_first (z 0)
counted z c n high is zero (suc j) below less = is.first_more j below less ∙ none_first (z 0) j
counted z c n high is (suc u) zero below less = grind (arith, one_next, (counted z c n high is u zero (omega (arith, below)) less))
counted z c n high is (suc u) (suc j) below less =
    is.next_more u j below less
    ∙ ap (λ b. b || (z (suc u) && c u j)) (counted z c n high is u (suc j) (omega (arith, below)) less)
    ∙ ap (λ b. nat_lt (suc j) (count_below (suc u) z) || (z (suc u) && b)) (counted z c n high is u j (omega (arith, below)) (omega (arith, less)))
    ∙ one_more (z (suc u)) (count_below (suc u) z) j

-- counts are a counter
pub counter_of : (z : ℕ → Bool) (n high : ℕ) → IsCounter z (λ u j. nat_lt j (count_below (suc u) z)) n high
unfolding count_below
counter_of z n high = grind arith

-- .. and so is what agrees with them
pub same_counter : (t z : ℕ → Bool) (c : ℕ → ℕ → Bool) (n high : ℕ) → ((u : ℕ) → u < n → z u ≡ t u) →
    ((u j : ℕ) → u < n → j < high → c u j ≡ nat_lt j (count_below (suc u) t)) → IsCounter z c n high
same_counter t z c n high taken counted =
    let is = counter_of t n high in
    record {
      first = λ some more. counted 0 0 some more ∙ is.first some more ∙ sym (taken 0 some);
      first_more = λ j some more. counted 0 (suc j) some more ∙ is.first_more j some more;
      next = grind arith;
      next_more = grind arith;
    }
