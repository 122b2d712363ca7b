-- How many users a set's members have.
use Rattle.std.proofs.Common.{◌≡◌, ◌≢◌, ℕ, zero, suc, ◌+◌, ◌≤◌, Bool, true, false, cond, not, ◌||◌, ◌==◌, nat_eq, nat_lt, nat_le, List, [], ◌∷◌}
use Rattle.std.proofs.Common.{Option, Some, is_none, ◌⊎◌, inl, inr, refl, sym, ap, subst, ◌∙◌, arith, add-zero, zero-add}
use Rattle.std.specs.Bool.{IsTrue}
use Rattle.basics.proofs.Booleans.{bool_cases, eq_back, eq_same, lt_back, lt_yes, not_true, or_cases, or_left, or_right}
use Rattle.constraint_forms.specs.Assign.{is_member}
use Rattle.constraint_forms.specs.Rules.{different, free_from, is_among, user_onto, users_from}

-- ---- lists of users

abbrev AreAmong : List ℕ → List ℕ → Type 0
AreAmong us vs = (w : ℕ) → IsTrue (is_among us w) → IsTrue (is_among vs w)

-- the others than one
without : ℕ → List ℕ → List ℕ
without u [] = []
without u (v ∷ vs) = cond (v == u) (without u vs) (v ∷ without u vs)

left_among : (u : ℕ) (vs : List ℕ) (w : ℕ) → w ≢ u → IsTrue (is_among vs w) → IsTrue (is_among (without u vs) w)
unfolding without
left_among u [] w ne h = h
left_among u (v ∷ vs) w ne h = grind (arith, bool_cases, or_cases, eq_back, or_left, or_right, (left_among u vs w ne))

still_among : (u : ℕ) (vs : List ℕ) (v : ℕ) → v ≢ u → is_among (without u vs) v ≡ is_among vs v
unfolding without
still_among u [] v ne = refl
still_among u (w ∷ vs) v ne = grind (arith, bool_cases, not_true, eq_back, (still_among u vs v ne))

different-without : (u : ℕ) (vs : List ℕ) → different vs ≡ cond (is_among vs u) 1 0 + different (without u vs)
unfolding without
different-without u [] = refl
different-without u (v ∷ vs) = grind (arith, bool_cases, eq_back, still_among, eq_same, (different-without u vs))

-- of fewer users fewer are different
pub different-le : (us vs : List ℕ) → AreAmong us vs → different us ≤ different vs
different-le [] vs h = omega arith
different-le (u ∷ us) vs h =
    at (bool_cases (is_among us u)) (different-le us vs tail)
    (λ last. different-le us (without u vs) (λ w i. left_among u vs w (λ is. cc (sym last ∙ ap (is_among us) (sym is) ∙ i)) (tail w i)))
  where
    tail : AreAmong us vs
    tail w i = h w (or_right (nat_eq u w) (is_among us w) i)

    at : (is_among us u ≡ true) ⊎ (is_among us u ≡ false) → different us ≤ different vs → (is_among us u ≡ false → different us ≤ different (without u vs)) →
        cond (is_among us u) 0 1 + different us ≤ different vs
    at (inl again) same less = rw again (omega (arith, same))
    at (inr last) same less =
        let n : different vs ≡ 1 + different (without u vs) = different-without u vs ∙
        ap (λ b. cond b 1 0 + different (without u vs)) (h u (or_left (nat_eq u u) (is_among us u) (eq_same u))) in
        rw last (omega (arith, less last, n))

-- ---- what an assignment's extension gives

abbrev KeepsUser : Option ℕ → Option ℕ → Type 0
KeepsUser o p = (x : ℕ) → o ≡ Some x → p ≡ Some x

onto-among : (o p : Option ℕ) (us vs : List ℕ) → KeepsUser o p → AreAmong us vs → AreAmong (user_onto o us) (user_onto p vs)
onto-among o p us vs h sub = grind (arith, or_right, or_cases, or_left)

pub users_from-more : (a b : ℕ → Option ℕ) → ((s u : ℕ) → a s ≡ Some u → b s ≡ Some u) → (k : ℕ) (bs : List Bool) →
    AreAmong (users_from k bs a) (users_from k bs b)
users_from-more a b h k [] = λ w i. i
users_from-more a b h k (true ∷ bs) = onto-among (a k) (b k) (users_from (k + 1) bs a) (users_from (k + 1) bs b) (h k) (users_from-more a b h (k + 1) bs)
users_from-more a b h k (false ∷ bs) = users_from-more a b h (k + 1) bs

step-le : (o p : Option ℕ) (us vs : List ℕ) (m n : ℕ) → KeepsUser o p → AreAmong us vs → different vs + n ≤ different us + m →
    different (user_onto p vs) + (cond (is_none p) 1 0 + n) ≤ different (user_onto o us) + (cond (is_none o) 1 0 + m)
step-le o p us vs m n h sub e = grind (arith, bool_cases)

-- an extension gives no more users than free members could get
pub reach-le : (a b : ℕ → Option ℕ) → ((s u : ℕ) → a s ≡ Some u → b s ≡ Some u) → (k : ℕ) (bs : List Bool) →
    different (users_from k bs b) + free_from k bs b ≤ different (users_from k bs a) + free_from k bs a
reach-le a b h k [] = omega arith
reach-le a b h k (true ∷ bs) = grind (arith, step-le, users_from-more, (reach-le a b h (k + 1) bs))
reach-le a b h k (false ∷ bs) = reach-le a b h (k + 1) bs

-- of a total assignment no member is free
pub free_from-total : (f : ℕ → ℕ) (k : ℕ) (bs : List Bool) → free_from k bs (λ s. Some (f s)) ≡ 0
free_from-total f k [] = refl
free_from-total f k (true ∷ bs) = let e = free_from-total f (k + 1) bs in omega (arith, e)
free_from-total f k (false ∷ bs) = free_from-total f (k + 1) bs

-- ---- what counting does not see

abbrev pub AgreeFrom : {X : Type 0} → ℕ → List Bool → (ℕ → X) → (ℕ → X) → Type 0
AgreeFrom k bs a b = (i : ℕ) → IsTrue (is_member bs i) → a (k + i) ≡ b (k + i)

agree-here : {X : Type 0} (k : ℕ) (bs : List Bool) (a b : ℕ → X) → AgreeFrom k (true ∷ bs) a b → a k ≡ b k
agree-here k bs a b h = subst (λ n. a n ≡ b n) (add-zero k) (h zero refl)

agree-after : {X : Type 0} (k : ℕ) (m : Bool) (bs : List Bool) (a b : ℕ → X) → AgreeFrom k (m ∷ bs) a b → AgreeFrom (k + 1) bs a b
agree-after k m bs a b h i t =
    let e : k + suc i ≡ (k + 1) + i = omega arith in
    subst (λ n. a n ≡ b n) e (h (suc i) t)

pub users_from-same : (a b : ℕ → Option ℕ) (k : ℕ) (bs : List Bool) → AgreeFrom k bs a b → users_from k bs a ≡ users_from k bs b
users_from-same a b k [] h = refl
users_from-same a b k (true ∷ bs) h = λ i. user_onto (agree-here k bs a b h i) (users_from-same a b (k + 1) bs (agree-after k true bs a b h) i)
users_from-same a b k (false ∷ bs) h = users_from-same a b (k + 1) bs (agree-after k false bs a b h)

pub free_from-same : (a b : ℕ → Option ℕ) (k : ℕ) (bs : List Bool) → AgreeFrom k bs a b → free_from k bs a ≡ free_from k bs b
free_from-same a b k [] h = refl
free_from-same a b k (true ∷ bs) h = λ i. cond (is_none (agree-here k bs a b h i)) 1 0 + free_from-same a b (k + 1) bs (agree-after k true bs a b h) i
free_from-same a b k (false ∷ bs) h = free_from-same a b (k + 1) bs (agree-after k false bs a b h)

pub from_zero : {X : Type 0} (bs : List Bool) (a b : ℕ → X) → ((i : ℕ) → IsTrue (is_member bs i) → a i ≡ b i) → AgreeFrom 0 bs a b
from_zero bs a b h i t = subst (λ n. a n ≡ b n) (sym (zero-add i)) (h i t)

-- users who are one where others are one
among-same : (f g : ℕ → ℕ) (n k : ℕ) (bs : List Bool) → ((i : ℕ) → IsTrue (is_member bs i) → (f (k + i) == f n) ≡ (g (k + i) == g n)) →
    is_among (users_from k bs (λ s. Some (f s))) (f n) ≡ is_among (users_from k bs (λ s. Some (g s))) (g n)
among-same f g n k [] h = refl
among-same f g n k (true ∷ bs) h =
    λ i. agree-here k bs (λ s. f s == f n) (λ s. g s == g n) h i || among-same f g n (k + 1) bs (agree-after k true bs (λ s. f s == f n) (λ s. g s == g n) h) i
among-same f g n k (false ∷ bs) h = among-same f g n (k + 1) bs (agree-after k false bs (λ s. f s == f n) (λ s. g s == g n) h)

abbrev JoinFrom : ℕ → List Bool → (ℕ → ℕ) → (ℕ → ℕ) → Type 0
JoinFrom k bs f g = (i j : ℕ) → IsTrue (is_member bs i) → IsTrue (is_member bs j) → (f (k + i) == f (k + j)) ≡ (g (k + i) == g (k + j))

join-after : (k : ℕ) (m : Bool) (bs : List Bool) (f g : ℕ → ℕ) → JoinFrom k (m ∷ bs) f g → JoinFrom (k + 1) bs f g
join-after k m bs f g h i j s t =
    let e : k + suc i ≡ (k + 1) + i = omega arith in
    let d : k + suc j ≡ (k + 1) + j = omega arith in
    subst (λ n. (f ((k + 1) + i) == f n) ≡ (g ((k + 1) + i) == g n)) d (subst (λ n. (f n == f (k + suc j)) ≡ (g n == g (k + suc j))) e (h (suc i) (suc j) s t))

different-same : (f g : ℕ → ℕ) (k : ℕ) (bs : List Bool) → JoinFrom k bs f g →
    different (users_from k bs (λ s. Some (f s))) ≡ different (users_from k bs (λ s. Some (g s)))
different-same f g k [] h = refl
different-same f g k (true ∷ bs) h =
    let first : (i : ℕ) → IsTrue (is_member bs i) → (f ((k + 1) + i) == f k) ≡ (g ((k + 1) + i) == g k) = λ i t.
    let e : k + suc i ≡ (k + 1) + i = omega arith in
    subst (λ n. (f n == f k) ≡ (g n == g k)) e (subst (λ n. (f (k + suc i) == f n) ≡ (g (k + suc i) == g n)) (add-zero k) (h (suc i) zero t refl)) in
    λ i. cond (among-same f g k (k + 1) bs first i) 0 1 + different-same f g (k + 1) bs (join-after k true bs f g h) i
different-same f g k (false ∷ bs) h = different-same f g (k + 1) bs (join-after k false bs f g h)

pub different-alike : (f g : ℕ → ℕ) (bs : List Bool) → ((i j : ℕ) → IsTrue (is_member bs i) → IsTrue (is_member bs j) → (f i == f j) ≡ (g i == g j)) →
    different (users_from 0 bs (λ s. Some (f s))) ≡ different (users_from 0 bs (λ s. Some (g s)))
different-alike f g bs h = grind (arith, different-same, zero-add)

-- ---- tests of counts

pub le_not : (d k : ℕ) → nat_le d k ≡ not (nat_lt k d)
le_not d k = grind (arith)

pub lt_more : (k d e : ℕ) → d ≤ e → IsTrue (nat_lt k d) → IsTrue (nat_lt k e)
lt_more k d e h i = lt_yes k e (omega (arith, h, lt_back k d i))

pub lt_less : (k d e : ℕ) → e ≤ d → IsTrue (nat_lt d k) → IsTrue (nat_lt e k)
lt_less k d e h i = lt_yes e k (omega (arith, h, lt_back d k i))
