-- Flags in rows, and what the model that says a plan says.
use Rattle.std.proofs.Common.{◌≡◌, refl, sym, ap, subst, ◌∙◌, ℕ, zero, suc, ◌+◌, ◌*◌, ◌-◌, ◌<◌, Bool, true, false, ◌==◌, nat_eq, nat_le, nat_lt, List, []}
use Rattle.std.proofs.Common.{◌∷◌, ◌++◌, map, length, slice_index_or, Option, ◌⊎◌, inl, inr, arith, append_assoc, suc-mul, cond}
use Rattle.std.specs.List.{flat_map}
use Rattle.basics.proofs.Booleans.{bool_cases, differ, eq_back, eq_is}
use Rattle.wf_names.specs.UserSets.{count_below}
use Rattle.constraint_forms.specs.declared.rule.Rule.{Rule}
use Rattle.constraint_forms.specs.declared.rule.Rule.TheVariants as rule
use Rattle.constraint_forms.specs.Assign.{planned}
use Rattle.policy_book.specs.Laws.Plans.{Problem}
use Rattle.cnf_export.specs.Laws.Encodings.{Encoding, blocks, counts, encoding_of, has, has_by, height, numbers, step_blocks, takes}
use Rattle.cnf_export.proofs.Listing.{numbers_at}
use Rattle.cnf_export.specs.Models.{SaysCount, SaysPlan, SaysRule, SaysRules, has_some, last_below, plan_said}
use Rattle.cnf_export.specs.Saying.{count_flags, grid, has_variable, plan_flags, rule_flags, rules_flags}

-- ---- places

length-append : (xs ys : List Bool) → length (xs ++ ys) ≡ length xs + length ys
length-append [] ys = omega arith
length-append (x ∷ xs) ys = let rest = length-append xs ys in omega (arith, rest)

behind : (xs ys : List Bool) (i v : ℕ) → i ≡ length xs + v → slice_index_or (xs ++ ys) i false ≡ slice_index_or ys v false
behind [] ys i v same = let is : i ≡ v = omega (arith, same) in ap (λ k. slice_index_or ys k false) is
behind (x ∷ xs) ys i v same = grind (arith, (behind xs))

length-row : (f : ℕ → Bool) (k n : ℕ) → length (map f (numbers k n)) ≡ n
length-row f k zero = refl
length-row f k (suc n) = ap suc (length-row f (k + 1) n)

row_at : (f : ℕ → Bool) (k n j : ℕ) (rest : List Bool) → j < n → slice_index_or (map f (numbers k n) ++ rest) j false ≡ f (k + j)
row_at f k zero j rest below = absurd (omega (arith, below))
row_at f k (suc n) zero rest below = let same : k ≡ k + 0 = omega arith in ap f same
row_at f k (suc n) (suc j) rest below = let same : k + 1 + j ≡ k + suc j = omega arith in row_at f (k + 1) n j rest (omega (arith, below)) ∙ ap f same

rows_from : (ℕ → ℕ → Bool) → ℕ → ℕ → ℕ → List Bool
rows_from f k h w = flat_map (λ i. map (f i) (numbers 0 w)) (numbers k h)

length-rows : (f : ℕ → ℕ → Bool) (k h w : ℕ) → length (rows_from f k h w) ≡ h * w
unfolding rows_from
length-rows f k zero w = omega arith
length-rows f k (suc h) w = grind (arith, length-append, length-row, suc-mul, (length-rows f (k + 1) h w))

rows_at : (f : ℕ → ℕ → Bool) (k h w i j p : ℕ) (rest : List Bool) → i < h → j < w → p ≡ i * w + j →
    slice_index_or (rows_from f k h w ++ rest) p false ≡ f (k + i) j
unfolding rows_from
rows_at f k zero w i j p rest high low is = absurd (omega (arith, high))
rows_at f k (suc h) w zero j p rest high low is = grind (arith, append_assoc, row_at)
rows_at f k (suc h) w (suc i) j p rest high low is =
    grind (arith, suc-mul, length-row, append_assoc, behind, (rows_at f (k + 1) h w i j (i * w + j) rest (omega (arith, high)) low refl))

grid_at : (f : ℕ → ℕ → Bool) (h w i j p : ℕ) (rest : List Bool) → i < h → j < w → p ≡ i * w + j → slice_index_or (grid f h w ++ rest) p false ≡ f i j
unfolding rows_from
grid_at f h w i j p rest high low is = let same : 0 + i ≡ i = omega arith in rows_at f 0 h w i j p rest high low is ∙ ap (λ q. f q j) same

length-grid : (f : ℕ → ℕ → Bool) (h w : ℕ) → length (grid f h w) ≡ h * w
unfolding rows_from
length-grid f h w = length-rows f 0 h w

-- ---- rows that grow

pub next_mapped : {A : Type 0} (f : ℕ → A) (into after : List A) (k n : ℕ) → k < n → after ≡ into ++ f k ∷ [] →
    after ++ map f (numbers (k + 1) (n - (k + 1))) ≡ into ++ map f (numbers k (n - k))
next_mapped f into after k n below is = grind (arith, append_assoc, numbers_at)

pub one_longer : (xs : List ℕ) (x : ℕ) → length (xs ++ x ∷ []) ≡ length xs + 1
one_longer [] x = omega arith
one_longer (y ∷ ys) x = let rest = one_longer ys x in omega (arith, rest)

pub count_none : (test : ℕ → Bool) → count_below 0 test ≡ 0
unfolding count_below
count_none test = refl

pub count_next : (test : ℕ → Bool) (n : ℕ) → count_below (suc n) test ≡ count_below n test + cond (test n) 1 0
unfolding count_below
count_next test n = refl

-- ---- what the flags say

more_blocks : (n block more : ℕ) → (block + more) * n ≡ block * n + more * n
more_blocks n zero more = let same : 0 + more ≡ more = omega arith in ap (λ k. k * n) same ∙ omega arith
more_blocks n (suc block) more = grind (arith, suc-mul, (more_blocks n block more))

times_turned : (m n : ℕ) → m * n ≡ n * m
times_turned m n = grind arith

length-count : (n : ℕ) (plan : List ℕ) (high : ℕ) (group : List Bool) → length (count_flags n plan high group) ≡ (1 + high) * n
length-count n plan high group = grind (arith, length-append, length-row, length-grid, times_turned, more_blocks)

length-rule : (n : ℕ) (plan : List ℕ) (r : Rule) → length (rule_flags n plan r) ≡ blocks r * n
length-rule n plan r = grind (arith, length-count)

says_count : (e : Encoding) (plan : List ℕ) (before rest : List Bool) (block high : ℕ) (group : List Bool) → length before ≡ block * e.users →
    SaysCount e (has_variable (before ++ (count_flags e.users plan high group ++ rest))) plan block high group
says_count e plan before rest block high group len = record {
  taken = λ u below.
      behind before (count_flags e.users plan high group ++ rest) (takes e block u) u (omega (arith, len))
      ∙ ap (λ xs. slice_index_or xs u false) (append_assoc row more rest)
      ∙ row_at (has_some group plan) 0 e.users u (more ++ rest) below
      ∙ (let same : 0 + u ≡ u = omega arith in ap (has_some group plan) same);
  counted = λ u j below less.
      behind before (count_flags e.users plan high group ++ rest) (counts e block high u j) (e.users + (u * high + j)) (omega (arith, len))
      ∙ ap (λ xs. slice_index_or xs (e.users + (u * high + j)) false) (append_assoc row more rest)
      ∙ behind row (more ++ rest) (e.users + (u * high + j)) (u * high + j) (let one = length-row (has_some group plan) 0 e.users in omega (arith, one))
      ∙ grid_at (λ v i. nat_lt i (count_below (suc v) (has_some group plan))) e.users high u j (u * high + j) rest below less refl;
}
  where
    row : List Bool
    row = map (has_some group plan) (numbers 0 e.users)

    more : List Bool
    more = grid (λ v i. nat_lt i (count_below (suc v) (has_some group plan))) e.users high

says_rules : (e : Encoding) (plan : List ℕ) (before : List Bool) (block : ℕ) (rules : List Rule) → length before ≡ block * e.users →
    SaysRules e (has_variable (before ++ rules_flags e.users plan rules)) plan block rules
says_rules e plan before block [] len = tt
says_rules e plan before block (r ∷ rules) len = (
  at r,
  subst (λ flags. SaysRules e (has_variable flags) plan (block + blocks r) rules)
      (append_assoc before (rule_flags e.users plan r) (rules_flags e.users plan rules))
      (says_rules e plan (before ++ rule_flags e.users plan r) (block + blocks r) rules longer),
)
  where
    longer : length (before ++ rule_flags e.users plan r) ≡ (block + blocks r) * e.users
    longer =
        let sum = length-append before (rule_flags e.users plan r) in
        let one = length-rule e.users plan r in
        let more = more_blocks e.users block (blocks r) in
        omega (arith, len, sum, one, more)

    at : (q : Rule) → SaysRule e (has_variable (before ++ (rule_flags e.users plan q ++ rules_flags e.users plan rules))) plan block q
    at (rule.Pair rho s t) = tt
    at (rule.SomeOf rho group s) = tt
    at (rule.AllOf rho group s) = tt
    at (rule.SomeTo rho s group) = tt
    at (rule.AllTo rho s group) = tt
    at (rule.AtMost limit group) = says_count e plan before (rules_flags e.users plan rules) block (height true limit) group len
    at (rule.AtLeast limit group) = says_count e plan before (rules_flags e.users plan rules) block (height false limit) group len

-- the model made of a plan says it
pub says_plan : (p : Problem) (plan : List ℕ) (assigned : List (Option ℕ)) (finished : List Bool) →
    SaysPlan (encoding_of p assigned finished) p.rules (has_variable (plan_flags p plan)) plan
says_plan p plan assigned finished =
    let e = encoding_of p assigned finished in
    let users = grid (λ s u. planned plan s == u) p.steps p.users in
    let until = grid (λ s u. nat_le (planned plan s) u) p.steps p.users in
    let rest = rules_flags p.users plan p.rules in
    let first = length-grid (λ s u. planned plan s == u) p.steps p.users in
    let second = length-grid (λ s u. nat_le (planned plan s) u) p.steps p.users in
    let sum = length-append users until in
    let more = more_blocks p.users p.steps p.steps in
    record {
      has_it = λ s u high low. grid_at (λ t v. planned plan t == v) p.steps p.users s u (has e s u) (until ++ rest) high low refl;
      by_then = λ s u high low.
          behind users (until ++ rest) (has_by e s u) (s * p.users + u) (omega (arith, first))
          ∙ grid_at (λ t v. nat_le (planned plan t) v) p.steps p.users s u (s * p.users + u) rest high low refl;
      counted = subst (λ flags. SaysRules e (has_variable flags) plan (step_blocks p.steps) p.rules) (append_assoc users until rest)
          (says_rules e plan (users ++ until) (step_blocks p.steps) p.rules (omega (arith, first, second, sum, more)));
    }

-- ---- reading back

last_said : (n v : ℕ) (test : ℕ → Bool) → v < n → ((u : ℕ) → u < n → test u ≡ nat_eq v u) → last_below n test ≡ v
last_said zero v test below same = absurd (omega (arith, below))
last_said (suc n) v test below same = at (bool_cases (nat_eq v n)) (λ less. last_said n v test less (λ u low. same u (omega (arith, low))))
  where
    at : (nat_eq v n ≡ true) ⊎ (nat_eq v n ≡ false) → (v < n → last_below n test ≡ v) → cond (test n) n (last_below n test) ≡ v
    at (inl is) rest = ap (λ b. cond b n (last_below n test)) (same n (omega arith) ∙ is) ∙ sym (eq_back v n is)
    at (inr other) rest = ap (λ b. cond b n (last_below n test)) (same n (omega arith) ∙ other) ∙ rest (less (λ e. differ (nat_eq v n) (eq_is v n e) other))
      where
        less : (v ≡ n → ⊥) → v < n
        less ne = omega (arith, below, ne)

map_planned : (plan : List ℕ) (f : ℕ → ℕ) (k : ℕ) → ((s i : ℕ) → s < length plan → i ≡ k + s → f i ≡ planned plan s) → map f (numbers k (length plan)) ≡ plan
map_planned [] f k each = refl
map_planned (u ∷ plan) f k each =
    λ i. each 0 k (omega arith) (omega arith) i ∷ map_planned plan f (k + 1) (λ s j below same. each (suc s) j (omega (arith, below)) (omega (arith, same))) i

pub said_back : (p : Problem) (plan : List ℕ) (assigned : List (Option ℕ)) (finished : List Bool) → length plan ≡ p.steps →
    ((s : ℕ) → s < p.steps → planned plan s < p.users) →
    plan_said (encoding_of p assigned finished) (has_variable (plan_flags p plan)) ≡ plan
said_back p plan assigned finished whole known =
    let e = encoding_of p assigned finished in
    let says = says_plan p plan assigned finished in
    let f = λ (s : ℕ). last_below p.users (λ u. has_variable (plan_flags p plan) (has e s u)) in
    ap (λ n. map f (numbers 0 n)) (sym whole)
    ∙ map_planned plan f 0 (λ s i below same.
    let here : i ≡ s = omega (arith, same) in
    let high : s < p.steps = omega (arith, below, whole) in
    ap f here ∙ last_said p.users (planned plan s) (λ u. has_variable (plan_flags p plan) (has e s u)) (known s high) (λ u low. says.has_it s u high low))
