-- What the clauses of a rule that counts say in a model.
use Rattle.std.proofs.Common.{◌≡◌, subst, ◌∙◌, ℕ, suc, ◌+◌, ◌-◌, ◌*◌, ◌/◌, ◌%◌, ◌<◌, Bool, true, false, not, ◌&&◌, ◌||◌, ◌==◌, cond, List, []}
use Rattle.std.proofs.Common.{◌∷◌, map, length, arith}
use Rattle.std.specs.Prelude.{ℤ}
use Rattle.std.specs.List.{AllByRecursion as Every}
use Rattle.std.proofs.lemmas.Bool.{false≢true}
use Rattle.basics.proofs.Booleans.{eq_above}
use Rattle.constraint_forms.specs.Assign.{is_member}
use Rattle.cnf_export.specs.Laws.Clauses.{no_to, satisfies, yes_to}
use Rattle.cnf_export.specs.Laws.Encodings.{Encoding, clause, count_rows, counting_clause, counts, has, height, members, numbers, part_items, takes}
use Rattle.cnf_export.specs.Laws.Encodings.{taking_clause}
use Rattle.cnf_export.specs.declared.group.Group.TheVariants.{Taking, Counting, Ending}
use Rattle.cnf_export.proofs.Counters.{IsCounter}
use Rattle.cnf_export.proofs.Every.{every_flat, every_left, every_map, every_number, every_passing, every_right}
use Rattle.cnf_export.proofs.Satisfied.{OneOf, no_or, one_listed, one_no, one_yes}
use Rattle.cnf_export.proofs.Steps.{GroupHolds, Holds, less_one, part_holds}

-- ---- who has a step

pub taken_by : (e : Encoding) (m : ℕ → Bool) (block : ℕ) (group : List Bool) (u : ℕ) →
    Every (λ k. Holds m (clause e (Taking block group) u k)) (part_items e (Taking block group) u) →
    m (takes e block u) ≡ true → OneOf (is_member group) 0 (length group) (λ t. m (has e t u) ≡ true)
taken_by e m block group u h one =
    one_listed m (λ t. has e t u) (is_member group) 0 (length group)
    (no_or m (takes e block u) (map (λ t. yes_to (has e t u)) (members group))
    (every_right (λ k. Holds m (taking_clause e block group u k)) (map (λ t. suc t) (members group)) (0 ∷ []) h).0 one)

pub takes_where : (e : Encoding) (m : ℕ → Bool) (block : ℕ) (group : List Bool) (u : ℕ) →
    Every (λ k. Holds m (clause e (Taking block group) u k)) (part_items e (Taking block group) u) →
    (t : ℕ) → is_member group t ≡ true → t < length group → m (has e t u) ≡ true → m (takes e block u) ≡ true
takes_where e m block group u h t member below one =
    one_yes m (takes e block u) (no_or m (has e t u) (yes_to (takes e block u) ∷ [])
    (every_passing (λ x. Holds m (taking_clause e block group u (suc x))) (is_member group) 0 (length group)
    (every_map (λ k. Holds m (taking_clause e block group u k)) (λ x. suc x) (members group)
    (every_left (λ k. Holds m (taking_clause e block group u k)) (map (λ x. suc x) (members group)) (0 ∷ []) h))
    t (omega arith) (omega (arith, below)) member) one)

-- ---- how many do

quarter : (j row : ℕ) → row < 4 → (4 * j + row) / 4 ≡ j
quarter j row less = omega (arith, less)

rest_of : (j row : ℕ) → row < 4 → (4 * j + row) % 4 ≡ row
rest_of j row less = omega (arith, less)

pub item_clause : (e : Encoding) (block : ℕ) (most : Bool) (limit u j row : ℕ) → row < 4 →
    clause e (Counting block most limit) u (4 * j + row) ≡ counting_clause e block (height most limit) u j row
item_clause e block most limit u j row less = λ i. counting_clause e block (height most limit) u (quarter j row less i) (rest_of j row less i)

-- the clauses for a user and a number
row_holds : (e : Encoding) (m : ℕ → Bool) (block : ℕ) (most : Bool) (limit : ℕ) → GroupHolds e m (Counting block most limit) → (u j : ℕ) → u < e.users →
    j < height most limit →
    Every (λ row. Holds m (clause e (Counting block most limit) u (4 * j + row))) (count_rows u j)
row_holds e m block most limit h u j below less =
    let each = λ (k : ℕ). Holds m (clause e (Counting block most limit) u k) in
    every_map each (λ row. 4 * j + row) (count_rows u j)
    (every_number (λ i. Every each (map (λ row. 4 * i + row) (count_rows u i))) 0 (height most limit)
    (every_flat each (λ i. map (λ row. 4 * i + row) (count_rows u i)) (numbers 0 (height most limit)) (part_holds e m (Counting block most limit) h u below)) j
    (omega arith) (omega (arith, less)))

pub later : (n : ℕ) → (suc n == 0) ≡ false
later n = eq_above (suc n) 0 (omega arith)

pub first_more_rows : (j : ℕ) → count_rows 0 (suc j) ≡ 2 ∷ 3 ∷ []
first_more_rows j = λ i. cond (later j i) (1 ∷ 2 ∷ []) (2 ∷ 3 ∷ [])

pub next_rows : (u : ℕ) → count_rows (suc u) 0 ≡ 0 ∷ 1 ∷ 2 ∷ []
next_rows u = λ i. cond (later u i) (1 ∷ 2 ∷ []) (0 ∷ 1 ∷ 2 ∷ [])

pub more_rows : (u j : ℕ) → count_rows (suc u) (suc j) ≡ 0 ∷ 1 ∷ 2 ∷ 3 ∷ []
more_rows u j = λ i. cond (later u i) (cond (later j i) (1 ∷ 2 ∷ []) (2 ∷ 3 ∷ [])) (cond (later j i) (0 ∷ 1 ∷ 2 ∷ []) (0 ∷ 1 ∷ 2 ∷ 3 ∷ []))

-- the rows behind the first user and number, told without a number less
pub climbs : (e : Encoding) (block high u j : ℕ) →
    counting_clause e block high (suc u) j 0 ≡ no_to (counts e block high u j) ∷ yes_to (counts e block high (suc u) j) ∷ []
climbs e block high u j = λ i. no_to (counts e block high (less_one u i) j) ∷ yes_to (counts e block high (suc u) j) ∷ []

pub meets : (e : Encoding) (block high u j : ℕ) → counting_clause e block high (suc u) (suc j) 1 ≡ no_to (takes e block (suc u)) ∷ no_to
    (counts e block high u j) ∷ yes_to (counts e block high (suc u) (suc j)) ∷ []
meets e block high u j = grind arith

pub owes : (e : Encoding) (block high u j : ℕ) → counting_clause e block high (suc u) j 2 ≡ no_to (counts e block high (suc u) j) ∷ yes_to
    (counts e block high u j) ∷ yes_to (takes e block (suc u)) ∷ []
owes e block high u j = grind arith

pub follows : (e : Encoding) (block high u j : ℕ) → counting_clause e block high (suc u) (suc j) 3 ≡ no_to (counts e block high (suc u) (suc j)) ∷ yes_to
    (counts e block high u (suc j)) ∷ yes_to (counts e block high u j) ∷ []
follows e block high u j = grind arith

-- what such clauses say together, of values alone
as_first : (z c : Bool) → (not z || (c || false)) ≡ true → (not c || (z || false)) ≡ true → c ≡ z
as_first z c up down = grind (arith, false≢true)

as_next : (b z c : Bool) → (not b || (c || false)) ≡ true → (not z || (c || false)) ≡ true → (not c || (b || (z || false))) ≡ true → c ≡ (b || z)
as_next b z c on up down = grind (arith, false≢true)

as_more : (b z d c : Bool) → (not b || (c || false)) ≡ true → (not z || (not d || (c || false))) ≡ true → (not c || (b || (z || false))) ≡ true →
    (not c || (b || (d || false))) ≡ true → c ≡ (b || (z && d))
as_more b z d c on up one two = grind (arith, false≢true)

said : (m : ℕ → Bool) {c d : List ℤ} → c ≡ d → Holds m c → Holds m d
said m same h = subst (λ x. satisfies m x ≡ true) same h

pub is_counter : (e : Encoding) (m : ℕ → Bool) (block : ℕ) (most : Bool) (limit : ℕ) → GroupHolds e m (Counting block most limit) →
    IsCounter (λ w. m (takes e block w)) (λ v j. m (counts e block (height most limit) v j)) e.users (height most limit)
is_counter e m block most limit h =
    let high = height most limit in
    record {
      first = λ some more.
          let here = row_holds e m block most limit h 0 0 some more in
          as_first (m (takes e block 0)) (m (counts e block high 0 0)) (said m (item_clause e block most limit 0 0 1 (omega arith)) here.0)
          (said m (item_clause e block most limit 0 0 2 (omega arith)) here.1.0);
      first_more = λ j some more.
          let here = subst (Every (λ row. Holds m (clause e (Counting block most limit) 0 (4 * suc j + row)))) (first_more_rows j)
          (row_holds e m block most limit h 0 (suc j) some more) in
          one_no m (counts e block high 0 (suc j)) (said m (item_clause e block most limit 0 (suc j) 3 (omega arith)) here.1.0);
      next = λ u below more.
          let here = subst (Every (λ row. Holds m (clause e (Counting block most limit) (suc u) (4 * 0 + row)))) (next_rows u)
          (row_holds e m block most limit h (suc u) 0 below more) in
          as_next (m (counts e block high u 0)) (m (takes e block (suc u))) (m (counts e block high (suc u) 0))
          (said m (item_clause e block most limit (suc u) 0 0 (omega arith) ∙ climbs e block high u 0) here.0)
          (said m (item_clause e block most limit (suc u) 0 1 (omega arith)) here.1.0)
          (said m (item_clause e block most limit (suc u) 0 2 (omega arith) ∙ owes e block high u 0) here.1.1.0);
      next_more = λ u j below more.
          let here = subst (Every (λ row. Holds m (clause e (Counting block most limit) (suc u) (4 * suc j + row)))) (more_rows u j)
          (row_holds e m block most limit h (suc u) (suc j) below more) in
          as_more (m (counts e block high u (suc j))) (m (takes e block (suc u))) (m (counts e block high u j)) (m (counts e block high (suc u) (suc j)))
          (said m (item_clause e block most limit (suc u) (suc j) 0 (omega arith) ∙ climbs e block high u (suc j)) here.0)
          (said m (item_clause e block most limit (suc u) (suc j) 1 (omega arith) ∙ meets e block high u j) here.1.0)
          (said m (item_clause e block most limit (suc u) (suc j) 2 (omega arith) ∙ owes e block high u (suc j)) here.1.1.0)
          (said m (item_clause e block most limit (suc u) (suc j) 3 (omega arith) ∙ follows e block high u j) here.1.1.1.0);
    }

pub ended_most : (e : Encoding) (m : ℕ → Bool) (block limit u : ℕ) → suc u ≡ e.users → GroupHolds e m (Ending block true limit) →
    m (counts e block (limit + 1) u limit) ≡ false
ended_most e m block limit u last h = grind arith

pub ended_least : (e : Encoding) (m : ℕ → Bool) (block limit u : ℕ) → suc u ≡ e.users → GroupHolds e m (Ending block false limit) →
    m (counts e block limit u (limit - 1)) ≡ true
ended_least e m block limit u last h = grind arith
