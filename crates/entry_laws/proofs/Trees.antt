-- A tree that refutes stands for something, and nests three levels for each step that nobody has and one more.
use Rattle.entry_laws.proofs.Common.{◌≡◌, ℕ, zero, suc, ◌+◌, ◌*◌, ◌<◌, ◌≤◌, ◌^◌, nat_lt, Bool, true, ◌&&◌, List, [], ◌∷◌, length, Option, None, Some, slice_get}
use Rattle.entry_laws.proofs.Common.{refl, sym, ap, subst, arith, length-set, depth, items_depth, items_of, and_both, lt_back, STEP_LIMIT, Rule, user_at, Shape}
use Rattle.entry_laws.proofs.Common.{Kids, holder, rule, no_kids, tree_kid, twin_kid, PolicyShape, flow_at, Problem, refutes, AllBelow, passing_all, tree_data}
use Rattle.entry_laws.proofs.Common.{AreKids, IsTree}
use Rattle.std.proofs.Common.{max, ◌==◌}
use Rattle.std.proofs.Common.{slice_set}
use Rattle.std.proofs.lemmas.Option.{slice_get_within}
use Rattle.basics.proofs.Booleans.{eq_back}
use Rattle.refutation_tree.specs.Tree.{node}
use Rattle.policy_book.specs.Laws.Twins.{are_twins, is_one_of}
use Rattle.policy_book.specs.Laws.Refuting.{all_refute, authorised_users, have_users, is_broken, is_unassigned}
use Rattle.certificate_check.proofs.Assigned.{not_some}
use Rattle.wf_board.proofs.Below.{one_below}
use Rattle.wire_json.specs.Trees.{branches_data}
use Rattle.entry_reader.specs.Laws.Within.{IsStepOf}

-- ---- steps that nobody has

-- how many there are
abbrev pub free_count : List (Option ℕ) → ℕ
free_count [] = 0
free_count (None ∷ a) = free_count a + 1
free_count (Some u ∷ a) = free_count a

free_given : (a : List (Option ℕ)) (s u : ℕ) → s < length a → user_at a s ≡ None → free_count a ≡ free_count (slice_set a s (Some u)) + 1
free_given [] s u below none = absurd (omega (arith, below))
free_given (None ∷ a) zero u below none = refl
free_given (Some v ∷ a) zero u below none = cc
free_given (None ∷ a) (suc s) u below none = ap (λ n. n + 1) (free_given a s u (omega (arith, below)) none)
free_given (Some v ∷ a) (suc s) u below none = free_given a s u (omega (arith, below)) none

free_within : (a : List (Option ℕ)) → free_count a ≤ length a
free_within [] = omega arith
free_within (None ∷ a) = omega (arith, free_within a)
free_within (Some u ∷ a) = omega (arith, free_within a)

-- ---- how deep a tree nests

-- a step of a node: it is below the number of steps, and nobody has it
record IsFree (pr : Problem) (a : List (Option ℕ)) (s : ℕ) : Type 0 where
  step : s < length a
  none : user_at a s ≡ None

node_free : (pr : Problem) (a : List (Option ℕ)) (s : ℕ) → pr.steps ≤ length a → is_unassigned pr a s ≡ true → IsFree pr a s
node_free pr a s wide is = grind (arith, and_both, lt_back, not_some)

leaf_nests : (n : ℕ) → 1 ≤ 3 * n + 1
leaf_nests n = omega arith

node_nests : (d n : ℕ) → d + 1 ≤ 3 * n → suc (max 0 (max (suc d) 0)) ≤ 3 * n + 1
node_nests d n below = omega (arith, below)

tree_branch_nests : (d rest n m : ℕ) → n ≡ m + 1 → d ≤ 3 * m + 1 → rest + 1 ≤ 3 * n → max (suc (max 0 (max d 0))) rest + 1 ≤ 3 * n
tree_branch_nests d rest n m more here later = omega (arith, more, here, later)

twin_branch_nests : (rest n m : ℕ) → n ≡ m + 1 → rest + 1 ≤ 3 * n → max 2 rest + 1 ≤ 3 * n
twin_branch_nests rest n m more later = omega (arith, more, later)

mutual
  pub tree_nests : (p : PolicyShape) (f : ℕ) (pr : Problem) (a : List (Option ℕ)) (finished : List Bool) (t : Shape) → pr.steps ≤ length a
      → refutes pr a finished t ≡ true → depth (tree_data p f t) ≤ 3 * free_count a + 1
  tree_nests p f pr a finished (holder s) wide is = leaf_nests (free_count a)
  tree_nests p f pr a finished (rule k) wide is = leaf_nests (free_count a)
  tree_nests p f pr a finished (node s kids) wide is =
      let parts = and_both (is_unassigned pr a s) _ is in
      let inner = and_both (have_users (authorised_users pr s) kids) _ parts.1 in
      node_nests (items_depth (items_of (branches_data p f kids))) (free_count a)
      (kids_nest p f pr a finished s [] kids wide (node_free pr a s wide parts.0) inner.1)

  kids_nest : (p : PolicyShape) (f : ℕ) (pr : Problem) (a : List (Option ℕ)) (finished : List Bool) (s : ℕ) (earlier : List ℕ) (kids : Kids) →
      pr.steps ≤ length a
      → IsFree pr a s → all_refute pr a finished s earlier kids ≡ true → items_depth (items_of (branches_data p f kids)) + 1 ≤ 3 * free_count a
  kids_nest p f pr a finished s earlier no_kids wide free all = let more = free_given a s 0 free.step free.none in omega (arith, more)
  kids_nest p f pr a finished s earlier (tree_kid u t kids) wide free all =
      let both = and_both (refutes pr (slice_set a s (Some u)) finished t) _ all in
      let given = slice_set a s (Some u) in
      let wider : pr.steps ≤ length given = subst (λ n. pr.steps ≤ n) (sym (length-set a s (Some u))) wide in
      tree_branch_nests (depth (tree_data p f t)) (items_depth (items_of (branches_data p f kids))) (free_count a) (free_count given)
      (free_given a s u free.step free.none) (tree_nests p f pr given finished t wider both.0)
      (kids_nest p f pr a finished s (u ∷ earlier) kids wide free both.1)
  kids_nest p f pr a finished s earlier (twin_kid u v kids) wide free all =
      let both = and_both (is_one_of earlier v && are_twins pr a u v) _ all in
      twin_branch_nests (items_depth (items_of (branches_data p f kids))) (free_count a) (free_count (slice_set a s (Some u)))
      (free_given a s u free.step free.none) (kids_nest p f pr a finished s earlier kids wide free both.1)

-- ---- what a tree names

-- a problem of a workflow: it has its steps, and the users of the policy, and its rules' numbers fit
pub record IsProblemOf (p : PolicyShape) (f : ℕ) (pr : Problem) : Type 0 where
  pub steps : pr.steps ≡ length (flow_at p f).flow.steps
  pub users : pr.users ≡ length p.roster.users
  pub rules : length pr.rules < 2 ^ 8

broken_there : (pr : Problem) (a : List (Option ℕ)) (k : ℕ) (o : Option Rule) → slice_get pr.rules k ≡ o → is_broken pr a o ≡ true → k < length pr.rules
broken_there pr a k o is broken = grind (arith, slice_get_within)

step_there : (p : PolicyShape) (f : ℕ) (pr : Problem) (s : ℕ) → IsProblemOf p f pr → s < pr.steps → IsStepOf p f s
step_there p f pr s of below = subst (λ n. s < n) of.steps below

mutual
  pub tree_stands : (p : PolicyShape) (f : ℕ) (pr : Problem) (a : List (Option ℕ)) (finished : List Bool) (t : Shape) → IsProblemOf p f pr
      → refutes pr a finished t ≡ true → IsTree p f t
  tree_stands p f pr a finished (holder s) of is =
      let both = and_both _ _ is in
      step_there p f pr s of (lt_back s pr.steps both.0)
  tree_stands p f pr a finished (rule k) of is =
      let below = broken_there pr a k (slice_get pr.rules k) refl is in
      let few = of.rules in
      omega (arith, below, few)
  tree_stands p f pr a finished (node s kids) of is =
      let parts = and_both (is_unassigned pr a s) _ is in
      let inner = and_both (have_users (authorised_users pr s) kids) _ parts.1 in
      let free = and_both (nat_lt s pr.steps) _ parts.0 in
      let users : AllBelow (length p.roster.users) (authorised_users pr s) =
      subst (λ n. AllBelow n (authorised_users pr s)) of.users (passing_all pr.users (pr.authorised s) 0 pr.users (omega arith)) in (
        step_there p f pr s of (lt_back s pr.steps free.0),
        kids_stand p f pr a finished s (authorised_users pr s) [] kids of users tt inner.0 inner.1,
      )

  kids_stand : (p : PolicyShape) (f : ℕ) (pr : Problem) (a : List (Option ℕ)) (finished : List Bool) (s : ℕ) (us earlier : List ℕ) (kids : Kids) →
      IsProblemOf p f pr
      → AllBelow (length p.roster.users) us → AllBelow (length p.roster.users) earlier → have_users us kids ≡ true →
      all_refute pr a finished s earlier kids ≡ true
      → AreKids p f kids
  kids_stand p f pr a finished s us earlier no_kids of users before have all = tt
  kids_stand p f pr a finished s [] earlier (tree_kid u t kids) of users before have all = cc
  kids_stand p f pr a finished s [] earlier (twin_kid u v kids) of users before have all = cc
  kids_stand p f pr a finished s (w ∷ us) earlier (tree_kid u t kids) of users before have all =
      let here = and_both (w == u) (have_users us kids) have in
      let both = and_both (refutes pr (slice_set a s (Some u)) finished t) _ all in
      let below : u < length p.roster.users = subst (λ n. n < length p.roster.users) (eq_back w u here.0) users.0 in (
        below,
        tree_stands p f pr (slice_set a s (Some u)) finished t of both.0,
        kids_stand p f pr a finished s us (u ∷ earlier) kids of users.1 (below, before) here.1 both.1,
      )
  kids_stand p f pr a finished s (w ∷ us) earlier (twin_kid u v kids) of users before have all =
      let here = and_both (w == u) (have_users us kids) have in
      let both = and_both (is_one_of earlier v && are_twins pr a u v) _ all in
      let twin = and_both (is_one_of earlier v) _ both.0 in
      let below : u < length p.roster.users = subst (λ n. n < length p.roster.users) (eq_back w u here.0) users.0 in
      (below, one_below (length p.roster.users) earlier v before twin.0, kids_stand p f pr a finished s us earlier kids of users.1 before here.1 both.1)

-- a tree stands for something, and nests little
pub record FitsTree (p : PolicyShape) (f : ℕ) (t : Shape) : Type 0 where
  pub stands : IsTree p f t
  pub nests : depth (tree_data p f t) ≤ 3 * STEP_LIMIT + 1

pub tree_fits : (p : PolicyShape) (f : ℕ) (pr : Problem) (a : List (Option ℕ)) (finished : List Bool) (t : Shape) → IsProblemOf p f pr → pr.steps ≤ STEP_LIMIT
    → length a ≡ STEP_LIMIT → refutes pr a finished t ≡ true → FitsTree p f t
tree_fits p f pr a finished t of few whole is =
    let nests = tree_nests p f pr a finished t (subst (λ n. pr.steps ≤ n) (sym whole) few) is in
    let free = free_within a in
    record { stands = tree_stands p f pr a finished t of is; nests = omega (arith, nests, free, whole) }
