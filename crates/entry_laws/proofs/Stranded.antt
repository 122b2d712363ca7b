-- The first case that an edit strands is there, and its tree stands for something and nests little.
use Rattle.entry_laws.proofs.Common.{◌≡◌, ℕ, ◌<◌, ◌≤◌, true, List, [], ◌∷◌, length, Some, refl, sym, ap, subst, ◌∙◌, arith, CASE_NUMBER_LIMIT, STEP_LIMIT, Tree}
use Rattle.entry_laws.proofs.Common.{shape_of, PolicyShape, IsSoundPolicy, problem_of, refutes, CaseShape, assigned_of, finished_of, Amendment, amended}
use Rattle.entry_laws.proofs.Common.{changes_keep_names, Numbered, State, numbered_case, open_cases, IsFirstStranded, IsAllowed, IsSoundState, KeepsCompletable}
use Rattle.entry_laws.proofs.Common.{HasFewSteps, flows_of, IsTree}
use Rattle.std.specs.Option.{option_map}
use Rattle.admin_edits.specs.declared.amendment.Amendment.TheVariants as amend
use Rattle.admin_edits.specs.Amendment as edits
use Rattle.admin_edits.proofs.Keeping.{changes_keep_policies_sound}
use Rattle.admin_edits.proofs.Unhurt.{unhurt_plans_stay_valid}
use Rattle.wf_board.specs.Edition.{CanAllBeCompleted}
use Rattle.wf_board.proofs.Exact.{stranded_not}
use Rattle.entry_laws.proofs.Trees.{FitsTree, IsProblemOf, tree_fits, tree_stands}
use Rattle.entry_laws.proofs.Parts.{assigned_long, case_few, problem_fits}
use Rattle.entry_laws.proofs.Numbers.{AreSerial, EachOf, IsOpenIn, open_found}

-- the case that is stranded: it stands at the number, and the tree refutes it
record IsStranded (pol : PolicyShape) (all : List Numbered) (n f : ℕ) (tree : Tree) : Type 0 where
  case : CaseShape
  found : numbered_case all n ≡ Some case
  below : n < length all
  flow : case.flow ≡ f
  refuted : refutes (problem_of pol case.flow) (assigned_of case) (finished_of case) (shape_of tree) ≡ true

find_stranded : (pol : PolicyShape) (all es : List Numbered) (n f : ℕ) (tree : Tree) → EachOf (IsOpenIn all) es → IsFirstStranded pol es n f tree →
    IsStranded pol all n f tree
find_stranded pol all [] n f tree each is = absurd is
find_stranded pol all (e ∷ es) n f tree each h7 = grind (arith, (find_stranded pol all es))

-- ---- a user who is added strands no case

still_complete : (s : State) (name : List ℕ) (es : List Numbered) → KeepsCompletable s → EachOf (IsOpenIn s.book.cases) es →
    CanAllBeCompleted (amended s.book.policy (amend.AddUser name)) es
still_complete s name [] kept each = tt
still_complete s name (e ∷ es) kept each =
    let plan = kept e.number e.case each.0.found each.0.live in (
      (plan.0, unhurt_plans_stay_valid s.book.policy (amend.AddUser name) e.case.flow _ _ plan.0 tt refl plan.1),
      still_complete s name es kept each.1,
    )

-- ---- any other edit leaves the users

users_stay : (s : State) (a : Amendment) (n f : ℕ) (tree : Tree) → KeepsCompletable s → AreSerial s.book → IsSoundPolicy (amended s.book.policy a)
    → IsFirstStranded (amended s.book.policy a) (open_cases s.book.cases) n f tree → (amended s.book.policy a).roster.users ≡ s.book.policy.roster.users
users_stay s a n f tree kept are sound is = grind (arith, stranded_not, still_complete, open_found)

-- ---- together

-- the case that an edit strands is one of the state's, and its tree is of the case's workflow
pub record FitsStranded (s : State) (n f : ℕ) (tree : Tree) : Type 0 where
  pub number : n ≤ CASE_NUMBER_LIMIT
  pub concerned : flows_of s n ≡ Some f
  pub flow : f < length s.book.policy.flow_names
  pub fits : FitsTree s.book.policy f (shape_of tree)

amended_problem : (p : PolicyShape) (a : Amendment) (f : ℕ) → edits.IsKnownChange p a → IsSoundPolicy (amended p a) → f < length p.flows →
    (amended p a).roster.users ≡ p.roster.users
    → IsProblemOf p f (problem_of (amended p a) f)
amended_problem p a f found sound known same = grind (arith, changes_keep_names, problem_fits)

-- the tree of the case that an edit strands stands for something
pub stranded_tree : (s : State) (a : Amendment) (n f : ℕ) (tree : Tree) → IsSoundState s → KeepsCompletable s → AreSerial s.book →
    IsAllowed s.book.policy a → IsFirstStranded (amended s.book.policy a) (open_cases s.book.cases) n f tree → IsTree s.book.policy f (shape_of tree)
stranded_tree s a n f tree sound kept are allowed is =
    let p = s.book.policy in
    let after = changes_keep_policies_sound p a sound.policy allowed.found allowed.allowed in
    let it = find_stranded (amended p a) s.book.cases (open_cases s.book.cases) n f tree (open_found s.book are) is in
    let pr = amended_problem p a it.case.flow allowed.found after (sound.cases n it.case it.found).flow (users_stay s a n f tree kept are after is) in
    subst (λ g. IsTree p g (shape_of tree)) it.flow
    (tree_stands p it.case.flow (problem_of (amended p a) it.case.flow) (assigned_of it.case) (finished_of it.case) (shape_of tree) pr it.refuted)

pub stranded_fits : (s : State) (a : Amendment) (n f : ℕ) (tree : Tree) → IsSoundState s → KeepsCompletable s → HasFewSteps s.book.policy →
    AreSerial s.book → IsAllowed s.book.policy a
    → IsFirstStranded (amended s.book.policy a) (open_cases s.book.cases) n f tree → FitsStranded s n f tree
stranded_fits s a n f tree sound kept few are allowed is =
    let p = s.book.policy in
    let after = changes_keep_policies_sound p a sound.policy allowed.found allowed.allowed in
    let it = find_stranded (amended p a) s.book.cases (open_cases s.book.cases) n f tree (open_found s.book are) is in
    let of = sound.cases n it.case it.found in
    let pr = amended_problem p a it.case.flow allowed.found after of.flow (users_stay s a n f tree kept are after is) in
    let below = it.below in
    let ever = are.ever in
    let within = are.within in
    let few_steps : (problem_of (amended p a) it.case.flow).steps ≤ STEP_LIMIT = subst (λ n. n ≤ STEP_LIMIT) (sym pr.steps) (few it.case.flow of.flow) in
    record {
      number = omega (arith, below, ever, within);
      concerned = ap (option_map (λ (x : CaseShape). x.flow)) it.found ∙ ap Some it.flow;
      flow = subst (λ g. g < length p.flow_names) it.flow (subst (λ m. it.case.flow < m) (sym sound.policy.named) of.flow);
      fits = subst (λ g. FitsTree p g (shape_of tree)) it.flow
          (tree_fits p it.case.flow (problem_of (amended p a) it.case.flow) (assigned_of it.case) (finished_of it.case) (shape_of tree) pr few_steps
          (assigned_long it.case (case_few p it.case few of)) it.refuted);
    }
