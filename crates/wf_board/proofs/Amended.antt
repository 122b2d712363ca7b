-- What an edit of the policy keeps.
use Rattle.wf_board.proofs.Common.{◌≡◌, ℕ, ◌+◌, ◌<◌, ◌≤◌, inl, inr, Bool, true, false, List, [], ◌∷◌, length, map, Option, Some, is_some, Result, Ok}
use Rattle.wf_board.proofs.Common.{if◌then◌else◌, refl, sym, ap, subst, ◌∙◌, arith, nat_tests, bool_cases, eq_is, ◌>>=◌, Tree, PolicyShape, CaseShape}
use Rattle.wf_board.proofs.Common.{assigned_of, is_open, Row, CasesShape, case_in, is_open_row, replanned, AscendFrom, replanned_closed, replanned_none}
use Rattle.wf_board.proofs.Common.{replanned_open, Ask, Denial, Amendment, amended, IsKnownChange, changes_keep_names, Deed, Book, Numbered, numbered_case}
use Rattle.wf_board.proofs.Common.{open_cases, EditionShape, numbered, state_on, cause_full, decision_aside, decision_of, unless_denied, ArePlansOf}
use Rattle.wf_board.proofs.Common.{CanAllBeCompleted, CanBeCompleted, IsFirstStranded, IsTreeOf, EachRow, IsOfPolicy, IsPlanned, with_edited, board_of, IsKept}
use Rattle.wf_board.proofs.Common.{IsEditionFor, IsStrandingFor}
use Rattle.std.proofs.Common.{nat_eq}
use Rattle.grant_table.specs.Kept as table
use Rattle.admin_edits.proofs.Keeping.{within_after}
use Rattle.wf_board.specs.declared.deed.Deed.TheVariants as deed
use Rattle.wf_board.proofs.Rows.{case_numbered}

-- ---- cases of a state

pub same_case : (c d : CaseShape) → Some c ≡ Some d → c ≡ d
same_case c d h = cc

-- each open case can be completed where all of them can
pub open_can : (p : PolicyShape) (cases : List Numbered) → CanAllBeCompleted p (open_cases cases) → (n : ℕ) (c : CaseShape) →
    numbered_case cases n ≡ Some c → is_open c ≡ true → CanBeCompleted p c
open_can p [] all n c h live = cc
open_can p (x ∷ xs) all n c h live = grind (arith, (open_can p xs))

-- a case of the policy is one of the policy after a change
pub of_policy_amended : (p : PolicyShape) (a : Amendment) (c : CaseShape) → IsKnownChange p a → IsOfPolicy p c → IsOfPolicy (amended p a) c
of_policy_amended p a c found known =
    let names = changes_keep_names p a found in
    record {
      flow = subst (λ n. c.flow < n) (sym names.flows) known.flow;
      steps = known.steps ∙ ap length (sym (names.steps c.flow));
      users = within_after p a c.flow (assigned_of c) found known.users;
    }

-- where there are plans, cases can be completed
pub plans_complete : (p : PolicyShape) (cases : List Numbered) (plans : List (List ℕ)) → ArePlansOf p cases plans → CanAllBeCompleted p cases
plans_complete p [] plans is = grind arith
plans_complete p (e ∷ es) plans is = grind (arith, (plans_complete p es))

-- ---- rows of a table

-- other plans leave the cases as they are
pub numbered_replanned : (rows : List Row) (plans : List (List ℕ)) → map numbered (replanned rows plans) ≡ map numbered rows
numbered_replanned [] plans = refl
numbered_replanned (r ∷ rs) plans = grind (arith, (numbered_replanned rs))

pub there_replanned : (n : ℕ) (rows : List Row) (plans : List (List ℕ)) → case_in n (replanned rows plans) ≡ case_in n rows
there_replanned n rows plans =
    sym (case_numbered n (replanned rows plans)) ∙ ap (λ es. numbered_case es n) (numbered_replanned rows plans) ∙ case_numbered n rows

pub closed_planned : (p : PolicyShape) (c : CaseShape) (o : Option (List ℕ)) → is_some o ≡ is_open c → is_open c ≡ false → IsPlanned p c o
closed_planned p c o kept closed = grind arith

-- the plans of the rows that are open, if this one is
abbrev ArePlansAfter : PolicyShape → Bool → Row → List Row → List (List ℕ) → Type 0
ArePlansAfter p b r rs plans = ArePlansOf p (if b then numbered r ∷ open_cases (map numbered rs) else open_cases (map numbered rs)) plans

-- each row is planned again
pub each_replanned : (p : PolicyShape) (rows : List Row) (plans : List (List ℕ)) → table.ArePlannedWhileOpen rows →
    ArePlansOf p (open_cases (map numbered rows)) plans →
    EachRow (λ r. IsPlanned p r.case r.plan) (replanned rows plans)
each_replanned p [] plans kept is = tt
each_replanned p (r ∷ rs) [] kept is = elim (bool_cases (is_open_row r)) [
  | inl live ↦ absurd (subst (λ b. ArePlansAfter p b r rs []) live is)
  | inr closed ↦ (
    closed_planned p r.case r.plan kept.0 closed,
    subst (EachRow (λ x. IsPlanned p x.case x.plan)) (replanned_none rs)
        (each_replanned p rs [] kept.1 (subst (λ b. ArePlansAfter p b r rs []) closed is)),
  )
]
each_replanned p (r ∷ rs) (plan ∷ plans) kept is = elim (bool_cases (is_open_row r)) [
  | inl live ↦
      let both = subst (λ b. ArePlansAfter p b r rs (plan ∷ plans)) live is in
      subst (EachRow (λ x. IsPlanned p x.case x.plan)) (sym (replanned_open r rs plan plans live)) (both.0, each_replanned p rs plans kept.1 both.1)
  | inr closed ↦
      subst (EachRow (λ x. IsPlanned p x.case x.plan)) (sym (replanned_closed r rs (plan ∷ plans) closed))
      (closed_planned p r.case r.plan kept.0 closed, each_replanned p rs (plan ∷ plans) kept.1 (subst (λ b. ArePlansAfter p b r rs (plan ∷ plans)) closed is))
]

-- the cases of the rows stay of the policy
each_of_policy : (p : PolicyShape) (a : Amendment) (rows : List Row) (plans : List (List ℕ)) → IsKnownChange p a → EachRow (λ r. IsOfPolicy p r.case) rows →
    EachRow (λ r. IsOfPolicy (amended p a) r.case) (replanned rows plans)
each_of_policy p a [] plans found each = tt
each_of_policy p a (r ∷ rs) [] found each = (
  of_policy_amended p a r.case found each.0,
  subst (EachRow (λ x. IsOfPolicy (amended p a) x.case)) (replanned_none rs) (each_of_policy p a rs [] found each.1),
)
each_of_policy p a (r ∷ rs) (plan ∷ plans) found each = elim (bool_cases (is_open_row r)) [
  | inl live ↦
      subst (EachRow (λ x. IsOfPolicy (amended p a) x.case)) (sym (replanned_open r rs plan plans live))
      (of_policy_amended p a r.case found each.0, each_of_policy p a rs plans found each.1)
  | inr closed ↦
      subst (EachRow (λ x. IsOfPolicy (amended p a) x.case)) (sym (replanned_closed r rs (plan ∷ plans) closed))
      (of_policy_amended p a r.case found each.0, each_of_policy p a rs (plan ∷ plans) found each.1)
]

-- a table with other plans
abbrev pub with_plans : CasesShape → List (List ℕ) → CasesShape
with_plans t plans = record t { rows = replanned t.rows plans }

-- what a board keeps of its table is kept under the changed policy, with the plans for it
pub edited_keeps : (p : PolicyShape) (t : CasesShape) (a : Amendment) (plans : List (List ℕ)) → IsKept p t → IsKnownChange p a →
    table.ArePlannedWhileOpen t.rows →
    ArePlansOf (amended p a) (open_cases (map numbered t.rows)) plans → IsKept (amended p a) (with_plans t plans)
edited_keeps p t a plans kept found planned are = grind (arith, each_of_policy, each_replanned, there_replanned)

pub edited_state : (p : PolicyShape) (t : CasesShape) (a : Amendment) (plans : List (List ℕ)) (edits : ℕ) →
    state_on (board_of (amended p a) (with_plans t plans) (edits + 1)) ≡ with_edited (state_on (board_of p t edits)) a
edited_state p t a plans edits = grind (arith, numbered_replanned)

-- ---- verdicts

-- what was decided is a change with this edition
pub record IsChange (b : Book) (r : Result Deed Denial) (edition : EditionShape) : Type 0 where
  pub amendment : Amendment
  pub decided : r ≡ Ok (deed.Change amendment)
  pub policy : edition.policy ≡ amended b.policy amendment
  pub plans : ArePlansOf edition.policy (open_cases b.cases) edition.plans

pub edition_change : (b : Book) (r : Result Deed Denial) (edition : EditionShape) → IsEditionFor b r edition → IsChange b r edition
edition_change b r edition is = grind arith

-- what was decided is a change that strands a case
pub record IsStranding (b : Book) (r : Result Deed Denial) (n : ℕ) (tree : Tree) : Type 0 where
  pub amendment : Amendment
  pub decided : r ≡ Ok (deed.Change amendment)
  pub flow : ℕ
  pub stranded : IsFirstStranded (amended b.policy amendment) (open_cases b.cases) n flow tree

pub stranding_change : (b : Book) (r : Result Deed Denial) (n : ℕ) (tree : Tree) → IsStrandingFor b r n tree → IsStranding b r n tree
stranding_change b r n tree is = grind arith

-- no more cases being opened is no cause against a change
pub change_decided : (b : Book) (what : Ask) (a : Amendment) → decision_aside b what ≡ Ok (deed.Change a) → decision_of b what ≡ Ok (deed.Change a)
change_decided b what a is = ap (λ r. r >>= (λ given. unless_denied given (cause_full b given))) is

-- the first stranded case is found by its number, and any tree that shows it will do
pub record IsFoundCase (p : PolicyShape) (n f : ℕ) (tree : Tree) (rows : List Row) (cases : List Numbered) : Type 0 where
  pub case : CaseShape
  pub there : case_in n rows ≡ Some case
  pub flow : case.flow ≡ f
  pub shown : IsTreeOf p case tree
  pub others : (t : Tree) → IsTreeOf p case t → IsFirstStranded p cases n f t

found_later : (p : PolicyShape) (n f : ℕ) (tree : Tree) (r : Row) (rs : List Row) (few more : List Numbered) → r.number < n →
    ((t : Tree) → IsFirstStranded p few n f t → IsFirstStranded p more n f t) →
    IsFoundCase p n f tree rs few → IsFoundCase p n f tree (r ∷ rs) more
found_later p n f tree r rs few more above on is = grind (arith, nat_tests)

-- the cases of rows that are open, if the first is
abbrev open_onto : Bool → Row → List Row → List Numbered
open_onto b r rs = if b then numbered r ∷ open_cases (map numbered rs) else open_cases (map numbered rs)

-- the number of a stranded case is not below that of the first row
stranded_from : (p : PolicyShape) (low : ℕ) (rows : List Row) (n f : ℕ) (tree : Tree) → AscendFrom low rows →
    IsFirstStranded p (open_cases (map numbered rows)) n f tree →
    (low ≤ n) × IsFoundCase p n f tree rows (open_cases (map numbered rows))
stranded_from p low [] n f tree order is = absurd is
stranded_from p low (r ∷ rs) n f tree order is = at_first (is_open r.case) is (λ rest. stranded_from p (r.number + 1) rs n f tree order.1 rest)
  where
    later : (more : List Numbered) → ((t : Tree) → IsFirstStranded p (open_cases (map numbered rs)) n f t → IsFirstStranded p more n f t) →
        (r.number + 1 ≤ n) × IsFoundCase p n f tree rs (open_cases (map numbered rs)) → (low ≤ n) × IsFoundCase p n f tree (r ∷ rs) more
    later more on found = (omega (arith, order.0, found.0), found_later p n f tree r rs (open_cases (map numbered rs)) more (omega (arith, found.0)) on found.1)

    at_first : (b : Bool) → IsFirstStranded p (open_onto b r rs) n f tree →
        (IsFirstStranded p (open_cases (map numbered rs)) n f tree → (r.number + 1 ≤ n) × IsFoundCase p n f tree rs (open_cases (map numbered rs))) →
        (low ≤ n) × IsFoundCase p n f tree (r ∷ rs) (open_onto b r rs)
    at_first true (inl here) rest =
        let same : nat_eq r.number n ≡ true = eq_is r.number n here.0 in (
          omega (arith, order.0, here.0),
          record { case = r.case; there = rw same refl; flow = here.1.0; shown = here.1.1; others = λ t shows. inl (here.0, (here.1.0, shows)) },
        )
    at_first true (inr there) rest = later (numbered r ∷ open_cases (map numbered rs)) (λ t is. inr (there.0, is)) (rest there.1)
    at_first false there rest = later (open_cases (map numbered rs)) (λ t is. is) (rest there)

pub stranded_case : (p : PolicyShape) (rows : List Row) (n f : ℕ) (tree : Tree) → AscendFrom 0 rows →
    IsFirstStranded p (open_cases (map numbered rows)) n f tree →
    IsFoundCase p n f tree rows (open_cases (map numbered rows))
stranded_case p rows n f tree order is = (stranded_from p 0 rows n f tree order is).1
