-- What a change of the policy leaves the open cases.
use Rattle.std.proofs.Common.{◌≡◌, ℕ, ◌+◌, ◌<◌, Bool, true, List, [], ◌∷◌, ◌++◌, length, take, drop, get_or, Option, arith}
use Rattle.std.proofs.Common.{refl, sym, ap, subst, ◌∙◌}
use Rattle.std.proofs.lemmas.List.{append-nil, take-append-drop}
use Rattle.basics.proofs.Booleans.{bool_cases}
use Rattle.basics.proofs.Lists.{take_next}
use Rattle.refutation_tree.specs.declared.tree.Tree.{Tree}
use Rattle.policy_book.specs.Laws.Shapes.{PolicyShape}
use Rattle.policy_book.specs.Policies.{problem_of}
use Rattle.policy_book.specs.Laws.Plans.{Problem}
use Rattle.case_record.specs.Cases.{is_open}
use Rattle.grant_table.specs.declared.rows.Row.{Row}
use Rattle.grant_table.proofs.Places.{taken_off}
use Rattle.wf_board.specs.Boards.{numbered}
use Rattle.wf_board.specs.Edition.{ArePlansOf, IsFirstStranded, IsPlanOf, IsTreeOf}
use Rattle.wf_board.specs.Laws.States.{Numbered}
use Rattle.wsp_solver.specs.declared.search.Outcome.{Outcome}
use Rattle.case_views.specs.Deciding.{AddsPlanOfRow, IsPartAdded}
use Rattle.case_views.specs.Listing.{IsLeftAt, open_in}

-- what is said of a workflow, an assignment and finished steps is said of equal ones
pub said_same : (P : Problem → List (Option ℕ) → List Bool → Type 0) (p : PolicyShape) (f g : ℕ) (a b : List (Option ℕ)) (d e : List Bool) → g ≡ f → b ≡ a →
    e ≡ d
    → P (problem_of p g) b e → P (problem_of p f) a d
said_same P p f g a b d e flow assigned done h = grind arith

-- ---- rows

-- with one more row in front
pub open_cons : (r : Row) (rs : List Row) → open_in (r ∷ rs) ≡ open_in (r ∷ []) ++ open_in rs
open_cons r rs = grind (arith, bool_cases)

-- the open cases of two lists of rows
pub open_append : (xs ys : List Row) → open_in (xs ++ ys) ≡ open_in xs ++ open_in ys
open_append [] ys = refl
open_append (r ∷ rs) ys = grind (arith, (open_append rs ys))

-- plans for two lists of cases
plans_append : (p : PolicyShape) (es fs : List Numbered) (ps qs : List (List ℕ)) → ArePlansOf p es ps → ArePlansOf p fs qs → ArePlansOf p (es ++ fs) (ps ++ qs)
plans_append p [] fs ps qs first second = grind arith
plans_append p (e ∷ es) fs ps qs first second = grind (arith, (plans_append p es))

-- where the cases before it have plans, a case without one is the first
stranded_after : (p : PolicyShape) (es fs : List Numbered) (ps : List (List ℕ)) (e : Numbered) (tree : Tree) → ArePlansOf p es ps → IsTreeOf p e.case tree →
    IsFirstStranded p (es ++ e ∷ fs) e.number e.case.flow tree
stranded_after p [] fs ps e tree plans shows = grind arith
stranded_after p (x ∷ es) fs ps e tree plans shows = grind (arith, (stranded_after p es))

-- plans for the rows so far, with those for one more
pub plans_more : (p : PolicyShape) (rows : List Row) (i : ℕ) (r : Row) (ps more all : List (List ℕ)) → i < length rows → r ≡ get_or rows i r →
    ArePlansOf p (open_in (take i rows)) ps → ArePlansOf p (open_in (r ∷ [])) more → all ≡ ps ++ more → ArePlansOf p (open_in (take (i + 1) rows)) all
plans_more p rows i r ps more all below is plans added same =
    subst (ArePlansOf p (open_in (take (i + 1) rows))) (sym same)
    (subst (λ es. ArePlansOf p es (ps ++ more)) (sym (ap open_in (take_next rows i r below is) ∙ open_append (take i rows) (r ∷ [])))
    (plans_append p (open_in (take i rows)) (open_in (r ∷ [])) ps more plans added))

-- the case of the next row is the first without a plan
pub stranded_here : (p : PolicyShape) (rows : List Row) (i : ℕ) (r : Row) (ps : List (List ℕ)) (tree : Tree) → i < length rows → r ≡ get_or rows i r →
    ArePlansOf p (open_in (take i rows)) ps → is_open r.case ≡ true → IsTreeOf p r.case tree → IsFirstStranded p (open_in rows) r.number r.case.flow tree
stranded_here p rows i r ps tree below is plans live shows =
    let all : open_in rows ≡ open_in (take i rows) ++ numbered r ∷ open_in (drop (i + 1) rows) =
    ap open_in (sym (take-append-drop i rows) ∙ ap (λ xs. take i rows ++ xs) (taken_off rows i r below is))
    ∙ open_append (take i rows) (r ∷ drop (i + 1) rows) ∙ ap (λ es. open_in (take i rows) ++ es) (open_row r (drop (i + 1) rows) live) in
    subst (λ es. IsFirstStranded p es r.number r.case.flow tree) (sym all)
    (stranded_after p (open_in (take i rows)) (open_in (drop (i + 1) rows)) ps (numbered r) tree plans shows)
  where
    open_row : (x : Row) (xs : List Row) → is_open x.case ≡ true → open_in (x ∷ xs) ≡ numbered x ∷ open_in xs
    open_row x xs live = rw live refl

-- a plan for an open case, and none for one that is not
pub one_plan : (p : PolicyShape) (r : Row) (plan : List ℕ) → is_open r.case ≡ true → IsPlanOf p r.case plan → ArePlansOf p (open_in (r ∷ [])) (plan ∷ [])
one_plan p r plan live valid = rw live (valid, tt)

-- what is left of the case of a row is what is added for it
pub added_of : (p : PolicyShape) (r : Row) (left : Option Outcome) (tree : Option Tree) (before after : List (List ℕ)) → IsLeftAt p r left →
    IsPartAdded left before after tree → AddsPlanOfRow p r before after tree
added_of p r left tree before after h6 added = grind (arith, append-nil, one_plan)
