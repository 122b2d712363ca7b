-- What was found of cases that stand alike.
use Rattle.std.proofs.Common.{Bool, true, false, if◌then◌else◌, List, [], ◌∷◌, ◌++◌, arith}
use Rattle.std.specs.List.{All}
use Rattle.std.proofs.lemmas.List.Elements.{All-push}
use Rattle.policy_book.specs.Laws.Shapes.{PolicyShape}
use Rattle.policy_book.specs.Laws.Facts.{IsSoundPolicy}
use Rattle.policy_book.specs.Policies.{problem_of}
use Rattle.certificate_check.proofs.Refuted.{refutes_soundly}
use Rattle.case_record.specs.Cases.{CaseShape, assigned_of, finished_of}
use Rattle.wsp_solver.specs.Searches.{HasSolved}
use Rattle.wsp_solver.specs.declared.search.Outcome.{Outcome}
use Rattle.wf_board.proofs.Exact.{finished_assigned, well_formed_any}
use Rattle.case_views.specs.Listing.{is_plan}
use Rattle.case_views.specs.Seeing.{IsTold}

-- what was found of a case tells whether it can be completed
pub told_of : (p : PolicyShape) (c : CaseShape) (o : Outcome) → IsSoundPolicy p → HasSolved (problem_of p c.flow) (assigned_of c) (finished_of c) o →
    IsTold p c (is_plan o)
told_of p c o sound found = grind (arith, refutes_soundly, well_formed_any, finished_assigned)

-- what holds of all still does with one more, or with none
pub all_with : {X : Type 0} (P : X → Type 0) (xs : List X) (x : X) (b : Bool) → All P xs → P x → All P (if b then xs ++ x ∷ [] else xs)
all_with P xs x true all one = All-push P xs x all one
all_with P xs x false all one = all
