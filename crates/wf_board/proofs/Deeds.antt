-- Verdicts on deeds that go over the open cases.
use Rattle.wf_board.proofs.Common.{◌≡◌, ℕ, true, false, List, map, Result, Err, arith, false≢true, PolicyShape, Row, open_rows, Ask, Denial, Fault, Deed}
use Rattle.wf_board.proofs.Common.{Verdict, numbered, Book, decision_aside, needs_verdict, takes_memory}
use Rattle.basics.specs.Laws.Reading.{Gives, cause_of}
use Rattle.basics.specs.declared.fault.Fault.TheVariants as fault
use Rattle.wf_board.specs.declared.verdict.Verdict.TheVariants as verdict
use Rattle.wf_board.specs.Verdicts.{Decides}
use Rattle.wf_board.specs.Deeds.{FitsDeed, is_over_open}
use Rattle.wf_board.proofs.Snaps.{edition_same, stranding_same, view_same, with_cases, open_alone}

-- an edit or a view over the open cases alone is one over all
pub fits_open : (p : PolicyShape) (rows : List Row) (ever : ℕ) (d : Deed) (v : Verdict) → is_over_open d ≡ true →
    FitsDeed (with_cases p (map numbered (open_rows rows)) ever) d v → FitsDeed (with_cases p (map numbered rows) ever) d v
fits_open p rows ever d v over is = grind (arith, edition_same, open_alone, stranding_same, view_same)

-- ---- what is asked

listed_needs_none : (reading : Result Deed Denial) → takes_memory reading ≡ true → needs_verdict reading ≡ false
listed_needs_none reading h = grind arith

-- where there is no deed, no verdict is needed
pub refused_needs_none : (reading : Result Deed Denial) (e : Fault Denial) → Gives {X = Deed} cause_of (λ d. d) (Err e) reading →
    (e ≡ fault.NoMemory → takes_memory reading ≡ true) → needs_verdict reading ≡ false
refused_needs_none reading e gives memory = grind (arith, listed_needs_none)

-- and nothing is right
pub nothing_decides : (b c : Book) (what : Ask) → c ≡ b → needs_verdict (decision_aside c what) ≡ false → Decides b what verdict.Nothing
nothing_decides b c what same none = grind (arith, false≢true)
