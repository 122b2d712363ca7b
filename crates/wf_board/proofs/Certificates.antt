-- A plan or a tree that decides what is asked decides its deed.
use Rattle.wf_board.proofs.Common.{◌≡◌, ℕ, Bool, true, not, List, Option, is_some, Ok, arith, ◌>>=◌, PolicyShape, problem_of, IsWithin, finished_of, Row}
use Rattle.wf_board.proofs.Common.{assigned_with, Ask, Denial, Duty, Verdict, Book, needs_verdict, unless_denied, AreFound, full_or, IsRight}
use Rattle.std.proofs.Common.{◌↔◌}
use Rattle.constraint_forms.specs.Assign.{no_steps, no_users}
use Rattle.wf_board.specs.declared.deed.Deed.TheVariants as deed
use Rattle.wf_board.specs.Taking.{IsCertificateOf}
use Rattle.wf_board.specs.Verdicts.{IsCertificate, IsCertified}
use Rattle.wf_board.proofs.Within.{claimed_within}

-- what is assigned in a case with a claim's step given to its user is within its workflow and policy
pub claim_within : (p : PolicyShape) (rows : List Row) (d : Duty) → AreFound p rows d → IsWithin (problem_of p d.case.flow)
    (assigned_with d.case d.step d.user)
claim_within p rows d found = claimed_within p d.case d.step d.user found.case.known found.step found.user found.case.known.users

-- a plan or a tree that decides what is asked is right
pub certified_right : (b : Book) (what : Ask) (v : Verdict) → IsCertified b what v → IsRight b what v
certified_right b what v is = grind arith

-- ---- deeds

pub certificate_same : (p : PolicyShape) (f g : ℕ) (a b : List (Option ℕ)) (d e : List Bool) (v : Verdict) (result : Bool) → g ≡ f → b ≡ a → e ≡ d →
    result ≡ true ↔ IsCertificateOf (problem_of p g) b e v → result ≡ true ↔ IsCertificateOf (problem_of p f) a d v
certificate_same p f g a b d e v result flow assigned finished is = grind arith

pub open_certificate : (b : Book) (f : ℕ) (v : Verdict) (result : Bool) → result ≡ true ↔ IsCertificateOf (problem_of b.policy f) no_users no_steps v →
    result ≡ true ↔ IsCertificate b (Ok (deed.Open f)) v
open_certificate b f v result is = grind arith

pub claim_certificate : (b : Book) (d : Duty) (v : Verdict) (result : Bool) →
    result ≡ true ↔ IsCertificateOf (problem_of b.policy d.case.flow) (assigned_with d.case d.step d.user) (finished_of d.case) v → result ≡ true ↔
    IsCertificate b (Ok (deed.Claim d)) v
claim_certificate b d v result is = grind arith

-- a claim is left to decide where there is no cause against it
pub claim_needs : (b : Book) (d : Duty) (cause : Option Denial) →
    not (is_some cause) ≡ needs_verdict (unless_denied (deed.Claim d) cause >>= full_or b)
claim_needs b d cause = grind arith
