-- What a decision tells of the state in which it is made.
use Rattle.wf_board.proofs.Common.{◌≡◌, ℕ, ◌<◌, Bool, true, List, [], ◌∷◌, length, Option, None, Some, Result, Ok, arith, is_held, user_of}
use Rattle.wf_board.proofs.Common.{StepState, Free, flow_at, IsSoundPolicy, Edit, CaseShape, is_open, state_at, Ask, Denial, amendment_of, Amendment, EditCause}
use Rattle.wf_board.proofs.Common.{first_cause, unless, Deed, Duty, Book, numbered_case, on_edit, on_step, cause_aside, decision_aside}
use Rattle.wf_board.proofs.Common.{decision_of, unless_denied}
use Rattle.std.proofs.Common.{option_map}
use Rattle.std.specs.Prelude.{nat_eq}
use Rattle.std.specs.Cmp.Lexicographic.{pointwise}
use Rattle.std.proofs.lemmas.List.Quantifiers.{position-Some}
use Rattle.wf_names.specs.Table.{place_of}
use Rattle.wf_talk.specs.declared.request.Request.TheVariants as request
use Rattle.wf_talk.specs.declared.request.Ask.TheVariants as ask
use Rattle.admin_edits.specs.ClaimCauses.{first_of}
use Rattle.wf_board.specs.declared.deed.Deed.TheVariants as deed
use Rattle.wf_board.specs.Resolve.{resolve}
use Rattle.wf_board.specs.Laws.Found as found
use Rattle.wf_board.specs.Decisions.{is_held_by}
use Rattle.admin_edits.proofs.Keeping.{amendment_found}
pub use Rattle.admin_edits.proofs.Keeping.{HoldsOf, then_holds}

-- a name stands at one of the places
pub place_within : (names : List (List ℕ)) (name : List ℕ) (i : ℕ) → place_of names name ≡ Some i → i < length names
place_within names name i h = (position-Some (pointwise nat_eq name) names i [] h).0

-- the case with a number is open
pub record IsOpenCase (b : Book) (n : ℕ) (c : CaseShape) : Type 0 where
  pub found : numbered_case b.cases n ≡ Some c
  pub live : is_open c ≡ true

-- and has the step
pub record HasStep (b : Book) (n : ℕ) (c : CaseShape) (t : ℕ) : Type 0 where
  pub case : IsOpenCase b n c
  pub step : t < length (flow_at b.policy c.flow).flow.steps

-- and the user of a claim is there
pub record IsClaim (b : Book) (d : Duty) : Type 0 where
  pub there : HasStep b d.number d.case d.step
  pub user : d.user < length b.policy.roster.users

-- what a deed names is there
abbrev pub IsThere : Book → Deed → Type 0
IsThere b (deed.Open f) = f < length b.policy.flow_names
IsThere b (deed.Claim d) = IsClaim b d
IsThere b (deed.Finish d) = HasStep b d.number d.case d.step
IsThere b (deed.GiveBack d) = HasStep b d.number d.case d.step
IsThere b (deed.Release n c t) = HasStep b n c t
IsThere b (deed.Change a) = IsSoundPolicy b.policy → found.IsAllowed b.policy a
IsThere b (deed.Work u) = u < length b.policy.roster.users
IsThere b (deed.WhatIf a) = IsSoundPolicy b.policy → found.IsAllowed b.policy a
IsThere b given = Unit {0}

step_there : (b : Book) (make : Duty → Deed) (n : ℕ) (step user : List ℕ) →
    ((d : Duty) → IsClaim b d → IsThere b (make d)) → HoldsOf (IsThere b) (on_step make b n step user)
step_there b make n step user made = grind arith

change_allowed : (b : Book) (by : List ℕ) (e : Edit) (a : Amendment) → amendment_of b.policy by e ≡ Ok a → IsSoundPolicy b.policy → found.IsAllowed b.policy a
change_allowed b by e a is sound = grind (arith, amendment_found)

change_there : (b : Book) (by : List ℕ) (e : Edit) (r : Result Amendment EditCause) → amendment_of b.policy by e ≡ r →
    HoldsOf (IsThere b) (on_edit deed.Change r)
change_there b by e r is = grind (arith, change_allowed)

what_if_there : (b : Book) (by : List ℕ) (e : Edit) (r : Result Amendment EditCause) → amendment_of b.policy by e ≡ r →
    HoldsOf (IsThere b) (on_edit deed.WhatIf r)
what_if_there b by e r is = grind (arith, change_allowed)

resolve_there : (b : Book) (what : Ask) → HoldsOf (IsThere b) (resolve b what)
resolve_there b (ask.Request (request.OpenCase flow)) = grind arith
resolve_there b what = grind (arith, step_there, change_there, what_if_there)

-- no cause is against a deed
abbrev pub IsAllowed : Book → Deed → Type 0
IsAllowed b (deed.Claim d) = first_cause b.policy d.case d.step d.user ≡ None
IsAllowed b (deed.Finish d) = is_held_by d.user (state_at d.case d.step) ≡ true
IsAllowed b (deed.GiveBack d) = is_held_by d.user (state_at d.case d.step) ≡ true
IsAllowed b (deed.Release n c t) = is_held (state_at c t) ≡ true
IsAllowed b given = Unit {0}

-- what is known of a deed that is decided on
abbrev pub IsTold : Book → Deed → Type 0
IsTold b given = IsThere b given × IsAllowed b given

pub unless_tells : (b : Bool) (d : Denial) → unless b d ≡ None → b ≡ true
unless_tells b d h = grind arith

pub unless_holds : (P : Deed → Type 0) (given : Deed) (o : Option Denial) → (o ≡ None → P given) → HoldsOf P (unless_denied given o)
unless_holds P given o allowed = grind arith

allowed_told : (b : Book) (given : Deed) → IsThere b given → HoldsOf (IsTold b) (unless_denied given (cause_aside b given))
allowed_told b given there = grind arith

pub aside_told : (b : Book) (what : Ask) → HoldsOf (IsTold b) (decision_aside b what)
aside_told b what = then_holds (IsThere b) (IsTold b) (resolve b what) _ (resolve_there b what) (allowed_told b)

-- what is decided on is there, and no cause is against it
pub told : (b : Book) (what : Ask) → HoldsOf (IsTold b) (decision_of b what)
told b what = grind (arith, then_holds, aside_told, unless_holds)

no_user_free : (x : StepState) (rest : List (Option Denial)) (make : ℕ → Denial) → first_of (option_map make (user_of x) ∷ rest) ≡ None → x ≡ Free
no_user_free x rest make h = grind arith

-- a step that may be claimed is free
pub claim_free : (b : Book) (d : Duty) → IsAllowed b (deed.Claim d) → state_at d.case d.step ≡ Free
claim_free b d allowed = no_user_free (state_at d.case d.step) _ _ allowed

pub held_by : (u : ℕ) (x : StepState) → is_held_by u x ≡ true → is_held x ≡ true
held_by u x h = grind arith
