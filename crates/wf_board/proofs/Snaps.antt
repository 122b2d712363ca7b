-- A snapshot has what a verdict on what is asked rests on.
use Rattle.wf_board.proofs.Common.{◌≡◌, ℕ, ◌⊎◌, inl, true, false, List, [], ◌∷◌, map, Option, Result, Ok, Err, refl, ap, ◌∙◌, arith, ◌>>=◌, or_fault}
use Rattle.wf_board.proofs.Common.{PolicyShape, Row, open_rows, Tree, Edit, Ask, Denial, Deed, Duty, Verdict, View, Book, Numbered, numbered_case, open_cases}
use Rattle.wf_board.proofs.Common.{on_step, cause_aside, decision_aside, decision_of, needs_plan, needs_verdict, unless_denied, BoardShape, EditionShape}
use Rattle.wf_board.proofs.Common.{numbered, state_on, IsEditionFor, IsRight, IsStrandingFor, IsViewFor}
use Rattle.grant_table.specs.Cases.{only}
use Rattle.wf_talk.specs.declared.request.Request.TheVariants as request
use Rattle.wf_talk.specs.declared.request.Ask.TheVariants as ask
use Rattle.wf_talk.specs.declared.reply.Denial.TheVariants.{NoCase, NoFlow}
use Rattle.wf_board.specs.declared.deed.Deed.TheVariants as deed
use Rattle.wf_board.specs.Laws.States.{flow_named}
use Rattle.wf_board.specs.Resolve.{resolve, resolve_request}
use Rattle.wf_board.specs.Boards.{book_on}
use Rattle.wf_board.specs.Verdicts.{IsPlanFor, IsTreeFor, snap_of}
use Rattle.wf_board.specs.Laws.{SnapsSuffice}

-- a snapshot of one case has it as the table has it
pub case_alone : (n : ℕ) (rows : List Row) → numbered_case (map numbered (only n rows)) n ≡ numbered_case (map numbered rows) n
case_alone n [] = refl
case_alone n (r ∷ rs) = grind (arith, (case_alone n rs))

-- a snapshot of the open cases has them as the table has them
pub open_alone : (rows : List Row) → open_cases (map numbered (open_rows rows)) ≡ open_cases (map numbered rows)
open_alone [] = refl
open_alone (r ∷ rs) = grind (arith, (open_alone rs))

same_rest : {A B F : Type 0} (r : Result A F) (f g : A → Result B F) → ((x : A) → f x ≡ g x) → (r >>= f) ≡ (r >>= g)
same_rest r f g same = grind arith

-- a book with these cases
abbrev pub with_cases : PolicyShape → List Numbered → ℕ → Book
with_cases p cases ever = record { policy = p; cases = cases; ever = ever }

-- the causes rest on no case but the deed's
same_cause : (p : PolicyShape) (xs ys : List Numbered) (m k : ℕ) (given : Deed) →
    unless_denied given (cause_aside (with_cases p xs m) given) ≡ unless_denied given (cause_aside (with_cases p ys k) given)
same_cause p xs ys m k given = grind arith

same_decision : (p : PolicyShape) (xs ys : List Numbered) (m k : ℕ) (what : Ask) → resolve (with_cases p xs m) what ≡ resolve (with_cases p ys k) what →
    decision_aside (with_cases p xs m) what ≡ decision_aside (with_cases p ys k) what
same_decision p xs ys m k what same = grind (arith, same_rest, same_cause)

-- a claim is decided alike over cases that have its case alike
pub same_claim : (p : PolicyShape) (xs ys : List Numbered) (m k n : ℕ) (step user : List ℕ) → numbered_case xs n ≡ numbered_case ys n →
    decision_aside (with_cases p xs m) (ask.Request (request.Claim n step user)) ≡ decision_aside (with_cases p ys k) (ask.Request (request.Claim n step user))
same_claim p xs ys m k n step user same = grind arith

-- and an opening over all
pub same_opening : (p : PolicyShape) (xs ys : List Numbered) (m k : ℕ) (flow : List ℕ) →
    decision_aside (with_cases p xs m) (ask.Request (request.OpenCase flow)) ≡ decision_aside (with_cases p ys k) (ask.Request (request.OpenCase flow))
same_opening p xs ys m k flow = same_decision p xs ys m k (ask.Request (request.OpenCase flow)) refl

-- and so is an edit
pub same_change : (p : PolicyShape) (xs ys : List Numbered) (m k : ℕ) (by : List ℕ) (e : Edit) →
    decision_aside (with_cases p xs m) (ask.Request (request.Change by e)) ≡ decision_aside (with_cases p ys k) (ask.Request (request.Change by e))
same_change p xs ys m k by e = same_decision p xs ys m k (ask.Request (request.Change by e)) refl

-- a claim is decided over its case alone as over all
pub claim_alone : (b : BoardShape) (n : ℕ) (step user : List ℕ) (spare : ℕ) →
    decision_aside (book_on (snap_of b (ask.Request (request.Claim n step user)) spare)) (ask.Request (request.Claim n step user))
    ≡ decision_aside (state_on b).book (ask.Request (request.Claim n step user))
claim_alone b n step user spare = grind (arith, same_claim, case_alone)

-- an opening is decided over no case as over all
pub opening_alone : (b : BoardShape) (flow : List ℕ) (spare : ℕ) →
    decision_aside (book_on (snap_of b (ask.Request (request.OpenCase flow)) spare)) (ask.Request (request.OpenCase flow))
    ≡ decision_aside (state_on b).book (ask.Request (request.OpenCase flow))
opening_alone b flow spare = same_opening b.policy [] (map numbered b.cases.rows) b.cases.ever b.cases.ever flow

-- what is no opening, no claim, no edit and no view over the open cases
abbrev pub IsPlain : Result Deed Denial → Type 0
IsPlain (Ok given) = needs_plan given ≡ false
IsPlain (Err d) = Unit {0}

then_plain : {X : Type 0} (r : Result X Denial) (f : X → Result Deed Denial) → ((x : X) → IsPlain (f x)) → IsPlain (r >>= f)
then_plain r f each = grind arith

denied_plain : (given : Deed) (o : Option Denial) → needs_plan given ≡ false → IsPlain (unless_denied given o)
denied_plain given o plain = grind arith

plain_aside : (b : Book) (r : Result Deed Denial) → IsPlain r → IsPlain (r >>= (λ given. unless_denied given (cause_aside b given)))
plain_aside b r plain = grind (arith, denied_plain)

plain_step : (b : Book) (make : Duty → Deed) (n : ℕ) (step user : List ℕ) →
    ((d : Duty) → needs_plan (make d) ≡ false) → IsPlain (on_step make b n step user)
plain_step b make n step user plain = grind arith

-- what rests on no plan
abbrev pub IsAside : Book → Ask → Type 0
IsAside b what = IsPlain (decision_aside b what)

pub finish_plain : (n : ℕ) (step user : List ℕ) (b : Book) → IsAside b (ask.Request (request.Finish n step user))
finish_plain n step user b = plain_aside b (on_step deed.Finish b n step user) (plain_step b deed.Finish n step user (λ d. refl))

pub return_plain : (n : ℕ) (step user : List ℕ) (b : Book) → IsAside b (ask.Request (request.GiveBack n step user))
return_plain n step user b = plain_aside b (on_step deed.GiveBack b n step user) (plain_step b deed.GiveBack n step user (λ d. refl))

pub release_plain : (by : List ℕ) (n : ℕ) (step : List ℕ) (b : Book) → IsAside b (ask.Request (request.Release by n step))
release_plain by n step b = grind arith

pub withdraw_plain : (by : List ℕ) (n : ℕ) (b : Book) → IsAside b (ask.Request (request.Withdraw by n))
withdraw_plain by n b = grind arith

pub show_plain : (n : ℕ) (b : Book) → IsAside b (ask.Request (request.Show n))
show_plain n b = plain_aside b (resolve_request b (request.Show n)) (then_plain (or_fault (numbered_case b.cases n) NoCase) _ (λ c. refl))

-- what rests on no plan over any book
abbrev pub IsAlwaysAside : Ask → Type 0
IsAlwaysAside what = (b : Book) → IsAside b what

-- a snapshot needs a verdict exactly where its board does
pub needs_same : (b : BoardShape) (what : Ask) (spare : ℕ) →
    needs_verdict (decision_aside (book_on (snap_of b what spare)) what) ≡ needs_verdict (decision_aside (state_on b).book what)
needs_same b (ask.Request (request.OpenCase flow)) spare = ap needs_verdict (opening_alone b flow spare)
needs_same b (ask.Request (request.Claim n step user)) spare = ap needs_verdict (claim_alone b n step user spare)
needs_same b what spare = grind arith

denied_needs : (given : Deed) (o : Option Denial) → needs_verdict (unless_denied given o) ≡ true → needs_plan given ≡ true
denied_needs given o needs = grind arith

-- what needs a verdict needs one with `full` aside
pub needs_aside : (b : Book) (what : Ask) → needs_verdict (decision_of b what) ≡ true → needs_verdict (decision_aside b what) ≡ true
needs_aside b what needs = grind (arith, denied_needs)

-- what needs a verdict over a board needs one over its snapshot
pub snap_needs : (b : BoardShape) (what : Ask) (spare : ℕ) → needs_verdict (decision_of (state_on b).book what) ≡ true →
    needs_verdict (decision_aside (book_on (snap_of b what spare)) what) ≡ true
snap_needs b what spare needs = needs_same b what spare ∙ needs_aside (state_on b).book what needs

no_plan : (b : Book) (r : Result Deed Denial) (plan : List ℕ) {X : Type 0} → IsPlain r → IsPlanFor b r plan → X
no_plan b r plan plain is = grind arith

no_tree : (b : Book) (r : Result Deed Denial) (tree : Tree) {X : Type 0} → IsPlain r → IsTreeFor b r tree → X
no_tree b r tree plain is = grind arith

no_edition : (b : Book) (r : Result Deed Denial) (edition : EditionShape) {X : Type 0} → IsPlain r → IsEditionFor b r edition → X
no_edition b r edition plain is = grind arith

no_stranding : (b : Book) (r : Result Deed Denial) (n : ℕ) (tree : Tree) {X : Type 0} → IsPlain r → IsStrandingFor b r n tree → X
no_stranding b r n tree plain is = grind arith

no_view : (b : Book) (r : Result Deed Denial) (v : View) {X : Type 0} → IsPlain r → IsViewFor b r v → X
no_view b r v plain is = grind arith

-- no plan and no tree is right for what rests on no plan
pub plain_right : (b c : Book) (what : Ask) (v : Verdict) → IsAlwaysAside what → IsRight b what v → IsRight c what v
plain_right b c what v plain is = grind (arith, no_plan, no_tree, no_edition, no_stranding, no_view)

-- ---- what is no edit and no view

-- what was decided rests on no other case than its own
abbrev pub IsNoChange : Result Deed Denial → Type 0
IsNoChange (Ok (deed.Change a)) = ⊥
IsNoChange (Ok (deed.Work u)) = ⊥
IsNoChange (Ok (deed.WhatIf a)) = ⊥
IsNoChange r = Unit {0}

then_no_change : {X : Type 0} (r : Result X Denial) (f : X → Result Deed Denial) → ((x : X) → IsNoChange (f x)) → IsNoChange (r >>= f)
then_no_change r f each = grind arith

unless_no_change : (given : Deed) (o : Option Denial) → IsNoChange (Ok given) → IsNoChange (unless_denied given o)
unless_no_change given o kept = grind arith

aside_no_change : (b : Book) (r : Result Deed Denial) → IsNoChange r → IsNoChange (r >>= (λ given. unless_denied given (cause_aside b given)))
aside_no_change b r kept = grind (arith, unless_no_change)

pub opening_no_change : (b : Book) (flow : List ℕ) → IsNoChange (decision_aside b (ask.Request (request.OpenCase flow)))
opening_no_change b flow = aside_no_change b (resolve_request b (request.OpenCase flow)) (then_no_change (or_fault (flow_named b flow) NoFlow) _ (λ f. tt))

pub claim_no_change : (b : Book) (n : ℕ) (step user : List ℕ) → IsNoChange (decision_aside b (ask.Request (request.Claim n step user)))
claim_no_change b n step user = grind arith

-- ---- what is right

-- where the decision is the same, so is what is right
plan_same : (p : PolicyShape) (xs ys : List Numbered) (m k : ℕ) (r : Result Deed Denial) (plan : List ℕ) → IsPlanFor (with_cases p xs m) r plan →
    IsPlanFor (with_cases p ys k) r plan
plan_same p xs ys m k r plan is = grind arith

tree_same : (p : PolicyShape) (xs ys : List Numbered) (m k : ℕ) (r : Result Deed Denial) (tree : Tree) → IsTreeFor (with_cases p xs m) r tree →
    IsTreeFor (with_cases p ys k) r tree
tree_same p xs ys m k r tree is = grind arith

-- also of an edit and a view, where the open cases are the same
abbrev pub MayChange : List Numbered → List Numbered → Result Deed Denial → Type 0
MayChange xs ys r = IsNoChange r ⊎ (open_cases xs ≡ open_cases ys)

pub edition_same : (p : PolicyShape) (xs ys : List Numbered) (m k : ℕ) (r : Result Deed Denial) (edition : EditionShape) → MayChange xs ys r →
    IsEditionFor (with_cases p xs m) r edition → IsEditionFor (with_cases p ys k) r edition
edition_same p xs ys m k r edition may is = grind arith

pub stranding_same : (p : PolicyShape) (xs ys : List Numbered) (m k : ℕ) (r : Result Deed Denial) (n : ℕ) (tree : Tree) → MayChange xs ys r →
    IsStrandingFor (with_cases p xs m) r n tree → IsStrandingFor (with_cases p ys k) r n tree
stranding_same p xs ys m k r n tree may is = grind arith

pub view_same : (p : PolicyShape) (xs ys : List Numbered) (m k : ℕ) (r : Result Deed Denial) (v : View) → MayChange xs ys r →
    IsViewFor (with_cases p xs m) r v → IsViewFor (with_cases p ys k) r v
view_same p xs ys m k r v may is = grind arith

pub right_same : (p : PolicyShape) (xs ys : List Numbered) (m k : ℕ) (what : Ask) (v : Verdict) →
    decision_aside (with_cases p xs m) what ≡ decision_aside (with_cases p ys k) what →
    MayChange xs ys (decision_aside (with_cases p xs m) what) → IsRight (with_cases p xs m) what v → IsRight (with_cases p ys k) what v
right_same p xs ys m k what v same may is = grind (arith, plan_same, tree_same, edition_same, stranding_same, view_same)

pub snaps_suffice : SnapsSuffice
snaps_suffice b (ask.Request (request.OpenCase flow)) spare v is =
    right_same b.policy [] (map numbered b.cases.rows) b.cases.ever b.cases.ever (ask.Request (request.OpenCase flow)) v (opening_alone b flow spare)
    (inl (opening_no_change (with_cases b.policy [] b.cases.ever) flow)) is
snaps_suffice b (ask.Request (request.Claim n step user)) spare v is =
    right_same b.policy (map numbered (only n b.cases.rows)) (map numbered b.cases.rows) b.cases.ever b.cases.ever (ask.Request (request.Claim n step user))
    v (claim_alone b n step user spare) (inl (claim_no_change (with_cases b.policy (map numbered (only n b.cases.rows)) b.cases.ever) n step user)) is
snaps_suffice b (ask.Request (request.Finish n step user)) spare v is = plain_right (book_on (snap_of b (ask.Request (request.Finish n step user)) spare))
    (state_on b).book (ask.Request (request.Finish n step user)) v (finish_plain n step user) is
snaps_suffice b h1 spare v is = grind (arith, plain_right, return_plain, release_plain, withdraw_plain, right_same, same_change, open_alone, show_plain)
