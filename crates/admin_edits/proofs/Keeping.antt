-- What a change of a policy leaves as it was, and what every policy keeps under it.
use Rattle.std.proofs.Common.{◌≡◌, ℕ, ◌<◌, Bool, true, List, length, nat_lt, Option, Result, Ok, Err, refl}
use Rattle.std.proofs.Common.{arith, length-append}
use Rattle.std.proofs.lemmas.List.{append-nil}
use Rattle.std.proofs.Math.ListN.{length-set}
use Rattle.std.proofs.lemmas.List.Quantifiers.{position-Some}
use Rattle.basics.specs.Laws.Pairs.{AllPairs, Pairs}
use Rattle.basics.specs.Laws.Reading.{◌>>=◌, check, or_fault}
use Rattle.basics.proofs.Booleans.{lt_back}
use Rattle.wf_names.specs.Table.{place_of}
use Rattle.wf_names.specs.declared.limits.TheConstants.{FLOW_LIMIT, USER_LIMIT}
use Rattle.user_relations.specs.Laws.Relations.{pairs_of}
use Rattle.policy_book.specs.Laws.Shapes.{PolicyShape, WorkflowShape}
use Rattle.policy_book.specs.Laws.Facts.{IsSoundPolicy, IsSoundWorkflow}
use Rattle.policy_book.specs.Policies.{flow_at, problem_of, with_flow, with_pairs, with_roster}
use Rattle.policy_book.specs.Laws.Plans.{IsWithin}
use Rattle.policy_book.specs.Stored.{IsStoredPolicy}
use Rattle.policy_book.proofs.Keeping.{all_inserted, all_removed, pairs_of_users, sound_forbidden, sound_permitted, stored_with_flow, stored_with_pairs}
use Rattle.policy_book.proofs.Keeping.{stored_with_user}
use Rattle.wf_talk.specs.declared.edit.Edit.{Edit}
use Rattle.wf_talk.specs.declared.edit.Missing.TheVariants.{Flow, Step, User, Role}
use Rattle.admin_edits.specs.declared.amendment.Amendment.{Amendment}
use Rattle.admin_edits.specs.declared.amendment.Amendment.TheVariants as amend
use Rattle.admin_edits.specs.declared.fault.EditCause.{EditCause}
use Rattle.admin_edits.specs.declared.fault.EditCause.TheVariants.{Unknown}
use Rattle.admin_edits.specs.Laws.Edits.{allowed, amended, amendment_of, found}
use Rattle.admin_edits.specs.Amendment.{AreMember, ArePair, ArePermit, IsKnownChange}
use Rattle.admin_edits.specs.Laws.Keeping.{ChangesKeepNames, ChangesKeepPoliciesSound, KeepsNames}
use Rattle.admin_edits.proofs.Unhurt.{flow_there}

-- ---- names

-- another roster of the same users and roles
members_keep_names : (p : PolicyShape) (a : Amendment) → (amended p a).roster.users ≡ p.roster.users → (amended p a).roster.roles ≡ p.roster.roles
    → (amended p a).flow_names ≡ p.flow_names → (amended p a).flows ≡ p.flows → KeepsNames p (amended p a)
members_keep_names p a users roles flow_names flows = grind (arith, append-nil)

-- another workflow with the same steps
flow_keeps_names : (p : PolicyShape) (g : ℕ) (w : WorkflowShape) → g < length p.flows → w.flow.steps ≡ (flow_at p g).flow.steps → KeepsNames p (with_flow p g w)
flow_keeps_names p g w within same = grind (arith, append-nil, length-set, flow_there)

pub changes_keep_names : ChangesKeepNames
changes_keep_names = grind (arith, members_keep_names, flow_keeps_names)

-- what gives users of a policy to steps of a workflow does so after a change
pub within_after : (p : PolicyShape) (a : Amendment) (f : ℕ) (assigned : List (Option ℕ)) → IsKnownChange p a → IsWithin (problem_of p f) assigned →
    IsWithin (problem_of (amended p a) f) assigned
within_after p a f assigned is within = grind (arith, changes_keep_names, length-append)

-- ---- what every policy keeps

-- a sound policy, by its parts
stored : (p : PolicyShape) → IsSoundPolicy p → IsStoredPolicy p.roster p.relations (record { names = p.flow_names; limit = FLOW_LIMIT }) p.flows p.admin
stored p sound = record { limit = refl; sound = sound }

sound_with_flow : (p : PolicyShape) (f : ℕ) (w : WorkflowShape) → IsSoundPolicy p → f < length p.flows →
    IsSoundWorkflow (length p.roster.roles) (length p.relations) w → IsSoundPolicy (with_flow p f w)
sound_with_flow p f w sound within new =
    (stored_with_flow p.roster p.relations (record { names = p.flow_names; limit = FLOW_LIMIT }) p.flows p.admin (stored p sound) f w within new).sound

sound_with_members : (p : PolicyShape) (members : Pairs) → IsSoundPolicy p → IsSoundPolicy (with_roster p (record p.roster { members = members }))
sound_with_members p members sound = grind (arith, stored)

sound_with_pairs : (p : PolicyShape) (rho : ℕ) (pairs : Pairs) → IsSoundPolicy p →
    AllPairs (λ u v. (u < length p.roster.users) × (v < length p.roster.users)) pairs → IsSoundPolicy (with_pairs p rho pairs)
sound_with_pairs p rho pairs sound within =
    (stored_with_pairs p.roster p.relations (record { names = p.flow_names; limit = FLOW_LIMIT }) p.flows p.admin (stored p sound) rho pairs within).sound

-- a test that passes, and the rest
checked : {B F : Type 0} (b : Bool) (fault : F) (next : Result B F) (x : B) → (check b fault >>= (λ (_ : Unit {0}). next)) ≡ Ok x → (b ≡ true) × (next ≡ Ok x)
checked b fault next x e = grind arith

passed : {F : Type 0} (b : Bool) (fault : F) → check b fault ≡ Ok tt → b ≡ true
passed b fault e = grind arith

pub changes_keep_policies_sound : ChangesKeepPoliciesSound
changes_keep_policies_sound p (amend.AddUser name) sound is fine =
    let room = lt_back _ _ (passed (nat_lt (length p.roster.users) USER_LIMIT) EditCause.Full (checked _ _ _ _ fine).1) in
    (stored_with_user p.roster p.relations (record { names = p.flow_names; limit = FLOW_LIMIT }) p.flows p.admin (stored p sound) name room).sound
changes_keep_policies_sound p (amend.Leave u) sound is fine = sound_with_members p _ sound
changes_keep_policies_sound p (amend.Enrol u r) sound is fine = sound_with_members p _ sound
changes_keep_policies_sound p (amend.Dismiss u r) sound is fine = sound_with_members p _ sound
changes_keep_policies_sound p (amend.Relate rho u v) sound is fine =
    sound_with_pairs p rho _ sound
    (all_inserted (length p.roster.users) (pairs_of p.relations rho) u v (pairs_of_users (length p.roster.users) p.relations rho sound.related) is.first
    is.second)
changes_keep_policies_sound p (amend.Unrelate rho u v) sound is fine =
    sound_with_pairs p rho _ sound
    (all_removed (length p.roster.users) (pairs_of p.relations rho) u v (pairs_of_users (length p.roster.users) p.relations rho sound.related))
changes_keep_policies_sound p (amend.Permit f r s) sound is fine =
    sound_with_flow p f _ sound is.flow (sound_permitted (length p.roster.roles) (length p.relations) r s (flow_at p f) is.role (sound.flows f is.flow))
changes_keep_policies_sound p (amend.Forbid f r s) sound is fine =
    sound_with_flow p f _ sound is.flow (sound_forbidden (length p.roster.roles) (length p.relations) r s (flow_at p f) (sound.flows f is.flow))
changes_keep_policies_sound p (amend.Retire f) sound is fine =
    let old = sound.flows f is in
    sound_with_flow p f (record (flow_at p f) { retired = true }) sound is (record { permitted = old.permitted; few = old.few; ruled = old.ruled })

-- ---- what an edit finds

-- P holds of what was read, if it was
abbrev pub HoldsOf : {A F : Type 0} → (A → Type 0) → Result A F → Type 0
HoldsOf P (Ok x) = P x
HoldsOf P (Err fault) = Unit {0}

pub then_holds : {A B F : Type 0} (P : A → Type 0) (Q : B → Type 0) (r : Result A F) (f : A → Result B F) → HoldsOf P r →
    ((x : A) → P x → HoldsOf Q (f x)) → HoldsOf Q (r >>= f)
then_holds P Q r f holds each = grind arith

pub always : {A F : Type 0} (r : Result A F) → HoldsOf (λ _. Unit {0}) r
always r = grind arith

fine : {F : Type 0} (r : Result (Unit {0}) F) {s : Result (Unit {0}) F} → r ≡ s → HoldsOf (λ _. s ≡ Ok tt) r
fine r same = grind arith

-- the place of a name in a list is one of its places
below : (names : List (List ℕ)) (name : List ℕ) (fault : EditCause) → HoldsOf (λ i. i < length names) (or_fault (place_of names name) fault)
below names name fault = grind (arith, position-Some)

-- what is found by a name in a list
found_in : (P : Amendment → Type 0) (n : ℕ) (names : List (List ℕ)) (name : List ℕ) (fault : EditCause) (next : ℕ → Result Amendment EditCause) →
    length names ≡ n →
    ((i : ℕ) → i < n → HoldsOf P (next i)) → HoldsOf P (or_fault (place_of names name) fault >>= next)
found_in P n names name fault next same holds = grind (arith, then_holds, below)

-- a user and a role, two users, and a workflow with a step and a role, by their names
abbrev a_member : PolicyShape → List ℕ → List ℕ → (ℕ → ℕ → Amendment) → Result Amendment EditCause
a_member p user role change =
    or_fault (place_of p.roster.users user) (Unknown User) >>= (λ u. or_fault (place_of p.roster.roles role) (Unknown Role) >>= (λ r. Ok (change u r)))

abbrev a_pair : PolicyShape → List ℕ → List ℕ → (ℕ → ℕ → Amendment) → Result Amendment EditCause
a_pair p first second change =
    or_fault (place_of p.roster.users first) (Unknown User) >>= (λ u. or_fault (place_of p.roster.users second) (Unknown User) >>= (λ v. Ok (change u v)))

abbrev a_permit : PolicyShape → List ℕ → List ℕ → List ℕ → (ℕ → ℕ → ℕ → Amendment) → Result Amendment EditCause
a_permit p flow role step change =
    or_fault (place_of p.flow_names flow) (Unknown Flow) >>= (λ f. or_fault (place_of (flow_at p f).flow.steps step) (Unknown Step) >>= (λ s.
    or_fault (place_of p.roster.roles role) (Unknown Role) >>= (λ r. Ok (change f r s))))

member_there : (p : PolicyShape) (user role : List ℕ) (change : ℕ → ℕ → Amendment) → ((u r : ℕ) → AreMember p u r → IsKnownChange p (change u r)) →
    HoldsOf (IsKnownChange p) (a_member p user role change)
member_there p user role change is = grind (arith, found_in)

pair_there : (p : PolicyShape) (first second : List ℕ) (change : ℕ → ℕ → Amendment) → ((u v : ℕ) → ArePair p u v → IsKnownChange p (change u v)) →
    HoldsOf (IsKnownChange p) (a_pair p first second change)
pair_there p first second change is = grind (arith, found_in)

permit_there : (p : PolicyShape) (flow role step : List ℕ) (change : ℕ → ℕ → ℕ → Amendment) → length p.flow_names ≡ length p.flows →
    ((f r s : ℕ) → ArePermit p f r s → IsKnownChange p (change f r s)) →
    HoldsOf (IsKnownChange p) (a_permit p flow role step change)
permit_there p flow role step change named is = grind (arith, found_in)

-- the numbers that an edit finds are those of the policy
found_there : (p : PolicyShape) (e : Edit) → length p.flow_names ≡ length p.flows → HoldsOf (IsKnownChange p) (found p e)
found_there p e named = grind (arith, found_in, member_there, then_holds, always, pair_there, permit_there)

-- a change that an edit makes names what is there, and has no fault
pub amendment_found : (p : PolicyShape) (by : List ℕ) (e : Edit) (a : Amendment) → IsSoundPolicy p → amendment_of p by e ≡ Ok a → IsKnownChange p a ×
    (allowed p a ≡ Ok tt)
amendment_found p by e a sound is = grind (arith, then_holds, always, found_there, fine)
