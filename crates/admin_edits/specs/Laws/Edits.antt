-- Edits of a policy by its administrators.
use Rattle.std.specs.Prelude.{ℕ, zero, suc, ◌==◌, ◌&&◌, nat_lt, not, Bool, true, false, ◌∷◌, []}
use Rattle.std.specs.Prelude.{◌++◌, List, length, Option, None, Some, is_some, Result, Ok, Err}
use Rattle.std.specs.FinSet as set
use Rattle.basics.specs.Laws.Reading.{◌>>=◌, check, or_fault}
use Rattle.wf_names.specs.Table.{place_of}
use Rattle.wf_names.specs.declared.limits.TheConstants.{USER_LIMIT}
use Rattle.basics.specs.Laws.Pairs.{Pairs}
use Rattle.rbac_state.specs.Laws.Rosters.{RosterShape, has_role}
use Rattle.user_relations.specs.Laws.Relations.{known_names, pairs_of}
use Rattle.user_relations.specs.Kinds.{relate_fault, unrelate_fault}
use Rattle.user_relations.specs.declared.RelationFault.{RelationFault}
use Rattle.user_relations.specs.declared.RelationFault.TheVariants as relations
use Rattle.policy_book.specs.Laws.Shapes.{PolicyShape}
use Rattle.policy_book.specs.Policies.{any_below, flow_at, with_flow, with_pairs, with_permits}
use Rattle.policy_book.specs.Policies.{with_roster}
use Rattle.wf_talk.specs.declared.edit.Edit.{Edit}
use Rattle.wf_talk.specs.declared.edit.Edit.TheVariants as edit
use Rattle.wf_talk.specs.declared.edit.Missing.TheVariants.{Flow, Step, Relation, User, Role}
use Rattle.admin_edits.specs.declared.amendment.Amendment.{Amendment}
use Rattle.admin_edits.specs.declared.amendment.Amendment.TheVariants as amend
use Rattle.admin_edits.specs.declared.fault.EditCause.{EditCause}
use Rattle.admin_edits.specs.declared.fault.EditCause.TheVariants.{NotAdmin, Unknown, Fixed}
use Rattle.admin_edits.specs.declared.fault.EditCause.TheVariants.{Already, Absent, Full, LastAdmin}
use Rattle.basics.specs.declared.fault.Fault.{Fault}
use Rattle.basics.specs.declared.fault.Fault.TheVariants as fault

-- there is the user, and the user has the admin role
abbrev pub administers : PolicyShape → Option ℕ → Bool
administers p None = false
administers p (Some u) = has_role p.roster u p.admin

-- the name is that of a user who has the admin role
abbrev pub is_admin : PolicyShape → List ℕ → Bool
is_admin p name = administers p (place_of p.roster.users name)

-- what is changed, with numbers in place of names, or the first name that the policy does not have
abbrev pub found : PolicyShape → Edit → Result Amendment EditCause
found p (edit.AddUser user) = Ok (amend.AddUser user)
found p (edit.Leave user) = do
  u ← or_fault (place_of p.roster.users user) (Unknown User)
  Ok (amend.Leave u)
found p (edit.Enrol role user) = do
  u ← or_fault (place_of p.roster.users user) (Unknown User)
  r ← or_fault (place_of p.roster.roles role) (Unknown Role)
  Ok (amend.Enrol u r)
found p (edit.Dismiss role user) = do
  u ← or_fault (place_of p.roster.users user) (Unknown User)
  r ← or_fault (place_of p.roster.roles role) (Unknown Role)
  Ok (amend.Dismiss u r)
found p (edit.Relate first relation second) = do
  rho ← or_fault (place_of (known_names p.relations) relation) (Unknown Relation)
  u ← or_fault (place_of p.roster.users first) (Unknown User)
  v ← or_fault (place_of p.roster.users second) (Unknown User)
  Ok (amend.Relate rho u v)
found p (edit.Unrelate first relation second) = do
  rho ← or_fault (place_of (known_names p.relations) relation) (Unknown Relation)
  u ← or_fault (place_of p.roster.users first) (Unknown User)
  v ← or_fault (place_of p.roster.users second) (Unknown User)
  Ok (amend.Unrelate rho u v)
found p (edit.Permit flow role step) = do
  f ← or_fault (place_of p.flow_names flow) (Unknown Flow)
  s ← or_fault (place_of (flow_at p f).flow.steps step) (Unknown Step)
  r ← or_fault (place_of p.roster.roles role) (Unknown Role)
  Ok (amend.Permit f r s)
found p (edit.Forbid flow role step) = do
  f ← or_fault (place_of p.flow_names flow) (Unknown Flow)
  s ← or_fault (place_of (flow_at p f).flow.steps step) (Unknown Step)
  r ← or_fault (place_of p.roster.roles role) (Unknown Role)
  Ok (amend.Forbid f r s)
found p (edit.Retire flow) = do
  f ← or_fault (place_of p.flow_names flow) (Unknown Flow)
  Ok (amend.Retire f)

-- a user has some role
abbrev pub has_some_role : RosterShape → ℕ → Bool
has_some_role roster u = any_below (length roster.roles) (λ r. has_role roster u r)

-- somebody but this user has a role
abbrev pub has_other : RosterShape → ℕ → ℕ → Bool
has_other roster r u = any_below (length roster.users) (λ v. not (v == u) && has_role roster v r)

-- nobody but this user has the admin role
abbrev pub is_last_admin : PolicyShape → ℕ → Bool
is_last_admin p u = has_role p.roster u p.admin && not (has_other p.roster p.admin u)

-- why a pair is not put into a relation or taken out of it, as a cause against an edit; want of
-- memory is none
abbrev pub pair_fault : Option RelationFault → Option EditCause
pair_fault None = None
pair_fault (Some relations.Fixed) = Some Fixed
pair_fault (Some relations.Already) = Some Already
pair_fault (Some relations.Absent) = Some Absent
pair_fault (Some relations.Full) = Some Full
pair_fault (Some relations.NoMemory) = None

-- the fault, if there is one
abbrev pub unless_fault : Option EditCause → Result (Unit {0}) EditCause
unless_fault None = Ok tt
unless_fault (Some fault) = Err fault

-- the first fault of a change whose names are known
abbrev pub allowed : PolicyShape → Amendment → Result (Unit {0}) EditCause
allowed p (amend.AddUser name) = do
  _ ← check (not (is_some (place_of p.roster.users name))) Already
  check (nat_lt (length p.roster.users) USER_LIMIT) Full
allowed p (amend.Leave u) = do
  _ ← check (has_some_role p.roster u) Absent
  check (not (is_last_admin p u)) LastAdmin
allowed p (amend.Enrol u r) = check (not (has_role p.roster u r)) Already
allowed p (amend.Dismiss u r) = do
  _ ← check (has_role p.roster u r) Absent
  check (not (r == p.admin && is_last_admin p u)) LastAdmin
allowed p (amend.Relate rho u v) = unless_fault (pair_fault (relate_fault p.relations rho u v))
allowed p (amend.Unrelate rho u v) = unless_fault (pair_fault (unrelate_fault p.relations rho u v))
allowed p (amend.Permit f r s) =
    check (not (set.contains (flow_at p f).flow.permits (r, s))) Already
allowed p (amend.Forbid f r s) = check (set.contains (flow_at p f).flow.permits (r, s)) Absent
allowed p (amend.Retire f) = check (not (flow_at p f).retired) Already

-- what an edit changes, or its first fault
abbrev pub amendment_of : PolicyShape → List ℕ → Edit → Result Amendment EditCause
amendment_of p by e = do
  _ ← check (is_admin p by) NotAdmin
  a ← found p e
  _ ← allowed p a
  Ok a

-- the fault, if there is one
abbrev pub fault_if_any : Result Amendment EditCause → Option (Fault EditCause)
fault_if_any (Ok a) = None
fault_if_any (Err cause) = Some (fault.Cause cause)

-- the first fault of an edit, if it has one
abbrev pub edit_cause : PolicyShape → List ℕ → Edit → Option (Fault EditCause)
edit_cause p by e = fault_if_any (amendment_of p by e)

-- the memberships without those of a user in the first n roles
abbrev pub without_roles : ℕ → ℕ → Pairs → Pairs
without_roles zero u members = members
without_roles (suc n) u members = set.remove (without_roles n u members) (u, n)

-- a policy with one change; all else stays
abbrev pub amended : PolicyShape → Amendment → PolicyShape
amended p (amend.AddUser name) =
    with_roster p (record p.roster { users = p.roster.users ++ name ∷ [] })
amended p (amend.Leave u) =
    with_roster p
    (record p.roster { members = without_roles (length p.roster.roles) u p.roster.members })
amended p (amend.Enrol u r) =
    with_roster p (record p.roster { members = set.insert p.roster.members (u, r) })
amended p (amend.Dismiss u r) =
    with_roster p (record p.roster { members = set.remove p.roster.members (u, r) })
amended p (amend.Relate rho u v) = with_pairs p rho (set.insert (pairs_of p.relations rho) (u, v))
amended p (amend.Unrelate rho u v) = with_pairs p rho (set.remove (pairs_of p.relations rho) (u, v))
amended p (amend.Permit f r s) = with_permits p f (set.insert (flow_at p f).flow.permits (r, s))
amended p (amend.Forbid f r s) = with_permits p f (set.remove (flow_at p f).flow.permits (r, s))
amended p (amend.Retire f) = with_flow p f (record (flow_at p f) { retired = true })

-- a policy with an edit that has no fault; where it has one, as it is
abbrev pub edited_where : PolicyShape → Result Amendment EditCause → PolicyShape
edited_where p (Ok a) = amended p a
edited_where p (Err fault) = p

abbrev pub edited_policy : PolicyShape → List ℕ → Edit → PolicyShape
edited_policy p by e = edited_where p (amendment_of p by e)
