-- Every change leaves a roster sound.
use Rattle.std.proofs.Common.{◌≡◌, ℕ, ◌<◌, ◌≤◌, List, [], length, arith}
use Rattle.std.specs.Prelude.{Result, OnOk, OnErr}
use Rattle.std.specs.FinSet as set
use Rattle.basics.specs.Laws.Pairs.{Pairs, AllPairs}
use Rattle.basics.specs.PairLaws.{all_empty}
use Rattle.wf_names.specs.declared.limits.TheConstants.{ROLE_LIMIT}
use Rattle.rbac_state.specs.declared.RosterFault.{RosterFault}
use Rattle.rbac_state.specs.Laws.Rosters.{RosterShape, IsSoundRoster}

pub sound_new : (roles : List (List ℕ)) → length roles ≤ ROLE_LIMIT → IsSoundRoster (record { users = []; roles = roles; members = set.empty })
sound_new roles few = record { users = omega arith; roles = few; members = all_empty _ }

-- a change of who has which role, which was made or not
pub sound_members : (roster : RosterShape) (made m : Pairs) (result : Result (Unit {0}) RosterFault)
    → AllPairs (λ u r. (u < length roster.users) × (r < length roster.roles)) made → OnOk result (m ≡ made) → OnErr result (m ≡ roster.members) →
    IsSoundRoster roster → IsSoundRoster (record roster { members = m })
sound_members roster made m result within changed unchanged s = grind arith
