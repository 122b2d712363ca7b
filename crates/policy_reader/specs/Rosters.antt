-- The roles and the users of a policy file.
use Rattle.std.specs.Prelude.{codes, ℕ, List, [], ◌∷◌, ◌++◌, length, Bool, Ok}
use Rattle.std.specs.FinSet as set
use Rattle.toml.specs.Data.{Data, Members}
use Rattle.wf_names.specs.declared.limits.TheConstants.{ROLE_LIMIT}
use Rattle.policy_reader.specs.Laws.Grammars.{Grammar}
use Rattle.rbac_state.specs.Laws.Rosters.{RosterShape}
use Rattle.policy_book.specs.Policies.{any_below}
use Rattle.basics.specs.Laws.Reading.{◌>>=◌, each}
use Rattle.policy_reader.specs.declared.fault.PolicyPart.TheVariants.{Roles, Users}
use Rattle.policy_reader.specs.Faults.{Reading}
use Rattle.policy_reader.specs.Parts.{items, entries, array_in, items_at, entries_at, name_in}
use Rattle.policy_reader.specs.Parts.{named_in, said, once, next_name}

-- the next role; its faults carry its own number
unfoldable pub next_role : List (List ℕ) → Data → Reading (List (List ℕ))
next_role so_far d = next_name Roles (length so_far) so_far d

-- the roles: an array of distinct names
unfoldable pub roles_of : Members → Reading (List (List ℕ))
roles_of file = do
  roles ← items_at Roles 0 ROLE_LIMIT (codes "roles") file
  each next_role [] (items roles)

-- the next role that the user u holds
unfoldable pub next_held : ℕ → RosterShape → Data → Reading RosterShape
next_held u so_far d = do
  r ← named_in Users u so_far.roles d
  _ ← once Users u (said d) (set.contains so_far.members (u, r))
  Ok (record so_far { members = set.insert so_far.members (u, r) })

-- the next user: a name, and an array of distinct roles
unfoldable pub next_user : RosterShape → List ℕ × Data → Reading RosterShape
next_user so_far entry = do
  let u = length so_far.users
  _ ← name_in Users u entry.0
  held ← array_in Users u entry.1
  each (next_held u) (record so_far { users = so_far.users ++ entry.0 ∷ [] }) (items held)

-- the users: a table of them by name
unfoldable pub roster_of : Grammar → List (List ℕ) → Members → Reading RosterShape
roster_of g roles file = do
  users ← entries_at Users 0 g.users (codes "users") file
  each next_user (record { users = []; roles = roles; members = set.empty }) (entries users)

-- some user holds the role
abbrev pub some_user_has : RosterShape → ℕ → Bool
some_user_has roster r = any_below (length roster.users) (λ u. set.contains roster.members (u, r))
