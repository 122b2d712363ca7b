-- The policy that a file is is sound.
use Rattle.std.proofs.Common.{◌≡◌, ℕ, ◌+◌, ◌<◌, ◌≤◌, List, [], ◌∷◌, ◌++◌, length, Ok, refl, arith, length-append}
use Rattle.std.specs.Prelude.{codes, IsTrue}
use Rattle.std.specs.FinSet as set
use Rattle.std.proofs.lemmas.List.Elements.{All-nil}
use Rattle.wf_names.specs.declared.limits.TheConstants.{FLOW_LIMIT, ROLE_LIMIT, USER_LIMIT}
use Rattle.wf_names.specs.Names.{is_name}
use Rattle.toml.specs.Data.{Data, Members}
use Rattle.rbac_state.specs.Laws.Rosters.{RosterShape}
use Rattle.policy_book.specs.Laws.Shapes.{PolicyShape}
use Rattle.basics.specs.Laws.Reading.{check}
use Rattle.policy_reader.specs.declared.fault.PolicyKind.TheVariants as kind
use Rattle.policy_reader.specs.declared.fault.PolicyPart.TheVariants.{File, Roles, Users}
use Rattle.policy_reader.specs.declared.format.Format.{Format}
use Rattle.policy_reader.specs.Faults.{fault}
use Rattle.policy_reader.specs.Formats.{file_keys}
use Rattle.policy_reader.specs.Laws.Grammars.{today}
use Rattle.policy_reader.specs.Laws.{PolicyOfFileIsSound}
use Rattle.policy_reader.specs.Parts.{array_in, entries, entries_at, items, items_at, name_in, named_in, no_others, number_in, once, said}
use Rattle.policy_reader.specs.Relations.{relations_of}
use Rattle.policy_reader.specs.Rosters.{next_held, next_role, next_user, roles_of, roster_of, some_user_has}
use Rattle.policy_reader.specs.Flows.{flows_in}
use Rattle.policy_reader.specs.Files.{admin_of, document_in, format_of, policy_by, policy_in, related_over, rest_of, staff_of, start_named, start_of}
use Rattle.policy_reader.specs.Files.{start_over, start_with}
use Rattle.policy_reader.proofs.Gets.{AreFew, Gets, after, and_so, each_gets, few_entries, few_items, formed, got, next_few, numbered, push_form}
use Rattle.policy_reader.proofs.GetsFlows.{AreRelations, IsReadPolicy, flows_read, related, relations_read}

roles_read : (file : Members) → Gets (λ roles. AreFew ROLE_LIMIT roles 0) (roles_of file)
unfolding roles_of next_role
roles_read file =
    and_so (λ roles. length (items roles) ≤ ROLE_LIMIT) (λ roles. AreFew ROLE_LIMIT roles 0) (items_at Roles 0 ROLE_LIMIT (codes "roles") file) _
    (few_items Roles 0 ROLE_LIMIT (codes "roles") file)
    (λ roles within. each_gets (λ names ds. AreFew ROLE_LIMIT names (length ds)) next_role
    (λ names d ds h. next_few Roles (length names) ROLE_LIMIT (length ds) names d (h.0, omega (arith, h.1)))
    [] (items roles) (All-nil (λ n. IsTrue (is_name n)), omega (arith, within)))

-- these roles, and users with names, and so many more at most
record IsRoster (roles : List (List ℕ)) (r : RosterShape) (left : ℕ) : Type 0 where
  pub same : r.roles ≡ roles
  pub users : AreFew USER_LIMIT r.users left

held_read : (u left : ℕ) (roles : List (List ℕ)) (r : RosterShape) (d : Data) → IsRoster roles r left → Gets (λ out. IsRoster roles out left) (next_held u r d)
unfolding next_held
held_read u left roles r d h =
    after (λ out. IsRoster roles out left) (named_in Users u r.roles d) _
    (λ n. after (λ out. IsRoster roles out left) (once Users u (said d) (set.contains r.members (u, n)))
    (λ _. Ok (record r { members = set.insert r.members (u, n) })) (λ _. record { same = h.same; users = h.users }))

user_read : (left : ℕ) (roles : List (List ℕ)) (r : RosterShape) (entry : List ℕ × Data) → IsRoster roles r (left + 1)
    → Gets (λ out. IsRoster roles out left) (next_user r entry)
unfolding next_user
user_read left roles r entry h =
    let u = length r.users in
    and_so (λ _. IsTrue (is_name entry.0)) (λ out. IsRoster roles out left) (name_in Users u entry.0) _ (formed Users u entry.0)
    (λ _ here. after (λ out. IsRoster roles out left) (array_in Users u entry.1) _
    (λ held.
    let longer : length (r.users ++ entry.0 ∷ []) ≡ length r.users + 1 = length-append r.users (entry.0 ∷ []) in
    each_gets (λ out _. IsRoster roles out left) (next_held u) (λ out d _ k. held_read u left roles out d k) (record r { users = r.users ++ entry.0 ∷ [] })
    (items held)
    (record { same = h.same; users = (push_form r.users entry.0 h.users.0 here, omega (arith, longer, h.users.1)) })))

roster_read : (roles : List (List ℕ)) (file : Members) → Gets (λ r. IsRoster roles r 0) (roster_of today roles file)
unfolding roster_of
roster_read roles file =
    and_so (λ users. length (entries users) ≤ USER_LIMIT) (λ r. IsRoster roles r 0) (entries_at Users 0 USER_LIMIT (codes "users") file) _
    (few_entries Users 0 USER_LIMIT (codes "users") file)
    (λ users within. each_gets (λ r es. IsRoster roles r (length es)) next_user
    (λ r e es h. user_read (length es) roles r e (record { same = h.same; users = (h.users.0, omega (arith, h.users.1)) }))
    (record { users = []; roles = roles; members = set.empty }) (entries users)
    (record { same = refl; users = (All-nil (λ n. IsTrue (is_name n)), omega (arith, within)) }))

-- a roster as it is read, and the number of one of its roles
record IsStaff (staff : ℕ × RosterShape) : Type 0 where
  pub admin : staff.0 < length staff.1.roles
  pub users : AreFew USER_LIMIT staff.1.users 0
  pub roles : AreFew ROLE_LIMIT staff.1.roles 0

staff_read : (roles : List (List ℕ)) (name : List ℕ) (file : Members) → AreFew ROLE_LIMIT roles 0 → Gets IsStaff (staff_of today roles name file)
unfolding staff_of
staff_read roles name file h =
    and_so (λ n. n < length roles) IsStaff (number_in File 0 roles name) _ (numbered File 0 roles name)
    (λ admin lt. and_so (λ r. IsRoster roles r 0) IsStaff (roster_of today roles file) (λ r. Ok (admin, r)) (roster_read roles file)
    (λ r k. record { admin = rw (k.same) lt; users = k.users; roles = rw (k.same) h }))

related_read : (roster : RosterShape) (admin : ℕ) (file : Members) → Gets (AreRelations (length roster.users)) (related_over roster admin file)
unfolding related_over
related_read roster admin file =
    after (AreRelations (length roster.users)) (check (some_user_has roster admin) (fault kind.NoAdmin Users 0)) (λ _. relations_of roster.users file)
    (λ _. relations_read roster.users file)

-- a policy that waits for its workflows
abbrev IsStart : PolicyShape → Type 0
IsStart p = (left : ℕ) → left ≤ FLOW_LIMIT → IsReadPolicy p left

over_read : (roster : RosterShape) (admin : ℕ) (file : Members) → IsStaff (admin, roster) → Gets IsStart (start_over roster admin file)
unfolding start_over
over_read roster admin file h =
    and_so (AreRelations (length roster.users)) IsStart (related_over roster admin file)
    (λ relations. Ok (record { roster = roster; relations = relations; flow_names = []; flows = []; admin = admin })) (related_read roster admin file)
    (λ relations k left le. record {
      users = omega (arith, h.users.1);
      roles = omega (arith, h.roles.1);
      admin = h.admin;
      named = refl;
      few = omega (arith, le);
      related = related (length roster.users) relations k;
      flows = λ f lt. absurd (omega (arith, lt));
      user_names = h.users.0;
      role_names = h.roles.0;
      relation_names = k.names;
      flow_names = All-nil (λ n. IsTrue (is_name n));
    })

with_read : (roles : List (List ℕ)) (name : List ℕ) (file : Members) → AreFew ROLE_LIMIT roles 0 → Gets IsStart (start_with today roles name file)
unfolding start_with
with_read roles name file h =
    and_so IsStaff IsStart (staff_of today roles name file) (λ staff. start_over staff.1 staff.0 file) (staff_read roles name file h)
    (λ staff k. over_read staff.1 staff.0 file k)

start_read : (file : Members) → Gets IsStart (start_of today file)
unfolding start_of start_named
start_read file =
    after IsStart (admin_of file) (λ name. start_named today name file)
    (λ name. and_so (λ roles. AreFew ROLE_LIMIT roles 0) IsStart (roles_of file) (λ roles. start_with today roles name file) (roles_read file)
    (λ roles h. with_read roles name file h))

rest_read : (format : Format) (p : PolicyShape) (file : Members) → IsStart p → Gets (λ q. IsReadPolicy q 0) (rest_of today format p file)
unfolding rest_of
rest_read format p file h =
    and_so (λ q. IsReadPolicy q 0) (λ q. IsReadPolicy q 0) (flows_in today format p file) _ (flows_read format p file h)
    (λ q k. after (λ out. IsReadPolicy out 0) (no_others File 0 (file_keys format) file) (λ _. Ok q) (λ _. k))

document_read : (file : Members) → Gets (λ q. IsReadPolicy q 0) (policy_in today file)
unfolding policy_in
document_read file =
    after (λ q. IsReadPolicy q 0) (format_of today file) _
    (λ format. and_so IsStart (λ q. IsReadPolicy q 0) (start_of today file) (λ start. rest_of today format start file) (start_read file)
    (λ start h. rest_read format start file h))

bytes_read : (bytes : List ℕ) → Gets (λ q. IsReadPolicy q 0) (policy_by today bytes)
unfolding policy_by
bytes_read bytes = after (λ q. IsReadPolicy q 0) (document_in bytes) (policy_in today) document_read

pub policy_of_file_is_sound : PolicyOfFileIsSound
policy_of_file_is_sound bytes p e =
    let h = got (λ q. IsReadPolicy q 0) (policy_by today bytes) p (bytes_read bytes) e in
    record {
      sound = record {
        users = h.users;
        roles = h.roles;
        admin = h.admin;
        named = h.named;
        few = omega (arith, h.few);
        related = h.related;
        flows = λ f lt. (h.flows f lt).sound;
      };
      steps = λ f lt. (h.flows f lt).few;
      users = h.user_names;
      roles = h.role_names;
      relations = h.relation_names;
      flow_names = h.flow_names;
      step_names = λ f lt. (h.flows f lt).names;
    }
