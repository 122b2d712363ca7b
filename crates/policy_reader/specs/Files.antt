-- The policy that a file is.
use Rattle.std.specs.Prelude.{codes, ℕ, ◌==◌, List, [], length, if◌then◌else◌, Ok, Err}
use Rattle.std.specs.Str.Lossy.{utf8_valid_len}
use Rattle.toml.specs.Data.{Members, as_integer}
use Rattle.toml.specs.Parse.{parse_document}
use Rattle.rbac_state.specs.Laws.Rosters.{RosterShape}
use Rattle.user_relations.specs.Laws.Relations.{RelationShape}
use Rattle.policy_book.specs.Laws.Shapes.{PolicyShape}
use Rattle.basics.specs.Laws.Reading.{◌>>=◌, or_fault, check}
use Rattle.policy_reader.specs.declared.fault.PolicyPart.TheVariants.{File, Users}
use Rattle.policy_reader.specs.declared.fault.PolicyKind.TheVariants as kind
use Rattle.policy_reader.specs.Faults.{Reading, fault}
use Rattle.policy_reader.specs.declared.format.Format.{Format}
use Rattle.policy_reader.specs.Formats.{file_keys}
use Rattle.policy_reader.specs.Laws.Grammars.{Grammar, today}
use Rattle.policy_reader.specs.Parts.{value_at, text_name_in, number_in, no_others}
use Rattle.policy_reader.specs.Rosters.{roles_of, roster_of, some_user_has}
use Rattle.policy_reader.specs.Relations.{relations_of}
use Rattle.policy_reader.specs.Flows.{flows_in}

-- the TOML document that a text is
abbrev pub document_in_text : List ℕ → Reading Members
document_in_text text = or_fault (parse_document text) (fault kind.Syntax File 0)

-- the TOML document that bytes are, which have to be UTF-8
unfoldable pub document_in : List ℕ → Reading Members
document_in bytes = if utf8_valid_len bytes == length bytes then document_in_text bytes else Err
    (fault kind.Syntax File 0)

-- the format that a file names
unfoldable pub format_of : Grammar → Members → Reading Format
format_of g file = do
  d ← value_at File 0 (codes "format") file
  number ← or_fault (as_integer d) (fault kind.Shape File 0)
  or_fault (g.format number) (fault kind.Version File 0)

-- the name of the admin role
unfoldable pub admin_of : Members → Reading (List ℕ)
admin_of file = do
  d ← value_at File 0 (codes "admin") file
  text_name_in File 0 d

-- the relations, where some user has the admin role
unfoldable pub related_over : RosterShape → ℕ → Members → Reading (List RelationShape)
related_over roster admin file = do
  _ ← check (some_user_has roster admin) (fault kind.NoAdmin Users 0)
  relations_of roster.users file

-- a policy without workflows over a roster
unfoldable pub start_over : RosterShape → ℕ → Members → Reading PolicyShape
start_over roster admin file = do
  relations ← related_over roster admin file
  Ok (record { roster = roster; relations = relations; flow_names = []; flows = []; admin = admin })

-- the admin role, which has this name, and the users with these roles
unfoldable pub staff_of : Grammar → List (List ℕ) → List ℕ → Members → Reading (ℕ × RosterShape)
staff_of g roles name file = do
  admin ← number_in File 0 roles name
  roster ← roster_of g roles file
  Ok (admin, roster)

-- a policy without workflows with these roles, of which the named one is that of the admins
unfoldable pub start_with : Grammar → List (List ℕ) → List ℕ → Members → Reading PolicyShape
start_with g roles name file = do
  staff ← staff_of g roles name file
  start_over staff.1 staff.0 file

-- the same with the roles of the document
unfoldable pub start_named : Grammar → List ℕ → Members → Reading PolicyShape
start_named g name file = do
  roles ← roles_of file
  start_with g roles name file

-- what a document says after its format and before its workflows
unfoldable pub start_of : Grammar → Members → Reading PolicyShape
start_of g file = do
  name ← admin_of file
  start_named g name file

-- the workflows, and no other key than those of the format
unfoldable pub rest_of : Grammar → Format → PolicyShape → Members → Reading PolicyShape
rest_of g format start file = do
  policy ← flows_in g format start file
  _ ← no_others File 0 (file_keys format) file
  Ok policy

-- the policy in a document
unfoldable pub policy_in : Grammar → Members → Reading PolicyShape
policy_in g file = do
  format ← format_of g file
  start ← start_of g file
  rest_of g format start file

-- the policy that the bytes of a file are by a grammar, or their first fault
unfoldable pub policy_by : Grammar → List ℕ → Reading PolicyShape
policy_by g bytes = document_in bytes >>= policy_in g

-- the policy that the bytes of a file are, or their first fault
abbrev pub policy_of_file : List ℕ → Reading PolicyShape
policy_of_file bytes = policy_by today bytes
