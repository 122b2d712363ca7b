use Rattle.std.proofs.Common.{◌≡◌, Bool, true, false, [], ◌∷◌, refl}
use Rattle.std.specs.Prelude.{if◌then◌else◌}
use Rattle.wf_talk.specs.declared.edit.Edit.{Edit}
use Rattle.wf_talk.specs.declared.edit.Edit.TheVariants as edit
use Rattle.wire_json.specs.declared.word.EditWord.TheVariants as word
use Rattle.wire_json.specs.Objects.{data_of}
use Rattle.wire_json.specs.Requests.{Row, role, user}
use Rattle.wire_json.specs.Words.{row_of_edit}
use Rattle.wire_json.proofs.NeededKeys.{first_missing, second_missing, two_read}
use Rattle.wire_json.proofs.change.member_in.Goals as goal

abbrev row_by : Bool → Row Edit
row_by enrols = row_of_edit (if enrols then word.Enrol else word.Dismiss)

keys_of : (enrols : Bool) → (row_by enrols).keys ≡ role ∷ user ∷ []
keys_of true = refl
keys_of false = refl

pub returns-in_err-role : goal.returns-in_err-role
returns-in_err-role c =
    first_missing (row_by c.args.enrols) c.from_residual.result (data_of c.args.object.now) role _ _ (keys_of c.args.enrols) refl
    c.in_err-role.ensures c.from_residual.ensures.1

pub returns-in_err-user : goal.returns-in_err-user
returns-in_err-user c =
    second_missing (row_by c.args.enrols) c.from_residual-in_err-user.result (data_of c.args.object.now) role user _ _ _ (keys_of c.args.enrols) refl refl
    c.in_ok-role.ensures c.in_err-user.ensures c.from_residual-in_err-user.ensures.1

pub returns-then-enrols : goal.returns-then-enrols
returns-then-enrols c =
    two_read (row_by c.args.enrols) (data_of c.args.object.now) role user _ _ (λ x y. edit.Enrol x y) (keys_of c.args.enrols)
    (rw c.if-enrols.true refl) refl refl c.in_ok-role.ensures c.in_ok-user.ensures

pub returns-else-enrols : goal.returns-else-enrols
returns-else-enrols c =
    two_read (row_by c.args.enrols) (data_of c.args.object.now) role user _ _ (λ x y. edit.Dismiss x y) (keys_of c.args.enrols)
    (rw c.if-enrols.false refl) refl refl c.in_ok-role.ensures c.in_ok-user.ensures
