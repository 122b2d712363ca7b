use Rattle.std.proofs.Common.{◌≡◌, Bool, true, false, [], ◌∷◌, refl}
use Rattle.std.specs.Prelude.{if◌then◌else◌}
use Rattle.wf_talk.specs.declared.edit.Edit.{Edit}
use Rattle.wf_talk.specs.declared.edit.Edit.TheVariants as edit
use Rattle.wire_json.specs.declared.word.EditWord.TheVariants as word
use Rattle.wire_json.specs.Objects.{data_of}
use Rattle.wire_json.specs.Requests.{Row, flow, role, step}
use Rattle.wire_json.specs.Words.{row_of_edit}
use Rattle.wire_json.proofs.NeededKeys.{first_missing, second_missing, third_missing, three_read}
use Rattle.wire_json.proofs.change.permission_in.Goals as goal

abbrev row_by : Bool → Row Edit
row_by permits = row_of_edit (if permits then word.Permit else word.Forbid)

keys_of : (permits : Bool) → (row_by permits).keys ≡ flow ∷ role ∷ step ∷ []
keys_of true = refl
keys_of false = refl

pub returns-in_err-flow : goal.returns-in_err-flow
returns-in_err-flow c =
    first_missing (row_by c.args.permits) c.from_residual.result (data_of c.args.object.now) flow _ _ (keys_of c.args.permits) refl
    c.in_err-flow.ensures c.from_residual.ensures.1

pub returns-in_err-role : goal.returns-in_err-role
returns-in_err-role c =
    second_missing (row_by c.args.permits) c.from_residual-in_err-role.result (data_of c.args.object.now) flow role _ _ _
    (keys_of c.args.permits) refl refl c.in_ok-flow.ensures c.in_err-role.ensures c.from_residual-in_err-role.ensures.1

pub returns-in_err-step : goal.returns-in_err-step
returns-in_err-step c =
    third_missing (row_by c.args.permits) c.from_residual-in_err-step.result (data_of c.args.object.now) flow role step _ _ _
    (keys_of c.args.permits) refl refl refl c.in_ok-flow.ensures c.in_ok-role.ensures c.in_err-step.ensures c.from_residual-in_err-step.ensures.1

pub returns-then-permits : goal.returns-then-permits
returns-then-permits c =
    three_read (row_by c.args.permits) (data_of c.args.object.now) flow role step _ _ _ (λ x y z. edit.Permit x y z) (keys_of c.args.permits)
    (rw c.if-permits.true refl) refl refl refl c.in_ok-flow.ensures c.in_ok-role.ensures c.in_ok-step.ensures

pub returns-else-permits : goal.returns-else-permits
returns-else-permits c =
    three_read (row_by c.args.permits) (data_of c.args.object.now) flow role step _ _ _ (λ x y z. edit.Forbid x y z) (keys_of c.args.permits)
    (rw c.if-permits.false refl) refl refl refl c.in_ok-flow.ensures c.in_ok-role.ensures c.in_ok-step.ensures
