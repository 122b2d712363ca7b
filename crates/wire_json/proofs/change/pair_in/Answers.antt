use Rattle.std.proofs.Common.{◌≡◌, Bool, true, false, [], ◌∷◌, refl}
use Rattle.std.specs.Prelude.{if◌then◌else◌}
use Rattle.wf_talk.specs.declared.edit.Edit.{Edit}
use Rattle.wf_talk.specs.declared.edit.Edit.TheVariants as edit
use Rattle.wire_json.specs.declared.word.EditWord.TheVariants as word
use Rattle.wire_json.specs.Objects.{data_of}
use Rattle.wire_json.specs.Requests.{Row, first, relation, second}
use Rattle.wire_json.specs.Words.{row_of_edit}
use Rattle.wire_json.proofs.NeededKeys.{first_missing, second_missing, third_missing, three_read}
use Rattle.wire_json.proofs.change.pair_in.Goals as goal

abbrev row_by : Bool → Row Edit
row_by relates = row_of_edit (if relates then word.Relate else word.Unrelate)

keys_of : (relates : Bool) → (row_by relates).keys ≡ first ∷ relation ∷ second ∷ []
keys_of true = refl
keys_of false = refl

pub returns-in_err-first : goal.returns-in_err-first
returns-in_err-first c =
    first_missing (row_by c.args.relates) c.from_residual.result (data_of c.args.object.now) first _ _ (keys_of c.args.relates) refl
    c.in_err-first.ensures c.from_residual.ensures.1

pub returns-in_err-relation : goal.returns-in_err-relation
returns-in_err-relation c =
    second_missing (row_by c.args.relates) c.from_residual-in_err-relation.result (data_of c.args.object.now) first relation _ _ _
    (keys_of c.args.relates) refl refl c.in_ok-first.ensures c.in_err-relation.ensures c.from_residual-in_err-relation.ensures.1

pub returns-in_err-second : goal.returns-in_err-second
returns-in_err-second c =
    third_missing (row_by c.args.relates) c.from_residual-in_err-second.result (data_of c.args.object.now) first relation second _ _ _
    (keys_of c.args.relates) refl refl refl c.in_ok-first.ensures c.in_ok-relation.ensures c.in_err-second.ensures c.from_residual-in_err-second.ensures.1

pub returns-then-relates : goal.returns-then-relates
returns-then-relates c =
    three_read (row_by c.args.relates) (data_of c.args.object.now) first relation second _ _ _ (λ x y z. edit.Relate x y z) (keys_of c.args.relates)
    (rw c.if-relates.true refl) refl refl refl c.in_ok-first.ensures c.in_ok-relation.ensures c.in_ok-second.ensures

pub returns-else-relates : goal.returns-else-relates
returns-else-relates c =
    three_read (row_by c.args.relates) (data_of c.args.object.now) first relation second _ _ _ (λ x y z. edit.Unrelate x y z) (keys_of c.args.relates)
    (rw c.if-relates.false refl) refl refl refl c.in_ok-first.ensures c.in_ok-relation.ensures c.in_ok-second.ensures
