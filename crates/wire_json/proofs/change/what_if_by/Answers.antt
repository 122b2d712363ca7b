use Rattle.wf_talk.specs.declared.request.Request.TheVariants.{WhatIf}
use Rattle.wire_json.specs.Objects.{data_of}
use Rattle.wire_json.specs.Words.{row_of_edit}
use Rattle.wire_json.proofs.Keys.{handed_on, by_refused, edit_refused, key_refused, edit_asked}
use Rattle.wire_json.proofs.change.what_if_by.Goals as goal

pub returns-in_err-by : goal.returns-in_err-by
returns-in_err-by c = handed_on c.from_residual.result _ _ c.from_residual.ensures.1 (by_refused _ _ _ (data_of c.args.object.now) _ _ c.in_err-by.ensures)

pub returns-in_err-edit : goal.returns-in_err-edit
returns-in_err-edit c =
    handed_on c.from_residual-in_err-edit.result _ _ c.from_residual-in_err-edit.ensures.1
    (edit_refused _ (row_of_edit c.args.word) _ (data_of c.args.object.now) _ _ _ c.in_ok-by.ensures c.in_err-edit.ensures)

pub returns-in_err-no_others : goal.returns-in_err-no_others
returns-in_err-no_others c =
    handed_on c.from_residual-in_err-no_others.result _ _ c.from_residual-in_err-no_others.ensures.1
    (key_refused _ (row_of_edit c.args.word) _ (data_of c.args.object.now) _ _ _ _ _ c.keys.ensures c.in_ok-by.ensures c.in_ok-edit.ensures
    c.in_err-no_others.ensures)

pub returns : goal.returns
returns c =
    edit_asked _ (row_of_edit c.args.word) (λ n e. WhatIf n e) (data_of c.args.object.now) _ _ _ _ _ c.keys.ensures c.in_ok-by.ensures c.in_ok-edit.ensures
    c.in_ok-no_others.ensures
