use Rattle.std.proofs.Common.{[], ◌∷◌, refl, ◌∙◌}
use Rattle.wire_json.specs.Objects.{data_of}
use Rattle.wire_json.specs.Requests.{by, case}
use Rattle.wire_json.proofs.NeededKeys.{name_missing, name_there, name_is, case_missing, case_there, case_is, key_missing, key_extra, request_read}
use Rattle.wire_json.proofs.request.withdraw_in.Goals as goal

pub returns-in_err-by : goal.returns-in_err-by
returns-in_err-by c =
    let d = data_of c.args.object.now in
    key_missing _ _ _ d _ c.from_residual.result _
    (name_missing d by (case ∷ []) _ refl c.in_err-by.ensures)
    c.from_residual.ensures.1

pub returns-in_err-case : goal.returns-in_err-case
returns-in_err-case c =
    let d = data_of c.args.object.now in
    key_missing _ _ _ d _ c.from_residual-in_err-case.result _
    (name_there d by (case ∷ []) _ refl c.in_ok-by.ensures
    ∙ case_missing d [] _ c.in_err-case.ensures)
    c.from_residual-in_err-case.ensures.1

pub returns-in_err-no_others : goal.returns-in_err-no_others
returns-in_err-no_others c =
    let d = data_of c.args.object.now in
    key_extra _ _ _ d _ c.from_residual-in_err-no_others.result _
    (name_there d by (case ∷ []) _ refl c.in_ok-by.ensures
    ∙ case_there d [] _ c.in_ok-case.ensures)
    c.in_err-no_others.ensures c.from_residual-in_err-no_others.ensures.1

pub returns : goal.returns
returns c =
    let d = data_of c.args.object.now in
    request_read _ _ _ d _ _ _
    (name_there d by (case ∷ []) _ refl c.in_ok-by.ensures
    ∙ case_there d [] _ c.in_ok-case.ensures)
    c.in_ok-no_others.ensures
    (rw (name_is d by _ c.in_ok-by.ensures, case_is d _ c.in_ok-case.ensures) refl)
