use Rattle.std.proofs.Common.{[], ◌∷◌, refl, ◌∙◌}
use Rattle.wire_json.specs.Objects.{data_of}
use Rattle.wire_json.specs.Requests.{by, case, step}
use Rattle.wire_json.proofs.NeededKeys.{name_missing, name_there, name_is, case_missing, case_there, case_is, key_missing, key_extra, request_read}
use Rattle.wire_json.proofs.request.release_in.Goals as goal

pub returns-in_err-by : goal.returns-in_err-by
returns-in_err-by c =
    let d = data_of c.args.object.now in
    key_missing _ _ _ d _ c.from_residual.result _
    (name_missing d by (case ∷ step ∷ []) _ refl c.in_err-by.ensures)
    c.from_residual.ensures.1

pub returns-in_err-case : goal.returns-in_err-case
returns-in_err-case c =
    let d = data_of c.args.object.now in
    key_missing _ _ _ d _ c.from_residual-in_err-case.result _
    (name_there d by (case ∷ step ∷ []) _ refl c.in_ok-by.ensures
    ∙ case_missing d (step ∷ []) _ c.in_err-case.ensures)
    c.from_residual-in_err-case.ensures.1

pub returns-in_err-step : goal.returns-in_err-step
returns-in_err-step c =
    let d = data_of c.args.object.now in
    key_missing _ _ _ d _ c.from_residual-in_err-step.result _
    (name_there d by (case ∷ step ∷ []) _ refl c.in_ok-by.ensures
    ∙ case_there d (step ∷ []) _ c.in_ok-case.ensures
    ∙ name_missing d step [] _ refl c.in_err-step.ensures)
    c.from_residual-in_err-step.ensures.1

pub returns-in_err-no_others : goal.returns-in_err-no_others
returns-in_err-no_others c =
    let d = data_of c.args.object.now in
    key_extra _ _ _ d _ c.from_residual-in_err-no_others.result _
    (name_there d by (case ∷ step ∷ []) _ refl c.in_ok-by.ensures
    ∙ case_there d (step ∷ []) _ c.in_ok-case.ensures
    ∙ name_there d step [] _ refl c.in_ok-step.ensures)
    c.in_err-no_others.ensures c.from_residual-in_err-no_others.ensures.1

pub returns : goal.returns
returns c =
    let d = data_of c.args.object.now in
    request_read _ _ _ d _ _ _
    (name_there d by (case ∷ step ∷ []) _ refl c.in_ok-by.ensures
    ∙ case_there d (step ∷ []) _ c.in_ok-case.ensures
    ∙ name_there d step [] _ refl c.in_ok-step.ensures)
    c.in_ok-no_others.ensures
    (rw (name_is d by _ c.in_ok-by.ensures, case_is d _ c.in_ok-case.ensures, name_is d step _ c.in_ok-step.ensures) refl)
