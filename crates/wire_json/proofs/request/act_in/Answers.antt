use Rattle.std.proofs.Common.{[], ◌∷◌, refl, sym, ◌∙◌}
use Rattle.wire_json.specs.Objects.{data_of}
use Rattle.wire_json.specs.Requests.{step, user}
use Rattle.wire_json.proofs.NeededKeys.{name_missing, name_there, name_is, case_missing, case_there, case_is, key_missing, key_extra, request_read}
use Rattle.wire_json.proofs.request.act_in.Goals as goal

pub returns-in_err-case : goal.returns-in_err-case
returns-in_err-case c =
    let d = data_of c.args.object.now in
    key_missing _ _ _ d _ c.from_residual.result _
    (case_missing d (step ∷ user ∷ []) _ c.in_err-case.ensures)
    c.from_residual.ensures.1

pub returns-in_err-step : goal.returns-in_err-step
returns-in_err-step c =
    let d = data_of c.args.object.now in
    key_missing _ _ _ d _ c.from_residual-in_err-step.result _
    (case_there d (step ∷ user ∷ []) _ c.in_ok-case.ensures
    ∙ name_missing d step (user ∷ []) _ refl c.in_err-step.ensures)
    c.from_residual-in_err-step.ensures.1

pub returns-in_err-user : goal.returns-in_err-user
returns-in_err-user c =
    let d = data_of c.args.object.now in
    key_missing _ _ _ d _ c.from_residual-in_err-user.result _
    (case_there d (step ∷ user ∷ []) _ c.in_ok-case.ensures
    ∙ name_there d step (user ∷ []) _ refl c.in_ok-step.ensures
    ∙ name_missing d user [] _ refl c.in_err-user.ensures)
    c.from_residual-in_err-user.ensures.1

pub returns-in_err-no_others : goal.returns-in_err-no_others
returns-in_err-no_others c =
    let d = data_of c.args.object.now in
    key_extra _ _ _ d _ c.from_residual-in_err-no_others.result _
    (case_there d (step ∷ user ∷ []) _ c.in_ok-case.ensures
    ∙ name_there d step (user ∷ []) _ refl c.in_ok-step.ensures
    ∙ name_there d user [] _ refl c.in_ok-user.ensures)
    c.in_err-no_others.ensures c.from_residual-in_err-no_others.ensures.1

pub returns : goal.returns
returns c =
    let d = data_of c.args.object.now in
    request_read _ _ _ d _ _ _
    (case_there d (step ∷ user ∷ []) _ c.in_ok-case.ensures
    ∙ name_there d step (user ∷ []) _ refl c.in_ok-step.ensures
    ∙ name_there d user [] _ refl c.in_ok-user.ensures)
    c.in_ok-no_others.ensures
    (rw (case_is d _ c.in_ok-case.ensures, name_is d step _ c.in_ok-step.ensures, name_is d user _ c.in_ok-user.ensures) (sym c.request.ensures))
