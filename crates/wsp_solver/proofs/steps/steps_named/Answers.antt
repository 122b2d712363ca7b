use Rattle.std.proofs.Common.{◌≡◌, false, ◌&&◌, ◌||◌, ◌==◌, nat_lt, sym, ap, ◌∙◌, arith}
use Rattle.basics.proofs.Booleans.{lt_no}
use Rattle.constraint_forms.specs.Rules.{names}
use Rattle.wf_names.specs.declared.limits.TheConstants.{STEP_LIMIT}
use Rattle.wsp_solver.proofs.Members.{passing_more}
use Rattle.wsp_solver.proofs.steps.steps_named.Goals as goal

pub steps-init : goal.steps-init
steps-init c = λ t. c.empty-named.ensures.none t ∙ sym (ap (λ b. b && names c.args.rule.now t) (lt_no t 0 (omega arith)))

pub steps-preserved : goal.steps-preserved
steps-preserved c = λ t.
    c.with_if-named.ensures.members t ∙ ap (λ b. b || (c.names.result && t == c.steps.s)) (c.steps.invariant t)
    ∙ ap (λ b. (nat_lt t c.steps.s && names c.args.rule.now t) || (b && t == c.steps.s)) c.names.ensures
    ∙ passing_more (names c.args.rule.now) false c.steps.s t

pub returns : goal.returns
returns c =
    let all : c.steps.s ≡ STEP_LIMIT = omega (arith, c.steps-test.false, c.steps.auto.s-end) in
    λ t. c.steps.invariant t ∙ ap (λ n. nat_lt t n && names c.args.rule.now t) all
