use Rattle.std.proofs.Common.{◌∙◌, ◌&&◌, ap}
use Rattle.constraint_forms.specs.Rules.{any_read}
use Rattle.policy_book.specs.Course.{problem_in}
use Rattle.rule_core.specs.Crowds.{is_strict}
use Rattle.rule_core.proofs.crowd.is_parting.Goals as goal

pub returns-then-relates_either : goal.returns-then-relates_either
returns-then-relates_either c =
    let p = problem_in c.args.course.now in
    c.reads_strict.ensures ∙ ap (λ b. b && any_read c.args.rule.now (is_strict p)) c.if-relates_either.ensures
