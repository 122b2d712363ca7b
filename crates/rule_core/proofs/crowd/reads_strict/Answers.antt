use Rattle.std.proofs.Common.{◌∙◌, false, ap, sym}
use Rattle.constraint_forms.specs.Rules.{said_of}
use Rattle.policy_book.specs.Course.{problem_in}
use Rattle.rule_core.specs.Crowds.{is_strict}
use Rattle.rule_core.proofs.crowd.reads_strict.Goals as goal

pub returns-in-Some : goal.returns-in-Some
returns-in-Some c =
    c.is_strict.ensures ∙ ap (said_of false (is_strict (problem_in c.args.course.now))) (sym c.in-Some.is ∙ c.relation.ensures)
