use Rattle.std.proofs.Common.{◌≡◌, ◌&&◌, drop}
use Rattle.std.specs.List.{list_any}
use Rattle.constraint_forms.specs.Assign.{user_at}
use Rattle.constraint_forms.specs.Rules.{is_falsified, names}
use Rattle.policy_book.specs.Policies.{problem_of}
use Rattle.wf_board.proofs.decision.breaks_one.Given as goal

abbrev pub invariant-rules : goal.invariant-rules
invariant-rules l =
    list_any (λ r. names r l.s && is_falsified (problem_of l.p l.fn.f).related r (user_at l.given)) (drop l.rule-index l.rules)
    ≡ list_any (λ r. names r l.s && is_falsified (problem_of l.p l.fn.f).related r (user_at l.given)) l.rules
