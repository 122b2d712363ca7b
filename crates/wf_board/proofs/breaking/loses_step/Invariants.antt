use Rattle.std.proofs.Common.{◌≡◌, ◌==◌, ◌&&◌, false}
use Rattle.constraint_forms.specs.Assign.{planned}
use Rattle.policy_book.specs.Policies.{any_below}
use Rattle.wf_board.specs.Breaking.{is_barred}
use Rattle.wf_board.proofs.breaking.loses_step.Given as goal

-- none of the steps so far
abbrev pub invariant-steps : goal.invariant-steps
invariant-steps l = any_below l.s (λ s. (planned l.plan s == l.u) && is_barred l.after l.case l.plan s) ≡ false
