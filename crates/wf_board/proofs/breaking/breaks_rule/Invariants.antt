use Rattle.std.proofs.Common.{◌≡◌, false}
use Rattle.std.specs.Prelude.{slice_get}
use Rattle.policy_book.specs.Policies.{any_below, flow_at}
use Rattle.wf_board.specs.Breaking.{is_broken_over}
use Rattle.wf_board.proofs.breaking.breaks_rule.Given as goal

-- none of the rules so far
abbrev pub invariant-rules : goal.invariant-rules
invariant-rules l = any_below l.k (λ k. is_broken_over l.relations l.after l.rho l.plan (slice_get (flow_at l.after l.f).rules k)) ≡ false
