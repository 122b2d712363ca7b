use Rattle.std.proofs.Common.{◌≡◌, ◌≤◌, ◌++◌, length, string_bytes}
use Rattle.policy_book.specs.Policies.{any_below, flow_at}
use Rattle.case_story.specs.Printed.{retired_lines}
use Rattle.case_story.proofs.printed.push_remarks.Given as goal

abbrev pub invariant-flows : goal.invariant-flows
invariant-flows l =
    record {
      within : l.f ≤ length l.p.flows;
      lines : string_bytes l.out ≡ string_bytes l.fn.out ++ retired_lines l.p l.f;
      some : l.some ≡ any_below l.f (λ f. (flow_at l.p f).retired);
    }
