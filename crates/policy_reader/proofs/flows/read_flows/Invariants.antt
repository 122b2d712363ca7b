use Rattle.policy_reader.proofs.Words.{members_view, each, entries, next_flow, IsGrown}
use Rattle.policy_reader.specs.Laws.Grammars.{today}
use Rattle.policy_reader.proofs.Fresh.{IsLeft}
use Rattle.policy_reader.proofs.flows.read_flows.Given as goal

abbrev pub invariant-entries : goal.invariant-entries
invariant-entries l =
    IsLeft (next_flow today l.format) (λ p. p.flow_names) l.initial.key-iterator
    (each (next_flow today l.format) l.fn.policy (entries (members_view l.initial.key-iterator))) l.policy l.key-iterator
    × IsGrown l.fn.policy l.policy
