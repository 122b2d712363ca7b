use Rattle.std.proofs.Common.{rules}
use Rattle.policy_reader.proofs.Relating.{table_told}
use Rattle.policy_reader.proofs.RuleLists.{if_ok}
use Rattle.policy_reader.proofs.relations.kind_at.Goals as goal

pub returns-in-Some-clause-kept : goal.returns-in-Some-clause-kept
returns-in-Some-clause-kept c = if_ok c.listed_kind.result _ _ c.listed_kind.ensures.kept (λ k h. h _ _)

pub returns-clause-kept : goal.returns-clause-kept
returns-clause-kept c = rw (table_told _ _ _ _ c.in_ok-table.ensures.read) (search rules, c.in_ok-rho.ensures.target)
