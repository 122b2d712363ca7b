use Rattle.std.proofs.Common.{◌≡◌, drop}
use Rattle.cnf_export.specs.Laws.Clauses.{satisfies}
use Rattle.cnf_export.specs.Saying.{has_variable}
use Rattle.cnf_export.proofs.seen.satisfied.Given as goal

-- a later literal is true
abbrev pub invariant-literals : goal.invariant-literals
invariant-literals l = satisfies (has_variable l.m) (drop l.k l.clause) ≡ satisfies (has_variable l.m) l.clause
