use Rattle.std.proofs.Common.{◌≡◌, ℕ, List, subst}
use Rattle.basics.specs.Laws.Pairs.{Pairs}
use Rattle.workflow_schema.specs.Flows.{is_before}
use Rattle.workflow_schema.specs.Tables.{table_has}
use Rattle.workflow_schema.proofs.Built.{closed_order, least_cycle, acyclic_order}
use Rattle.workflow_schema.proofs.pairs.StepPairs.closed.Goals as goal

-- the closed table is that of the set
told : (later : List ℕ) (seen order : Pairs) → seen ≡ order → ((s t : ℕ) → table_has later s t ≡ is_before seen s t) → (s t : ℕ) →
    table_has later s t ≡ is_before order s t
told later seen order same closed = subst (λ o. (s t : ℕ) → table_has later s t ≡ is_before o s t) same closed

pub returns-in-Some-clause-cycle : goal.returns-in-Some-clause-cycle
returns-in-Some-clause-cycle c =
    least_cycle c.args.self.now c.close.new.rows c.requires
    (told c.close.new.rows _ c.args.self.now c.self.view_is (closed_order c.self.inside.rows c.close.new.rows c.self.invariant c.close.ensures)) c.in-Some.s
    c.in-Some.ensures.0 c.in-Some.ensures.1

pub returns-in-None-clause-closed : goal.returns-in-None-clause-closed
returns-in-None-clause-closed c =
    acyclic_order c.args.self.now c.close.new.rows c.requires
    (told c.close.new.rows _ c.args.self.now c.self.view_is (closed_order c.self.inside.rows c.close.new.rows c.self.invariant c.close.ensures))
    c.in-None.ensures
