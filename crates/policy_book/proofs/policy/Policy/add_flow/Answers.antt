use Rattle.std.proofs.Common.{sym, subst, length}
use Rattle.policy_book.specs.Laws.Shapes.{PolicyShape, WorkflowShape}
use Rattle.std.specs.Prelude.{false}
use Rattle.policy_book.specs.Laws.Facts.{IsSoundWorkflow}
use Rattle.policy_book.proofs.Keeping.{stored_with_more}
use Rattle.policy_book.proofs.Rows.{kept_with_more}
use Rattle.policy_book.proofs.policy.Policy.add_flow.Goals as goal

pub invariant_of-self-2 : goal.invariant_of-self-2
invariant_of-self-2 c =
    let flow : WorkflowShape = record { flow = c.args.flow; rules = c.args.rules; retired = false } in
    let asked : IsSoundWorkflow (length c.args.self.now.roster.roles) (length c.args.self.now.relations) flow =
    record { permitted = c.requires.roles; few = c.requires.few; ruled = c.requires.ruled } in
    let fresh = subst (λ (p : PolicyShape). IsSoundWorkflow (length p.roster.roles) (length p.relations) flow) (sym c.self.view_is) asked in
    rw (c.in_ok-put_flow.ensures.named, c.in_ok-put_flow.ensures.added, c.in_ok-put_flow.ensures.kept, c.in-Ok-new.ensures)
    (record {
      stored = stored_with_more c.self.inside.roster c.self.inside.relations c.self.inside.names c.self.inside.flows.items c.self.inside.admin
          c.self.invariant.stored c.args.name flow c.in_ok-place.ensures.room fresh;
      kept = kept_with_more c.self.inside.roster c.self.inside.flows.items c.self.inside.duties.items flow _ c.self.invariant.kept c.in-Ok.ensures;
    })
