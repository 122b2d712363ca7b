use Rattle.std.specs.FinSet as set
use Rattle.policy_book.specs.Laws.Shapes.{WorkflowShape}
use Rattle.policy_book.proofs.Keeping.{sound_forbidden}
use Rattle.policy_book.proofs.Rows.{forbidden_at}
use Rattle.policy_book.proofs.Book.{book_with_permits}
use Rattle.policy_book.proofs.policy.Policy.forbid.Goals as goal

pub invariant_of-self : goal.invariant_of-self
invariant_of-self c =
    let w : WorkflowShape = record { flow = c.workflow.inside.flow; rules = c.workflow.inside.rules; retired = c.workflow.inside.retired } in
    rw c.set_row.ensures
    (book_with_permits _ c.self.inside.roster c.self.inside.relations c.self.inside.names c.self.inside.flows.items c.self.inside.admin
    c.self.inside.duties.items c.args.f c.f.inside.0 c.args.s w c.index_mut-workflow.result.now c.index_mut-kept.result.now
    (set.remove w.flow.permits (c.args.r, c.args.s)) c.forbid-changed.new.self c.holders_of_some-row.result c.self.view_is c.f.view_is c.requires.flow
    c.requires.step c.workflow.view_is c.index_mut-workflow.ensures.value c.index_mut-kept.ensures.value c.forbid-changed.ensures.forbidden
    c.holders_of_some-row.ensures.held (forbidden_at w.flow c.args.r c.args.s) (sound_forbidden _ _ c.args.r c.args.s w) c.self.invariant)
