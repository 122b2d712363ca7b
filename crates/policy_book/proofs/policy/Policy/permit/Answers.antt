use Rattle.std.proofs.Common.{◌<◌, ap, length, arith}
use Rattle.std.specs.FinSet as set
use Rattle.policy_book.specs.Laws.Shapes.{PolicyShape, WorkflowShape}
use Rattle.policy_book.proofs.Keeping.{sound_permitted}
use Rattle.policy_book.proofs.Rows.{permitted_at}
use Rattle.policy_book.proofs.Book.{book_with_permits}
use Rattle.policy_book.proofs.policy.Policy.permit.Goals as goal

pub invariant_of-self : goal.invariant_of-self
invariant_of-self c =
    let same = ap (λ (p : PolicyShape). length p.roster.roles) c.self.view_is in
    let role : c.args.r < length c.self.inside.roster.roles = omega (arith, same, c.requires.role) in
    let w : WorkflowShape = record { flow = c.workflow.inside.flow; rules = c.workflow.inside.rules; retired = c.workflow.inside.retired } in
    rw c.set_row.ensures
    (book_with_permits _ c.self.inside.roster c.self.inside.relations c.self.inside.names c.self.inside.flows.items c.self.inside.admin
    c.self.inside.duties.items c.args.f c.f.inside.0 c.args.s w c.index_mut-workflow.result.now c.index_mut-kept.result.now
    (set.insert w.flow.permits (c.args.r, c.args.s)) c.permit-changed.new.self c.holders_of_some-row.result c.self.view_is c.f.view_is c.requires.flow
    c.requires.step c.workflow.view_is c.index_mut-workflow.ensures.value c.index_mut-kept.ensures.value c.permit-changed.ensures.permitted
    c.holders_of_some-row.ensures.held (permitted_at w.flow c.args.r c.args.s) (sound_permitted _ _ c.args.r c.args.s w role) c.self.invariant)
