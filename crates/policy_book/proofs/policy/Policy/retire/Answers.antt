use Rattle.std.proofs.Common.{◌<◌, ap, sym, subst, ◌∙◌, length, arith}
use Rattle.std.proofs.lemmas.List.{get_or_default}
use Rattle.policy_book.specs.Laws.Shapes.{PolicyShape, WorkflowShape}
use Rattle.policy_book.specs.Policies.{no_workflow}
use Rattle.policy_book.specs.Laws.Facts.{IsSoundWorkflow}
use Rattle.policy_book.proofs.Keeping.{sound_at, stored_with_flow}
use Rattle.policy_book.proofs.Rows.{kept_with_same}
use Rattle.policy_book.proofs.policy.Policy.retire.Goals as goal

pub invariant_of-self : goal.invariant_of-self
invariant_of-self c =
    let flows = c.self.inside.flows.items in
    let stored = c.self.invariant.stored in
    let f = c.f.inside.0 in
    let roles = length c.self.inside.roster.roles in
    let relations = length c.self.inside.relations in
    let as_many = ap (λ (p : PolicyShape). length p.flows) c.self.view_is in
    let place : f < length flows = omega (arith, c.f.view_is, as_many, c.requires) in
    let w = c.index_mut-retiring.result.now in
    let before = sound_at c.self.inside.roster c.self.inside.relations c.self.inside.names flows c.self.inside.admin
    stored f w place c.index_mut-retiring.ensures.value in
    let opened = subst (λ (x : WorkflowShape). IsSoundWorkflow roles relations x) (sym c.retiring.view_is) before in
    let there = c.retiring.view_is ∙ c.index_mut-retiring.ensures.value ∙ get_or_default flows f w no_workflow place in
    record {
      stored = stored_with_flow c.self.inside.roster c.self.inside.relations c.self.inside.names flows c.self.inside.admin
          stored f _ place (record { permitted = opened.permitted; few = opened.few; ruled = opened.ruled });
      kept = kept_with_same c.self.inside.roster flows c.self.inside.duties.items f _ place c.self.invariant.kept (ap (λ (x : WorkflowShape). x.flow) there);
    }
