use Rattle.std.proofs.Common.{sym, subst, ◌∙◌}
use Rattle.refutation_tree.specs.Laws.Views.{shape_of}
use Rattle.policy_book.specs.Laws.Plans.{IsWithin}
use Rattle.policy_book.specs.Policies.{problem_of}
use Rattle.policy_book.specs.Laws.Refuting.{refutes}
use Rattle.case_record.specs.Cases.{assigned_of}
use Rattle.wf_board.proofs.strands.is_refuted.Goals as goal

pub check_tree-requires-clause-within : goal.check_tree-requires-clause-within
check_tree-requires-clause-within c =
    let q = c.args.p.now in
    subst (IsWithin (problem_of q c.flow.result)) (sym c.assigned-assigned.ensures.value)
    (subst (λ f. IsWithin (problem_of q f) (assigned_of c.args.case.now)) (sym c.flow.ensures) c.requires.users)

pub returns : goal.returns
returns c =
    c.check_tree.ensures
    ∙ (λ i. refutes (problem_of c.args.p.now (c.flow.ensures i)) (c.assigned-assigned.ensures.value i) (c.finished-finished.ensures.value i)
    (shape_of c.args.tree.now))
