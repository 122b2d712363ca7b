use Rattle.std.proofs.Common.{sym, ap, subst, ◌∙◌}
use Rattle.refutation_tree.specs.Laws.Views.{shape_of}
use Rattle.policy_book.specs.Laws.Shapes.{PolicyShape}
use Rattle.policy_book.specs.Policies.{problem_of}
use Rattle.policy_book.specs.Laws.Refuting.{refutes}
use Rattle.case_record.specs.Cases.{assigned_of, finished_of}
use Rattle.wf_board.specs.Laws.Kept.{IsOfPolicy}
use Rattle.wf_board.proofs.Amended.{of_policy_amended}
use Rattle.wf_board.proofs.strands.is_tree_after.Goals as goal

pub is_refuted-requires : goal.is_refuted-requires
is_refuted-requires c =
    let k = c.args.case.now in
    subst (λ (q : PolicyShape). IsOfPolicy q k) (sym c.in_ok-after.ensures)
    (of_policy_amended c.args.p.now c.args.a k c.requires.allowed.found c.requires.known)

pub returns : goal.returns
returns c =
    let k = c.args.case.now in
    c.is_refuted.ensures ∙
    ap (λ (q : PolicyShape). refutes (problem_of q k.flow) (assigned_of k) (finished_of k) (shape_of c.args.tree.now)) c.in_ok-after.ensures
