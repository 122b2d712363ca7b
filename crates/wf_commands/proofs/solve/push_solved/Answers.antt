use Rattle.std.proofs.Common.{◌≡◌, ℕ, List, Bool, Option, true, refl, inl, inr, subst}
use Rattle.std.proofs.lemmas.Result.{on_ok_weaker}
use Rattle.constraint_forms.specs.Assign.{no_steps}
use Rattle.policy_book.specs.Laws.Plans.{IsValidPlan}
use Rattle.policy_book.specs.Course.{problem_in}
use Rattle.policy_book.specs.Laws.Refuting.{refutes}
use Rattle.policy_book.specs.Laws.Lean.{is_lean}
use Rattle.refutation_tree.specs.Laws.Views.{shape_of}
use Rattle.wsp_solver.specs.Searches.{HasSolved}
use Rattle.wsp_solver.specs.declared.search.Outcome.{Outcome}
use Rattle.wf_commands.proofs.solve.push_solved.Goals as goal

pub returns-in-Plan : goal.returns-in-Plan
returns-in-Plan c =
    let problem = problem_in c.args.course.now in
    let plan = c.in-Plan.plan in
    let found = subst (λ (o : Outcome). HasSolved problem c.empty.result c.empty-2.result o) c.in-Plan.is c.in_ok-plan.ensures in
    let valid = subst (λ (a : List (Option ℕ)). IsValidPlan problem a no_steps plan) c.empty.ensures.value
    (subst (λ (d : List Bool). IsValidPlan problem c.empty.result d plan) c.empty-2.ensures.value found) in
    on_ok_weaker c.push_plan_line.result (λ same. (_, inl (plan, valid, refl), same)) c.push_plan_line.ensures

pub returns-in-Refuted : goal.returns-in-Refuted
returns-in-Refuted c =
    let problem = problem_in c.args.course.now in
    let tree = shape_of c.in-Refuted.tree in
    let found = subst (λ (o : Outcome). HasSolved problem c.empty.result c.empty-2.result o) c.in-Refuted.is c.in_ok-plan.ensures in
    let refuting = subst (λ (a : List (Option ℕ)). refutes problem a no_steps tree ≡ true) c.empty.ensures.value
    (subst (λ (d : List Bool). refutes problem c.empty.result d tree ≡ true) c.empty-2.ensures.value found.refutes) in
    let lean = subst (λ (a : List (Option ℕ)). is_lean problem a tree ≡ true) c.empty.ensures.value found.lean in
    on_ok_weaker c.push_tree_line.result (λ same. (_, inr (tree, refuting, lean, refl), same)) c.push_tree_line.ensures
