use Rattle.std.proofs.Common.{◌≤◌, not, nat_eq, refl, sym, ap, ◌∙◌, arith}
use Rattle.std.proofs.lemmas.Bool.{false≢true}
use Rattle.basics.proofs.Booleans.{eq_back, eq_same, not_false}
use Rattle.wf_names.specs.declared.limits.TheConstants.{STEP_LIMIT}
use Rattle.constraint_forms.specs.Flags.{word_of}
use Rattle.policy_book.specs.Course.{problem_in}
use Rattle.wsp_solver.proofs.Crews.{apart_by_duties, apart_by_rules, alike_by_duties}
use Rattle.wsp_solver.proofs.crew.are_alike.Goals as goal

pub returns-then-ne : goal.returns-then-ne
returns-then-ne c =
    let p = problem_in c.args.course.now in
    sym (apart_by_duties p c.args.duties.now c.args.u c.args.v c.requires.first c.requires.second c.requires.duties
    (λ same. false≢true (sym (c.if-ne.ensures ∙ ap not (ap (λ d. nat_eq (word_of c.duties_at.result) (word_of d))
    (c.duties_at-2.ensures ∙ sym same ∙ sym c.duties_at.ensures) ∙ eq_same (word_of c.duties_at.result))))))

pub returns-then-are_told_apart : goal.returns-then-are_told_apart
returns-then-are_told_apart c = sym (apart_by_rules (problem_in c.args.course.now) c.args.u c.args.v (c.if-are_told_apart.ensures refl))

pub returns : goal.returns
returns c =
    let p = problem_in c.args.course.now in
    let few : p.steps ≤ STEP_LIMIT = omega (arith, c.step_count.ensures.count, c.step_count.ensures.few) in
    let one = eq_back (word_of c.duties_at.result) (word_of c.duties_at-2.result)
    (not_false (nat_eq (word_of c.duties_at.result) (word_of c.duties_at-2.result)) (sym c.if-ne.ensures)) in
    c.are_related_alike.ensures
    ∙ sym (alike_by_duties p c.args.duties.now c.args.u c.args.v c.requires.first c.requires.second few c.requires.duties
    (ap word_of (sym c.duties_at.ensures) ∙ one ∙ ap word_of c.duties_at-2.ensures))
