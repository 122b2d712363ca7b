use Rattle.std.proofs.Common.{slice_get, refl, sym, ◌∙◌}
use Rattle.policy_book.specs.Course.{problem_in}
use Rattle.wsp_solver.proofs.Crews.{told_apart}
use Rattle.wsp_solver.proofs.crew.are_told_apart.Goals as goal

pub returns-in-Some : goal.returns-in-Some
returns-in-Some c = λ yes.
    let p = problem_in c.args.course.now in
    let k = c.in-Some.clue.rule in
    told_apart p k c.args.u c.args.v c.in-Some.clue.user (slice_get p.rules k) refl (sym c.tells_apart.ensures ∙ yes)
