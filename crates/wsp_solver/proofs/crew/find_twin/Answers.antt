use Rattle.std.proofs.Common.{◌≡◌, ◌<◌, ◌≤◌, ℕ, false, [], sym, arith}
use Rattle.policy_book.specs.Course.{problem_in}
use Rattle.policy_book.specs.Laws.Plans.{Problem}
use Rattle.policy_book.specs.Laws.Twins.{are_twins}
use Rattle.wsp_solver.specs.Crews.{IsFirstTwin}
use Rattle.wsp_solver.proofs.Crews.{twins_own}
use Rattle.wsp_solver.proofs.Nexts.{none_between, none_more}
use Rattle.wsp_solver.proofs.crew.find_twin.Goals as goal

pub returns-then-are_alike : goal.returns-then-are_alike
returns-then-are_alike c =
    let p = problem_in c.args.course.now in
    let next = c.in-Some.ensures in
    let v = c.in-Some.v in
    record {
      most = omega (arith, next.within, c.u.view_is);
      twin = sym c.if-are_alike.ensures;
      least = λ w below.
          none_between p c.args.duties.now c.duties_at-own.result c.args.u c.earlier.from v c.requires.duties c.requires.user
          (omega (arith, next.within, c.u.view_is)) c.duties_at-own.ensures c.earlier.invariant.none next.least w (omega arith) below;
    }

pub earlier-preserved : goal.earlier-preserved
earlier-preserved c =
    let p = problem_in c.args.course.now in
    let next = c.in-Some.ensures in
    let v = c.in-Some.v in
    record {
      within = omega (arith, next.within, c.u.view_is, c.v.view_is);
      none =
          none_more (λ w. are_twins p [] w c.args.u) 0 v c.v.inside.0
          (none_between p c.args.duties.now c.duties_at-own.result c.args.u c.earlier.from v c.requires.duties c.requires.user
          (omega (arith, next.within, c.u.view_is)) c.duties_at-own.ensures c.earlier.invariant.none next.least)
          (sym c.if-are_alike.ensures) c.v.view_is;
    }

pub returns : goal.returns
returns c =
    let p = problem_in c.args.course.now in
    alone p c.args.u
    (none_between p c.args.duties.now c.duties_at-own.result c.args.u c.earlier.from c.args.u c.requires.duties c.requires.user
    (omega arith) c.duties_at-own.ensures c.earlier.invariant.none (λ w from below. c.in_default.ensures w from (omega (arith, below, c.u.view_is))))
  where
    alone : (p : Problem) (u : ℕ) → ((w : ℕ) → 0 ≤ w → w < u → are_twins p [] w u ≡ false) → IsFirstTwin p u u
    alone p u none = record { most = omega arith; twin = twins_own p u; least = λ w below. none w (omega arith) below }
