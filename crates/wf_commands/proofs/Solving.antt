-- How the lines of workflows follow one another.
use Rattle.std.proofs.Common.{◌≡◌, ℕ, suc, ◌+◌, List, subst, arith}
use Rattle.policy_book.specs.Laws.Shapes.{PolicyShape}
use Rattle.wf_commands.specs.Solve.{TellsFirst, TellsNext}

-- the line of the next workflow behind those of the first n
pub tells_next : (p : PolicyShape) (n : ℕ) (front text : List ℕ) → TellsFirst p n front → TellsNext p n front text → TellsFirst p (n + 1) text
tells_next p n front text before here =
    let e : suc n ≡ n + 1 = omega arith in
    subst (λ (m : ℕ). TellsFirst p m text) e (front, before, here)
