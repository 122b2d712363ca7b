use Rattle.std.proofs.Common.{ℕ, List, Option, sym, ap, ◌∙◌}
use Rattle.wsp_solver.specs.Crews.{class_in}
use Rattle.wsp_solver.proofs.crew.first_twin.Goals as goal

pub returns-in-Some : goal.returns-in-Some
returns-in-Some c =
    c.requires.crew.classes c.args.u c.in-Some.class
    (ap (λ (x : List (Option ℕ)). class_in x c.args.u) (sym c.deref.ensures.value) ∙ sym c.class_in.ensures ∙ c.in-Some.is)
