use Rattle.std.proofs.Common.{nat_eq, refl, sym, ap, ◌∙◌, arith}
use Rattle.constraint_forms.specs.Flags.{word_of}
use Rattle.wsp_solver.specs.Crews.{has_steps}
use Rattle.wsp_solver.proofs.Nexts.{none_more}
use Rattle.wsp_solver.proofs.crew.next_with.Goals as goal

pub returns-then-eq : goal.returns-then-eq
returns-then-eq c = record {
  within = omega (arith, c.users-test.true);
  from_on = omega (arith, c.users.auto.v);
  has = ap (λ d. nat_eq (word_of d) (word_of c.args.steps.now)) (sym c.duties_at.ensures) ∙ sym c.if-eq.ensures;
  least = c.users.invariant;
}

pub users-preserved : goal.users-preserved
users-preserved c =
    none_more (has_steps c.args.duties.now c.args.steps.now) c.args.from c.users.v c.users.v c.users.invariant
    (ap (λ d. nat_eq (word_of d) (word_of c.args.steps.now)) (sym c.duties_at.ensures) ∙ sym c.if-eq.ensures) refl

pub returns : goal.returns
returns c = λ w from below. c.users.invariant w from (omega (arith, below, c.users-test.false))
