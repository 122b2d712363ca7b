use Rattle.std.proofs.Common.{◌&&◌, ◌||◌, ◌==◌, sym, ap, ◌∙◌, arith}
use Rattle.basics.proofs.Booleans.{or-false}
use Rattle.constraint_forms.specs.Assign.{is_member}
use Rattle.wsp_solver.proofs.Members.{member_added}
use Rattle.wsp_solver.proofs.steps.with_if.Goals as goal

pub returns-then-wanted-clause-members : goal.returns-then-wanted-clause-members
returns-then-wanted-clause-members c = λ t.
    ap (λ set. is_member set t) c.with.ensures.value ∙ member_added c.args.set.now c.args.s t (omega (arith, c.requires, c.with.ensures.len))
    ∙ ap (λ b. is_member c.args.set.now t || (b && t == c.args.s)) (sym c.if-wanted.true)

pub returns-else-wanted-clause-members : goal.returns-else-wanted-clause-members
returns-else-wanted-clause-members c =
    λ t. sym (ap (λ b. is_member c.args.set.now t || (b && t == c.args.s)) c.if-wanted.false ∙ or-false (is_member c.args.set.now t))
