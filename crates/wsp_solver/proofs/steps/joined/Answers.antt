use Rattle.std.proofs.Common.{◌≡◌, Bool, true, false, ◌||◌, refl, sym, ap, ◌∙◌}
use Rattle.basics.proofs.Booleans.{eq_back}
use Rattle.constraint_forms.specs.Assign.{is_member}
use Rattle.constraint_forms.specs.Flags.{word_of}
use Rattle.wsp_solver.proofs.Crews.{word_one}
use Rattle.wsp_solver.proofs.steps.joined.Goals as goal

absorbed : (x y : Bool) → (y ≡ true → x ≡ true) → x ≡ (x || y)
absorbed true y h = refl
absorbed false true h = h refl
absorbed false false h = refl

pub returns-then-eq : goal.returns-then-eq
returns-then-eq c = λ t.
    let same = word_one c.args.b.now c.args.known.now (c.limit.ensures.len ∙ sym c.limit-2.ensures.len)
    (eq_back (word_of c.args.b.now) (word_of c.args.known.now) (sym c.if-eq.ensures)) in
    absorbed (is_member c.args.a.now t) (is_member c.args.b.now t) (λ h. c.requires.known t (ap (λ d. is_member d t) (sym same) ∙ h))
