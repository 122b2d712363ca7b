use Rattle.std.proofs.Common.{◌≡◌, ◌≤◌, ◌-◌, ℕ, drop}
use Rattle.wf_names.specs.declared.limits.TheConstants.{STEP_LIMIT}
use Rattle.constraint_forms.specs.Assign.{user_at}
use Rattle.constraint_forms.specs.Rules.{all_from, are_unrelated, turned}
use Rattle.constraint_forms.proofs.evaluate.all_unrelated.Given as goal

abbrev pub invariant-members : goal.invariant-members
invariant-members g l =
    let p = λ (x : ℕ). are_unrelated (turned l.back (g.H.Holds.related l.h)) l.rho (user_at l.a x) (user_at l.a l.step) in
    record {
      below : l.from ≤ STEP_LIMIT;
      rest : all_from l.from (drop l.from l.group) p ≡ all_from 0 l.group p;
    }

abbrev pub decreases-members : goal.decreases-members
decreases-members g l = STEP_LIMIT - l.from
