use Rattle.std.proofs.Common.{◌≡◌, ◌≤◌, ◌-◌, ℕ, drop}
use Rattle.wf_names.specs.declared.limits.TheConstants.{STEP_LIMIT}
use Rattle.constraint_forms.specs.Assign.{planned}
use Rattle.constraint_forms.specs.Rules.{any_from, turned}
use Rattle.constraint_forms.proofs.evaluate.any_related.Given as goal

abbrev pub invariant-members : goal.invariant-members
invariant-members g l =
    let p = λ (x : ℕ). turned l.back (g.H.Holds.related l.h) l.rho (planned l.plan x) l.v in
    record {
      below : l.from ≤ STEP_LIMIT;
      rest : any_from l.from (drop l.from l.group) p ≡ any_from 0 l.group p;
    }

abbrev pub decreases-members : goal.decreases-members
decreases-members g l = STEP_LIMIT - l.from
