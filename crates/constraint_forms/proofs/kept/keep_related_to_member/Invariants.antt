use Rattle.std.proofs.Common.{◌≡◌, ℕ, ◌-◌, ◌≤◌, ◌&&◌, ◌||◌, not, drop}
use Rattle.wf_names.specs.declared.limits.TheConstants.{STEP_LIMIT}
use Rattle.wf_names.specs.UserSets.{has_user}
use Rattle.constraint_forms.specs.Kept.{are_unrelated_with}
use Rattle.constraint_forms.specs.Rules.{all_from, turned}
use Rattle.constraint_forms.proofs.kept.keep_related_to_member.Given as goal

abbrev pub invariant-members : goal.invariant-members
invariant-members g l =
    let p = λ (u x : ℕ). are_unrelated_with (turned l.back (g.R.Holds.related l.rows)) l.rho l.asked.given x l.step l.asked.s u in
    record {
      within : l.from ≤ STEP_LIMIT;
      kept : (u : ℕ) → (has_user l.kept u || (has_user l.set u && not (all_from l.from (drop l.from l.group) (p u)))) ≡ (has_user l.set u &&
          not (all_from 0 l.group (p u)));
    }

abbrev pub decreases-members : goal.decreases-members
decreases-members g l = STEP_LIMIT - l.from
