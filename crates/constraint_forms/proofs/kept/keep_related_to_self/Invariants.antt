use Rattle.std.proofs.Common.{◌≡◌, ℕ, ◌<◌, ◌≤◌, ◌&&◌}
use Rattle.wf_names.specs.UserSets.{has_user}
use Rattle.constraint_forms.proofs.kept.keep_related_to_self.Given as goal

abbrev pub invariant-users : goal.invariant-users
invariant-users g l = record {
  passed : (v : ℕ) → v < l.u → has_user l.set v ≡ (has_user l.fn.set v && g.R.Holds.related l.rows l.rho v v);
  ahead : (v : ℕ) → l.u ≤ v → has_user l.set v ≡ has_user l.fn.set v;
}
