use Rattle.std.proofs.Common.{◌≡◌}
use Rattle.trial_command.specs.Draws.{after}
use Rattle.trial_command.specs.Policy.{drawn_members}
use Rattle.trial_command.proofs.people.draw_roles.Given as goal

abbrev pub invariant-users : goal.invariant-users
invariant-users l = record {
  roster : l.roster ≡ record l.fn.roster { members = drawn_members l.fn.draws l.u };
  draws : l.draws ≡ after l.u l.fn.draws;
}
