use Rattle.std.proofs.Common.{◌≡◌, ◌++◌, drop}
use Rattle.std.specs.Prelude.{map}
use Rattle.serde_json.specs.View.{view}
use Rattle.wire_json.specs.Entries.{named}
use Rattle.wf_commands.proofs.cnf_answer.plan_value.Given as goal

abbrev pub invariant-users : goal.invariant-users
invariant-users l = map view l.values.items ++ map (named l.users.names) (drop l.s l.plan) ≡ map (named l.users.names) l.plan
