use Rattle.std.proofs.Common.{◌≡◌, ◌+◌, ◌-◌, ◌*◌, ◌≤◌, ◌++◌, drop, length, true}
use Rattle.std.specs.Prelude.{map}
use Rattle.serde_json.specs.View.{items_of}
use Rattle.serde_json.specs.Written.{items_text}
use Rattle.wire_json.specs.Entries.{named}
use Rattle.wire_json.proofs.fill.put_users.Given as goal

abbrev pub invariant-users : goal.invariant-users
invariant-users l = record {
  room : 43 * (length l.plan - l.s) + 1 ≤ l.start;
  within : l.start + 1 ≤ l.end;
  short : l.end ≤ l.start + (43 * l.s + 1);
  cells : length l.cells ≡ length l.fn.cells;
  text : drop l.start l.cells ≡ items_text true (items_of (map (named l.users.names) (drop (length l.plan - l.s) l.plan))) ++ drop l.end l.fn.cells;
}
