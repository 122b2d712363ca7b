use Rattle.std.proofs.Common.{◌≡◌}
use Rattle.turn_table.proofs.table.TurnTable.take.Given as goal

abbrev pub invariant-loop : goal.invariant-loop
invariant-loop g l = (goal.iterator-loop g).can_next l.iterator' × (goal.iterator-loop g).is_finite l.iterator'
    × (l.lane-inside.seat.table_id ≡ l.initial.lane-inside.seat.table_id) × (l.lane-inside.seat.me ≡ l.initial.lane-inside.seat.me) ×
    (l.lane-inside.out ≡ l.initial.lane-inside.out)
