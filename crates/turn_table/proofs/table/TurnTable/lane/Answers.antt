use Rattle.std.proofs.Common.{rules}
use Rattle.turn_table.proofs.Seats.{splits}
use Rattle.turn_table.proofs.table.TurnTable.lane.Goals as goal

pub split_seat-seat-requires : goal.split_seat-seat-requires
split_seat-seat-requires g c = (
  search rules,
  search rules,
  splits g.D.Tabled.fixed_part g.D.Tabled.list _ _ _ _ c.parent.inside.seat.me.0 c.parent.invariant.live (search rules) (search rules),
)
