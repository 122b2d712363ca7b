-- What a lane's thread is given may go to another thread.
use mathlib.Core.List.{[], ◌∷◌}
use mir.Syntax.{Lifetime, Sym}
use base.Fml.{Lft}
use denote.RattleType.{RattleType}
use denote.Ref.{ShrRef}
use denote.Struct.Field.{row_field, u8-field}
use denote.Struct.Tuple.{TupleAt, type_at}
use denote.Param.{param}
use denote.Param.Send.{IsSend, IsSync, param_sync, sendable, shr_send}
use denote.Param.SendFields.{as_row_send, declared_send}
use Rattle.std.proofs.Crossing.{crosses}
use Rattle.turn_table.specs.contracts.lane.Lane as Lane
use Rattle.turn_table.specs.contracts.table.TurnTable as TurnTable
use Rattle.turn_table.proofs.lane.Lane.TheSendSync.{the_send as lane_send}
use Rattle.turn_table.proofs.table.TurnTable.TheSendSync.{the_sync as table_sync}
use Rattle.wf_talk.specs.contracts.entry.Entry as Entry
use Rattle.wf_desk.specs.contracts.desk.Desk as Desk
use Rattle.wf_desk.specs.contracts.tabled.Fixed as Fixed
use Rattle.wf_desk.specs.contracts.tabled.DeskTabled.TheImpl as tabled
use Rattle.wf_desk.proofs.Crossing.{desk_send}

-- a closure with four captures may, if each of them may
four_send : (name : Sym) (A B C D : RattleType) → IsSend A → IsSend B → IsSend C → IsSend D → IsSend (TupleAt name (A ∷ B ∷ C ∷ D ∷ []))
four_send name A B C D a b c d =
    declared_send (type_at name (A ∷ B ∷ C ∷ D ∷ []))
    (as_row_send (row_field A) a, (as_row_send (row_field B) b, (as_row_send (row_field C) c, (as_row_send (row_field D) d, tt))))

abbrev pub the_lane : RattleType
the_lane = Lane.the_row Desk.the_row Fixed.the_row Entry.the_row tabled.ghosts

abbrev pub the_table : RattleType
the_table = TurnTable.the_row Desk.the_row Fixed.the_row Entry.the_row tabled.ghosts

pub desk_lane_send : IsSend the_lane
desk_lane_send = search (sendable, lane_send, desk_send) depth 20

desk_table_sync : IsSync the_table
desk_table_sync = search (sendable, crosses, table_sync, desk_send) depth 20

-- what the closure of a lane captures: what serves it, the table, the lane and its number
pub errand_send : (name : Sym) (W : RattleType) (w t : Lifetime) (ω τ : Lft) → IsSync W →
    IsSend (TupleAt name (ShrRef w ω (param 1 W) ∷ ShrRef t τ the_table ∷ the_lane ∷ u8-field.row ∷ []))
errand_send name W w t ω τ sync =
    four_send name (ShrRef w ω (param 1 W)) (ShrRef t τ the_table) the_lane u8-field.row (shr_send w ω (param 1 W) (param_sync 1 W sync))
    (shr_send t τ the_table desk_table_sync) desk_lane_send (search sendable depth 20)
