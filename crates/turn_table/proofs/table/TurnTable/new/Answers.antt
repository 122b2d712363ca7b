use Rattle.std.proofs.Common.{List, [], ◌∷◌, Option, Some, sym, subst}
use Rattle.atomic_table.specs.Table.{opening}
use Rattle.turn_table.specs.Plays.{TurnRule, starting}
use Rattle.turn_table.proofs.Ends.{starts}
use Rattle.turn_table.proofs.table.TurnTable.new.Goals as goal

pub new-requires : goal.new-requires
new-requires g c =
    let fixed = g.D.Tabled.fixed_part in
    let list = g.D.Tabled.list in
    subst (λ (z : g.row.D.Denot × List (Option g.row.D.Denot)). TurnRule fixed list (fixed z.0) (list z.0) c.args.lanes
    (opening (0 ∷ []) z.1 (starting (Some (fixed z.0)) (list z.0) c.args.lanes)))
    (λ i. (sym c.of.ensures i, sym c.in_ok-slots.ensures.row i)) (starts fixed list c.args.value c.args.lanes)
