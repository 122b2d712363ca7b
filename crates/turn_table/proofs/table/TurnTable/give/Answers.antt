use Rattle.std.proofs.Common.{◌≡◌, true, [], ◌∷◌, Some, IfSome, rules, refl, ap, ◌∙◌, sym, subst, arith}
use mathlib.Core.Option.{some}
use Rattle.turn_table.specs.Table.{GrowsByOne}
use Rattle.turn_table.specs.Lanes.{LaneShape, hold_of}
use Rattle.turn_table.specs.Plays.{noting}
use Rattle.turn_table.proofs.Keeps.{notes, unlocks}
use Rattle.turn_table.proofs.Numbers.{some_of, at_some, if_numbered, outside}
use Rattle.turn_table.proofs.table.TurnTable.give.Goals as goal
use Rattle.turn_table.proofs.table.TurnTable.give.Goals.{After-exchange-emptied}

pub compare_exchange_with-requires : goal.compare_exchange_with-requires
compare_exchange_with-requires g c =
    let v = c.lane.inside.seat.me.0 in
    let out : c.lane.inside.out ≡ true = ap (λ l. l.out) c.lane.view_is ∙ c.requires.out in
    let n = some_of v.number (c.lane.invariant.numbered out) in
    let grows = subst (λ (l : LaneShape g.row.D-Ground.Denot g.row.D-Item.Denot). IfSome l.number (λ k. GrowsByOne k (g.D.Tabled.list c.args.value) l.seen))
    (sym c.lane.view_is) c.requires.list in (
      search rules,
      search rules,
      notes g.D.Tabled.fixed_part g.D.Tabled.list _ _ _ _ _ c.lane.inside.seat.me c.args.value n.0 c.lane.invariant.live
          (c.lane.invariant.hold ∙ ap hold_of out) n.1
          (at_some (λ k. GrowsByOne k (g.D.Tabled.list c.args.value) v.seen) v.number n.0 n.1 grows),
    )

-- once the value is back in its slot, the seat has the list noted and that slot
filled : (g : _) (c : After-exchange-emptied g) →
    c.exchange-emptied.new.seat.me ≡ (noting c.lane.inside.seat.me.0 (g.D.Tabled.list c.args.value), (0, Some c.args.value) ∷ [])
filled g c = grind (arith, some)

pub swap-requires : goal.swap-requires
swap-requires g c =
    let value = c.args.value in
    let fixed_part = g.D.Tabled.fixed_part in
    let list = g.D.Tabled.list in
    let w = noting c.lane.inside.seat.me.0 (list value) in (
      search rules,
      search rules,
      unlocks fixed_part list _ _ _ _ _ c.exchange-emptied.new.seat.me w value
          (filled g (goal.at.swap-requires g c).After-exchange-emptied)
          c.self.invariant.1 c.lane.invariant.live refl
          (c.requires.fixed ∙ sym (ap (λ l. l.fixed) c.lane.view_is)) refl,
    )

pub invariant_of-lane : goal.invariant_of-lane
invariant_of-lane g c = grind (arith, filled, outside)

pub returns-clause-lane : goal.returns-clause-lane
returns-clause-lane g c = grind (arith, filled)

pub returns-clause-own : goal.returns-clause-own
returns-clause-own g c = grind (arith, if_numbered)
