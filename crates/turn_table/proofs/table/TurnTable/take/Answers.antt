use Rattle.std.proofs.Common.{◌≡◌, true, Some, IsSome, rules, refl, ap, ◌∙◌, sym, subst, arith}
use Rattle.turn_table.specs.Table.{Quiet}
use Rattle.turn_table.specs.Plays.{entering}
use Rattle.turn_table.proofs.Keeps.{locks}
use Rattle.turn_table.proofs.Views.{slot_in_hand}
use Rattle.turn_table.proofs.table.TurnTable.take.Goals as goal
use Rattle.turn_table.proofs.table.TurnTable.take.Goals.{After-exchange}

pub compare_exchange-found-requires : goal.compare_exchange-found-requires
compare_exchange-found-requires g c = (
  search rules,
  search rules,
  locks g.D.Tabled.fixed_part g.D.Tabled.list _ _ _ _ _ c.loop.lane-inside.seat.me (ap (λ m. m.0.live) c.loop.invariant.3 ∙ c.lane.invariant.live),
)

pub exchange-requires : goal.exchange-requires
exchange-requires g c =
    let t = c.compare_exchange-found.ensures.2.0 c.if-found-eq-FREE.true in
    (search rules, (Some t.0, slot_in_hand c.compare_exchange-found.new.seat.me _ (Some t.0) _ t.1))

-- what the lock found in the slot is what the exchange took out of it
found : (g : _) (c : After-exchange g) → (x : g.row.D.Denot) × (c.exchange.result ≡ Some x) ×
    (c.exchange.new.seat.me.0 ≡ entering c.loop.lane-inside.seat.me.0 (g.D.Tabled.list x))
    × (Some (g.D.Tabled.fixed_part x) ≡ c.loop.lane-inside.seat.me.0.fixed) ×
    Quiet (λ n. c.loop.lane-inside.seat.me.0.number ≡ Some n) (g.D.Tabled.list x) c.loop.lane-inside.seat.me.0.seen
found g c = grind arith

pub unwrap-requires : goal.unwrap-requires
unwrap-requires g c = let t = found g (goal.at.unwrap-requires g c).After-exchange in subst IsSome (sym t.1) refl

pub returns-then-found-eq-FREE : goal.returns-then-found-eq-FREE
returns-then-found-eq-FREE g c = grind (arith, found)
