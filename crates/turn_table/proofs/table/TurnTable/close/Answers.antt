use Rattle.std.proofs.Common.{◌≡◌, ℕ, ◌<◌, Some, IsSome, refl, ap, ◌∙◌, sym, subst}
use Rattle.std.specs.List.{Contains}
use mathlib.Core.Option.{some-injective}
use Rattle.turn_table.specs.Lanes.{LaneShape, hold_of}
use Rattle.turn_table.proofs.Ends.{closes}
use Rattle.turn_table.proofs.Numbers.{inside}
use Rattle.turn_table.proofs.table.TurnTable.close.Goals as goal
use Rattle.turn_table.proofs.table.TurnTable.close.Goals.{After-take-value}

last : (g : _) (c : After-take-value g) → (x : g.row.D.Denot) × (c.take-value.result ≡ Some x) × (Some (g.D.Tabled.fixed_part x) ≡ c.args.first.fixed) ×
    (g.D.Tabled.list x ≡ c.args.first.seen)
last g c =
    let v = c.into_seat.result.me.0 in
    let s = c.into_seat.ensures in
    let first = sym (ap (λ l. l.number) s.shape) ∙ c.requires.first in
    let out = inside c.args.first.out v.number s.lane.numbered first in
    let t = closes g.D.Tabled.fixed_part g.D.Tabled.list _ _ _ c.into_seat.result.id v _ _ s.lane.live (s.lane.hold ∙ ap hold_of out) first
    (subst (λ (l : LaneShape g.row.D-Ground.Denot g.row.D-Item.Denot). (n : ℕ) → n < l.made → Contains l.joined n) s.shape c.requires.joined)
    c.close_with-closed.ensures.values.2 in (
      t.0,
      some-injective _ _ (sym c.take-value.ensures.value ∙ t.1),
      t.2 ∙ sym (ap (λ l. l.fixed) s.shape),
      t.3 ∙ sym (ap (λ l. l.seen) s.shape),
    )

pub unwrap-requires : goal.unwrap-requires
unwrap-requires g c = let t = last g (goal.at.unwrap-requires g c).After-take-value in subst IsSome (sym t.1) refl

pub returns : goal.returns
returns g c =
    let t = last g (goal.at.returns g c).After-take-value in
    let same : c.unwrap.result ≡ t.0 = (let e : Some c.unwrap.result ≡ Some t.0 = sym c.unwrap.ensures ∙ t.1 in cc) in
    record { fixed = ap (λ x. Some (g.D.Tabled.fixed_part x)) same ∙ t.2; list = ap g.D.Tabled.list same ∙ t.3 }
