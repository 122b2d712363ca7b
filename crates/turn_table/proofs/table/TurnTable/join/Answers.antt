use Rattle.std.proofs.Common.{◌≡◌, false, ◌++◌, rules, ap, ◌∙◌, sym, subst, arith}
use Rattle.std.specs.List.{Contains}
use Rattle.std.proofs.lemmas.List.Elements.{Contains-append_left, Contains-append_right}
use Rattle.turn_table.specs.Table.{brought}
use Rattle.turn_table.specs.Lanes.{hold_of, carried_by, shape_of, joined_lane}
use Rattle.turn_table.specs.Plays.{united}
use Rattle.turn_table.proofs.Seats.{joins}
use Rattle.turn_table.proofs.Keeps.{compares}
use Rattle.turn_table.proofs.Numbers.{some_of, brought_has}
use Rattle.turn_table.proofs.table.TurnTable.join.Goals as goal
use Rattle.turn_table.proofs.table.TurnTable.join.Goals.{After-load}

pub join_seat-requires : goal.join_seat-requires
join_seat-requires g c =
    let out : c.into.inside.out ≡ false = ap (λ l. l.out) c.into.view_is ∙ c.requires.inside.0 in
    let from = c.into_seat.ensures in
    let n = some_of c.args.from.number c.requires.numbered in (
      search rules,
      search rules,
      from.lane.slots ∙ ap carried_by c.requires.inside.1,
      search rules,
      joins g.D.Tabled.fixed_part g.D.Tabled.list _ _ _ _ c.into.inside.seat.me.0 _ c.into_seat.result.me.0 n.0 c.into.invariant.live
          (c.into.invariant.hold ∙ ap hold_of out)
          from.lane.live (from.lane.hold ∙ ap hold_of c.requires.inside.1) (sym (ap (λ l. l.number) from.shape) ∙ n.1),
    )

pub load-requires : goal.load-requires
load-requires g c = (
  search rules,
  search rules,
  compares g.D.Tabled.fixed_part g.D.Tabled.list _ _ _ _ _ c.join_seat.new.seat.me (ap (λ m. m.0.live) c.join_seat.ensures.2 ∙ c.into.invariant.live),
)

-- the seat, once both steps are done
both : (g : _) (c : After-load g) → c.load.new.seat.me ≡ (united c.into.inside.seat.me.0 c.into_seat.result.me.0, c.into.inside.seat.me.1)
both g c = c.load.ensures.2.0 ∙ c.join_seat.ensures.2

-- and the numbers that were joined
numbers : (g : _) (c : After-load g) →
    c.load.new.seat.me.0.joined ≡ brought c.into_seat.result.me.0.number c.into_seat.result.me.0.joined ++ c.into.inside.seat.me.0.joined
numbers g c = ap (λ m. m.0.joined) (both g c)

pub invariant_of-into : goal.invariant_of-into
invariant_of-into g c = grind (arith, both)

pub returns-clause-into : goal.returns-clause-into
returns-clause-into g c =
    let me = both g (goal.at.returns-clause-into g c).After-load in
    let there = c.load.ensures.0 ∙ c.join_seat.ensures.0 in
    (λ i. shape_of (there i) c.into.inside.out (me i).0) ∙ (λ i. joined_lane (c.into.view_is i) (sym c.into_seat.ensures.shape i))

pub returns-clause-counted : goal.returns-clause-counted
returns-clause-counted g c = λ n h.
    let w = c.into_seat.result.me.0 in
    let has = subst (λ xs. Contains xs n) (ap (λ l. brought l.number l.joined) c.into_seat.ensures.shape)
    (brought_has c.args.from.number c.args.from.joined n h) in
    subst (λ xs. Contains xs n) (sym (numbers g (goal.at.returns-clause-counted g c).After-load))
    (Contains-append_left (brought w.number w.joined) c.into.inside.seat.me.0.joined n has)

pub returns-clause-kept : goal.returns-clause-kept
returns-clause-kept g c = λ n h.
    let w = c.into_seat.result.me.0 in
    let has = subst (λ xs. Contains xs n) (sym (ap (λ l. l.joined) c.into.view_is)) h in
    subst (λ xs. Contains xs n) (sym (numbers g (goal.at.returns-clause-kept g c).After-load))
    (Contains-append_right (brought w.number w.joined) c.into.inside.seat.me.0.joined n has)
