use Rattle.std.proofs.Common.{◌∙◌, ◌==◌, ◌&&◌, ap, sym, length, arith, false}
use Rattle.std.specs.FinSet as set
use Rattle.basics.specs.PairLaws.{pair_cmp_total, pair_cmp-IsAntisymmetric, remove_absent}
use Rattle.basics.specs.Tables.{set_of_remove}
use Rattle.wf_names.specs.declared.limits.TheConstants.{USER_LIMIT}
use Rattle.user_relations.specs.Rows.{row_bit, written, pairs_in}
use Rattle.std.proofs.lemmas.List.{with_items_is}
use Rattle.user_relations.proofs.RowBits.{taken_is}
use Rattle.user_relations.proofs.RowSets.{rows_taken, some_pair, held_within}
use Rattle.user_relations.proofs.user_pairs.UserPairs.remove.Goals as goal

pub returns-then-not-has-clause-removed : goal.returns-then-not-has-clause-removed
returns-then-not-has-clause-removed c =
    sym (remove_absent pair_cmp_total pair_cmp-IsAntisymmetric c.args.self.now (c.args.u, c.args.v) (sym c.has.ensures ∙ c.if-not-has.true))

pub write-requires-clause-users : goal.write-requires-clause-users
write-requires-clause-users c = grind (arith, held_within)

pub overflow_sub-self : goal.overflow_sub-self
overflow_sub-self c = grind (arith, some_pair)

pub invariant_of-self-2 : goal.invariant_of-self-2
invariant_of-self-2 c =
    let u = c.args.u in
    let v = c.args.v in
    let ahead = c.self.inside.ahead in
    let behind = c.self.inside.behind in
    let here = ap (λ s. set.contains s (u, v)) c.self.view_is ∙ sym c.has.ensures ∙ c.if-not-has.false in
    rw (
      with_items_is ahead c.write.new.ahead (c.write.auto.ahead ∙ c.deref_mut.ensures.len),
      with_items_is behind c.write.new.behind (c.write.auto.behind ∙ c.deref_mut-2.ensures.len),
    ) (rows_taken ahead.items behind.items c.write.new.ahead c.write.new.behind c.self.inside.count u v c.self.invariant
    (c.write.auto.ahead ∙ ap length c.deref_mut.ensures.value) (c.write.auto.behind ∙ ap length c.deref_mut-2.ensures.value)
    here
    (λ x y. c.in_ok-write.ensures.ahead x y ∙ ap (λ bs. written false (x == u && y == v) (row_bit bs x y)) c.deref_mut.ensures.value ∙
    taken_is (x == u && y == v) (row_bit c.self.inside.ahead.items x y))
    (λ y x. c.in_ok-write.ensures.behind y x ∙ ap (λ bs. written false (y == v && x == u) (row_bit bs y x)) c.deref_mut-2.ensures.value ∙
    taken_is (y == v && x == u) (row_bit c.self.inside.behind.items y x)))

pub returns-clause-removed : goal.returns-clause-removed
returns-clause-removed c =
    let u = c.args.u in
    let v = c.args.v in
    ap pairs_in (with_items_is c.self.inside.ahead c.write.new.ahead (c.write.auto.ahead ∙ c.deref_mut.ensures.len))
    ∙ set_of_remove (row_bit c.self.inside.ahead.items) (row_bit c.write.new.ahead) USER_LIMIT USER_LIMIT u v
    (λ x y. c.in_ok-write.ensures.ahead x y ∙ ap (λ bs. written false (x == u && y == v) (row_bit bs x y)) c.deref_mut.ensures.value ∙
    taken_is (x == u && y == v) (row_bit c.self.inside.ahead.items x y))
    ∙ ap (λ s. set.remove s (u, v)) c.self.view_is
