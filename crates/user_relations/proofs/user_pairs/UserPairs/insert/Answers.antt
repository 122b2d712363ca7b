use Rattle.std.proofs.Common.{◌∙◌, ◌==◌, ◌&&◌, ap, sym, length, arith, true}
use Rattle.std.specs.FinSet as set
use Rattle.basics.specs.PairLaws.{pair_cmp_total, pair_cmp-IsAntisymmetric, insert_held}
use Rattle.basics.specs.Tables.{set_of_insert}
use Rattle.wf_names.specs.declared.limits.TheConstants.{USER_LIMIT}
use Rattle.user_relations.specs.Rows.{row_bit, written, pairs_in}
use Rattle.std.proofs.lemmas.List.{with_items_is}
use Rattle.user_relations.proofs.RowBits.{put_is}
use Rattle.user_relations.proofs.RowSets.{rows_put, few_pairs}
use Rattle.user_relations.proofs.user_pairs.UserPairs.insert.Goals as goal

pub returns-then-has-clause-added : goal.returns-then-has-clause-added
returns-then-has-clause-added c =
    sym (insert_held pair_cmp_total pair_cmp-IsAntisymmetric c.args.self.now (c.args.u, c.args.v) (sym c.has.ensures ∙ c.if-has.true))

pub overflow_add-self : goal.overflow_add-self
overflow_add-self c = let few = few_pairs _ _ _ c.self.invariant in omega (arith, few)

pub invariant_of-self-2 : goal.invariant_of-self-2
invariant_of-self-2 c =
    let u = c.args.u in
    let v = c.args.v in
    let ahead = c.self.inside.ahead in
    let behind = c.self.inside.behind in
    let free = ap (λ s. set.contains s (u, v)) c.self.view_is ∙ sym c.has.ensures ∙ c.if-has.false in
    rw (
      with_items_is ahead c.write.new.ahead (c.write.auto.ahead ∙ c.deref_mut.ensures.len),
      with_items_is behind c.write.new.behind (c.write.auto.behind ∙ c.deref_mut-2.ensures.len),
    ) (rows_put ahead.items behind.items c.write.new.ahead c.write.new.behind c.self.inside.count u v c.self.invariant
    (c.write.auto.ahead ∙ ap length c.deref_mut.ensures.value) (c.write.auto.behind ∙ ap length c.deref_mut-2.ensures.value)
    c.requires.first c.requires.second free
    (λ x y. c.in_ok-write.ensures.ahead x y ∙ ap (λ bs. written true (x == u && y == v) (row_bit bs x y)) c.deref_mut.ensures.value ∙
    put_is (x == u && y == v) (row_bit c.self.inside.ahead.items x y))
    (λ y x. c.in_ok-write.ensures.behind y x ∙ ap (λ bs. written true (y == v && x == u) (row_bit bs y x)) c.deref_mut-2.ensures.value ∙
    put_is (y == v && x == u) (row_bit c.self.inside.behind.items y x)))

pub returns-clause-added : goal.returns-clause-added
returns-clause-added c =
    let u = c.args.u in
    let v = c.args.v in
    ap pairs_in (with_items_is c.self.inside.ahead c.write.new.ahead (c.write.auto.ahead ∙ c.deref_mut.ensures.len))
    ∙ set_of_insert (row_bit c.self.inside.ahead.items) (row_bit c.write.new.ahead) USER_LIMIT USER_LIMIT u v c.requires.first c.requires.second
    (λ x y. c.in_ok-write.ensures.ahead x y ∙ ap (λ bs. written true (x == u && y == v) (row_bit bs x y)) c.deref_mut.ensures.value ∙
    put_is (x == u && y == v) (row_bit c.self.inside.ahead.items x y))
    ∙ ap (λ s. set.insert s (u, v)) c.self.view_is
