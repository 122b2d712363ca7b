use Rattle.std.proofs.Common.{◌≡◌, ◌+◌, ◌<◌, drop, length, slice_set, vec_capacity, vec_len, Vec, Global, true, false, refl, ap, sym, ◌∙◌, arith}
use Rattle.std.proofs.lemmas.List.{get_or_default}
use Rattle.wf_names.specs.States.{is_live}
use Rattle.grant_table.specs.Cases.{is_open_row, replanned_row}
use Rattle.grant_table.specs.declared.rows.Row.{Row}
use Rattle.grant_table.proofs.Replanning.{gets_next, none_left, passes_over, replanned_closed, replanned_so_far}
use Rattle.grant_table.proofs.Passed.{replanned_passed}
use Rattle.grant_table.proofs.rows.replan.Goals as goal
use Rattle.grant_table.proofs.rows.replan.Goals.{then-next-plans+then-is_live, else-next-plans, else-next-plans-via-then-next-plans+else-is_live}
use Rattle.grant_table.proofs.rows.replan.Goals.{else-next-plans-via-else-next-plans}

pub rows-init : goal.rows-init
rows-init c = record { len = refl; capacity = refl; done = replanned_passed c.args.first c.args.rows.now.items c.args.plans.now c.requires.ended }

pub rows-preserved : goal.rows-preserved
rows-preserved c = elim c.if-next-plans.branch [
  | then-next-plans+then-is_live w ↦
      let rows = c.rows.rows.items in
      let row = w.index-then-is_live.result.now in
      let plan = w.index-plans-next.result in
      let below : c.rows.i < length rows = omega (arith, c.rows-test.true, c.len-i-end.ensures, c.rows.invariant.len) in
      let same : w.index.result.now ≡ row = w.index.ensures ∙ get_or_default rows c.rows.i w.index.result.now row below ∙ sym w.index-then-is_live.ensures in
      let live : is_open_row row ≡ true = ap is_open_row (sym same) ∙ ap is_live (sym w.phase.ensures) ∙ sym w.is_live.ensures ∙ w.if-is_live.true in
      let now : replanned_so_far c.if-next-plans.rows.items (c.rows.i + 1) c.args.plans.now c.if-next-plans.next ≡ replanned_so_far
      (slice_set rows c.rows.i (replanned_row plan row)) (c.rows.i + 1) c.args.plans.now (c.rows.next + 1) =
      ap (λ (v : Vec Row Global). replanned_so_far v.items (c.rows.i + 1) c.args.plans.now c.if-next-plans.next) w.rows-is
      ∙ (λ k. replanned_so_far (slice_set rows c.rows.i (w.replanned.ensures k)) (c.rows.i + 1) c.args.plans.now (w.next-is k)) in
      record {
        len = ap vec_len w.rows-is ∙ c.rows.invariant.len;
        capacity = ap vec_capacity w.rows-is ∙ c.rows.invariant.capacity;
        done = now ∙ (gets_next rows c.rows.i c.args.plans.now c.rows.next row plan below w.index-then-is_live.ensures w.if-next-plans.true
            w.index-plans-next.is live ∙ c.rows.invariant.done);
      }
  | else-next-plans w ↦
      let now : replanned_so_far c.if-next-plans.rows.items (c.rows.i + 1) c.args.plans.now c.if-next-plans.next ≡ replanned_so_far c.rows.rows.items
      (c.rows.i + 1) c.args.plans.now c.rows.next =
      λ k. replanned_so_far (w.rows-is k).items (c.rows.i + 1) c.args.plans.now (w.next-is k) in
      elim w.else-next-plans.branch [
        | else-next-plans-via-then-next-plans+else-is_live v ↦
            let closed : is_open_row v.index.result.now ≡ false = ap is_live (sym v.phase.ensures) ∙ sym v.is_live.ensures ∙ v.if-is_live.false in
            let passed = passes_over c.rows.rows.items c.rows.i c.args.plans.now c.rows.next v.index.result.now
            (omega (arith, c.rows-test.true, c.len-i-end.ensures, c.rows.invariant.len)) v.index.ensures
            (replanned_closed v.index.result.now (drop (c.rows.i + 1) c.rows.rows.items) (drop c.rows.next c.args.plans.now) closed) in
            record {
              len = ap vec_len w.rows-is ∙ c.rows.invariant.len;
              capacity = ap vec_capacity w.rows-is ∙ c.rows.invariant.capacity;
              done = now ∙
                  (passed ∙ c.rows.invariant.done);
            }
        | else-next-plans-via-else-next-plans v ↦
            let passed = none_left c.rows.rows.items c.rows.i c.args.plans.now c.rows.next v.if-next-plans.false in
            record {
              len = ap vec_len w.rows-is ∙ c.rows.invariant.len;
              capacity = ap vec_capacity w.rows-is ∙ c.rows.invariant.capacity;
              done = now ∙
                  (passed ∙ c.rows.invariant.done);
            }
      ]
]
