use Rattle.std.proofs.Common.{◌≡◌, ◌+◌, ◌*◌, count_ones, slice_index, take, arith, ap, sym, ◌∙◌}
use Rattle.std.specs.List.{sum_by}
use Rattle.std.proofs.lemmas.List.Sums.{sum_by_more}
use Rattle.wf_names.proofs.Counts.{ones_on, ones_within}
use Rattle.wf_names.proofs.words.count_words.Goals as goal

pub lanes-preserved : goal.lanes-preserved
lanes-preserved c =
    let words = c.args.words.now in
    let lane = c.lanes.lane in
    let more = ones_on (lane * 8) 8 words in
    let next : lane * 8 + 8 ≡ (lane + 1) * 8 = omega arith in
    let whole = ap (λ k. sum_by count_ones (take k words)) next in
    let within = ones_within words (λ i. (c.type_inv.words i).fits) ((lane + 1) * 8) (omega (arith, c.lanes-test.true)) in (
      omega (arith, c.lanes.invariant.0, c.count_lanes-count.ensures, more, whole),
      omega (arith, c.lanes.invariant.0, c.count_lanes-count.ensures, more, whole, within),
    )

pub rest-preserved : goal.rest-preserved
rest-preserved c =
    let words = c.args.words.now in
    let i = c.rest.i in
    let more = sum_by_more count_ones words i 0 c.rest-test.true in
    let within = ones_within words (λ j. (c.type_inv.words j).fits) (i + 1) (omega (arith, c.rest-test.true)) in (
      ap (λ n. n + count_ones (slice_index words i)) (c.rest.invariant.0) ∙ sym more,
      omega (arith, c.rest.invariant.0, more, within),
    )

pub overflow_add-count : goal.overflow_add-count
overflow_add-count c =
    let words = c.args.words.now in
    let lane = c.lanes.lane in
    let more = ones_on (lane * 8) 8 words in
    let next : lane * 8 + 8 ≡ (lane + 1) * 8 = omega arith in
    let whole = ap (λ k. sum_by count_ones (take k words)) next in
    let within = ones_within words (λ i. (c.type_inv.words i).fits) ((lane + 1) * 8) (omega (arith, c.lanes-test.true)) in
    record {
      fits = omega (arith, c.requires, c.lanes-test.true, c.lanes.invariant.0, c.count_lanes-count.ensures, more, whole, within);
    }
