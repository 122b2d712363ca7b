use Rattle.std.proofs.Common.{get_or}
use Rattle.policy_reader.proofs.Prints.{arith, ap, sym, ◌∙◌, ◌++◌, ◌∷◌, [], pair_data}
use Rattle.policy_reader.proofs.Writing.{all_written, pairs_more, when_ok}
use Rattle.policy_reader.proofs.printed_parts.pairs_value.Goals as goal

pub returns : goal.returns
returns c = all_written (pair_data c.args.names.now.names) c.pairs.values c.pairs.pair-index c.args.pairs.now c.pairs.invariant (omega arith)

pub pairs-preserved : goal.pairs-preserved
pairs-preserved c =
    let names = c.args.names.now.names in
    let pairs = c.args.pairs.now in
    let n = c.pairs.pair-index in
    when_ok c.push_pair.result _ (sym c.is_err.ensures.value ∙ c.if-is_err.false) c.push_pair.ensures ∙
    ap (λ ds. ds ++ pair_data names (get_or pairs n (0, 0)) ∷ []) c.pairs.invariant ∙ sym (pairs_more names pairs n c.pairs-test.true)
