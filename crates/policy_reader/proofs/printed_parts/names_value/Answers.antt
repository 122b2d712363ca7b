use Rattle.policy_reader.proofs.Prints.{arith, ap, sym, ◌∙◌, ◌++◌, ◌∷◌, [], string, name_at}
use Rattle.policy_reader.proofs.Writing.{all_written, names_more, when_ok}
use Rattle.policy_reader.proofs.printed_parts.names_value.Goals as goal

pub returns-clause-value : goal.returns-clause-value
returns-clause-value c =
    all_written string c.names.values c.names.n c.args.names.now.names c.names.invariant (omega (arith, c.names-test.false, c.len-n-end.ensures.count))

pub names-preserved : goal.names-preserved
names-preserved c =
    let names = c.args.names.now.names in
    let n = c.names.n in
    when_ok c.push_name.result _ (sym c.is_err.ensures.value ∙ c.if-is_err.false) c.push_name.ensures ∙
    ap (λ ds. ds ++ string (name_at names n) ∷ []) c.names.invariant ∙
    sym (names_more names n (omega (arith, c.names-test.true, c.len-n-end.ensures.count)))
