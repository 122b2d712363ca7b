use Rattle.std.proofs.Common.{◌<◌, ◌∙◌, ◌+◌, ◌*◌, ℕ, map, arith}
use Rattle.cnf_export.specs.Laws.Encodings.{count_rows}
use Rattle.cnf_export.proofs.Listing.{next_number}
use Rattle.cnf_export.proofs.counting.list_rows.Goals as goal

pub numbers-preserved : goal.numbers-preserved
numbers-preserved c =
    let f = λ (j : ℕ). map (λ row. 4 * j + row) (count_rows c.args.u j) in
    let below : c.numbers.j < c.args.high = omega (arith, c.numbers-test.true) in
    next_number f c.numbers.into c.list_row.new.into c.numbers.j c.args.high below c.in_ok-list_row.ensures ∙ c.numbers.invariant
