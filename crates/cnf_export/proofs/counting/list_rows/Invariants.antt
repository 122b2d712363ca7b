use Rattle.std.proofs.Common.{◌≡◌, ◌+◌, ◌*◌, ◌-◌, ◌++◌, map}
use Rattle.std.specs.List.{flat_map}
use Rattle.cnf_export.specs.Laws.Encodings.{count_rows, numbers}
use Rattle.cnf_export.proofs.counting.list_rows.Given as goal

-- the rows so far, and those to come
abbrev pub invariant-numbers : goal.invariant-numbers
invariant-numbers l =
    l.into ++ flat_map (λ j. map (λ row. 4 * j + row) (count_rows l.u j)) (numbers l.j (l.high - l.j))
    ≡ flat_map (λ j. map (λ row. 4 * j + row) (count_rows l.u j)) (numbers 0 l.high)
