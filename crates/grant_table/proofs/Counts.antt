-- How many cases of rows are open.
use Rattle.std.proofs.Common.{◌≡◌, ◌+◌, List, ◌∷◌}
use Rattle.std.proofs.lemmas.List.Sums.{sum_by-cons}
use Rattle.grant_table.specs.declared.rows.Row.{Row}
use Rattle.grant_table.specs.Cases.{ones, open_count}

pub counted : (r : Row) (rows : List Row) → open_count (r ∷ rows) ≡ ones r + open_count rows
counted r rows = sum_by-cons ones r rows
