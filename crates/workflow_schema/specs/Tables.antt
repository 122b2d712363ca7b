-- Inside: how orders and permissions are kept, as tables of flags, one word of bits a row.
use Rattle.std.specs.Prelude.{ℕ, Bool, ◌&&◌, ◌||◌, nat_lt, nat_eq, List, length, slice_index}
use Rattle.std.proofs.Common.{zero, suc}
use Rattle.std.specs.Int.{bit_at}
use Rattle.basics.specs.Laws.Pairs.{Pairs}
use Rattle.basics.specs.Tables.{set_of}
use Rattle.workflow_schema.specs.declared.table.TheConstants.{WORD_BITS}

-- a word has a bit
unfoldable pub is_set : ℕ → ℕ → Bool
is_set word bit = nat_lt bit WORD_BITS && nat_eq (bit_at word bit) 1

-- a table has a flag
abbrev pub table_has : List ℕ → ℕ → ℕ → Bool
table_has rows row bit = is_set (slice_index rows row) bit

-- a chain of pairs leads from a to b through numbers below n alone
unfoldable pub leads : ℕ → (ℕ → ℕ → Bool) → ℕ → ℕ → Bool
leads zero next a b = next a b
leads (suc n) next a b = leads n next a b || (leads n next a n && leads n next n b)

-- the set of the pairs (row, bit) of a table
unfoldable pub pairs_in : List ℕ → Pairs
pairs_in rows = set_of (table_has rows) (length rows) WORD_BITS

-- the same as pairs (bit, row)
unfoldable pub permitted_by : List ℕ → Pairs
permitted_by rows = set_of (λ bit row. table_has rows row bit) WORD_BITS (length rows)
