-- Inside: rows of bits, kept in blocks.
use Rattle.std.specs.Prelude.{◌≡◌, ℕ, ◌<◌, ◌/◌, ◌%◌, Bool, true, false, List, [], length}
use Rattle.std.specs.Prelude.{slice_index_or}
use Rattle.std.proofs.Common.{◌⊎◌}
use Rattle.std.specs.FinSet as set
use Rattle.std.specs.List.{All}
use Rattle.basics.specs.Laws.Pairs.{Pairs, IsAscending}
use Rattle.basics.specs.Tables.{set_of, with_row}
use Rattle.wf_names.specs.UserSets.{has_user}
use Rattle.wf_names.specs.declared.limits.TheConstants.{USER_LIMIT}
use Rattle.user_relations.specs.declared.blocks.Block.{Block}
use Rattle.user_relations.specs.declared.blocks.TheConstants.{BLOCKS, BLOCK_ROWS}

-- the bit v of row k of a block
abbrev pub block_bit : Block → ℕ → ℕ → Bool
block_bit block k v = has_user (slice_index_or block.rows k []) v

-- the bit v of row u: that of row u % BLOCK_ROWS of block u / BLOCK_ROWS
abbrev pub row_bit : List Block → ℕ → ℕ → Bool
row_bit blocks u v =
    block_bit (slice_index_or blocks (u / BLOCK_ROWS) (record { rows = [] })) (u % BLOCK_ROWS) v

-- a bit where it is written, and elsewhere what was there
abbrev pub written : Bool → Bool → Bool → Bool
written bit true old = bit
written bit false old = old

-- the pairs (u, v) whose bits are set
abbrev pub pairs_in : List Block → Pairs
pairs_in blocks = set_of (row_bit blocks) USER_LIMIT USER_LIMIT

-- there is a row for each user both ways, the rows behind are those ahead the other way round, and
-- the pairs are counted
pub record AreRows (ahead behind : List Block) (count : ℕ) : Type 0 where
  pub ahead_whole : length ahead ≡ BLOCKS
  pub behind_whole : length behind ≡ BLOCKS
  pub turned : (u v : ℕ) → row_bit behind v u ≡ row_bit ahead u v
  pub counted : count ≡ set.len (pairs_in ahead)

-- the pair is before (a, b)
abbrev pub IsBefore : ℕ → ℕ → ℕ × ℕ → Type 0
IsBefore a b q = (q.0 < a) ⊎ ((q.0 ≡ a) × (q.1 < b))

-- the pairs before (a, b) whose bits are set, in ascending order
pub record AreListedTo (blocks : List Block) (a b : ℕ) (pairs : List (ℕ × ℕ)) : Type 0 where
  pub is : set.from_list pairs ≡ with_row (row_bit blocks a) a b
      (set_of (row_bit blocks) a USER_LIMIT)
  pub ascending : IsAscending pairs
  pub before : All (IsBefore a b) pairs
