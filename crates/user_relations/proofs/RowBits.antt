-- How the bits of rows change with a block.
use Rattle.std.proofs.Common.{◌≡◌, ℕ, ◌<◌, ◌/◌, ◌%◌, ◌==◌, ◌&&◌, ◌||◌, not, Bool, true, false, List, [], length, slice_index_or, slice_set, replicate}
use Rattle.std.proofs.Common.{ap, arith, get_or-set_same, get_or-set_other}
use Rattle.std.specs.Prelude.{Result, IfOk, OnOk}
use Rattle.std.proofs.lemmas.Bool.{cases_eq, cases_lt, eq-eqb, ne_eqb}
use Rattle.std.proofs.lemmas.List.{get_or_default, get_or_past, get_or-replicate, length-replicate}
use Rattle.std.proofs.lemmas.Result.{on_ok_weaker}
use Rattle.std.proofs.lemmas.Nat.Bits.{bit_at-zero}
use Rattle.std.specs.declared.alloc.AllocError.{AllocError}
use Rattle.wf_names.specs.UserSets.{has_user}
use Rattle.user_relations.specs.declared.blocks.Block.{Block}
use Rattle.user_relations.specs.declared.blocks.TheConstants.{BLOCK_ROWS}
use Rattle.user_relations.specs.Rows.{block_bit, row_bit, written}

-- a block in which one bit was written takes its place among the others
bit_changed : (bit : Bool) (blocks : List Block) (u v i : ℕ) (d new : Block) → i ≡ u / BLOCK_ROWS → i < length blocks
    → ((k y : ℕ) → block_bit new k y ≡ written bit (k == u % BLOCK_ROWS && y == v) (block_bit (slice_index_or blocks i d) k y))
    → (x y : ℕ) → row_bit (slice_set blocks i new) x y ≡ written bit (x == u && y == v) (row_bit blocks x y)
bit_changed bit blocks u v i d new at within changed x y = grind (arith, cases_eq, get_or-set_same, get_or_default, eq-eqb, ne_eqb, get_or-set_other)

-- what a call on one block says of all
pub bit_written : (bit : Bool) (blocks : List Block) (u v i : ℕ) (d new : Block) (r : Result (Unit {0}) AllocError) → i ≡ u / BLOCK_ROWS → i < length blocks
    → OnOk r ((k y : ℕ) → block_bit new k y ≡ written bit (k == u % BLOCK_ROWS && y == v) (block_bit (slice_index_or blocks i d) k y))
    → OnOk r ((x y : ℕ) → row_bit (slice_set blocks i new) x y ≡ written bit (x == u && y == v) (row_bit blocks x y))
bit_written bit blocks u v i d new r e within told = on_ok_weaker r (bit_changed bit blocks u v i d new e within) told

pub put_is : (e c : Bool) → written true e c ≡ (e || c)
put_is e c = grind arith

pub taken_is : (e c : Bool) → written false e c ≡ (not e && c)
taken_is e c = grind arith

-- a row that is not there has no bit
pub no_row : (v : ℕ) → has_user [] v ≡ false
no_row v = ap (λ n. n == 1) (bit_at-zero (v % 64))

pub no_bit_of : (words : List ℕ) → ((v : ℕ) → has_user words v ≡ false) → (n k v : ℕ) → has_user (slice_index_or (replicate n words) k []) v ≡ false
no_bit_of words none n k v = grind (arith, cases_lt, get_or-replicate, get_or_past, length-replicate, no_row)

pub shared_bits : (block : Block) (r : Result Block AllocError) → IfOk r (λ s. s ≡ block) → ((k v : ℕ) → block_bit block k v ≡ false) →
    IfOk r (λ s. (k v : ℕ) → block_bit s k v ≡ false)
shared_bits block r is none = grind arith
