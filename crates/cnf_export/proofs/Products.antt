-- Products of small numbers.
use Rattle.std.proofs.Common.{ℕ, ◌*◌, ◌^◌, ◌<◌, ◌≤◌, arith, mul-le-mul}
use Rattle.wf_names.specs.declared.limits.TheConstants.{USER_LIMIT}

-- the first variable of a block
pub block_small : (b n : ℕ) → b < 65536 → n ≤ USER_LIMIT → b * n < 2 ^ 28
block_small b n few users = grind (arith, mul-le-mul)

-- the first of a user's variables in a count
pub row_small : (u high : ℕ) → u < 65536 → high ≤ 256 → u * high < 2 ^ 25
row_small u high few small = grind (arith, mul-le-mul)
