-- Signed numbers of literals.
use Rattle.std.proofs.Common.{◌≡◌, ℕ, ◌+◌, suc, ap, arith}
use Rattle.std.specs.Prelude.{pos, negsuc, Result, OnOk}

pub next_positive : (v : ℕ) → pos (v + 1) ≡ pos (suc v)
next_positive v = let e : v + 1 ≡ suc v = omega arith in ap pos e

pub next_negative : (v : ℕ) → negsuc (v + 0) ≡ negsuc v
next_negative v = let e : v + 0 ≡ v = omega arith in ap negsuc e

-- what is true on success, from what is
pub on_ok : {T E P Q : Type 0} (r : Result T E) → (P → Q) → OnOk r P → OnOk r Q
on_ok r f h = grind arith
