-- The flag of a step, and what one member leaves of a set.
use Rattle.std.proofs.Common.{◌≡◌, ℕ, ◌+◌, ◌<◌, Bool, false, not, ◌&&◌, ◌||◌, List, ◌∷◌, length, drop, sym, drop-cons, add-one, arith}
use Rattle.constraint_forms.specs.Rules.{is_member}

pub next_flag : (group : List Bool) (x : ℕ) (b : Bool) → x < length group → is_member group x ≡ b → drop x group ≡ b ∷ drop (x + 1) group
next_flag group x b h e = rw (sym e, add-one) (drop-cons group x false h)

pub one_less : (s p q : Bool) → ((s && not p) && not q) ≡ (s && not (p || q))
one_less s p q = grind arith

pub one_more : (k s p q : Bool) → ((k || (s && not p)) || (s && not q)) ≡ (k || (s && not (p && q)))
one_more k s p q = grind arith
