-- The numbers that stand in a view, the seat at which each stands, and what a call reads of a lane.
use Rattle.std.proofs.Common.{◌≡◌, ◌≢◌, ◌⊎◌, ℕ, eqb, cond, List, [], ◌∷◌, ap, inl, inr, arith, eq-eqb, ne_eqb, Option, Some}
use Rattle.std.proofs.Common.{None, IsSome, IfSome, Bool, true, false, subst}
use Rattle.std.specs.List.{Contains}
use Rattle.std.proofs.lemmas.List.Elements.{Contains-append_left, Contains-append_right}
use Rattle.turn_table.specs.Table.{brought}

-- the seat at which a number stands, once those at the seat from stand at the seat to
abbrev pub moved : ℕ → ℕ → ℕ → ℕ
moved from to seat = cond (eqb seat from) to seat

pub moved_hit : (from to seat : ℕ) → seat ≡ from → moved from to seat ≡ to
moved_hit from to seat e = ap (λ b. cond b to seat) (eq-eqb seat from e)

pub moved_miss : (from to seat : ℕ) → seat ≢ from → moved from to seat ≡ seat
moved_miss from to seat ne = ap (λ b. cond b to seat) (ne_eqb seat from ne)

-- the same once the number made stands at the seat to
abbrev pub placed : ℕ → ℕ → (ℕ → ℕ) → ℕ → ℕ
placed made to owner n = cond (eqb n made) to (owner n)

pub placed_hit : (made to : ℕ) (owner : ℕ → ℕ) (n : ℕ) → n ≡ made → placed made to owner n ≡ to
placed_hit made to owner n e = ap (λ b. cond b to (owner n)) (eq-eqb n made e)

pub placed_miss : (made to : ℕ) (owner : ℕ → ℕ) (n : ℕ) → n ≢ made → placed made to owner n ≡ owner n
placed_miss made to owner n ne = ap (λ b. cond b to (owner n)) (ne_eqb n made ne)

pub brought_has : (o : Option ℕ) (joined : List ℕ) (n : ℕ) → (o ≡ Some n) ⊎ Contains joined n → Contains (brought o joined) n
brought_has None joined n (inl e) = cc
brought_has None joined n (inr h) = h
brought_has (Some m) joined n (inl e) = Contains-append_left (m ∷ []) joined n (0, omega arith, (let same : m ≡ n = cc in same))
brought_has (Some m) joined n (inr h) = Contains-append_right (m ∷ []) joined n h

pub brought_from : (o : Option ℕ) (joined : List ℕ) (n : ℕ) → Contains (brought o joined) n → (o ≡ Some n) ⊎ Contains joined n
brought_from o joined n h = grind arith

pub contains_none : (n : ℕ) → Contains [] n → ⊥
contains_none n (k, lt, e) = omega arith

-- a lane's number, if it has one
pub some_of : (o : Option ℕ) → IsSome o → (n : ℕ) × (o ≡ Some n)
some_of o h = grind arith

pub at_some : (P : ℕ → Type 0) (o : Option ℕ) (n : ℕ) → o ≡ Some n → IfSome o P → P n
at_some P o n e h = subst (λ x. IfSome x P) e h

pub if_numbered : (P : ℕ → Type 0) (o : Option ℕ) → ((n : ℕ) → o ≡ Some n → P n) → IfSome o P
if_numbered P o h = grind arith

-- a lane without the value need have no number
pub outside : (o : Option ℕ) → false ≡ true → IsSome o
outside o e = cc

-- only a lane with a number has the value out
pub inside : (out : Bool) (o : Option ℕ) → (out ≡ true → IsSome o) → o ≡ None → out ≡ false
inside out o h e = grind arith
