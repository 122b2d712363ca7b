-- A loop over an array: what is read of the items that are left gives the whole.
use Rattle.std.proofs.Common.{◌≡◌, ℕ, ◌+◌, ◌<◌, List, length, drop, get_or, Ok, arith}
use Rattle.std.proofs.lemmas.List.{drop_more}
use Rattle.policy_reader.proofs.Words.{Value, Data, view, items_view, items, each, Reading}

pub each_more : {S : Type 0} (read : S → Data → Reading S) (s t : S) (whole : Reading S) (vs : List Value) (i : ℕ) (v : Value) → i < length vs
    → v ≡ get_or vs i v → each read s (items (items_view (drop i vs))) ≡ whole → read s (view v) ≡ Ok t
    → each read t (items (items_view (drop (i + 1) vs))) ≡ whole
each_more read s t whole vs i v lt at before here = grind (arith, drop_more)
