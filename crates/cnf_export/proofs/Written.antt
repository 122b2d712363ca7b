-- How a text is written in pieces.
use Rattle.std.proofs.Common.{◌≡◌, ◌∙◌, ℕ, Bool, true, false, List, [], ◌∷◌, ◌++◌, Option, sym, ap, append_assoc, arith}
use Rattle.std.specs.Prelude.{ℤ}
use Rattle.std.specs.List.{flat_map}
use Rattle.std.proofs.lemmas.List.{append-nil}
use Rattle.wf_outside.specs.Laws.Outside.{HasPart, with_bytes}
use Rattle.wf_outside.proofs.OutsideLaws.{more_put, nothing_put, part_all, part_first, part_second}
use Rattle.cnf_export.specs.Positions.{HasGiven}
use Rattle.cnf_export.specs.Text.{clause_line}
use Rattle.cnf_export.specs.Writing.{HasPut}

-- nothing is put yet
pub none_put : (held : Option (List ℕ)) (text rest : List ℕ) → text ≡ rest → HasPut held held text rest
none_put held text rest same = record { front = []; whole = same; held = sym (nothing_put held) }

-- the same rest, put together otherwise
pub same_rest : (before after : Option (List ℕ)) (text rest other : List ℕ) → HasPut before after text rest → rest ≡ other → HasPut before after text other
same_rest before after text rest other put same = record { front = put.front; whole = put.whole ∙ ap (λ r. put.front ++ r) same; held = put.held }

-- one more clause is text
pub one_more : (before after : Option (List ℕ)) (text out : List ℕ) (c : List ℤ) (cs left : List (List ℤ)) → left ≡ c ∷ cs
    → HasPut before after text (out ++ flat_map clause_line left) → HasPut before after text ((out ++ clause_line c) ++ flat_map clause_line cs)
one_more before after text out c cs left first put = grind (arith, same_rest, append_assoc)

-- what was kept is put
pub piece_put : (before mid after : Option (List ℕ)) (text out rest : List ℕ) → HasPut before mid text (out ++ rest) → after ≡ with_bytes mid out →
    HasPut before after text rest
piece_put before mid after text out rest put now = grind (arith, append_assoc, more_put)

-- all of it is put
pub all_put : (before mid after : Option (List ℕ)) (text out rest : List ℕ) → HasPut before mid text (out ++ rest) → rest ≡ [] →
    after ≡ with_bytes mid out → after ≡ with_bytes before text
all_put before mid after text out rest put none now =
    let done = piece_put before mid after text out rest put now in
    done.held ∙ ap (with_bytes before) (sym (done.whole ∙ ap (λ r. done.front ++ r) none ∙ append-nil done.front))

-- a part of it is put
pub part_put : (before mid after : Option (List ℕ)) (text out rest : List ℕ) → HasPut before mid text (out ++ rest) → HasPart mid after out →
    HasPart before after text
part_put before mid after text out rest put part = grind (arith, part_second, part_first)

pub so_far : (before after : Option (List ℕ)) (text rest : List ℕ) → HasPut before after text rest → HasPart before after text
so_far before after text rest put = grind (arith, part_first, part_all)

-- a clause is given where there is more, and else none is left
pub next_is : (more : Bool) (left rest : List (List ℤ)) (c : List ℤ) → HasGiven left more c rest → more ≡ true → left ≡ c ∷ rest
next_is more left rest c h is = grind arith

pub none_left : (more : Bool) (left rest : List (List ℤ)) (c : List ℤ) → HasGiven left more c rest → more ≡ false → flat_map clause_line left ≡ []
none_left more left rest c h is = grind arith

-- one more clause is kept
pub added : (before after : Option (List ℕ)) (text out more : List ℕ) (c : List ℤ) (cs left : List (List ℤ)) → more ≡ out ++ clause_line c → left ≡ c ∷ cs
    → HasPut before after text (out ++ flat_map clause_line left) → HasPut before after text (more ++ flat_map clause_line cs)
added before after text out more c cs left is first put = grind (arith, same_rest, one_more)

-- what was kept is put, and nothing is kept
pub emptied : (before mid after : Option (List ℕ)) (text out none rest : List ℕ) → HasPut before mid text (out ++ rest) → after ≡ with_bytes mid out →
    none ≡ [] → HasPut before after text (none ++ rest)
emptied before mid after text out none rest put now empty = grind (arith, same_rest, piece_put)
