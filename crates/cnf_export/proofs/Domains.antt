-- Sets of users, one behind the other.
use Rattle.std.proofs.Common.{◌≡◌, refl, ◌≤◌, ℕ, List, [], ◌∷◌, length, Bool, Option, arith}
use Rattle.std.proofs.lemmas.Nat.Bits.{bit_at-zero}
use Rattle.std.proofs.lemmas.Bool.{cases_lt}
use Rattle.basics.proofs.Booleans.{lt_no, lt_yes}
use Rattle.std.specs.Prelude.{slice_index_or}
use Rattle.user_relations.specs.Laws.Relations.{is_related}
use Rattle.policy_book.specs.Laws.Plans.{Problem}
use Rattle.cnf_export.specs.Laws.Encodings.{encoding_of}
use Rattle.cnf_export.specs.Terms.{AreDomains, TermsShape, encoding_in}

past : (xs : List (List ℕ)) (s : ℕ) → length xs ≤ s → slice_index_or xs s [] ≡ []
past [] s long = refl
past (x ∷ xs) s long = grind (arith, (past xs))

-- what is kept of a case is what its clauses are made of
pub same_encoding : (t : TermsShape) (p : Problem) (assigned : List (Option ℕ)) (finished : List Bool) → t.users ≡ p.users → t.steps ≡ p.steps →
    AreDomains p assigned finished p.steps t.domains → is_related t.relations ≡ p.related →
    encoding_in t ≡ encoding_of p assigned finished
same_encoding t p assigned finished users steps domains related = grind (arith, cases_lt, lt_yes, past, bit_at-zero, lt_no)
