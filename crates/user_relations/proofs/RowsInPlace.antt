-- What a row that is read in place tells of a set of pairs.
use Rattle.std.proofs.Common.{◌≡◌, ℕ, ◌<◌, ◌&&◌, nat_lt, Bool, false, List, Bor, Option, sym, ap, ◌∙◌, arith}
use Rattle.std.specs.Prelude.{IfSome, MatchOption}
use Rattle.std.specs.FinSet as set
use Rattle.std.proofs.lemmas.Bool.{lt-ltb}
use Rattle.basics.specs.Laws.Pairs.{Pairs}
use Rattle.wf_names.specs.declared.limits.TheConstants.{USER_LIMIT}
use Rattle.wf_names.specs.UserSets.{has_user}
use Rattle.user_relations.specs.declared.blocks.Block.{Block}
use Rattle.user_relations.specs.Rows.{row_bit, pairs_in, AreRows}
use Rattle.user_relations.proofs.RowSets.{after_told, ahead_told}

-- below the limit nothing is masked
unmasked : (v : ℕ) (b c : Bool) → v < USER_LIMIT → (nat_lt v USER_LIMIT && b) ≡ (nat_lt v USER_LIMIT && c) → b ≡ c
unmasked v b c low same = let less = lt-ltb v USER_LIMIT low in sym (ap (λ p. p && b) less) ∙ same ∙ ap (λ p. p && c) less

-- a row that is there has the bits that are told of it
bits_of : (r : Option (Bor (List ℕ))) (given rows : List Block) (u : ℕ) → given ≡ rows
    → MatchOption r ((v : ℕ) → row_bit given u v ≡ false) (λ row. (v : ℕ) → has_user row.now v ≡ row_bit given u v)
    → IfSome r (λ row. (v : ℕ) → has_user row.now v ≡ row_bit rows u v)
bits_of r given rows u is told = grind arith

-- which are those of the pairs
pairs_of_bits : (r : Option (Bor (List ℕ))) (bit held : ℕ → Bool) → IfSome r (λ row. (v : ℕ) → has_user row.now v ≡ bit v)
    → ((v : ℕ) → v < USER_LIMIT → bit v ≡ held v) → IfSome r (λ row. (v : ℕ) → v < USER_LIMIT → has_user row.now v ≡ held v)
pairs_of_bits r bit held told same = grind arith

module _ (ahead behind given : List Block) (count u : ℕ) (pairs : Pairs) (r : Option (Bor (List ℕ))) (rows : AreRows ahead behind count)
    (seen : pairs_in ahead ≡ pairs) where
  pub row_after_told : given ≡ ahead
      → MatchOption r ((v : ℕ) → row_bit given u v ≡ false) (λ row. (v : ℕ) → has_user row.now v ≡ row_bit given u v)
      → IfSome r (λ row. (v : ℕ) → v < USER_LIMIT → has_user row.now v ≡ set.contains pairs (u, v))
  row_after_told is told =
      pairs_of_bits r (row_bit ahead u) (λ v. set.contains pairs (u, v)) (bits_of r given ahead u is told)
      (λ v low. unmasked v (row_bit ahead u v) (set.contains (pairs_in ahead) (u, v)) low
      (after_told ahead behind count u v USER_LIMIT rows (omega arith)) ∙ ap (λ s. set.contains s (u, v)) seen)

  pub row_ahead_told : given ≡ behind
      → MatchOption r ((v : ℕ) → row_bit given u v ≡ false) (λ row. (v : ℕ) → has_user row.now v ≡ row_bit given u v)
      → IfSome r (λ row. (v : ℕ) → v < USER_LIMIT → has_user row.now v ≡ set.contains pairs (v, u))
  row_ahead_told is told =
      pairs_of_bits r (row_bit behind u) (λ v. set.contains pairs (v, u)) (bits_of r given behind u is told)
      (λ v low. unmasked v (row_bit behind u v) (set.contains (pairs_in ahead) (v, u)) low
      (ahead_told ahead behind count u v USER_LIMIT rows (omega arith)) ∙ ap (λ s. set.contains s (v, u)) seen)
