-- A count of clauses and literals, clause by clause.
use Rattle.std.proofs.Common.{◌≡◌, sym, ap, ◌∙◌, ℕ, ◌+◌, ◌-◌, ◌<◌, ◌≤◌, Bool, true, List, [], ◌∷◌, ◌++◌, length, arith, append_assoc}
use Rattle.std.specs.Prelude.{ℤ, Result, Ok, Err, IsErrOf}
use Rattle.std.specs.Result.{IsErrAnd}
use Rattle.std.proofs.lemmas.Bool.{false≢true}
use Rattle.cnf_export.specs.Laws.Encodings.{literals}
use Rattle.cnf_export.specs.Positions.{HasGiven}
use Rattle.cnf_export.specs.Sizes.{IsCounted, empties}
use Rattle.cnf_export.specs.declared.tally.TheConstants.{LITERAL_LIMIT}
use Rattle.cnf_export.proofs.Filled.{empties-append, few_clauses, literals-append}

length-append : (xs ys : List (List ℤ)) → length (xs ++ ys) ≡ length xs + length ys
length-append [] ys = omega arith
length-append (x ∷ xs) ys = let rest = length-append xs ys in omega (arith, rest)

pub one_counted : (all left rest : List (List ℤ)) (c : List ℤ) (clauses size n after more : ℕ) → IsCounted all left clauses size → left ≡ c ∷ rest →
    n ≡ length c → n ≤ LITERAL_LIMIT - size → after ≡ clauses + 1 → more ≡ size + n → IsCounted all rest after more
one_counted all left rest c clauses size n after more is first len room one sum =
    let limit = is.few in
    let whole = is.clauses_are in
    let literals_are = is.size_is in
    let longer = length-append is.given (c ∷ []) in
    let larger = literals-append is.given (c ∷ []) in
    record {
      given = is.given ++ c ∷ [];
      all_are = is.all_are ∙ ap (λ cs. is.given ++ cs) first ∙ sym (append_assoc is.given (c ∷ []) rest);
      clauses_are = omega (arith, whole, longer, one);
      size_is = omega (arith, literals_are, larger, len, sum);
      few = omega (arith, limit, room, sum);
    }

pub too_large : (all left rest : List (List ℤ)) (c : List ℤ) (clauses size n : ℕ) → IsCounted all left clauses size → left ≡ c ∷ rest → n ≡ length c →
    LITERAL_LIMIT - size < n → LITERAL_LIMIT < literals all
too_large all left rest c clauses size n is first len over = grind (arith, literals-append)

-- the number of clauses has room
pub few_counted : (all left : List (List ℤ)) (clauses size k : ℕ) → IsCounted all left clauses size → empties all ≤ k → clauses ≤ LITERAL_LIMIT + k
few_counted all left clauses size k is few = grind (arith, empties-append, few_clauses)

-- a clause is given where there is more
pub given_next : (more : Bool) (left rest : List (List ℤ)) (c : List ℤ) → HasGiven left more c rest → more ≡ true → left ≡ c ∷ rest
given_next more left rest c h is = grind (arith, false≢true)

-- a fault that is handed on is the fault that was met
pub handed_on : {A F : Type 0} (r : Result A F) (met fault : F) → IsErrAnd r (λ e. e ≡ met) → IsErrOf r fault → met ≡ fault
handed_on (Ok a) met fault same is = absurd same
handed_on {A} {F} (Err e) met fault same is = grind arith
