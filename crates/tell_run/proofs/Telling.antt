-- What is known once it is told whether workflows can be done.
use Rattle.std.proofs.Common.{◌≡◌, ◌≢◌, refl, sym, subst, ℕ, ◌+◌, ◌<◌, Bool, true, false, ◌||◌, List, length, ◌⊎◌, inl, inr, eqb, arith}
use Rattle.std.proofs.Common.{Result, Ok, Err, IfOk}
use Rattle.std.proofs.lemmas.Bool.{false≢true}
use Rattle.std.proofs.lemmas.Bool.Decides.{eqb_tells}
use Rattle.policy_book.specs.Laws.Shapes.{PolicyShape}
use Rattle.policy_reader.specs.Files.{policy_of_file}
use Rattle.wf_commands.specs.declared.answer.Answer.{Answer}
use Rattle.tell_run.specs.Policy.{CanAllBeDone, JudgesFile}
use Rattle.tell_run.specs.Why.{CanBeDone}

-- where nothing is lacking so far, and not in the next workflow, nothing is lacking up to it
pub one_more : (p : PolicyShape) (n : ℕ) (some lacks : Bool) → (some ≡ false → CanAllBeDone p n) → (lacks ≡ false → CanBeDone p n) →
    (some || lacks) ≡ false → CanAllBeDone p (n + 1)
one_more p n true lacks all one none = absurd (false≢true (sym none))
one_more p n false true all one none = absurd (false≢true (sym none))
one_more p n false false all one none = λ f below. at f below (eqb_tells f n)
  where
    at : (f : ℕ) → f < n + 1 → ((eqb f n ≡ true) × (f ≡ n)) ⊎ ((eqb f n ≡ false) × (f ≢ n)) → CanBeDone p f
    at f below (inl same) = subst (λ m. CanBeDone p m) (sym same.1) (one refl)
    at f below (inr apart) = let other = apart.1 in all refl f (omega (arith, below, other))

-- where no workflow lacks a plan, or something is told, the file is judged rightly
pub judged : (p : PolicyShape) (file : List ℕ) (lacks tells : Bool) → (lacks ≡ false → CanAllBeDone p (length p.flows)) → policy_of_file file ≡ Ok p →
    JudgesFile file (lacks || tells)
judged p file true tells all is = tt
judged p file false true all is = tt
judged p file false false all is = (p, is, all refl)

-- what is told of a policy is told of the file that it is
pub judged_read : {E : Type 0} (file : List ℕ) (p : PolicyShape) (result : Result Answer E) → policy_of_file file ≡ Ok p →
    IfOk result (λ answer. (f : List ℕ) → policy_of_file f ≡ Ok p → JudgesFile f answer.found) → IfOk result (λ answer. JudgesFile file answer.found)
judged_read file p (Ok answer) is h = h file is
judged_read file p (Err e) is h = tt
