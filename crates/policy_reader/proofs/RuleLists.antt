-- Rules with one more at the end.
use Rattle.std.proofs.Common.{◌≡◌, ℕ, zero, suc, List, [], ◌∷◌, ◌++◌, Some, Result, slice_get, IfOk, OnOk, arith}
use Rattle.policy_reader.proofs.Words.{IsSoundRule}
use Rattle.constraint_forms.specs.declared.rule.Rule.{Rule}

pub same_rule : (a b : Rule) → Some a ≡ Some b → a ≡ b
same_rule a b e = cc

pub push_sound : (n m : ℕ) (rules : List Rule) (rule : Rule) → ((k : ℕ) (x : Rule) → slice_get rules k ≡ Some x → IsSoundRule n m x) → IsSoundRule n m rule
    → (k : ℕ) (x : Rule) → slice_get (rules ++ rule ∷ []) k ≡ Some x → IsSoundRule n m x
push_sound n m [] rule old here k x e = grind arith
push_sound n m (r ∷ rs) rule old here zero x e = old zero x e
push_sound n m (r ∷ rs) rule old here (suc k) x e = push_sound n m rs rule (λ j y get. old (suc j) y get) here k x e

pub on_ok : {A E : Type 0} (r : Result A E) (P Q : Type 0) → OnOk r P → (P → Q) → OnOk r Q
on_ok r P Q h f = grind arith

pub if_ok : {A E : Type 0} (r : Result A E) (P Q : A → Type 0) → IfOk r P → ((x : A) → P x → Q x) → IfOk r Q
if_ok r P Q h f = grind arith
