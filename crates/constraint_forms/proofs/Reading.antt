-- Which relations a rule reads.
use Rattle.std.proofs.Common.{◌≡◌, ℕ, Bool, true, false, ◌==◌, Option, arith}
use Rattle.basics.proofs.Booleans.{eq_back, eq_same}
use Rattle.constraint_forms.specs.declared.rule.Rule.{Rule}
use Rattle.constraint_forms.specs.Rules.{all_read, any_read, reads, relation_of, said_of}

each_of : (o : Option ℕ) (p : ℕ → Bool) → said_of true p o ≡ true → (rho : ℕ) → said_of false (λ own. rho == own) o ≡ true → p rho ≡ true
each_of o p h rho is = grind (arith, eq_back)

-- where all pass that a rule reads, each of them does
pub each_read : (rule : Rule) (p : ℕ → Bool) → all_read rule p ≡ true → (rho : ℕ) → reads rule rho ≡ true → p rho ≡ true
each_read rule p h rho is = each_of (relation_of rule) p h rho is

all_of : (o : Option ℕ) (p : ℕ → Bool) → ((rho : ℕ) → said_of false (λ own. rho == own) o ≡ true → p rho ≡ true) → said_of true p o ≡ true
all_of o p h = grind (arith, eq_same)

-- where each passes that a rule reads, all of them do
pub all_as_each : (rule : Rule) (p : ℕ → Bool) → ((rho : ℕ) → reads rule rho ≡ true → p rho ≡ true) → all_read rule p ≡ true
all_as_each rule p h = all_of (relation_of rule) p h

none_of : (o : Option ℕ) (p : ℕ → Bool) → said_of false p o ≡ false → (rho : ℕ) → said_of false (λ own. rho == own) o ≡ true → p rho ≡ false
none_of o p h rho is = grind (arith, eq_back)

-- where none passes that a rule reads, none of them does
pub none_read : (rule : Rule) (p : ℕ → Bool) → any_read rule p ≡ false → (rho : ℕ) → reads rule rho ≡ true → p rho ≡ false
none_read rule p h rho is = none_of (relation_of rule) p h rho is

some_of : (o : Option ℕ) (p q : ℕ → Bool) → said_of false p o ≡ true → ((rho : ℕ) → p rho ≡ true → q rho ≡ false) → said_of true q o ≡ false
some_of o p q h each = grind arith

-- where some passes that a rule reads, not all fail
pub some_read : (rule : Rule) (p q : ℕ → Bool) → any_read rule p ≡ true → ((rho : ℕ) → p rho ≡ true → q rho ≡ false) → all_read rule q ≡ false
some_read rule p q h each = some_of (relation_of rule) p q h each
