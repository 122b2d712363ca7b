-- Inside: what the clauses are made of, as it is kept.
use Rattle.std.specs.Prelude.{◌≡◌, ℕ, ◌<◌, ◌≤◌, Bool, true, false, List, [], Option, length}
use Rattle.std.specs.Prelude.{slice_index_or, refl}
use Rattle.std.specs.Coded.{Coded, code_by, coded×, coded_list, coded_ℕ}
use Rattle.wf_names.specs.declared.limits.TheConstants.{USER_LIMIT, STEP_LIMIT}
use Rattle.wf_names.specs.UserSets.{has_user}
use Rattle.user_relations.specs.Laws.Relations.{RelationShape, is_related, relations_code}
use Rattle.constraint_forms.specs.Assign.{user_at}
use Rattle.policy_book.specs.Laws.Plans.{Problem}
use Rattle.cnf_export.specs.Laws.Encodings.{Encoding, may_be}
use Rattle.cnf_export.specs.declared.group.Group.{Group}
use Rattle.cnf_export.specs.declared.group.Group.TheVariants.{Pair}

-- the counts of users and steps, the users whom each step may have, and the relations
pub record TermsShape : Type 0 where
  pub users : ℕ
  pub steps : ℕ
  pub domains : List (List ℕ)
  pub relations : List RelationShape

abbrev pub encoding_in : TermsShape → Encoding
encoding_in t = record {
  users = t.users;
  steps = t.steps;
  may_have = λ s u. has_user (slice_index_or t.domains s []) u;
  related = is_related t.relations;
}

-- no set has a user who is none
abbrev pub AreKnown : ℕ → List (List ℕ) → Type 0
AreKnown users domains = (s u : ℕ) → has_user (slice_index_or domains s []) u ≡ true → u < users

-- the sets of the first steps have the users whom the steps may have
pub record AreDomains (p : Problem) (assigned : List (Option ℕ)) (finished : List Bool) (steps : ℕ)
    (domains : List (List ℕ)) : Type 0 where
  pub whole : length domains ≡ steps
  pub known : AreKnown p.users domains
  pub may : (s u : ℕ) → s < steps → has_user (slice_index_or domains s []) u
      ≡ may_be p finished s (user_at assigned s) u

-- counts are within the limits, and no step may have a user who is none
pub record AreTerms (t : TermsShape) : Type 0 where
  pub users : t.users ≤ USER_LIMIT
  pub steps : t.steps ≤ STEP_LIMIT
  pub known : AreKnown t.users t.domains

-- by which they are told apart
abbrev pub terms_code : Coded TermsShape
terms_code =
    code_by (ℕ × (ℕ × (List (List ℕ) × List RelationShape)))
    (coded× coded_ℕ (coded× coded_ℕ (coded× (coded_list (coded_list coded_ℕ)) relations_code)))
    (λ t. (t.users, (t.steps, (t.domains, t.relations))))
    (λ p. record { users = p.0; steps = p.1.0; domains = p.1.1.0; relations = p.1.1.1 })
    (λ _. refl)

-- a pair of a member and a step, in this order or the other way round
abbrev pub pair_group : Bool → ℕ → ℕ → ℕ → Group
pair_group false rho x s = Pair rho x s
pair_group true rho x s = Pair rho s x

abbrev pub pair_group_at : Bool → ℕ → ℕ → ℕ → Group
pair_group_at back rho s x = pair_group back rho x s
