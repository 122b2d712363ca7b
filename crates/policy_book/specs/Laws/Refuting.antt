-- Trees that refute: why an assignment to a workflow's steps cannot be completed.
use Rattle.std.specs.Prelude.{ℕ, zero, suc, ◌+◌, Bool, true, false, not, ◌&&◌, ◌||◌, ◌==◌, nat_lt}
use Rattle.std.specs.Prelude.{List, [], ◌∷◌, Option, None, Some, is_some, if◌then◌else◌, slice_get}
use Rattle.std.specs.Prelude.{slice_set}
use Rattle.constraint_forms.specs.declared.rule.Rule.{Rule}
use Rattle.constraint_forms.specs.Assign.{user_at, is_member}
use Rattle.constraint_forms.specs.Rules.{is_falsified, names}
use Rattle.refutation_tree.specs.Tree.{Shape, Kids, holder, rule, node, no_kids, tree_kid}
use Rattle.refutation_tree.specs.Tree.{twin_kid}
use Rattle.policy_book.specs.Laws.Plans.{Problem}
use Rattle.policy_book.specs.Laws.Twins.{are_twins, is_one_of}

-- a step that is not finished has this user, who is not authorised for it
abbrev pub is_misheld : Problem → List Bool → ℕ → Option ℕ → Bool
is_misheld p finished s None = false
is_misheld p finished s (Some u) = not (is_member finished s) && not (p.authorised s u)

-- there is a rule, and it is falsified
abbrev pub is_broken : Problem → List (Option ℕ) → Option Rule → Bool
is_broken p assigned None = false
is_broken p assigned (Some r) = is_falsified p.related r (user_at assigned)

-- a step of the workflow that is not assigned
abbrev pub is_unassigned : Problem → List (Option ℕ) → ℕ → Bool
is_unassigned p assigned s = nat_lt s p.steps && not (is_some (user_at assigned s))

-- of the n numbers from k on those that pass, ascending
abbrev pub passing : (ℕ → Bool) → ℕ → ℕ → List ℕ
passing test k zero = []
passing test k (suc n) = if test k then k ∷ passing test (k + 1) n else passing test (k + 1) n

-- the users who are authorised for a step, ascending
abbrev pub authorised_users : Problem → ℕ → List ℕ
authorised_users p s = passing (p.authorised s) 0 p.users

-- branches have exactly these users, in this order
abbrev pub have_users : List ℕ → Kids → Bool
have_users [] no_kids = true
have_users [] (tree_kid v t kids) = false
have_users [] (twin_kid v w kids) = false
have_users (u ∷ us) no_kids = false
have_users (u ∷ us) (tree_kid v t kids) = (u == v) && have_users us kids
have_users (u ∷ us) (twin_kid v w kids) = (u == v) && have_users us kids

abbrev mutual
  -- a tree refutes an assignment with these finished steps
  pub refutes : Problem → List (Option ℕ) → List Bool → Shape → Bool
  -- a step is held by a user who is not authorised for it
  refutes p assigned finished (holder s) = nat_lt s p.steps &&
      is_misheld p finished s (user_at assigned s)
  -- a rule is falsified
  refutes p assigned finished (rule k) = is_broken p assigned (slice_get p.rules k)
  -- a step is free, and whichever authorised user gets it, the user's branch refutes what then is
  -- assigned
  refutes p assigned finished (node s kids) =
      is_unassigned p assigned s &&
      (have_users (authorised_users p s) kids && all_refute p assigned finished s [] kids)

  -- each branch of a step refutes, where earlier branches of these users have trees: by its own
  -- tree, or as that of a twin of one of these users
  pub all_refute : Problem → List (Option ℕ) → List Bool → ℕ → List ℕ → Kids → Bool
  all_refute p assigned finished s earlier no_kids = true
  all_refute p assigned finished s earlier (tree_kid u t kids) =
      refutes p (slice_set assigned s (Some u)) finished t &&
      all_refute p assigned finished s (u ∷ earlier) kids
  all_refute p assigned finished s earlier (twin_kid u v kids) =
      (is_one_of earlier v && are_twins p assigned u v) &&
      all_refute p assigned finished s earlier kids

-- there is a rule, and it names a step
abbrev pub is_rule_naming : ℕ → Option Rule → Bool
is_rule_naming s None = false
is_rule_naming s (Some r) = names r s

abbrev mutual
  -- some leaf of a tree is the holder of a step or a rule that names the step
  pub mentions : List Rule → ℕ → Shape → Bool
  mentions rules s (holder t) = s == t
  mentions rules s (rule k) = is_rule_naming s (slice_get rules k)
  mentions rules s (node t kids) = any_mentions rules s kids

  -- some branch's tree mentions a step
  pub any_mentions : List Rule → ℕ → Kids → Bool
  any_mentions rules s no_kids = false
  any_mentions rules s (tree_kid u t kids) = mentions rules s t || any_mentions rules s kids
  any_mentions rules s (twin_kid u v kids) = any_mentions rules s kids
