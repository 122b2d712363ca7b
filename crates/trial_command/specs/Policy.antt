-- The policy of a trial: 60 users in ten teams of six, six roles, and one workflow of twelve steps.
use Rattle.std.specs.Prelude.{ℕ, zero, suc, ◌+◌, ◌/◌, ◌%◌, Bool, true, false, not, ◌&&◌, ◌==◌, List}
use Rattle.std.specs.Prelude.{[], ◌∷◌, ◌++◌, map, codes, slice_set}
use Rattle.std.specs.List.{filter, range_with_len}
use Rattle.std.specs.FinSet as set
use Rattle.basics.specs.Laws.Pairs.{Pairs}
use Rattle.rbac_state.specs.Laws.Rosters.{RosterShape}
use Rattle.user_relations.specs.Laws.Relations.{RelationShape, listed, complement}
use Rattle.workflow_schema.specs.Flows.{FlowShape}
use Rattle.constraint_forms.specs.Assign.{no_steps}
use Rattle.constraint_forms.specs.declared.rule.Rule.{Rule}
use Rattle.constraint_forms.specs.declared.rule.Rule.TheVariants.{Pair, SomeOf, AllOf}
use Rattle.policy_book.specs.Laws.Shapes.{PolicyShape}
use Rattle.trial_command.specs.Draws.{after, drawn_below}
use Rattle.trial_command.specs.Named.{user_name, step_name, role_name, admin_name, flow_name}

-- who has which role among the first n users: the user i has the role i mod 5, and one of the first
-- five that is drawn
unfoldable pub drawn_members : ℕ → ℕ → Pairs
drawn_members seed zero = set.empty
drawn_members seed (suc i) =
    set.insert (set.insert (drawn_members seed i) (i, i % 5)) (i, drawn_below 5 (after i seed))

-- the users and roles; the user 0 is an administrator too
unfoldable pub trial_roster : ℕ → RosterShape
trial_roster seed = record {
  users = map user_name (range_with_len 0 60);
  roles = map role_name (range_with_len 0 5) ++ admin_name ∷ [];
  members = set.insert (drawn_members seed 60) (0, 5);
}

-- two different users of one team
abbrev pub are_peers : ℕ → ℕ → Bool
are_peers i j = not (i == j) && (i / 6 == j / 6)

-- all pairs of users
unfoldable pub user_pairs : List (ℕ × ℕ)
user_pairs = map (λ n. (n / 60, n % 60)) (range_with_len 0 3600)

-- the pairs of peers
unfoldable pub peers : Pairs
peers = set.from_list (filter (λ p. are_peers p.0 p.1) user_pairs)

-- the relations: `apart`, with the number 2, holds wherever `peer`, with the number 3, does not
unfoldable pub trial_relations : List RelationShape
trial_relations =
    record { name = codes "apart"; kind = complement 3 } ∷ record {
      name = codes "peer";
      kind =
          listed peers;
    } ∷ []

-- the workflow: twelve steps, each before the next; the step k is permitted for the role k mod 5
unfoldable pub trial_flow : FlowShape
trial_flow = record {
  steps = map step_name (range_with_len 0 12);
  order = set.from_list (map (λ k. (k, k + 1)) (range_with_len 0 11));
  permits = set.from_list (map (λ k. (k % 5, k)) (range_with_len 0 12));
}

-- two steps
abbrev pub both : ℕ → ℕ → List Bool
both s t = slice_set (slice_set no_steps s true) t true

-- the rules; the relation `other` has the number 1
unfoldable pub trial_rules : List Rule
trial_rules =
    map (λ k. Pair 1 k (k + 1)) (range_with_len 0 11)
    ++ AllOf 2 (both 0 1) 4 ∷ SomeOf 3 (both 2 3) 6 ∷ Pair 1 0 11 ∷ Pair 3 5 8 ∷ []

-- the policy of a seed
unfoldable pub trial_policy : ℕ → PolicyShape
trial_policy seed = record {
  roster = trial_roster seed;
  relations = trial_relations;
  flow_names = flow_name ∷ [];
  flows = record { flow = trial_flow; rules = trial_rules; retired = false } ∷ [];
  admin = 5;
}
