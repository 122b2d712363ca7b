-- Inside: how a policy is kept.
use Rattle.std.specs.Prelude.{◌≡◌, ℕ, List}
use Rattle.wf_names.specs.declared.limits.TheConstants.{FLOW_LIMIT}
use Rattle.wf_names.specs.Table.{Table}
use Rattle.rbac_state.specs.Laws.Rosters.{RosterShape}
use Rattle.user_relations.specs.Laws.Relations.{RelationShape}
use Rattle.policy_book.specs.Laws.Shapes.{PolicyShape, WorkflowShape}
use Rattle.policy_book.specs.Laws.Facts.{IsSoundPolicy}

-- the policy with these parts
abbrev pub shape_of : RosterShape → List RelationShape → Table → List WorkflowShape → ℕ →
    PolicyShape
shape_of roster relations names flows admin =
    record {
      roster = roster;
      relations = relations;
      flow_names = names.names;
      flows =
          flows;
      admin = admin;
    }

-- the parts are those of a policy
pub record IsStoredPolicy (roster : RosterShape) (relations : List RelationShape) (names : Table)
    (flows : List WorkflowShape) (admin : ℕ) : Type 0 where
  pub limit : names.limit ≡ FLOW_LIMIT
  pub sound : IsSoundPolicy (shape_of roster relations names flows admin)
