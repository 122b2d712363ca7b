-- A policy, as contracts see it.
use Rattle.std.specs.Prelude.{◌≡◌, ℕ, Bool, List, refl}
use Rattle.std.specs.Coded.{Coded, code_by, coded×, coded⊎, coded_list, coded_bool, coded_ℕ}
use Rattle.rbac_state.specs.Laws.Rosters.{RosterShape, roster_code}
use Rattle.user_relations.specs.Laws.Relations.{RelationShape, relations_code}
use Rattle.workflow_schema.specs.Flows.{FlowShape, flow_code}
use Rattle.constraint_forms.specs.declared.rule.Rule.{Rule}
use Rattle.constraint_forms.specs.declared.rule.Rule.TheVariants.{Pair, SomeOf, AllOf, SomeTo}
use Rattle.constraint_forms.specs.declared.rule.Rule.TheVariants.{AllTo, AtMost, AtLeast}
use Rattle.std.proofs.Common.{◌⊎◌, inl, inr}

-- a workflow: its steps with their order and permissions, its rules, and whether it is retired
pub record WorkflowShape : Type 0 where
  pub flow : FlowShape
  pub rules : List Rule
  pub retired : Bool

-- a policy: the roster, the declared relations, the workflows with their names, and the admin role
pub record PolicyShape : Type 0 where
  pub roster : RosterShape
  pub relations : List RelationShape
  pub flow_names : List (List ℕ)
  pub flows : List WorkflowShape
  pub admin : ℕ

-- by which values that hold rules, workflows or policies are told apart
abbrev PairParts : Type 0
PairParts = ℕ × (ℕ × ℕ)

abbrev GroupParts : Type 0
GroupParts = ℕ × (List Bool × ℕ)

abbrev CountParts : Type 0
CountParts = ℕ × List Bool

abbrev RuleParts : Type 0
RuleParts = PairParts ⊎
    (GroupParts ⊎ (GroupParts ⊎ (GroupParts ⊎ (GroupParts ⊎ (CountParts ⊎ CountParts)))))

abbrev pub rule_as_sum : Rule → RuleParts
rule_as_sum (Pair rho first second) = inl (rho, (first, second))
rule_as_sum (SomeOf rho group step) = inr (inl (rho, (group, step)))
rule_as_sum (AllOf rho group step) = inr (inr (inl (rho, (group, step))))
rule_as_sum (SomeTo rho step group) = inr (inr (inr (inl (rho, (group, step)))))
rule_as_sum (AllTo rho step group) = inr (inr (inr (inr (inl (rho, (group, step))))))
rule_as_sum (AtMost limit group) = inr (inr (inr (inr (inr (inl (limit, group))))))
rule_as_sum (AtLeast limit group) = inr (inr (inr (inr (inr (inr (limit, group))))))

abbrev pub rule_of_sum : RuleParts → Rule
rule_of_sum (inl x) = Pair x.0 x.1.0 x.1.1
rule_of_sum (inr (inl x)) = SomeOf x.0 x.1.0 x.1.1
rule_of_sum (inr (inr (inl x))) = AllOf x.0 x.1.0 x.1.1
rule_of_sum (inr (inr (inr (inl x)))) = SomeTo x.0 x.1.1 x.1.0
rule_of_sum (inr (inr (inr (inr (inl x))))) = AllTo x.0 x.1.1 x.1.0
rule_of_sum (inr (inr (inr (inr (inr (inl x)))))) = AtMost x.0 x.1
rule_of_sum (inr (inr (inr (inr (inr (inr x)))))) = AtLeast x.0 x.1

pub rule_comes_back : (rule : Rule) → rule_of_sum (rule_as_sum rule) ≡ rule
rule_comes_back (Pair rho first second) = refl
rule_comes_back (SomeOf rho group step) = refl
rule_comes_back (AllOf rho group step) = refl
rule_comes_back (SomeTo rho step group) = refl
rule_comes_back (AllTo rho step group) = refl
rule_comes_back (AtMost limit group) = refl
rule_comes_back (AtLeast limit group) = refl

abbrev pair_code : Coded PairParts
pair_code = coded× coded_ℕ (coded× coded_ℕ coded_ℕ)

abbrev group_code : Coded GroupParts
group_code = coded× coded_ℕ (coded× (coded_list coded_bool) coded_ℕ)

abbrev count_code : Coded CountParts
count_code = coded× coded_ℕ (coded_list coded_bool)

abbrev pub rule_code : Coded Rule
rule_code =
    code_by RuleParts
    (coded⊎ pair_code (coded⊎ group_code (coded⊎
    group_code (coded⊎ group_code (coded⊎ group_code (coded⊎ count_code count_code))))))
    rule_as_sum rule_of_sum rule_comes_back

abbrev pub workflow_code : Coded WorkflowShape
workflow_code =
    code_by (FlowShape × (List Rule × Bool))
    (coded× flow_code (coded× (coded_list rule_code) coded_bool))
    (λ w. (w.flow, (w.rules, w.retired)))
    (λ p. record { flow = p.0; rules = p.1.0; retired = p.1.1 }) (λ _. refl)

abbrev pub policy_code : Coded PolicyShape
policy_code =
    code_by (RosterShape × (List RelationShape × (List (List ℕ) × (List WorkflowShape × ℕ))))
    (coded× roster_code (coded× relations_code
    (coded× (coded_list (coded_list coded_ℕ)) (coded× (coded_list workflow_code) coded_ℕ))))
    (λ p. (p.roster, (p.relations, (p.flow_names, (p.flows, p.admin)))))
    (λ q. record {
      roster = q.0;
      relations = q.1.0;
      flow_names = q.1.1.0;
      flows =
          q.1.1.1.0;
      admin = q.1.1.1.1;
    }) (λ _. refl)
