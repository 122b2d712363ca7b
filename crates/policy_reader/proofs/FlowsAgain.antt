-- The workflows are read from what they are written as.
use Rattle.std.proofs.Common.{◌≡◌, ℕ, suc, ◌<◌, ◌≤◌, false, List, [], ◌∷◌, length, map, take, refl, sym, ap, ◌∙◌, arith, codes, Some, Ok}
use Rattle.std.specs.FinSet as set
use Rattle.policy_reader.proofs.Prints.{length-map, each, take_all, not_true, and_both, lt_back, le_back, AreNames, Members, get_member, STEP_LIMIT, FLOW_LIMIT}
use Rattle.policy_reader.proofs.Prints.{AllPairs, RelationShape, known_names, is_before, OrderIsDecided, PolicyShape, WorkflowShape, IsSoundWorkflow, flow_at}
use Rattle.policy_reader.proofs.Prints.{no_workflow, Flows, Ascend, names_array, pair_data, pairs_data, permits_data, rules_data, rows, flow_entry, flows_data}
use Rattle.policy_reader.proofs.Prints.{IsNamedWorkflow, least_none, Format}
use Rattle.policy_reader.specs.Laws.Grammars.{today}
use Rattle.policy_reader.specs.Parts.{value_at, array_in, table_in, table_at, count_in, entries_at, name_in, no_others, known_key}
use Rattle.policy_reader.specs.Rules.{rules_of}
use Rattle.policy_reader.specs.Flows.{order_in, order_pairs, cycle_at, no_cycle, ordered_in, flow_in, ruled_in, workflow_in, next_flow, flows_in}
use Rattle.policy_reader.specs.Documents.{workflow_members}
use Rattle.policy_reader.proofs.RostersAgain.{steps_back}
use Rattle.policy_reader.proofs.Rows.{pairs_back}
use Rattle.policy_reader.proofs.PermitsAgain.{permits_back}
use Rattle.policy_reader.proofs.RulesAgain.{HaveForms, rules_back}
use Rattle.policy_reader.proofs.Readings.{count_back, upto, upto_length, take_next, items_back, form_at, at_least-ok, at_most-ok}
use Rattle.policy_reader.proofs.Tabled.{tabled_in_order}

module _ (decided : OrderIsDecided) (f : ℕ) (roles : List (List ℕ)) (relations : List RelationShape) (named : AreNames roles)
    (related : AreNames (known_names relations))
    (w : WorkflowShape) (h : IsNamedWorkflow w) (sound : IsSoundWorkflow (length roles) (length relations) w) (format : Format)
    (known : HaveForms format w.rules) where
  abbrev steps : List (List ℕ)
  steps = w.flow.steps

  abbrev written : Members
  written = workflow_members roles relations w

  few : length steps ≤ STEP_LIMIT
  few = le_back (length steps) STEP_LIMIT (and_both _ _ h.kept.counted).1

  no_cycle-again : no_cycle f steps w.flow.order ≡ Ok tt
  unfolding no_cycle
  no_cycle-again = ap (cycle_at f steps) (least_none (length steps) (λ s. is_before w.flow.order s s) (λ s _. not_true (is_before w.flow.order s s)
      (λ e. h.kept.acyclic s ((decided w.flow.order s s (λ a b pair. (let both = h.kept.orders.each a b pair in omega (arith, few, both.1)))).0 e))))

  order_again : order_in f steps (pairs_data steps w.flow.order) ≡ Ok w.flow.order
  unfolding order_in array_in
  order_again = rw (items_back (map (pair_data steps) (rows (length steps) (length steps) w.flow.order)))
      (pairs_back Flows f steps w.flow.order h.steps h.kept.orders)

  ordered_again : ordered_in f steps written ≡ Ok (record { steps = steps; order = w.flow.order; permits = set.empty })
  unfolding ordered_in order_pairs workflow_members
  ordered_again = rw (order_again, no_cycle-again) refl

  -- what stands at the keys
  there : (get_member (codes "steps") written ≡ Some (names_array steps)) × (get_member (codes "permit") written ≡ Some (permits_data roles w.flow)) ×
      (get_member (codes "rules") written ≡ Some (rules_data relations steps w.rules))
      × (no_others Flows f (codes "order" ∷ codes "permit" ∷ codes "rules" ∷ codes "steps" ∷ []) written ≡ Ok tt)
  unfolding no_others known_key workflow_members
  there = (refl, refl, refl, refl)

  permitted : AllPairs (λ r s. (r < length roles) × (s < length steps)) w.flow.permits
  permitted = record { each = λ r s k. (sound.permitted r s k, (h.kept.permitted.each r s k).1) }

  flow_again : flow_in today f roles written ≡ Ok w.flow
  unfolding flow_in
  flow_again = rw (steps_back f written steps h.steps (lt_back 0 (length steps) (and_both _ _ h.kept.counted).0) few there.0, ordered_again)
      (permits_back f roles w.flow named h.steps permitted written there.1)

  pub rules_again : rules_of format f relations steps written ≡ Ok w.rules
  rules_again = rules_back f steps h.steps relations related format written w.rules sound.ruled h.flags known sound.few there.2

workflow_again : OrderIsDecided → (p : PolicyShape) → AreNames p.roster.roles → AreNames (known_names p.relations) → (w : WorkflowShape) → IsNamedWorkflow w
    → IsSoundWorkflow (length p.roster.roles) (length p.relations) w → (format : Format) → HaveForms format w.rules → w.retired ≡ false → workflow_in
    today format p (workflow_members p.roster.roles p.relations w) ≡ Ok w
unfolding workflow_in ruled_in
workflow_again decided p named related w h sound format known active =
    let f = length p.flows in
    rw (
      (there decided f p.roster.roles p.relations named related w h sound format known).3,
      flow_again decided f p.roster.roles p.relations named related w
          h sound format known,
      rules_again decided f p.roster.roles p.relations named related w h sound format known,
    )
    (λ i. Ok (record { flow = w.flow; rules = w.rules; retired = sym active i }))

-- ---- all workflows

module _ (decided : OrderIsDecided) (p : PolicyShape) (named : AreNames p.roster.roles) (related : AreNames (known_names p.relations))
    (names : AreNames p.flow_names) (count : length p.flow_names ≡ length p.flows) (each_one : (f : ℕ) → f < length p.flows → IsNamedWorkflow (flow_at p f))
    (sound : (f : ℕ) → f < length p.flows → IsSoundWorkflow (length p.roster.roles) (length p.relations) (flow_at p f))
    (active : (f : ℕ) → f < length p.flows → (flow_at p f).retired ≡ false)
    (format : Format) (known : (f : ℕ) → f < length p.flows → HaveForms format (flow_at p f).rules) where
  abbrev state : ℕ → PolicyShape
  state f = record p { flow_names = take f p.flow_names; flows = take f p.flows }

  step : (f : ℕ) → f < length p.flows → next_flow today format (state f) (flow_entry p f) ≡ Ok (state (suc f))
  unfolding next_flow name_in table_in
  step f lt =
      let lt' : f < length p.flow_names = omega (arith, lt, count) in
      rw (
        form_at p.flow_names f names lt',
        workflow_again
            decided (state f) named related (flow_at p f) (each_one f lt) (sound f lt) format (known f lt) (active f lt),
      )
      (λ i. Ok (record p { flow_names = take_next p.flow_names f [] lt' i; flows = take_next p.flows f no_workflow lt i }))

  -- the workflows are read from what they are written as
  pub flows_back : (again : Members) → Ascend p.flow_names → 0 < length p.flow_names → length p.flows ≤ FLOW_LIMIT →
      get_member (codes "flows") again ≡ Some (flows_data p)
      → flows_in today format (record p { flow_names = []; flows = [] }) again ≡ Ok p
  unfolding flows_in entries_at table_at count_in value_at table_in
  flows_back again ascend some few there =
      let n = length p.flows in
      let tabled = tabled_in_order (flow_entry p) p.flow_names n ascend (λ f. refl) (omega (arith, count)) in
      rw (
        there,
        tabled,
        length-map (upto n) (flow_entry p),
        upto_length n,
        at_least-ok Flows 0 n (omega (arith, some, count)),
        at_most-ok Flows 0 n FLOW_LIMIT few,
      )
      (ap (each (next_flow today format) (state 0)) tabled ∙ count_back (next_flow today format) (flow_entry p) state n step ∙
      (λ i. Ok (record p { flow_names = take_all n p.flow_names (omega (arith, count)) i; flows = take_all n p.flows (omega arith) i })))
