-- The relations and the workflows that are read from a file are sound.
use Rattle.std.proofs.Common.{◌≡◌, ℕ, zero, suc, ◌+◌, ◌<◌, ◌≤◌, false, List, [], ◌∷◌, ◌++◌, length, Ok, Err, ◌⊎◌, inl, inr, refl, sym, ap, ◌∙◌, subst, arith}
use Rattle.std.proofs.Common.{not, length-append}
use Rattle.std.specs.Prelude.{codes, Option, Some, None, IsTrue, slice_index_or}
use Rattle.std.specs.FinSet as set
use Rattle.std.proofs.lemmas.Bool.{cases_lt}
use Rattle.std.proofs.lemmas.List.{get_or_append_left, get_or_push}
use Rattle.std.proofs.lemmas.List.Elements.{All-nil}
use Rattle.wf_names.specs.declared.limits.TheConstants.{FLOW_LIMIT, PAIR_LIMIT, RELATION_LIMIT, ROLE_LIMIT, RULE_LIMIT, STEP_LIMIT, USER_LIMIT}
use Rattle.wf_names.specs.Names.{is_name}
use Rattle.basics.specs.PairLaws.{all_empty}
use Rattle.toml.specs.Data.{Data, Members, get_member}
use Rattle.user_relations.specs.Laws.Relations.{RelationShape, RelationKind, listed, complement, kind_of}
use Rattle.workflow_schema.specs.Flows.{FlowShape}
use Rattle.policy_book.specs.Laws.Shapes.{PolicyShape, WorkflowShape}
use Rattle.policy_book.specs.Policies.{flow_at, no_workflow}
use Rattle.policy_book.specs.Laws.Facts.{AreOfUsers, AreSoundRules, IsSoundWorkflow, PermitsRolesBelow}
use Rattle.basics.specs.Laws.Reading.{check, each, or_fault}
use Rattle.policy_reader.specs.declared.fault.PolicyKind.TheVariants as kind
use Rattle.policy_reader.specs.declared.fault.PolicyPart.TheVariants.{Flows, Relations}
use Rattle.policy_reader.specs.declared.format.Format.{Format}
use Rattle.policy_reader.specs.Bounds.{AreBelow}
use Rattle.policy_reader.specs.Faults.{Reading, fault, fault_about}
use Rattle.policy_reader.specs.Laws.Grammars.{today}
use Rattle.policy_reader.specs.File.{AreOfForm}
use Rattle.policy_reader.specs.Parts.{array_in, at_most, entries, entries_at, items, items_at, name_in, named_in, next_name, next_pair, no_others, number_in}
use Rattle.policy_reader.specs.Parts.{once, said, table_at, table_in, text_in}
use Rattle.policy_reader.specs.Relations.{complement_in, entry_of, first_declared, free_name_in, has_one, is_built_in, kind_at, kind_in, listed_in, names_of}
use Rattle.policy_reader.specs.Relations.{next_relation, relations_in, relations_of}
use Rattle.policy_reader.specs.Rules.{rules_of}
use Rattle.policy_reader.specs.Flows.{flow_in, flows_in, next_flow, next_permit, next_permitted, no_cycle, order_pairs, ordered_in, permits_of, ruled_in}
use Rattle.policy_reader.specs.Flows.{steps_named, workflow_in}
use Rattle.policy_reader.proofs.Gets.{AreFew, Gets, after, and_so, each_gets, few_entries, few_items, formed, named_number, next_below, next_few, push_form}
use Rattle.policy_reader.proofs.Gets.{weaker}
use Rattle.policy_reader.proofs.GetsRules.{rules_sound}
use Rattle.policy_reader.proofs.Orders.{permits_insert}
use Rattle.policy_reader.proofs.Relating.{kind_pushed, names_push}

-- ---- relations

-- the pairs of a listed relation are of the first so many users
abbrev IsOfUsers : ℕ → RelationKind → Type 0
IsOfUsers users (listed pairs) = AreBelow users pairs
IsOfUsers users (complement m) = Unit {0}

-- relations as they are read
pub record AreRelations (users : ℕ) (rs : List RelationShape) : Type 0 where
  pub kinds : (rho : ℕ) (kind : RelationKind) → kind_of rs rho ≡ Some kind → IsOfUsers users kind
  pub names : AreOfForm (names_of rs)

listed_below : (users : List (List ℕ)) (n : ℕ) (d : Data) → Gets (IsOfUsers (length users)) (listed_in users n d)
unfolding listed_in
listed_below users n d =
    after (IsOfUsers (length users)) (array_in Relations n d) _
    (λ pairs. after (IsOfUsers (length users)) (at_most Relations n PAIR_LIMIT (length (items pairs))) _
    (λ _. and_so (AreBelow (length users)) (IsOfUsers (length users)) (each (next_pair Relations n users) set.empty (items pairs)) (λ s. Ok (listed s))
    (each_gets (λ s _. AreBelow (length users) s) (next_pair Relations n users) (λ s x _ h. next_below Relations n users s x h) set.empty (items pairs)
    (all_empty (λ a b. (a < length users) × (b < length users))))
    (λ s h. h)))

other_below : (users : ℕ) (all : Members) (n : ℕ) (d : Data) → Gets (IsOfUsers users) (complement_in all n d)
unfolding complement_in
other_below users all n d =
    after (IsOfUsers users) (text_in Relations n d) _
    (λ text. after (IsOfUsers users) (check (is_name text) (fault kind.Unknown Relations n)) _
    (λ _. after (IsOfUsers users) (or_fault (entry_of first_declared text (entries all)) (fault_about kind.Unknown Relations n text)) _
    (λ other. after (IsOfUsers users) (check (not other.1) (fault_about kind.Chain Relations n text)) (λ _. Ok (complement other.0)) (λ _. tt))))

kind_below : (users : List (List ℕ)) (all : Members) (n : ℕ) (ms : Members) → Gets (IsOfUsers (length users)) (kind_in users all n ms)
unfolding kind_in
kind_below users all n ms =
    after (IsOfUsers (length users)) (check (has_one ms) (fault kind.Shape Relations n)) _ (λ _. pairs_or (get_member (codes "pairs") ms))
  where
    other_or : (o : Option Data) → Gets (IsOfUsers (length users)) (elim o [ Some d ↦ complement_in all n d | None ↦ Err (fault kind.Shape Relations n) ])
    other_or (Some d) = other_below (length users) all n d
    other_or None = tt

    pairs_or : (o : Option Data) → Gets (IsOfUsers (length users)) (elim o [
      | Some d ↦ listed_in users n d
      | None ↦ elim (get_member (codes "complement") ms) [
        | Some d ↦ complement_in all n d
        | None ↦ Err (fault kind.Shape Relations n)
      ]
    ])
    pairs_or (Some d) = listed_below users n d
    pairs_or None = other_or (get_member (codes "complement") ms)

value_below : (users : List (List ℕ)) (all : Members) (n : ℕ) (d : Data) → Gets (IsOfUsers (length users)) (kind_at users all n d)
unfolding kind_at
value_below users all n d = after (IsOfUsers (length users)) (table_in Relations n d) (λ ms. kind_in users all n ms) (λ ms. kind_below users all n ms)

free_name : (n : ℕ) (text : List ℕ) → Gets (λ _. IsTrue (is_name text)) (free_name_in n text)
unfolding free_name_in
free_name n text =
    and_so (λ _. IsTrue (is_name text)) (λ _. IsTrue (is_name text)) (name_in Relations n text) _ (formed Relations n text)
    (λ _ h. weaker (λ _. Unit {0}) (λ _. IsTrue (is_name text)) (check (not (is_built_in text)) (fault_about kind.Reserved Relations n text))
    (any_unit (check (not (is_built_in text)) (fault_about kind.Reserved Relations n text))) (λ _ _. h))
  where
    any_unit : (r : Reading (Unit {0})) → Gets (λ _. Unit {0}) r
    any_unit (Ok x) = tt
    any_unit (Err e) = tt

one_more : (users : ℕ) (rs : List RelationShape) (r : RelationShape) → AreRelations users rs → IsTrue (is_name r.name) → IsOfUsers users r.kind
    → AreRelations users (rs ++ r ∷ [])
one_more users rs r h here new = record {
  kinds = λ rho k e. elim (kind_pushed rs r rho) [
    | inl same ↦ h.kinds rho k (sym same ∙ e)
    | inr now ↦
        let is : Some r.kind ≡ Some k = sym now.1 ∙ e in
        let same : r.kind ≡ k = cc in
        subst (IsOfUsers users) same new
  ];
  names = subst AreOfForm (sym (names_push rs r)) (push_form (names_of rs) r.name h.names here);
}

relation_read : (users : List (List ℕ)) (all : Members) (rs : List RelationShape) (entry : List ℕ × Data) → AreRelations (length users) rs
    → Gets (AreRelations (length users)) (next_relation users all rs entry)
unfolding next_relation
relation_read users all rs entry h =
    let n = first_declared + length rs in
    and_so (λ _. IsTrue (is_name entry.0)) (AreRelations (length users)) (free_name_in n entry.0) _ (free_name n entry.0)
    (λ _ here. and_so (IsOfUsers (length users)) (AreRelations (length users)) (kind_at users all n entry.1)
    (λ k. Ok (rs ++ record { name = entry.0; kind = k } ∷ [])) (value_below users all n entry.1)
    (λ k new. one_more (length users) rs (record { name = entry.0; kind = k }) h here new))

none_related : (users : ℕ) → AreRelations users []
none_related users = record { kinds = no_kind; names = All-nil (λ n. IsTrue (is_name n)) }
  where
    no_kind : (rho : ℕ) (k : RelationKind) → kind_of [] rho ≡ Some k → IsOfUsers users k
    no_kind zero k e = absurd (cc)
    no_kind (suc zero) k e = absurd (cc)
    no_kind (suc (suc n)) k e = absurd (cc)

table_related : (users : List (List ℕ)) (d : Data) → Gets (AreRelations (length users)) (relations_in users d)
unfolding relations_in
table_related users d =
    after (AreRelations (length users)) (table_in Relations 0 d) _
    (λ all. after (AreRelations (length users)) (at_most Relations 0 RELATION_LIMIT (length (entries all))) _
    (λ _. each_gets (λ rs _. AreRelations (length users) rs) (next_relation users all) (λ rs x _ h. relation_read users all rs x h) [] (entries all)
    (none_related (length users))))

pub relations_read : (users : List (List ℕ)) (file : Members) → Gets (AreRelations (length users)) (relations_of users file)
unfolding relations_of
relations_read users file = table_or (get_member (codes "relations") file)
  where
    table_or : (o : Option Data) → Gets (AreRelations (length users)) (elim o [ None ↦ Ok [] | Some d ↦ relations_in users d ])
    table_or None = none_related (length users)
    table_or (Some d) = table_related users d

pub related : (users : ℕ) (rs : List RelationShape) → AreRelations users rs → AreOfUsers users rs
related users rs h rho pairs e = h.kinds rho (listed pairs) e

-- ---- the steps of a workflow, and to which roles they are permitted

steps_read : (f : ℕ) (ms : Members) → Gets (λ steps. AreFew STEP_LIMIT steps 0) (steps_named today f ms)
unfolding steps_named
steps_read f ms =
    and_so (λ steps. length (items steps) ≤ STEP_LIMIT) (λ steps. AreFew STEP_LIMIT steps 0) (items_at Flows f STEP_LIMIT (codes "steps") ms) _
    (few_items Flows f STEP_LIMIT (codes "steps") ms)
    (λ steps within. each_gets (λ names ds. AreFew STEP_LIMIT names (length ds)) (next_name Flows f)
    (λ names d ds h. next_few Flows f STEP_LIMIT (length ds) names d (h.0, omega (arith, h.1)))
    [] (items steps) (All-nil (λ n. IsTrue (is_name n)), omega (arith, within)))

-- these steps, permitted to none but the first so many roles
abbrev IsPermitting : ℕ → List (List ℕ) → FlowShape → Type 0
IsPermitting roles steps flow = (flow.steps ≡ steps) × PermitsRolesBelow roles flow

role_permitted : (f : ℕ) (roles steps : List (List ℕ)) (s : ℕ) (flow : FlowShape) (d : Data) → IsPermitting (length roles) steps flow
    → Gets (IsPermitting (length roles) steps) (next_permitted f roles s flow d)
unfolding next_permitted
role_permitted f roles steps s flow d h =
    and_so (λ r. r < length roles) (IsPermitting (length roles) steps) (named_in Flows f roles d) _ (named_number Flows f roles d)
    (λ r lt. after (IsPermitting (length roles) steps) (once Flows f (said d) (set.contains flow.permits (r, s)))
    (λ _. Ok (record flow { permits = set.insert flow.permits (r, s) }))
    (λ _. (h.0, permits_insert (length roles) flow.permits r s h.1 lt)))

step_permitted : (f : ℕ) (roles steps : List (List ℕ)) (flow : FlowShape) (entry : List ℕ × Data) → IsPermitting (length roles) steps flow
    → Gets (IsPermitting (length roles) steps) (next_permit f roles flow entry)
unfolding next_permit
step_permitted f roles steps flow entry h =
    after (IsPermitting (length roles) steps) (number_in Flows f flow.steps entry.0) _
    (λ s. after (IsPermitting (length roles) steps) (array_in Flows f entry.1) _
    (λ permitted. each_gets (λ flow _. IsPermitting (length roles) steps flow) (next_permitted f roles s)
    (λ flow d _ k. role_permitted f roles steps s flow d k) flow (items permitted) h))

permits_read : (f : ℕ) (roles steps : List (List ℕ)) (flow : FlowShape) (ms : Members) → IsPermitting (length roles) steps flow
    → Gets (IsPermitting (length roles) steps) (permits_of f roles flow ms)
unfolding permits_of
permits_read f roles steps flow ms h =
    after (IsPermitting (length roles) steps) (table_at Flows f (codes "permit") ms) _
    (λ permits. each_gets (λ flow _. IsPermitting (length roles) steps flow) (next_permit f roles)
    (λ flow e _ k. step_permitted f roles steps flow e k) flow (entries permits) h)

ordered_read : (f roles : ℕ) (steps : List (List ℕ)) (ms : Members) → Gets (IsPermitting roles steps) (ordered_in f steps ms)
unfolding ordered_in
ordered_read f roles steps ms =
    after (IsPermitting roles steps) (order_pairs f steps ms) _
    (λ order. after (IsPermitting roles steps) (no_cycle f steps order) (λ _. Ok (record { steps = steps; order = order; permits = set.empty }))
    (λ _. (refl, (all_empty (λ r s. r < roles)).each)))

-- a workflow as it is read
pub record IsReadFlow (roles relations : ℕ) (w : WorkflowShape) : Type 0 where
  pub sound : IsSoundWorkflow roles relations w
  pub few : length w.flow.steps ≤ STEP_LIMIT
  pub names : AreOfForm w.flow.steps

-- few steps with names, permitted to none but the first so many roles
record IsReadSteps (roles : ℕ) (flow : FlowShape) : Type 0 where
  pub permits : PermitsRolesBelow roles flow
  pub few : length flow.steps ≤ STEP_LIMIT
  pub names : AreOfForm flow.steps

flow_read : (f : ℕ) (roles : List (List ℕ)) (ms : Members) → Gets (IsReadSteps (length roles)) (flow_in today f roles ms)
unfolding flow_in
flow_read f roles ms =
    and_so (λ steps. AreFew STEP_LIMIT steps 0) (IsReadSteps (length roles)) (steps_named today f ms) _ (steps_read f ms)
    (λ steps h. and_so (IsPermitting (length roles) steps) (IsReadSteps (length roles)) (ordered_in f steps ms) (λ flow. permits_of f roles flow ms)
    (ordered_read f (length roles) steps ms)
    (λ flow k. weaker (IsPermitting (length roles) steps) (IsReadSteps (length roles)) (permits_of f roles flow ms) (permits_read f roles steps flow ms k)
    (λ made is. record { permits = is.1; few = subst (λ x. length x ≤ STEP_LIMIT) (sym is.0) (omega (arith, h.1)); names = subst AreOfForm (sym is.0) h.0 })))

ruled_read : (format : Format) (p : PolicyShape) (f : ℕ) (flow : FlowShape) (ms : Members) → IsReadSteps (length p.roster.roles) flow
    → Gets (IsReadFlow (length p.roster.roles) (length p.relations)) (ruled_in format p f flow ms)
unfolding ruled_in
ruled_read format p f flow ms h =
    and_so (λ rules. AreSoundRules (length flow.steps) (length p.relations) rules × (length rules ≤ RULE_LIMIT))
    (IsReadFlow (length p.roster.roles) (length p.relations)) (rules_of format f p.relations flow.steps ms)
    (λ rules. Ok (record { flow = flow; rules = rules; retired = false })) (rules_sound format f p.relations flow.steps ms h.few)
    (λ rules k. record { sound = record { permitted = h.permits; few = k.1; ruled = k.0 }; few = h.few; names = h.names })

workflow_read : (format : Format) (p : PolicyShape) (ms : Members)
    → Gets (IsReadFlow (length p.roster.roles) (length p.relations)) (workflow_in today format p ms)
unfolding workflow_in
workflow_read format p ms =
    let f = length p.flows in
    after (IsReadFlow (length p.roster.roles) (length p.relations))
    (no_others Flows f (codes "order" ∷ codes "permit" ∷ codes "rules" ∷ codes "steps" ∷ []) ms) _
    (λ _. and_so (IsReadSteps (length p.roster.roles)) (IsReadFlow (length p.roster.roles) (length p.relations)) (flow_in today f p.roster.roles ms)
    (λ flow. ruled_in format p f flow ms) (flow_read f p.roster.roles ms)
    (λ flow h. ruled_read format p f flow ms h))

-- ---- policies

-- a policy as it is read, and so many more workflows at most
pub record IsReadPolicy (p : PolicyShape) (left : ℕ) : Type 0 where
  pub users : length p.roster.users ≤ USER_LIMIT
  pub roles : length p.roster.roles ≤ ROLE_LIMIT
  pub admin : p.admin < length p.roster.roles
  pub named : length p.flow_names ≡ length p.flows
  pub few : length p.flows + left ≤ FLOW_LIMIT
  pub related : AreOfUsers (length p.roster.users) p.relations
  pub flows : (f : ℕ) → f < length p.flows → IsReadFlow (length p.roster.roles) (length p.relations) (flow_at p f)
  pub user_names : AreOfForm p.roster.users
  pub role_names : AreOfForm p.roster.roles
  pub relation_names : AreOfForm (names_of p.relations)
  pub flow_names : AreOfForm p.flow_names

below_or_last : (f n : ℕ) → f < n + 1 → (f < n) ⊎ (f ≡ n)
below_or_last f n lt = elim (cases_lt f n) [ inl below ↦ inl below | inr above ↦ inr (omega (arith, lt, above)) ]

flow_more : (p : PolicyShape) (name : List ℕ) (w : WorkflowShape) (left : ℕ) → IsReadPolicy p (left + 1) → IsTrue (is_name name)
    → IsReadFlow (length p.roster.roles) (length p.relations) w
    → IsReadPolicy (record p { flow_names = p.flow_names ++ name ∷ []; flows = p.flows ++ w ∷ [] }) left
flow_more p name w left h here new =
    let longer : length (p.flows ++ w ∷ []) ≡ length p.flows + 1 = length-append p.flows (w ∷ []) in
    let named : length (p.flow_names ++ name ∷ []) ≡ length p.flow_names + 1 = length-append p.flow_names (name ∷ []) in
    record {
      users = h.users;
      roles = h.roles;
      admin = h.admin;
      named = omega (arith, longer, named, h.named);
      few = omega (arith, longer, h.few);
      related = h.related;
      flows = λ f lt. elim (below_or_last f (length p.flows) (omega (arith, longer, lt))) [
        | inl below ↦ subst (λ (x : WorkflowShape). IsReadFlow (length p.roster.roles) (length p.relations) x)
            (sym (get_or_append_left p.flows (w ∷ []) no_workflow f below)) (h.flows f below)
        | inr last ↦ subst (λ (x : WorkflowShape). IsReadFlow (length p.roster.roles) (length p.relations) x)
            (sym (ap (λ n. slice_index_or (p.flows ++ w ∷ []) n no_workflow) last ∙ get_or_push p.flows w no_workflow (length p.flows) refl)) new
      ];
      user_names = h.user_names;
      role_names = h.role_names;
      relation_names = h.relation_names;
      flow_names = push_form p.flow_names name h.flow_names here;
    }

policy_more : (format : Format) (p : PolicyShape) (entry : List ℕ × Data) (left : ℕ) → IsReadPolicy p (left + 1)
    → Gets (λ q. IsReadPolicy q left) (next_flow today format p entry)
unfolding next_flow
policy_more format p entry left h =
    let f = length p.flows in
    and_so (λ _. IsTrue (is_name entry.0)) (λ q. IsReadPolicy q left) (name_in Flows f entry.0) _ (formed Flows f entry.0)
    (λ _ here. after (λ q. IsReadPolicy q left) (table_in Flows f entry.1) _
    (λ ms. and_so (IsReadFlow (length p.roster.roles) (length p.relations)) (λ q. IsReadPolicy q left) (workflow_in today format p ms)
    (λ w. Ok (record p { flow_names = p.flow_names ++ entry.0 ∷ []; flows = p.flows ++ w ∷ [] })) (workflow_read format p ms)
    (λ w new. flow_more p entry.0 w left h here new)))

pub flows_read : (format : Format) (p : PolicyShape) (file : Members) → ((left : ℕ) → left ≤ FLOW_LIMIT → IsReadPolicy p left)
    → Gets (λ q. IsReadPolicy q 0) (flows_in today format p file)
unfolding flows_in
flows_read format p file h =
    and_so (λ flows. length (entries flows) ≤ FLOW_LIMIT) (λ q. IsReadPolicy q 0) (entries_at Flows 0 FLOW_LIMIT (codes "flows") file) _
    (few_entries Flows 0 FLOW_LIMIT (codes "flows") file)
    (λ flows within. each_gets (λ q es. IsReadPolicy q (length es)) (next_flow today format)
    (λ q e es k. policy_more format q e (length es) (subst (λ n. IsReadPolicy q n) (omega arith) k))
    p (entries flows) (h (length (entries flows)) within))
