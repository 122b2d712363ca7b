-- What a policy keeps, with what is kept beside.
use Rattle.std.proofs.Common.{◌≡◌, ℕ, ◌<◌, ◌++◌, List, length, take, slice_index_or, slice_set, sym, ap, subst, ◌∙◌, arith}
use Rattle.std.proofs.lemmas.List.{get_or_default}
use Rattle.std.proofs.Math.Seq.{take-append_seam}
use Rattle.basics.specs.Laws.Pairs.{AllPairs, Pairs}
use Rattle.wf_names.specs.Table.{Table}
use Rattle.rbac_state.specs.Laws.Rosters.{RosterShape}
use Rattle.user_relations.specs.Laws.Relations.{RelationShape, listed, with_kind}
use Rattle.workflow_schema.specs.Flows.{FlowShape}
use Rattle.wf_names.specs.UserSets.{has_user}
use Rattle.policy_book.specs.Laws.Shapes.{PolicyShape, WorkflowShape}
use Rattle.policy_book.specs.Policies.{flow_at, no_workflow}
use Rattle.policy_book.specs.Laws.Facts.{IsSoundWorkflow}
use Rattle.policy_book.specs.Stored.{shape_of}
use Rattle.policy_book.specs.Duties.{AreSettled, DutyShape, IsBook, may_do}
use Rattle.policy_book.proofs.Keeping.{sound_at, stored_with_flow, stored_with_pairs}
use Rattle.policy_book.proofs.Rows.{DiffersAt, PermitsAt, kept_settled, kept_with_permits}

-- what was written into a whole list
pub whole : (n : ℕ) (xs ys : List DutyShape) → length xs ≡ n → take n (xs ++ ys) ≡ xs
whole n xs ys long = ap (λ k. take k (xs ++ ys)) (sym long) ∙ take-append_seam xs ys

-- a membership of one user more or less, where the user is put right
book_settled : (roster : RosterShape) (m : Pairs) (rs : List RelationShape) (names : Table) (flows : List WorkflowShape) (admin u r : ℕ)
    (ds es : List DutyShape)
    → IsBook roster rs names flows admin ds → DiffersAt u r roster (record roster { members = m }) → AreSettled (record roster { members = m }) flows u r ds es
    → IsBook (record roster { members = m }) rs names flows admin es
book_settled roster m rs names flows admin u r ds es old differs settled = grind (arith, kept_settled)

-- the book after a change of one user's roles, as it is written into lists that were seen under other names
pub book_after : (roster after : RosterShape) (m : Pairs) (rs : List RelationShape) (names : Table) (flows ws : List WorkflowShape) (admin u r n : ℕ)
    (ds old new rest : List DutyShape)
    → after ≡ record roster { members = m } → ws ≡ flows → old ≡ ds → AreSettled after ws u r old new → length old ≡ n
    → IsBook roster rs names flows admin ds → DiffersAt u r roster (record roster { members = m }) → IsBook after rs names flows admin (take n (new ++ rest))
book_after roster after m rs names flows ws admin u r n ds old new rest changed seen there settled long book differs = grind (arith, whole, book_settled)

-- other permissions for one step of a workflow, whose row is made anew
pub book_with_permits : (p : PolicyShape) (roster : RosterShape) (rs : List RelationShape) (names : Table) (flows : List WorkflowShape) (admin : ℕ)
    (ds : List DutyShape) (g f s : ℕ) (w seen : WorkflowShape) (d : DutyShape) (permits : Pairs) (changed : FlowShape) (row : List ℕ)
    → shape_of roster rs names flows admin ≡ p → f ≡ g → g < length p.flows → s < length (flow_at p g).flow.steps
    → w ≡ seen → seen ≡ slice_index_or flows f seen → d ≡ slice_index_or ds f d
    → changed ≡ record w.flow { permits = permits } → ((u : ℕ) → has_user row u ≡ may_do roster changed s u) → PermitsAt s w.flow permits
    → (IsSoundWorkflow (length roster.roles) (length rs) w →
    IsSoundWorkflow (length roster.roles) (length rs) (record w { flow = record w.flow { permits = permits } }))
    → IsBook roster rs names flows admin ds
    → IsBook roster rs names (slice_set flows f (record w { flow = changed })) admin (slice_set ds f (record d { rows = slice_set d.rows s row }))
book_with_permits p roster rs names flows admin ds g f s w seen d permits changed row view number there asked here at kept_at made told others sound book =
    let as_many = ap (λ (x : PolicyShape). length x.flows) view in
    let within : f < length flows = omega (arith, as_many, number, there) in
    let w_is : w ≡ slice_index_or flows f w = here ∙ at ∙ get_or_default flows f seen w within in
    let step : s < length w.flow.steps =
    subst (λ (x : WorkflowShape). s < length x.flow.steps) (sym (w_is ∙ get_or_default flows f w no_workflow within))
    (subst (λ (x : PolicyShape). s < length (flow_at x f).flow.steps) (sym view)
    (subst (λ (n : ℕ). s < length (flow_at p n).flow.steps) (sym number) asked)) in
    let before = subst (IsSoundWorkflow (length roster.roles) (length rs)) (sym here) (sound_at roster rs names flows admin book.stored f seen within at) in
    subst (λ (x : FlowShape). ((u : ℕ) → has_user row u ≡ may_do roster x s u) →
    IsBook roster rs names (slice_set flows f (record w { flow = x })) admin (slice_set ds f (record d { rows = slice_set d.rows s row })))
    (sym made)
    (λ right. record {
      stored = stored_with_flow roster rs names flows admin book.stored f _ within (sound before);
      kept = kept_with_permits roster flows ds f s w d permits row within step book.kept w_is kept_at others right;
    }) told

-- other pairs of users in one relation
pub book_with_pairs : (roster : RosterShape) (rs after : List RelationShape) (names : Table) (flows : List WorkflowShape) (admin rho : ℕ)
    (ds : List DutyShape) (pairs : Pairs) → after ≡ with_kind rs rho (listed pairs)
    → AllPairs (λ u v. (u < length roster.users) × (v < length roster.users)) pairs → IsBook roster rs names flows admin ds →
    IsBook roster after names flows admin ds
book_with_pairs roster rs after names flows admin rho ds pairs changed within book =
    rw changed (record { stored = stored_with_pairs roster rs names flows admin book.stored rho pairs within; kept = book.kept })
