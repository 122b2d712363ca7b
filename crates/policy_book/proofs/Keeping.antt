-- What a policy keeps under each of its changes.
use Rattle.std.proofs.Common.{◌≡◌, ◌≢◌, ℕ, ◌+◌, ◌<◌, ◌≤◌, true, false, List, [], ◌∷◌, ◌++◌, length, Option, Some, ◌⊎◌, inl, inr, refl, sym, ap, subst}
use Rattle.std.proofs.Common.{◌∙◌, arith, length-append}
use Prim.Native.Nat.{zero, suc}
use Rattle.std.specs.Prelude.{slice_index_or, slice_set}
use Rattle.std.specs.FinSet as set
use Rattle.basics.specs.Laws.Pairs.{Pairs, AllPairs, pair_cmp}
use Rattle.basics.specs.PairLaws.{pair_cmp_total, pair_cmp-IsAntisymmetric, either_inserted, was_there}
use Rattle.user_relations.specs.Laws.Relations.{RelationShape, RelationKind, listed, kind_of, with_kind, change_kind, pairs_of, listed_pairs}
use Rattle.std.proofs.lemmas.List.{get_or_default, get_or-set_same, get_or-set_other, get_or_append_left, get_or_push}
use Rattle.std.proofs.Math.ListN.{length-set}
use Rattle.std.proofs.lemmas.Bool.Decides.{eqb_tells}
use Rattle.wf_names.specs.declared.limits.TheConstants.{FLOW_LIMIT, USER_LIMIT}
use Rattle.wf_names.specs.Table.{Table}
use Rattle.rbac_state.specs.Laws.Rosters.{RosterShape}
use Rattle.policy_book.specs.Laws.Shapes.{WorkflowShape}
use Rattle.policy_book.specs.Policies.{no_workflow}
use Rattle.policy_book.specs.Laws.Facts.{AreOfUsers, IsSoundWorkflow}
use Rattle.policy_book.specs.Stored.{IsStoredPolicy}

abbrev kind_at : List RelationShape → ℕ → Option RelationKind
kind_at rs n = kind_of rs (suc (suc n))

-- after a change of kind at n, the relation at m is as it was, or has the new kind
changed_at : (rs : List RelationShape) (n m : ℕ) (kind : RelationKind) → (kind_at (change_kind rs n kind) m ≡ kind_at rs m) ⊎
    (kind_at (change_kind rs n kind) m ≡ Some kind)
changed_at [] n m kind = inl refl
changed_at (r ∷ rs) zero zero kind = inr refl
changed_at (r ∷ rs) zero (suc m) kind = inl refl
changed_at (r ∷ rs) (suc n) zero kind = inl refl
changed_at (r ∷ rs) (suc n) (suc m) kind = changed_at rs n m kind

kind_changed : (rs : List RelationShape) (rho sigma : ℕ) (kind : RelationKind) → (kind_of (with_kind rs rho kind) sigma ≡ kind_of rs sigma) ⊎
    (kind_of (with_kind rs rho kind) sigma ≡ Some kind)
kind_changed rs rho sigma kind = grind (arith, changed_at)

length-change : (rs : List RelationShape) (n : ℕ) (kind : RelationKind) → length (change_kind rs n kind) ≡ length rs
length-change [] n kind = refl
length-change (r ∷ rs) zero kind = refl
length-change (r ∷ rs) (suc n) kind = ap (λ k. suc k) (length-change rs n kind)

-- a change of kind leaves as many relations
pub length-with_kind : (rs : List RelationShape) (rho : ℕ) (kind : RelationKind) → length (with_kind rs rho kind) ≡ length rs
length-with_kind rs rho kind = grind (arith, length-change)

-- of no pairs anything is true
none_of_users : (n : ℕ) → AllPairs (λ u v. (u < n) × (v < n)) set.empty
none_of_users n = record { each = λ a b here. let none : false ≡ true = sym (set.contains-empty pair_cmp (a, b)) ∙ here in cc }

nat_eq_or : (a b : ℕ) → (a ≡ b) ⊎ (a ≢ b)
nat_eq_or a b = elim (eqb_tells a b) [ inl e ↦ inl e.1 | inr ne ↦ inr ne.1 ]

pub below_or_at : (a n : ℕ) → a < n + 1 → (a < n) ⊎ (a ≡ n)
below_or_at a n h = elim (nat_eq_or a n) [ inl e ↦ inr e | inr ne ↦ inl (omega arith) ]

-- where the new pairs are of users, all pairs are
pub of_users_with : (n : ℕ) (rs : List RelationShape) (rho : ℕ) (pairs : Pairs) → AreOfUsers n rs → AllPairs (λ u v. (u < n) × (v < n)) pairs →
    AreOfUsers n (with_kind rs rho (listed pairs))
of_users_with n rs rho pairs old new = grind (arith, kind_changed)

-- the pairs of a kind of relation, given what is known of those that it lists
listed_of_users : (n : ℕ) (kind : Option RelationKind) → ((pairs : Pairs) → kind ≡ Some (listed pairs) → AllPairs (λ u v. (u < n) × (v < n)) pairs) →
    AllPairs (λ u v. (u < n) × (v < n)) (listed_pairs kind)
listed_of_users n kind old = grind (arith, none_of_users)

-- the pairs of a relation are of users
pub pairs_of_users : (n : ℕ) (rs : List RelationShape) (rho : ℕ) → AreOfUsers n rs → AllPairs (λ u v. (u < n) × (v < n)) (pairs_of rs rho)
pairs_of_users n rs rho old = listed_of_users n (kind_of rs rho) (old rho)

pub all_inserted : (n : ℕ) (s : Pairs) (u v : ℕ) → AllPairs (λ u v. (u < n) × (v < n)) s → u < n → v < n →
    AllPairs (λ u v. (u < n) × (v < n)) (set.insert s (u, v))
all_inserted n s u v old hu hv = record {
  each = λ a b here. elim (either_inserted pair_cmp_total pair_cmp-IsAntisymmetric s (u, v) (a, b) here) [
    | inl same ↦ (subst (λ (x : ℕ × ℕ). x.0 < n) (sym same) hu, subst (λ (x : ℕ × ℕ). x.1 < n) (sym same) hv)
    | inr there ↦ old.each a b there
  ];
}

pub all_removed : (n : ℕ) (s : Pairs) (u v : ℕ) → AllPairs (λ u v. (u < n) × (v < n)) s → AllPairs (λ u v. (u < n) × (v < n)) (set.remove s (u, v))
all_removed n s u v old = record { each = λ a b here. old.each a b (was_there pair_cmp_total pair_cmp-IsAntisymmetric s (u, v) (a, b) here) }

-- more users are no loss
pub of_more_users : (n m : ℕ) (rs : List RelationShape) → n ≤ m → AreOfUsers n rs → AreOfUsers m rs
of_more_users n m rs le old sigma pairs e =
    record { each = λ a b here. let h : (a < n) × (b < n) = (old sigma pairs e).each a b here in (omega (arith, h.0), omega (arith, h.1)) }

module _ (r : RosterShape) (rs : List RelationShape) (names : Table) (flows : List WorkflowShape) (admin : ℕ)
    (old : IsStoredPolicy r rs names flows admin) where
  -- another user
  pub stored_with_user : (name : List ℕ) → length r.users < USER_LIMIT → IsStoredPolicy (record r { users = r.users ++ name ∷ [] }) rs names flows admin
  stored_with_user name room =
      let longer : length (r.users ++ name ∷ []) ≡ length r.users + 1 = length-append r.users (name ∷ []) in
      record {
        limit = old.limit;
        sound = record {
          users = omega (arith, longer, room);
          roles = old.sound.roles;
          admin = old.sound.admin;
          named = old.sound.named;
          few = old.sound.few;
          related = of_more_users (length r.users) (length (r.users ++ name ∷ [])) rs (omega (arith, longer)) old.sound.related;
          flows = old.sound.flows;
        };
      }

  -- other pairs in one relation
  pub stored_with_pairs : (rho : ℕ) (pairs : Pairs) → AllPairs (λ u v. (u < length r.users) × (v < length r.users)) pairs →
      IsStoredPolicy r (with_kind rs rho (listed pairs)) names flows admin
  stored_with_pairs rho pairs new =
      let same : length (with_kind rs rho (listed pairs)) ≡ length rs = length-with_kind rs rho (listed pairs) in
      record {
        limit = old.limit;
        sound = record {
          users = old.sound.users;
          roles = old.sound.roles;
          admin = old.sound.admin;
          named = old.sound.named;
          few = old.sound.few;
          related = of_users_with (length r.users) rs rho pairs old.sound.related new;
          flows = λ f h. subst (λ (n : ℕ). IsSoundWorkflow (length r.roles) n (slice_index_or flows f no_workflow)) (sym same) (old.sound.flows f h);
        };
      }

  -- the workflow at a place is sound
  pub sound_at : (f : ℕ) (w : WorkflowShape) → f < length flows → w ≡ slice_index_or flows f w → IsSoundWorkflow (length r.roles) (length rs) w
  sound_at f w h e =
      subst (λ (x : WorkflowShape). IsSoundWorkflow (length r.roles) (length rs) x) (sym (e ∙ get_or_default flows f w no_workflow h)) (old.sound.flows f h)

  -- another workflow at a number
  pub stored_with_flow : (f : ℕ) (w : WorkflowShape) → f < length flows → IsSoundWorkflow (length r.roles) (length rs) w →
      IsStoredPolicy r rs names (slice_set flows f w) admin
  stored_with_flow f w h new =
      let same : length (slice_set flows f w) ≡ length flows = length-set flows f w in
      record {
        limit = old.limit;
        sound = record {
          users = old.sound.users;
          roles = old.sound.roles;
          admin = old.sound.admin;
          named = old.sound.named ∙ sym same;
          few = omega (arith, same, old.sound.few);
          related = old.sound.related;
          flows = λ g below. elim (nat_eq_or g f) [
            | inl here ↦ subst (λ (x : WorkflowShape). IsSoundWorkflow (length r.roles) (length rs) x)
                (sym (ap (λ n. slice_index_or (slice_set flows f w) n no_workflow) here ∙ get_or-set_same flows f w no_workflow h)) new
            | inr other ↦ subst (λ (x : WorkflowShape). IsSoundWorkflow (length r.roles) (length rs) x)
                (sym (get_or-set_other flows f g w no_workflow other)) (old.sound.flows g (omega (arith, same, below)))
          ];
        };
      }

  -- one more workflow
  pub stored_with_more : (name : List ℕ) (w : WorkflowShape) → length names.names < FLOW_LIMIT → IsSoundWorkflow (length r.roles) (length rs) w →
      IsStoredPolicy r rs (record names { names = names.names ++ name ∷ [] }) (flows ++ w ∷ []) admin
  stored_with_more name w room new =
      let longer : length (flows ++ w ∷ []) ≡ length flows + 1 = length-append flows (w ∷ []) in
      let named : length (names.names ++ name ∷ []) ≡ length names.names + 1 = length-append names.names (name ∷ []) in
      record {
        limit = old.limit;
        sound = record {
          users = old.sound.users;
          roles = old.sound.roles;
          admin = old.sound.admin;
          named = omega (arith, longer, named, old.sound.named);
          few = omega (arith, longer, room, old.sound.named);
          related = old.sound.related;
          flows = λ g below. elim (below_or_at g (length flows) (omega (arith, longer, below))) [
            | inl before ↦ subst (λ (x : WorkflowShape). IsSoundWorkflow (length r.roles) (length rs) x)
                (sym (get_or_append_left flows (w ∷ []) no_workflow g before)) (old.sound.flows g before)
            | inr last ↦ subst (λ (x : WorkflowShape). IsSoundWorkflow (length r.roles) (length rs) x)
                (sym (ap (λ n. slice_index_or (flows ++ w ∷ []) n no_workflow) last ∙ get_or_push flows w no_workflow (length flows) refl)) new
          ];
        };
      }

-- a workflow stays sound where a role of the roster is permitted
pub sound_permitted : (roles relations r s : ℕ) (w : WorkflowShape) → r < roles → IsSoundWorkflow roles relations w →
    IsSoundWorkflow roles relations (record w { flow = record w.flow { permits = set.insert w.flow.permits (r, s) } })
sound_permitted roles relations r s w h old = record {
  permitted = λ a b here. elim (either_inserted pair_cmp_total pair_cmp-IsAntisymmetric w.flow.permits (r, s) (a, b) here) [
    | inl same ↦ subst (λ (x : ℕ × ℕ). x.0 < roles) (sym same) h
    | inr there ↦ old.permitted a b there
  ];
  few = old.few;
  ruled = old.ruled;
}

-- and where one is forbidden
pub sound_forbidden : (roles relations r s : ℕ) (w : WorkflowShape) → IsSoundWorkflow roles relations w →
    IsSoundWorkflow roles relations (record w { flow = record w.flow { permits = set.remove w.flow.permits (r, s) } })
sound_forbidden roles relations r s w old = record {
  permitted = λ a b here. old.permitted a b (was_there pair_cmp_total pair_cmp-IsAntisymmetric w.flow.permits (r, s) (a, b) here);
  few = old.few;
  ruled = old.ruled;
}
