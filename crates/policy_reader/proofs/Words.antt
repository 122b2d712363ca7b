-- The words that the proofs of this crate cite most, passed on from one place. Declares nothing.
pub use Rattle.std.proofs.Common.{Err, IsTrue, Some, [], ap, arith, drop, false, length, map, refl, subst, sym, true, ◌+◌, ◌<◌, ◌∙◌, ◌≡◌, ◌≤◌}
pub use Rattle.std.proofs.lemmas.Bool.{cases_lt}
pub use Rattle.std.proofs.lemmas.List.{length-map, length-append, map-append, append-nil}
pub use Rattle.std.proofs.lemmas.Map.Keys.{IsDistinct-push}
pub use Rattle.std.specs.Cmp.Lexicographic.{slice_cmp, pointwise, nat_list_cmp_total, texts_ties, nat_list_eq_equiv}
pub use Rattle.std.specs.List.{AllByRecursion, list_any, All}
pub use Rattle.std.specs.Ordering.{ordering_reverse, eq_by_cmp}
pub use Rattle.basics.proofs.Booleans.{or_left, or_right, or_false, eq_same, eq_below, not_true}
pub use Rattle.constraint_forms.specs.Rules.{any_from}
pub use Rattle.basics.specs.Laws.Reading.{◌>>=◌, each, or_fault, Fails}
pub use Rattle.basics.specs.PairLaws.{pair_cmp_total, pair_cmp-IsAntisymmetric, all_insert, all_empty}
pub use Rattle.basics.specs.Laws.Pairs.{Pairs, AllPairs, pair_cmp}
pub use Rattle.policy_book.specs.Laws.Facts.{IsSoundRule, AreOfUsers, PermitsRolesBelow, AreSoundRules}
pub use Rattle.policy_book.specs.Policies.{any_below}
pub use Rattle.policy_reader.specs.Bounds.{AreBelow}
pub use Rattle.policy_reader.specs.Faults.{Reading, fault, fault_of, fault_about}
pub use Rattle.policy_reader.specs.Flows.{least_below, found_or, cycle_at, next_flow, next_permit, next_permitted}
pub use Rattle.policy_reader.specs.Kept.{IsGrown, IsCycleOrMemory, HasStepsBelow, HasPermitted}
pub use Rattle.policy_reader.specs.Kinds.{is_marked, IsTarget, IsReadKind, AreReadRelations}
pub use Rattle.policy_reader.specs.Parts.{entries, lists_text, items, both_texts, texts_in, next_pair, next_name, known_key}
pub use Rattle.policy_reader.specs.Laws.Printable.{Ascend, IsFreshPolicy, IsPrintable}
pub use Rattle.policy_reader.specs.Relations.{names_of, first_declared, entry_of, is_complement, is_complement_table, passes, next_relation}
pub use Rattle.policy_reader.specs.Rosters.{some_user_has, next_held, next_role, next_user}
pub use Rattle.policy_reader.specs.Rules.{next_member, next_rule}
pub use Rattle.policy_reader.specs.declared.fault.PolicyPart.TheVariants.{Flows}
pub use Rattle.toml.specs.Data.{Data, Members, as_table}
pub use Rattle.toml.specs.View.{view, members_view, items_view, table_view}
pub use Rattle.toml.specs.declared.value.Value.{Value}
pub use Rattle.user_relations.specs.View.{kind_view, shapes}
pub use Rattle.wf_names.specs.declared.limits.TheConstants.{RELATION_LIMIT, USER_LIMIT, STEP_LIMIT, ROLE_LIMIT}
pub use Rattle.workflow_schema.specs.Flows.{is_count, Precedes, next, through, is_before, IsLeastCycle, FlowShape}
