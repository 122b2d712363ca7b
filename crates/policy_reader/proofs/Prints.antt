-- The words that the proofs of this crate cite most, passed on from one place. Declares nothing.
pub use Rattle.std.proofs.Common.{Err, Some, [], ap, arith, false, length, map, nat_eq, refl, slice_get, string_bytes, subst, sym, take, true, ℕ, ◌++◌, ◌+◌}
pub use Rattle.std.proofs.Common.{◌<◌, ◌∙◌, ◌∷◌, ◌≡◌}
pub use Rattle.policy_reader.proofs.Words.{length-map, map-append, append-nil, length-append, slice_cmp, nat_list_cmp_total, pointwise, nat_list_eq_equiv}
pub use Rattle.policy_reader.proofs.Words.{AllByRecursion, All, list_any, eq_by_cmp, ordering_reverse, eq_same, or_left, or_right, not_true, ◌>>=◌, each}
pub use Rattle.policy_reader.proofs.Words.{pair_cmp_total, pair_cmp-IsAntisymmetric, all_empty, Pairs, pair_cmp, AllPairs, AreOfUsers, IsSoundRule}
pub use Rattle.policy_reader.proofs.Words.{AreSoundRules, any_below, entries, items, IsPrintable, Ascend, first_declared, names_of, is_complement, entry_of}
pub use Rattle.policy_reader.proofs.Words.{Members, Data, view, members_view, table_view, FlowShape, is_before}
pub use Rattle.std.proofs.lemmas.List.{get_or_default, take_more, length-take-le, take_all}
pub use Rattle.std.proofs.lemmas.Map.Keys.{Less-from_sorted, IsDistinct-cons, IsDistinct-IsPermutation, IsDistinct-from_sorted}
pub use Rattle.std.proofs.lemmas.Option.{get_or_from_slice_get, slice_get_past, slice_get_within, slice_get-map, slice_get-get_or}
pub use Rattle.std.specs.Cmp.{tied_itself, nat_eq_equiv, nat_cmp_is, eq_by_cmp_equiv}
pub use Rattle.std.specs.FinMap.{slice_cmp-IsAntisymmetric, nat_cmp-IsAntisymmetric, find, is_sorted}
pub use Rattle.std.specs.List.{IsDistinct}
pub use Rattle.std.specs.Ordering.{is_eq, match_ordering, nat_cmp, ordering_then}
pub use Rattle.basics.proofs.Booleans.{and_same, and_swap, and-false, or-false, eq_back, lt_yes, lt_no, eq_above, lt_back, and_both, and_from, le_yes, le_back}
pub use Rattle.constraint_forms.specs.Assign.{is_member}
pub use Rattle.constraint_forms.specs.declared.rule.Rule.{Rule}
pub use Rattle.basics.specs.PairLaws.{ascending_none}
pub use Rattle.basics.specs.Laws.Pairs.{IsAscending}
pub use Rattle.policy_book.specs.Laws.Facts.{IsSoundWorkflow}
pub use Rattle.policy_book.specs.Policies.{no_workflow, flow_at}
pub use Rattle.policy_book.specs.Laws.Shapes.{PolicyShape, WorkflowShape}
pub use Rattle.policy_reader.specs.Documents.{name_at, names_array, users_data, relations_data, flows_data, chosen, with_member, table_below, row, rows}
pub use Rattle.policy_reader.specs.Documents.{pair_data, pairs_data, relation_entry, user_entry, names_where, rule_data, flow_entry, permit_entry}
pub use Rattle.policy_reader.specs.Documents.{permits_data, rules_data, document_of}
pub use Rattle.policy_reader.specs.Named.{IsNamedPolicy, HasFlags, HaveFlags, IsNamedWorkflow}
pub use Rattle.policy_reader.proofs.Fresh.{none_cons, among}
pub use Rattle.policy_reader.proofs.Orders.{least_none}
pub use Rattle.policy_reader.specs.Formats.{file_keys, format_number}
pub use Rattle.policy_reader.specs.Documents.{form_of, needs_second, written_format}
pub use Rattle.policy_reader.specs.Forms.{knows_form}
pub use Rattle.policy_reader.specs.declared.format.Format.{Format}
pub use Rattle.policy_reader.specs.Relations.{is_built_in}
pub use Rattle.policy_reader.specs.declared.fault.PolicyPart.{PolicyPart}
pub use Rattle.policy_reader.specs.declared.fault.PolicyPart.TheVariants.{File, Relations, Users, Roles, Flows}
pub use Rattle.rbac_state.specs.Laws.Rosters.{RosterShape, has_role, IsSoundRoster}
pub use Rattle.toml.specs.Data.{get_member, member, no_members, string, table, integer, array, depth, items_depth, members_depth, has_valid_dates}
pub use Rattle.toml.specs.Data.{members_have_valid_dates}
pub use Rattle.toml.specs.View.{items_of}
pub use Rattle.user_relations.specs.Laws.Relations.{RelationShape, RelationKind, listed, complement, kind_of, known_names, has_list, is_listed, complemented}
pub use Rattle.user_relations.specs.Laws.Relations.{complement_of, listed_pairs, pairs_of}
pub use Rattle.user_relations.specs.Laws.Soundness.{AreSoundRelations}
pub use Rattle.wf_names.specs.Names.{is_name}
pub use Rattle.wf_names.specs.Table.{AreNames, place_of}
pub use Rattle.wf_names.specs.declared.limits.TheConstants.{PAIR_LIMIT, RULE_LIMIT, FLOW_LIMIT, RELATION_LIMIT, USER_LIMIT, ROLE_LIMIT, STEP_LIMIT}
pub use Rattle.workflow_schema.specs.Laws.{OrderIsDecided}
