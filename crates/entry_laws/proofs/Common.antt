-- The names that several files of lemmas here cite, passed on from one place. Declares nothing.
pub use Rattle.std.proofs.Common.{◌≡◌, ℕ, ◌+◌, ◌<◌, ◌≤◌, ◌^◌, ◌⊎◌, inl, inr, false, List, [], ◌∷◌, ◌++◌, length, Option, sym, ap, subst, arith, append_assoc}
pub use Rattle.std.proofs.Common.{append-nil, zero, suc, ◌*◌, Bool, true, Result, if◌then◌else◌, refl, ◌∙◌, map, slice_get, Some, Ok, Err, None, ◌&&◌, nat_lt}
pub use Rattle.std.proofs.lemmas.List.{length-append, length-set}
pub use Rattle.std.specs.List.{All}
pub use Rattle.std.specs.Prelude.{codes}
pub use Rattle.std.proofs.lemmas.Fmt.{length-decimal-le}
pub use Rattle.serde_json.specs.Data.{depth, items_depth, unsigned, Data, array, no_members, string}
pub use Rattle.policy_book.specs.Laws.Shapes.{PolicyShape}
pub use Rattle.policy_book.specs.Laws.Facts.{IsSoundPolicy}
pub use Rattle.wf_names.specs.declared.limits.TheConstants.{STEP_LIMIT, OPEN_CASE_LIMIT, TRANSCRIPT_LINE_LIMIT, CASE_NUMBER_LIMIT, ROLE_LIMIT}
pub use Rattle.wf_talk.specs.declared.entry.Entry.{Entry}
pub use Rattle.wf_talk.specs.declared.request.Ask.{Ask}
pub use Rattle.wf_talk.specs.declared.reply.Reply.{Reply}
pub use Rattle.wf_board.specs.Laws.States.{State, opening_state, Numbered, open_cases, numbered_case}
pub use Rattle.admin_edits.specs.Laws.Keeping.{KeepsNames}
pub use Rattle.wf_board.specs.Laws.Steps.{IsStep, state_after_step, Answers, IsReplyTo, state_after_decision, state_after_deed}
pub use Rattle.wf_board.specs.Laws.Histories.{EachAfter, IsRightAfter}
pub use Rattle.wf_board.proofs.HistoryLaws.{after_more}
pub use Rattle.wire_json.specs.Replies.{reply_data, work_data, denial_data}
pub use Rattle.entry_reader.specs.Laws.Lines.{IsEntry, concerned}
pub use Rattle.case_record.specs.Cases.{CaseShape, is_open, assigned_of, state_at, finished_of}
pub use Rattle.wf_talk.specs.declared.reply.WorkItem.{WorkItem}
pub use Rattle.wf_talk.specs.declared.reply.Denial.{Denial}
pub use Rattle.wf_board.specs.declared.deed.Deed.{Deed}
pub use Rattle.wf_board.specs.Decisions.{decision_of, cause_full}
pub use Rattle.wf_board.specs.Views.{AreStranded, AreThose, IsWorkOf, steps_from, steps_of}
pub use Rattle.wf_board.proofs.Faring.{Fares}
pub use Rattle.wf_board.proofs.Told.{HoldsOf, IsTold, told}
pub use Rattle.wf_board.specs.Limits.{shows_large}
pub use Rattle.entry_reader.specs.Named.{HasNames}
pub use Rattle.serde_json.specs.View.{items_of}
pub use Rattle.wf_board.specs.Laws.Kept.{IsSoundState, IsOfPolicy, KeepsCompletable}
pub use Rattle.entry_reader.specs.Laws.Within.{IsCase, IsWorkItem, AreKids, IsReply, IsTree, IsBad, IsDenial}
pub use Rattle.serde_json.specs.Written.{compact_text, comma_if, items_text, members_text}
pub use Rattle.refutation_tree.specs.declared.tree.Tree.{Tree}
pub use Rattle.refutation_tree.specs.Tree.{Shape, Kids, holder, rule, no_kids, tree_kid, twin_kid}
pub use Rattle.refutation_tree.specs.Laws.Views.{shape_of}
pub use Rattle.wire_json.specs.Trees.{tree_data}
pub use Rattle.wf_names.specs.Table.{AreNames}
pub use Rattle.wf_talk.specs.declared.edit.Edit.{Edit}
pub use Rattle.admin_edits.specs.declared.amendment.Amendment.{Amendment}
pub use Rattle.admin_edits.specs.Laws.Edits.{amended, amendment_of}
pub use Rattle.admin_edits.proofs.Keeping.{changes_keep_names}
pub use Rattle.wf_names.specs.States.{user_of}
pub use Rattle.wf_names.specs.declared.states.StepState.{StepState}
pub use Rattle.wf_names.specs.declared.states.StepState.TheVariants.{Free, Held, Finished}
pub use Rattle.wf_names.specs.declared.states.Phase.{Phase}
pub use Rattle.constraint_forms.specs.declared.rule.Rule.{Rule}
pub use Rattle.policy_book.specs.Policies.{flow_at, problem_of}
pub use Rattle.policy_book.specs.Laws.Plans.{IsValidPlan, Problem}
pub use Rattle.admin_edits.specs.ClaimCauses.{assigned_with, first_falsified, permitted_roles}
pub use Rattle.wf_talk.specs.declared.request.Bad.{Bad}
pub use Rattle.wf_board.proofs.Below.{AllBelow, passing_all}
pub use Rattle.wf_board.proofs.Within.{user_known}
pub use Rattle.wire_json.specs.Entries.{bad_data, phase_data, seen_data, state_data}
pub use Rattle.policy_book.specs.Laws.Refuting.{refutes}
pub use Rattle.wf_talk.specs.declared.reply.Face.{Face}
pub use Rattle.wf_board.specs.Edition.{IsFirstStranded}
pub use Rattle.wf_board.specs.Laws.Found.{IsAllowed}
pub use Rattle.entry_reader.proofs.PlainLines.{names_flat}
pub use Rattle.wf_talk.specs.declared.edit.Missing.{Missing}
pub use Rattle.basics.proofs.Booleans.{and_both, lt_back}
pub use Rattle.constraint_forms.specs.Assign.{user_at}
pub use Rattle.entry_laws.specs.Laws.{HasFewSteps, IsLastOf, flows_of, is_by_tree}
