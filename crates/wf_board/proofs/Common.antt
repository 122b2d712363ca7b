-- The names that several files of lemmas here cite, passed on from one place. Declares nothing.
pub use Rattle.std.proofs.Common.{◌≡◌, ◌≢◌, ℕ, Bool, true, false, List, [], ◌∷◌, Option, None, Some, Result, Ok, Err, refl, sym, ap, arith, subst, ◌∙◌, ◌+◌}
pub use Rattle.std.proofs.Common.{◌<◌, ◌≤◌, inl, inr, length, map, is_some, if◌then◌else◌, not, zero, suc, ◌==◌, ◌++◌, ◌⊎◌, take, append_assoc, append-nil}
pub use Rattle.std.proofs.Common.{◌&&◌}
pub use Rattle.std.proofs.lemmas.Bool.Decides.{nat_tests, eqb_tells}
pub use Rattle.std.proofs.lemmas.List.{drop-append-le, take-append-drop}
pub use Rattle.std.proofs.lemmas.Bool.{false≢true}
pub use Rattle.basics.specs.Laws.Reading.{◌>>=◌, or_fault}
pub use Rattle.wf_names.specs.States.{is_done, user_of, is_held}
pub use Rattle.refutation_tree.specs.declared.tree.Tree.{Tree}
pub use Rattle.refutation_tree.specs.Laws.Views.{shape_of}
pub use Rattle.policy_book.specs.Laws.Shapes.{PolicyShape}
pub use Rattle.policy_book.specs.Laws.Facts.{IsSoundPolicy}
pub use Rattle.policy_book.specs.Policies.{problem_of, flow_at, is_authorised}
pub use Rattle.case_record.specs.Cases.{CaseShape, assigned_of, finished_case, finished_of, is_open, state_at, fresh_case, with_phase, with_state}
pub use Rattle.grant_table.specs.Cases.{CasesShape, case_in, is_open_row, replanned, change_row, open_count, with_case, open_rows, plan_of}
pub use Rattle.grant_table.specs.Kept.{AscendFrom}
pub use Rattle.admin_edits.specs.declared.amendment.Amendment.{Amendment}
pub use Rattle.admin_edits.specs.declared.fault.EditCause.{EditCause}
pub use Rattle.admin_edits.specs.Laws.Edits.{amended, amendment_of}
pub use Rattle.admin_edits.proofs.Keeping.{changes_keep_policies_sound, changes_keep_names, HoldsOf}
pub use Rattle.admin_edits.specs.ClaimCauses.{first_cause, unless, assigned_with}
pub use Rattle.wf_talk.specs.declared.request.Ask.{Ask}
pub use Rattle.wf_talk.specs.declared.reply.Reply.{Reply}
pub use Rattle.wf_talk.specs.declared.reply.Denial.{Denial}
pub use Rattle.basics.specs.declared.fault.Fault.{Fault}
pub use Rattle.basics.proofs.Booleans.{bool_cases, eq_is, or_false, eq_back, and_from, differ}
pub use Rattle.grant_table.specs.declared.rows.Row.{Row}
pub use Rattle.grant_table.proofs.Replanning.{replanned_closed, replanned_none, replanned_open}
pub use Rattle.admin_edits.specs.Amendment.{IsKnownChange}
pub use Rattle.policy_book.specs.Laws.Plans.{IsValidPlan, IsWithin, AreAssigned, IsCompletable, Problem}
pub use Rattle.wf_talk.specs.declared.entry.Entry.{Entry}
pub use Rattle.certificate_check.proofs.Refuted.{refutes_soundly}
pub use Rattle.wf_talk.specs.declared.edit.Edit.{Edit}
pub use Rattle.wf_names.specs.declared.states.StepState.{StepState}
pub use Rattle.wf_names.specs.declared.states.StepState.TheVariants.{Free, Held}
pub use Rattle.case_record.proofs.Laws.{assigned_of-at, finished_of-at, assigned_of-finish, assigned_of-hold, assigned_of-release}
pub use Rattle.constraint_forms.proofs.Members.{none_member}
pub use Rattle.constraint_forms.specs.declared.rule.Rule.{Rule}
pub use Rattle.constraint_forms.specs.Assign.{user_at}
pub use Rattle.constraint_forms.specs.Rules.{Relating, IsRuleOf, is_satisfied}
pub use Rattle.wf_names.specs.declared.states.Phase.TheVariants.{Withdrawn}
pub use Rattle.certificate_check.proofs.Assigned.{none_not_some}
pub use Rattle.basics.specs.Laws.Pairs.{Pairs}
pub use Rattle.user_relations.specs.Laws.Relations.{RelationKind, is_related, pairs_of, with_kind}
pub use Rattle.policy_book.proofs.Counting.{any_below-at}
pub use Rattle.admin_edits.proofs.Unhurt.{unhurt_plans_stay_valid}
pub use Rattle.wf_board.specs.declared.admit.NotStep.{NotStep}
pub use Rattle.wf_board.specs.declared.deed.Deed.{Deed}
pub use Rattle.wf_board.specs.declared.deed.Duty.{Duty}
pub use Rattle.wf_board.specs.declared.verdict.Verdict.{Verdict}
pub use Rattle.wf_board.specs.declared.verdict.View.{View}
pub use Rattle.wf_board.specs.Admission.{has_no_tree, HasAdmitted}
pub use Rattle.wf_board.specs.Boards.{EditionShape, book_of, state_on, BoardShape, numbered}
pub use Rattle.wf_board.specs.Decisions.{cause_aside, cause_full, decision_aside, decision_of, unless_denied, needs_verdict, takes_memory, needs_plan}
pub use Rattle.wf_board.specs.Edition.{CanAllBeCompleted, IsFirstStranded, IsTreeOf, ArePlansOf, CanBeCompleted, IsPlanOf}
pub use Rattle.wf_board.specs.Laws.Found.{IsAllowed, AreFound}
pub use Rattle.wf_board.specs.Resolve.{on_edit, on_step, open_case_at}
pub use Rattle.wf_board.specs.Laws.States.{Book, State, is_full, open_cases, Numbered, numbered_case, opening_state, with_case_changed}
pub use Rattle.wf_board.specs.Laws.Kept.{IsSoundState, EachRow, IsOfPolicy, IsPlanned, ArePlanned, KeepsCompletable, AreCasesNumbered, AreNumberedFrom}
pub use Rattle.wf_board.specs.Laws.Steps.{Answers, IsReplyTo, IsStep, state_after_decision, with_edited, with_changed, state_after_deed, state_after_step}
pub use Rattle.wf_board.specs.Laws.Steps.{with_opened}
pub use Rattle.wf_board.specs.Taking.{board_of, full_or, HasTakenStep, IsKept, HasChanged}
pub use Rattle.wf_board.specs.Verdicts.{IsEditionFor, IsMadeOf, IsStrandingFor, IsViewFor, HasAnswered, room_used, IsRight}
pub use Rattle.wf_board.specs.Laws.KeptPlans.{rows_after}
pub use Rattle.wf_board.specs.declared.verdict.Answered.{Answered}
pub use Rattle.wf_board.specs.declared.verdict.Answered.TheVariants.{Done}
pub use Rattle.wf_board.specs.Laws.Histories.{EachAfter, IsRetry, IsRightAfter}
pub use Rattle.wf_board.specs.Counting.{is_edited}
pub use Rattle.wf_board.specs.Breaking.{gives}
pub use Rattle.wf_board.specs.Limits.{shows_large}
