-- The names that several files of lemmas here cite, passed on from one place. Declares nothing.
pub use Rattle.std.proofs.Common.{◌≡◌, ℕ, zero, suc, ◌+◌, ◌<◌, ◌≤◌, List, [], ◌∷◌, ◌++◌, length, take, Option, Result, Ok, Err, inl, inr, refl, sym, ◌∙◌, ap}
pub use Rattle.std.proofs.Common.{subst, arith, slice_index_or, ◌^◌, Bool, true, false, map, ◌⊎◌, append_assoc, codes}
pub use Rattle.std.proofs.lemmas.Grind.{common_steps}
pub use Rattle.std.proofs.lemmas.List.{take-append-drop, take_all, append-nil, length-append, length-take-le, get_or_append_left, drop_all, take_more}
pub use Rattle.wf_outside.specs.Laws.Outside.{HasPart, Filed}
pub use Rattle.wf_outside.proofs.OutsideLaws.{more_put, nothing_put, nothing_taken}
pub use Rattle.policy_book.specs.Laws.Shapes.{PolicyShape}
pub use Rattle.wf_talk.specs.declared.entry.Entry.{Entry}
pub use Rattle.wf_talk.specs.declared.job.Job.{Job}
pub use Rattle.wf_board.specs.Laws.States.{opening_state, State}
pub use Rattle.wf_board.specs.Laws.Histories.{FillsJobs, batch_start, AreRightful, IsLegal, EachAfter, IsRightAfter, AreAnsweredOnce}
pub use Rattle.wf_board.proofs.HistoryLaws.{after_all}
pub use Rattle.wf_desk.specs.Desks.{DeskShape, IsSoundDesk, jobs_told}
pub use Rattle.wf_desk.specs.BatchLaws.{EndAt}
pub use Rattle.line_reader.specs.Cutter.{ends_after}
pub use Rattle.run_record.specs.declared.fault.RunFault.{RunFault}
pub use Rattle.run_record.specs.Report.{Told, nothing_told}
pub use Rattle.entry_laws.specs.Laws.Transcripts.{transcript_text, texts_of}
pub use Rattle.line_reader.specs.Laws.{AreInOrder, AreNamedJobs, JobsAreInOrder, GoesOn, LeadTo}
pub use Rattle.wf_names.specs.declared.limits.TheConstants.{LANE_LIMIT}
pub use Rattle.policy_reader.specs.File.{IsFilePolicy}
pub use Rattle.line_reader.specs.Jobs.{Cut, jobs_of_input, next_input, start, UpToAnEnd, last_or}
pub use Rattle.line_reader.specs.Laws.Naming.{JobsStayNamed}
pub use Rattle.entry_reader.specs.Named.{HasNames}
pub use Rattle.entry_laws.specs.Laws.Fits.{FitLines, LinesFit}
pub use Rattle.run_record.specs.Laws.Run.{Streams, Run, IsUntouched}
pub use Rattle.command_words.specs.Laws.Words.{AreOptions, Options}
pub use Rattle.transcript_commands.specs.declared.start.Beginning.{Beginning}
pub use Rattle.transcript_commands.specs.Laws.Begun.{HasBegun, session_of}
pub use Rattle.line_reader.specs.declared.batch_reader.Paused.{Paused}
pub use Rattle.line_reader.specs.BatchReader.{ReadsBatch, BatchReaderShape}
pub use Rattle.wf_talk.specs.declared.request.Ask.{Ask}
pub use Rattle.wf_talk.specs.declared.reply.Reply.{Reply}
pub use Rattle.admin_edits.specs.Laws.Keeping.{KeepsNames}
pub use Rattle.wf_board.specs.Laws.Steps.{IsStep}
pub use Rattle.wf_board.specs.Laws.Kept.{IsSoundState, KeepsCompletable}
pub use Rattle.wire_json.specs.Replies.{reply_data, strands_data}
pub use Rattle.entry_laws.proofs.Numbers.{AreSerial}
pub use Rattle.serde_json.specs.Data.{array, object, no_members}
pub use Rattle.serde_json.specs.View.{items_of}
pub use Rattle.refutation_tree.specs.Laws.Views.{shape_of}
pub use Rattle.wf_talk.specs.declared.reply.Face.{Face}
pub use Rattle.wf_talk.specs.declared.reply.Denial.{Denial}
pub use Rattle.wire_json.specs.Trees.{tree_data}
pub use Rattle.wf_board.specs.Laws.{HistoriesAreExact, HistoriesKeepCompletable}
pub use Rattle.run_record.specs.Fault.{is_before_input, CountsLoads, CountsWrites}
pub use Rattle.wf_server.specs.Sessions.{Setting, Served, ReadsFor, handed_in}
pub use Rattle.wf_server.specs.Names.{KeepsTexts}
pub use Rattle.wf_server.specs.Ways.{setting_of}
pub use Rattle.wf_server.specs.declared.batch.Answered.{Answered}
pub use Rattle.wf_server.specs.Batches.{entries_text, told_of, HasAnsweredAll, HasAnsweredPart, HasLoaded, IsBatchAdded, AnswersTo, IsWriteEnding, IsBatch}
pub use Rattle.wf_server.specs.Batches.{AreInOrderFrom, Serves, IsServing, ending_after}
pub use Rattle.wf_server.specs.Files.{FileTo, IsToldTo}
pub use Rattle.wf_server.specs.Laws.Resuming.{setting_behind}
