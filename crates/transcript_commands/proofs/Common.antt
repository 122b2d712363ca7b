-- The names that several files of lemmas here cite, passed on from one place. Declares nothing.
pub use Rattle.std.proofs.Common.{◌≡◌, Result, arith, ℕ, true, List, Option, None, Some, Ok, Err, inl, inr, sym, subst, ◌∙◌, ◌++◌, [], length, take, ap, ◌+◌}
pub use Rattle.std.proofs.Common.{◌∷◌, ◌≤◌, ◌⊎◌, ◌-◌, ◌<◌, refl, ◌==◌, nat_lt, Bool, false, slice_index_or, suc}
pub use Rattle.std.specs.Prelude.{IfErr, IsErrAnd}
pub use Rattle.std.proofs.lemmas.List.{length-append, length-drop, take_all, drop_all, length-take-le}
pub use Rattle.std.proofs.lemmas.Bool.{le-ltb, lt-ltb}
pub use Rattle.std.proofs.lemmas.Grind.{common_steps}
pub use Rattle.wf_outside.specs.Laws.Outside.{Filed, told, missing, untold}
pub use Rattle.run_record.specs.declared.fault.RunFault.{RunFault}
pub use Rattle.run_record.specs.Fault.{fault_in, CountsLoads}
pub use Rattle.wf_commands.specs.Load.{IsLoadEnding, GivesPolicy}
pub use Rattle.wf_names.specs.declared.limits.TheConstants.{REQUESTS_FILE_LIMIT, TRANSCRIPT_LINE_LIMIT, POLICY_FILE_LIMIT}
pub use Rattle.policy_book.specs.Laws.Shapes.{PolicyShape}
pub use Rattle.line_reader.specs.declared.jobs.CutText.{CutText}
pub use Rattle.line_reader.specs.Jobs.{Cut, jobs_of_input}
pub use Rattle.line_reader.specs.Reader.{lines_of, line_length, behind_line, first_line, has_end}
pub use Rattle.wf_talk.specs.declared.entry.Entry.{Entry}
pub use Rattle.wf_talk.specs.declared.job.Job.{Job}
pub use Rattle.wf_desk.specs.Desks.{DeskShape, jobs_told, AreOfLanes}
pub use Rattle.line_reader.specs.declared.jobs.Batch.{Batch}
pub use Rattle.line_reader.specs.Laws.{AreInOrder, LeadTo}
pub use Rattle.transcript_audit.specs.Auditor.{AuditShape, AreNext, IsNextLine, audit_of, with_entry}
pub use Rattle.transcript_audit.proofs.Exact.{next_pushed}
pub use Rattle.transcript_audit.specs.Laws.{AreOfSession, FaultsExclude, NextIsOne}
pub use Rattle.line_reader.proofs.FirstLines.{lines_first, finds_end, open_line}
pub use Rattle.transcript_audit.specs.declared.fault.AuditFault.{AuditFault}
pub use Rattle.transcript_audit.specs.declared.fault.AuditKind.{AuditKind}
pub use Rattle.wf_commands.specs.Once.{OverPolicy}
pub use Rattle.memchr.specs.Find.{IsFirstByte, is_byte}
pub use Rattle.line_reader.specs.Steps.{FindsEnd}
pub use Rattle.wf_outside.proofs.OutsideLaws.{nothing_taken}
pub use Rattle.basics.proofs.Booleans.{bool_cases}
pub use Rattle.wf_board.specs.Laws.Histories.{batch_end, batch_start}
pub use Rattle.wf_desk.specs.Laws.Parts.{FillsPart}
pub use Rattle.transcript_commands.specs.declared.finding.Finding.{Finding}
pub use Rattle.transcript_commands.specs.Audit.{EndsWithout, AuditsPolicy}
pub use Rattle.transcript_commands.specs.Steps.{IsAuditEnding, IsReadEnding, FindsFile, HasTakenSome}
pub use Rattle.transcript_commands.specs.Resumed.{first_long, whole_lines, GoesOnAt, RefusesBy, Session}
pub use Rattle.transcript_commands.specs.Load.{IsCutOf}
pub use Rattle.transcript_commands.specs.Unserved.{end_at, jobs_between, start_at}
pub use Rattle.transcript_commands.specs.declared.finding.Finding.TheVariants.{Legal}
pub use Rattle.transcript_commands.specs.Finding.{IsAudited, StopsAtLine, HasFound, ending_of, finding_text}
pub use Rattle.transcript_commands.specs.Laws.{LegalIsExact}
pub use Rattle.transcript_commands.specs.Laws.Begun.{StandsAt, ends_to}
