-- The command `resume`: a session goes on from the transcript of an earlier one.
use Rattle.std.specs.Prelude.{◌≡◌, ℕ, Bool, false, List, length, take, drop, Option}
use Rattle.std.proofs.Common.{◌⊎◌}
use Rattle.wf_outside.specs.Laws.Outside.{HasPart, with_bytes}
use Rattle.wf_talk.specs.declared.entry.Entry.{Entry}
use Rattle.wf_board.specs.Laws.States.{opening_state}
use Rattle.wf_board.specs.Laws.Histories.{AreAnsweredOnce, AreRightful, state_after}
use Rattle.entry_laws.specs.Laws.Fits.{FitLines}
use Rattle.entry_laws.specs.Laws.Transcripts.{texts_of}
use Rattle.line_reader.specs.Jobs.{Cut, next_input}
use Rattle.run_record.specs.declared.fault.RunFault.{RunFault}
use Rattle.run_record.specs.declared.fault.RunFault.TheVariants.{Found, Write, NoMemory}
use Rattle.run_record.specs.Fault.{CountsWrites}
use Rattle.run_record.specs.Report.{nothing_told}
use Rattle.run_record.specs.Laws.Run.{Run, IsOrderly, IsUntouched}
use Rattle.transcript_audit.specs.declared.fault.AuditKind.{AuditKind}
use Rattle.transcript_commands.specs.Finding.{audit_fault_line}
use Rattle.transcript_commands.specs.Resumed.{IsRefused, IsTakenUp, Session}
use Rattle.transcript_commands.specs.declared.start.TheConstants.{PIECE}
use Rattle.transcript_commands.specs.declared.refusal.Refusal.{Refusal}
use Rattle.transcript_commands.specs.declared.refusal.Refusal.TheVariants.{Ends, Line}
use Rattle.transcript_commands.specs.Laws.Begun.{session_of}
use Rattle.transcript_commands.specs.Load.{FileNames, OverFiles}
use Rattle.command_words.specs.Laws.Words.{AreOptions, Options}
use Rattle.wf_server.specs.Sessions.{Served, Setting}

-- how a session is served behind `restored` entries of an earlier one
abbrev pub setting_behind : Session → ℕ → Setting
setting_behind s restored =
    record { policy = s.policy; lanes = s.lanes; rounds = s.rounds; restored = restored }

-- a run ends so, and touches nothing
abbrev pub EndsBy : Run → RunFault → Type 0
EndsBy r fault = (r.fault ≡ fault) × IsUntouched r

-- a text is written, or a part of it, or nothing; and a run ends so
abbrev pub TellsAs : List ℕ → Option (List ℕ) → Option (List ℕ) → RunFault → Type 0
TellsAs text before after Found = after ≡ with_bytes before text
TellsAs text before after Write = HasPart before after text
TellsAs text before after NoMemory = after ≡ before
TellsAs text before after fault = ⊥

-- no entries are those of the transcript, and its first line that is none is told; nothing is read
pub record RefusesFrom (s : Session) (transcript : List ℕ) (r : Run) : Type 0 where
  pub number : ℕ
  pub kind : AuditKind
  pub refused : IsRefused s transcript number kind
  pub unread : r.after.input ≡ r.before.input
  pub untold : r.told ≡ nothing_told
  pub tells : TellsAs (audit_fault_line number kind) r.before.output r.after.output r.fault

-- the entries of the transcript are taken up, and a session goes on behind them: it answers the
-- jobs of the requests that have none, and then what is read; what was taken up stays as it is and
-- is not written again; of the entries that come, the text of each fits a line of an audit, only an
-- opening, a claim, an edit or a view over the open cases is answered with want of memory, and
-- where it may not be so, none is answered again
pub record GoesOnFrom (s : Session) (cut : Cut) (transcript : List ℕ) (repeats : Bool)
    (r : Run) : Type 0 where
  pub entries : List Entry
  pub taken : IsTakenUp s transcript entries
  pub begins : take (length entries) r.told.entries ≡ entries
  pub served : Served (setting_behind s (length entries)) (next_input cut) PIECE r.before
      r.after r.told r.fault
  pub wants : AreRightful (drop (length entries) r.told.entries)
  pub fits : FitLines (texts_of (state_after (opening_state s.policy) entries)
      (drop (length entries) r.told.entries))
  pub once : repeats ≡ false → AreAnsweredOnce (drop (length entries) r.told.entries)

-- what becomes of a transcript of which no line is too long: there is no memory before it is taken
-- up, or it is refused, or the session goes on
abbrev pub ResumesFrom : Session → Cut → List ℕ → Bool → Run → Type 0
ResumesFrom s cut transcript repeats r =
    EndsBy r NoMemory ⊎ (RefusesFrom s transcript r ⊎ GoesOnFrom s cut transcript repeats r)

-- a run of `resume` with its files and options
pub record ResumesRun (names : FileNames) (options : Options) (repeats : Bool) (r : Run)
    : Type 0 where
  pub within : AreOptions options
  pub resumes : OverFiles r.files names options.lanes (EndsBy r)
      (λ p cut transcript. ResumesFrom (session_of p options.lanes options.rounds cut) cut
      transcript repeats r)
  pub orderly : IsOrderly r

-- Inside: what a run writes whose session does not go on
abbrev pub RefusesAs : Refusal → Option (List ℕ) → Option (List ℕ) → RunFault → Type 0
RefusesAs (Ends fault) before after ending = (ending ≡ fault) × (after ≡ before)
RefusesAs (Line number kind) before after ending =
    TellsAs (audit_fault_line number kind) before after ending

abbrev pub CountsRefusal : Refusal → ℕ → ℕ → RunFault → Type 0
CountsRefusal (Ends fault) before after ending = after ≡ before
CountsRefusal (Line number kind) before after ending = CountsWrites ending before after
