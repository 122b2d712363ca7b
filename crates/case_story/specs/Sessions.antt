-- The files of a session that is told, and its audit.
use Rattle.std.specs.Prelude.{◌≡◌, ℕ, ◌<◌, ◌≤◌, ◌++◌, true, List, length, Result, Ok, Err}
use Rattle.std.proofs.Common.{◌⊎◌}
use Rattle.wf_names.specs.declared.limits.TheConstants.{LANE_LIMIT, REQUESTS_FILE_LIMIT}
use Rattle.wf_outside.specs.Laws.Outside.{Filed}
use Rattle.policy_book.specs.Laws.Shapes.{PolicyShape}
use Rattle.wf_talk.specs.declared.entry.Entry.{Entry}
use Rattle.wf_board.specs.Laws.States.{State, opening_state}
use Rattle.wf_board.specs.Laws.Histories.{state_after}
use Rattle.line_reader.specs.Jobs.{Cut, jobs_of_input}
use Rattle.line_reader.specs.Reader.{lines_of}
use Rattle.transcript_audit.specs.Auditor.{AuditShape, IsTranscriptPart, audit_of}
use Rattle.transcript_audit.specs.Laws.{AreOfSession}
use Rattle.run_record.specs.declared.fault.RunFault.{RunFault}
use Rattle.wf_commands.specs.Load.{GivesBytes, GivesPolicy}
use Rattle.transcript_commands.specs.Load.{FileNames}
use Rattle.case_story.specs.declared.session.Session.{Session}
use Rattle.case_story.specs.declared.session.TheConstants.{TRANSCRIPT_FILE_LIMIT}

-- the requests as they are cut; where a limit is met, the lines before it count
abbrev pub cut_in : Session → Cut
cut_in s = jobs_of_input s.requests true s.lanes

-- the audit of the transcript, before its first line
abbrev pub audit_in : Session → AuditShape
audit_in s = audit_of s.policy s.rounds (cut_in s).jobs (cut_in s).ends

-- an audit is that of the transcript, before its first line
pub record IsBefore (s : Session) (a : AuditShape) : Type 0 where
  pub auditor : a ≡ audit_in s
  pub session : AreOfSession s.policy s.rounds (cut_in s).jobs (cut_in s).ends

-- a session has lanes, and its transcript is not too long
pub record IsServed (s : Session) : Type 0 where
  pub some : 0 < s.lanes
  pub lanes : s.lanes ≤ LANE_LIMIT
  pub short : length s.transcript ≤ TRANSCRIPT_FILE_LIMIT

-- the first n lines of the transcript are those of these entries, a legal history that answers a
-- part of the jobs
pub record AreFirst (s : Session) (n : ℕ) (entries : List Entry) : Type 0 where
  pub front : List (List ℕ)
  pub rest : List (List ℕ)
  pub lines : lines_of s.transcript ≡ front ++ rest
  pub count : length front ≡ n
  pub part : IsTranscriptPart s.policy s.rounds (cut_in s).jobs (cut_in s).ends front entries

-- the state after some entries
abbrev pub state_of : Session → List Entry → State
state_of s entries = state_after (opening_state s.policy) entries

-- the files are loaded, or the first of them that cannot be is told
abbrev pub FailsTranscript : (List ℕ → Filed) → FileNames → RunFault → Type 0
FailsTranscript files n fault = GivesBytes TRANSCRIPT_FILE_LIMIT (files n.transcript) (Err fault)

abbrev pub FailsRequests : (List ℕ → Filed) → FileNames → RunFault → Type 0
FailsRequests files n fault =
    GivesBytes REQUESTS_FILE_LIMIT (files n.requests) (Err fault)
    ⊎ ((bytes : List ℕ) × (GivesBytes REQUESTS_FILE_LIMIT (files n.requests) (Ok bytes) ×
    FailsTranscript files n fault))

abbrev pub GivesSession : (List ℕ → Filed) → FileNames → Result Session RunFault → Type 0
GivesSession files n (Ok s) =
    GivesPolicy (files n.policy) (Ok s.policy)
    × (GivesBytes REQUESTS_FILE_LIMIT (files n.requests) (Ok s.requests)
    × GivesBytes TRANSCRIPT_FILE_LIMIT (files n.transcript) (Ok s.transcript))
GivesSession files n (Err fault) =
    GivesPolicy (files n.policy) (Err fault)
    ⊎ ((p : PolicyShape) × (GivesPolicy (files n.policy) (Ok p) × FailsRequests files n fault))
