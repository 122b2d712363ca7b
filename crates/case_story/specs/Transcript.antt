-- A run that tells of a transcript.
use Rattle.std.specs.Prelude.{◌≡◌, ℕ, List, Option, Result, Ok, Err}
use Rattle.std.proofs.Common.{◌⊎◌}
use Rattle.wf_outside.specs.Laws.Outside.{Filed}
use Rattle.run_record.specs.declared.fault.RunFault.{RunFault}
use Rattle.wf_commands.specs.declared.answer.Answer.{Answer}
use Rattle.wf_commands.specs.Answer.{AnswersAs}
use Rattle.wf_commands.specs.Load.{IsLoadEnding}
use Rattle.wf_commands.specs.Once.{Ends}
use Rattle.case_story.specs.declared.transcript.What.{What}
use Rattle.case_story.specs.declared.transcript.What.TheVariants as what
use Rattle.case_story.specs.declared.session.Session.{Session}
use Rattle.transcript_commands.specs.Load.{FileNames}
use Rattle.case_story.specs.Sessions.{GivesSession}
use Rattle.case_story.specs.Printed.{TellsEntry, TellsLog, TellsNow, TellsPage}

-- what is told of a session: how the run ends with which text
abbrev pub Tells : What → Session → RunFault → List ℕ → Type 0
Tells what.Log s fault text = TellsLog s fault text
Tells (what.Entry at) s fault text = TellsEntry at s fault text
Tells (what.Now at) s fault text = TellsNow at s fault text
Tells (what.Page number) s fault text = TellsPage number s fault text

-- the files give a session that was served so
pub record GivesServed (files : List ℕ → Filed) (n : FileNames) (lanes rounds : ℕ) (s : Session) :
    Type 0 where
  pub gives : GivesSession files n (Ok s)
  pub on_lanes : s.lanes ≡ lanes
  pub with_rounds : s.rounds ≡ rounds

-- a run ends since a file cannot be loaded, and writes nothing; or the files give a session, and it
-- is told of it
abbrev pub TellsRun : (List ℕ → Filed) → FileNames → ℕ →
    ℕ → (Session → RunFault → List ℕ → Type 0) → Option (List ℕ) → Option (List ℕ) → RunFault →
    Type 0
TellsRun files n lanes rounds Told before after fault =
    (IsLoadEnding fault × (GivesSession files n (Err fault) × (after ≡ before)))
    ⊎ ((s : Session) × (GivesServed files n lanes rounds s × Ends (Told s) before after fault))

-- Inside: what is found before it is written
abbrev pub FindsRun : (List ℕ → Filed) → FileNames → ℕ → ℕ →
    (Session → RunFault → List ℕ → Type 0) → Result Answer RunFault → Type 0
FindsRun files n lanes rounds Told (Ok answer) = (s : Session) ×
    (GivesServed files n lanes rounds s × AnswersAs (Told s) (Ok answer))
FindsRun files n lanes rounds Told (Err fault) =
    (IsLoadEnding fault × GivesSession files n (Err fault))
    ⊎ ((s : Session) × (GivesServed files n lanes rounds s × AnswersAs (Told s) (Err fault)))
