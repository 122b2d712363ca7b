-- Inside: the files of a session that is to be taken up.
use Rattle.std.specs.Prelude.{◌≡◌, ◌≤◌, ℕ, None}
use Rattle.wf_names.specs.declared.limits.TheConstants.{SESSION_LINE_LIMIT}
use Rattle.line_reader.specs.declared.jobs.CutText.{CutText}
use Rattle.line_reader.specs.Laws.{AreInOrder, AreNamedJobs}
use Rattle.transcript_commands.specs.declared.start.Earlier.{Earlier}
use Rattle.transcript_commands.specs.Load.{FileNames}

-- the names of its files
abbrev pub names_in : Earlier → FileNames
names_in e =
    record { policy = e.policy.now; requests = e.requests.now; transcript = e.transcript.now }

-- its requests are cut for a number of lanes, and meet no limit
pub record AreWhole (lanes : ℕ) (text : CutText) : Type 0 where
  pub few : text.lines ≤ SESSION_LINE_LIMIT
  pub order : AreInOrder lanes text.batch.jobs text.batch.ends
  pub named : AreNamedJobs text.batch.jobs
  pub going : text.stop ≡ None
