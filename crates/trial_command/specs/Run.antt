-- The command `trial`: the jobs of a seed's trial are served, and the replies are counted.
use Rattle.std.specs.Prelude.{◌≡◌, ℕ, ◌<◌, List, ◌++◌, length, drop, take, Option, codes, decimal}
use Rattle.wf_outside.specs.Laws.Outside.{HasPart, with_bytes}
use Rattle.wf_board.specs.Laws.Decided.{AreExact}
use Rattle.wf_board.specs.Laws.Kept.{KeepsCompletable}
use Rattle.wf_board.specs.Laws.States.{opening_state}
use Rattle.wf_talk.specs.declared.entry.Entry.{Entry}
use Rattle.wf_board.specs.Laws.Histories.{AreAnsweredOnce, AreRightful, FillsJobs, IsLegal}
use Rattle.wf_board.specs.Laws.Histories.{batch_end}
use Rattle.wf_board.specs.Laws.Histories.{batch_start, state_after}
use Rattle.wf_lanes.specs.Turns.{AreByTurns}
use Rattle.trial_command.specs.Policy.{trial_policy}
use Rattle.trial_command.specs.Jobs.{trial_ends, trial_jobs}
use Rattle.run_record.specs.declared.fault.RunFault.{RunFault}
use Rattle.run_record.specs.declared.fault.RunFault.TheVariants.{Nothing, Write, NoMemory}
use Rattle.run_record.specs.Fault.{CountsWrites}
use Rattle.run_record.specs.Report.{Told, nothing_told}
use Rattle.trial_command.specs.declared.counts.Counts.{Counts}
use Rattle.trial_command.specs.declared.session.TheConstants.{CASES}
use Rattle.trial_command.specs.Counts.{counts_of}

-- the entries of one batch
abbrev pub batch_entries : List ℕ → ℕ → List Entry → List Entry
batch_entries batch_ends k entries =
    drop (batch_start batch_ends k) (take (batch_end batch_ends k) entries)

-- in each batch the lanes take turns
abbrev pub AreBatchesByTurns : List ℕ → List Entry → Type 0
AreBatchesByTurns batch_ends entries =
    (k : ℕ) → k < length batch_ends → AreByTurns (batch_entries batch_ends k entries)

-- a session of the trial of a seed: its entries are a legal history that holds each of the trial's
-- jobs once, batch after batch, and in each batch by turns, one of each lane after the other; none
-- is answered again, and only an opening, a claim, an edit or a view over the open cases with want
-- of memory; each entry decides exactly what was asked, and leaves every open case one that can be
-- completed
pub record IsServedTrial (seed : ℕ) (told : Told) : Type 0 where
  pub jobs : told.jobs ≡ trial_jobs seed CASES
  pub ends : told.batch_ends ≡ trial_ends CASES
  pub legal : IsLegal (opening_state (trial_policy seed)) 0 told.entries
  pub fills : FillsJobs told.entries told.jobs told.batch_ends
  pub turns : AreBatchesByTurns told.batch_ends told.entries
  pub once : AreAnsweredOnce told.entries
  pub wants : AreRightful told.entries
  pub exact : AreExact (trial_policy seed) told.entries
  pub kept : (n : ℕ) →
      KeepsCompletable (state_after (opening_state (trial_policy seed)) (take n told.entries))

-- the line for a seed, a number of jobs and counts of replies
abbrev pub summary_line : ℕ → ℕ → Counts → List ℕ
summary_line seed lines c =
    codes "trial " ++ decimal seed ++ codes " lines " ++ decimal lines
    ++ codes " opened " ++ decimal c.opened ++ codes " granted " ++ decimal c.granted
    ++ codes " finished " ++ decimal c.finished ++ codes " edited " ++ decimal c.edited
    ++ codes " denied " ++ decimal c.denied ++ codes " no_memory " ++ decimal c.no_memory
    ++ codes "\n"

-- the summary of a session
abbrev pub summary : ℕ → Told → List ℕ
summary seed told = summary_line seed (length told.jobs) (counts_of told.entries)

-- a run that reads nothing: what was written before and after it, where the sink tells, how often
-- the sink failed, what the report tells, and how the run ended
pub record TrialRun : Type 0 where
  pub output : Option (List ℕ)
  pub output_after : Option (List ℕ)
  pub faults : ℕ
  pub faults_after : ℕ
  pub told : Told
  pub fault : RunFault

-- by the ending: the trial is told, and its summary written, or only a part of it; without memory
-- nothing is told or written; and a run ends in no other way
abbrev pub EndsTrial : ℕ → TrialRun → RunFault → Type 0
EndsTrial seed r Nothing =
    IsServedTrial seed r.told × (r.output_after ≡ with_bytes r.output (summary seed r.told))
EndsTrial seed r Write =
    IsServedTrial seed r.told × HasPart r.output r.output_after (summary seed r.told)
EndsTrial seed r NoMemory = (r.told ≡ nothing_told) × (r.output_after ≡ r.output)
EndsTrial seed r fault = ⊥

-- a run of `trial` with a seed
pub record RunsTrial (seed : ℕ) (r : TrialRun) : Type 0 where
  pub ends : EndsTrial seed r r.fault
  pub writes : CountsWrites r.fault r.faults r.faults_after
