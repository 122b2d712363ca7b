-- The runs of the command `cnf`.
use Rattle.std.specs.Prelude.{◌≡◌, ℕ, ◌<◌, true, List, length, Option, Some}
use Rattle.std.proofs.Common.{◌⊎◌}
use Rattle.wf_names.specs.declared.limits.TheConstants.{LINE_LIMIT, POLICY_FILE_LIMIT}
use Rattle.wf_outside.specs.Laws.Outside.{Filed, told, missing, untold, HasPart}
use Rattle.policy_book.specs.Laws.Shapes.{PolicyShape}
use Rattle.run_record.specs.declared.fault.RunFault.{RunFault}
use Rattle.run_record.specs.declared.fault.RunFault.TheVariants.{Nothing, NoMemory}
use Rattle.run_record.specs.Fault.{is_before_input}
use Rattle.run_record.specs.Report.{nothing_told}
use Rattle.run_record.specs.Laws.Run.{Run, IsOrderly, OverFile}
use Rattle.wf_commands.specs.Once.{HasReadInput, OverPolicy, RunsOnce}
use Rattle.wf_commands.specs.Load.{EndsTooLong}
use Rattle.wf_commands.specs.declared.model_file.TheConstants.{MODEL_FILE_LIMIT}
use Rattle.wf_commands.specs.CnfAnswers.{ClausesAsked, ModelAsked}

-- the sink holds a part of a text that is an answer
abbrev pub HasWritten : (RunFault → List ℕ → Type 0) → Option (List ℕ) → Option (List ℕ) → Type 0
HasWritten Answers before after = (text : List ℕ) × Answers Nothing text × HasPart before after text

-- a run whose memory was lacking while its text was written, which is written piece by piece
pub record BreaksOff (policy : List ℕ) (Answers : PolicyShape → RunFault → List ℕ → Type 0)
    (r : Run) : Type 0 where
  pub orderly : IsOrderly r
  pub lacking : r.fault ≡ NoMemory
  pub part : OverFile (r.files policy) r.fault
      (λ file. HasWritten (OverPolicy Answers file) r.before.output r.after.output)
  pub named : EndsTooLong POLICY_FILE_LIMIT (r.files policy) r.fault
  pub untold : r.told ≡ nothing_told
  pub reads : r.after.read_faults ≡ r.before.read_faults
  pub input : HasReadInput LINE_LIMIT r.before.input r.after.input

-- a run of `cnf` with a policy file and the name of a workflow
abbrev pub WritesClauses : List ℕ → List ℕ → Run → Type 0
WritesClauses policy flow r =
    RunsOnce (Some LINE_LIMIT) policy (λ seen p. ClausesAsked p flow seen) r
    ⊎ BreaksOff policy (λ p. ClausesAsked p flow r.before.input) r

-- a run ends before its input, or without memory
abbrev pub EndsEarly : RunFault → Type 0
EndsEarly fault = (is_before_input fault ≡ true) ⊎ (fault ≡ NoMemory)

-- so does one whose model file is missing, or told and too long
abbrev pub EndsWithoutModel : Filed → RunFault → Type 0
EndsWithoutModel untold fault = Unit {0}
EndsWithoutModel missing fault = EndsEarly fault
EndsWithoutModel (told model) fault = MODEL_FILE_LIMIT < length model → EndsEarly fault

-- a run of `cnf` with a policy file, the name of a workflow and the file of a model
pub record ReadsModelFile (policy flow model : List ℕ) (r : Run) : Type 0 where
  pub once : RunsOnce (Some LINE_LIMIT) policy (λ seen p. ModelAsked p flow (r.files model) seen) r
  pub without : EndsWithoutModel (r.files model) r.fault
