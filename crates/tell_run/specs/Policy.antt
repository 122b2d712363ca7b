-- The command `policy`: what a file is where nothing is told of it.
use Rattle.std.specs.Prelude.{◌≡◌, ℕ, ◌<◌, Bool, true, false, List, length, Option, Result, Ok, Err}
use Rattle.std.proofs.Common.{◌⊎◌}
use Rattle.wf_names.specs.declared.limits.TheConstants.{POLICY_FILE_LIMIT}
use Rattle.wf_outside.specs.Laws.Outside.{Filed}
use Rattle.policy_book.specs.Laws.Shapes.{PolicyShape}
use Rattle.policy_reader.specs.Files.{policy_of_file}
use Rattle.run_record.specs.declared.fault.RunFault.{RunFault}
use Rattle.wf_commands.specs.declared.answer.Answer.{Answer}
use Rattle.wf_commands.specs.Answer.{ending_with}
use Rattle.wf_commands.specs.Load.{GivesBytes, IsLoadEnding}
use Rattle.wf_commands.specs.Once.{Ends}
use Rattle.tell_run.specs.Why.{CanBeDone}

-- each of the first n workflows can be done
abbrev pub CanAllBeDone : PolicyShape → ℕ → Type 0
CanAllBeDone p n = (f : ℕ) → f < n → CanBeDone p f

-- where nothing is told of a file, it is a policy, and each of its workflows can be done
abbrev pub JudgesFile : List ℕ → Bool → Type 0
JudgesFile file true = Unit {0}
JudgesFile file false = (p : PolicyShape) × (policy_of_file file ≡ Ok p) ×
    CanAllBeDone p (length p.flows)

-- what is told of the bytes of a file, by how the run ends
abbrev pub JudgesBytes : List ℕ → RunFault → List ℕ → Type 0
JudgesBytes file fault text = (found : Bool) × ((fault ≡ ending_with found) × JudgesFile file found)

-- the file cannot be loaded, and nothing is written; or it is told of its bytes
abbrev pub JudgesFiled : List ℕ → (List ℕ → Filed) → Option (List ℕ) → Option (List ℕ) →
    RunFault → Type 0
JudgesFiled policy files before after fault =
    (IsLoadEnding fault ×
    (GivesBytes POLICY_FILE_LIMIT (files policy) (Err fault) × (after ≡ before)))
    ⊎ ((file : List ℕ) × (GivesBytes POLICY_FILE_LIMIT (files policy) (Ok file) ×
    Ends (JudgesBytes file) before after fault))

-- Inside: what is found of a file before it is written
abbrev pub FindsBytes : Filed → Result Answer RunFault → Type 0
FindsBytes filed (Ok answer) = (file : List ℕ) ×
    (GivesBytes POLICY_FILE_LIMIT filed (Ok file) × JudgesFile file answer.found)
FindsBytes filed (Err fault) = GivesBytes POLICY_FILE_LIMIT filed (Err fault)
