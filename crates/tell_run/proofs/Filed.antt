-- How a run over one policy file ends, and one that reports nothing.
use Rattle.std.proofs.Common.{refl, subst, ℕ, List, Option, None, Ok, inr}
use Rattle.wf_outside.specs.Laws.Outside.{Filed, HasPart}
use Rattle.policy_book.specs.Laws.Shapes.{PolicyShape}
use Rattle.run_record.specs.declared.fault.RunFault.{RunFault}
use Rattle.run_record.specs.declared.fault.RunFault.TheVariants.{Write}
use Rattle.run_record.specs.Report.{Told, nothing_told}
use Rattle.run_record.specs.Laws.Run.{Streams}
use Rattle.wf_commands.specs.declared.answer.Answer.{Answer}
use Rattle.wf_commands.specs.Once.{RunsOnce}
use Rattle.case_story.proofs.Answering.{ends_part}
use Rattle.tell_run.specs.Policy.{FindsBytes, JudgesBytes, JudgesFiled}

-- what was found of a file is written in part
pub judged_part : (policy : List ℕ) (files : List ℕ → Filed) (answer : Answer) (before after : Option (List ℕ)) → FindsBytes (files policy) (Ok answer)
    → HasPart before after answer.text.items → JudgesFiled policy files before after Write
judged_part policy files answer before after finds part =
    inr (finds.0, (finds.1.0, ends_part (JudgesBytes finds.0) answer.found answer.text.items before after (answer.found, (refl, finds.1.1)) part))

-- a command that answers once reports nothing more
pub untold_once : (policy : List ℕ) (A : Option (List ℕ) → PolicyShape → RunFault → List ℕ → Type 0) (files : List ℕ → Filed) (loads loads_after : ℕ)
    (before after : Streams) (report : Told) (fault : RunFault)
    → RunsOnce None policy A
    (record { files = files; load_faults = loads; load_faults_after = loads_after; before = before; after = after; told = report; fault = fault })
    → RunsOnce None policy A
    (record { files = files; load_faults = loads; load_faults_after = loads_after; before = before; after = after; told = nothing_told; fault = fault })
untold_once policy A files loads loads_after before after report fault runs =
    subst (λ (t : Told). RunsOnce None policy A
    (record { files = files; load_faults = loads; load_faults_after = loads_after; before = before; after = after; told = t; fault = fault }))
    runs.once.untold runs
