-- The command `show`: the policy is written.
use Rattle.std.specs.Prelude.{◌≡◌, ℕ, List, None, Ok}
use Rattle.policy_book.specs.Laws.Shapes.{PolicyShape}
use Rattle.policy_reader.specs.Files.{document_in, policy_of_file}
use Rattle.policy_reader.specs.Documents.{document_of}
use Rattle.run_record.specs.declared.fault.RunFault.{RunFault}
use Rattle.run_record.specs.declared.fault.RunFault.TheVariants.{Nothing}
use Rattle.run_record.specs.Laws.Run.{Run}
use Rattle.wf_commands.specs.Once.{RunsOnce}

-- the text is the document that the policy is written as, and reads as the policy
abbrev pub ShowsPolicy : PolicyShape → RunFault → List ℕ → Type 0
ShowsPolicy p fault text =
    (fault ≡ Nothing) × (document_in text ≡ Ok (document_of p)) × (policy_of_file text ≡ Ok p)

-- a run of `show` with a policy file; it reads no input
abbrev pub Shows : List ℕ → Run → Type 0
Shows policy r = RunsOnce None policy (λ told. ShowsPolicy) r
