-- The command `solve`: a line is written for each workflow of the policy.
use Rattle.std.specs.Prelude.{◌≡◌, ℕ, zero, suc, List, [], ◌++◌, length, None, IsTrue}
use Rattle.std.proofs.Common.{◌⊎◌}
use Rattle.constraint_forms.specs.Assign.{no_users, no_steps}
use Rattle.refutation_tree.specs.Tree.{Shape}
use Rattle.policy_book.specs.Laws.Shapes.{PolicyShape}
use Rattle.policy_book.specs.Policies.{problem_of}
use Rattle.policy_book.specs.Laws.Plans.{IsValidPlan}
use Rattle.policy_book.specs.Laws.Refuting.{refutes}
use Rattle.policy_book.specs.Laws.Lean.{is_lean}
use Rattle.wire_json.specs.Findings.{plan_line, tree_line}
use Rattle.run_record.specs.declared.fault.RunFault.{RunFault}
use Rattle.run_record.specs.declared.fault.RunFault.TheVariants.{Nothing}
use Rattle.run_record.specs.Laws.Run.{Run}
use Rattle.wf_commands.specs.Once.{RunsOnce}

-- a line tells a valid plan of a workflow
abbrev pub TellsPlan : PolicyShape → ℕ → List ℕ → Type 0
TellsPlan p f line =
    (plan : List ℕ) × IsValidPlan (problem_of p f) no_users no_steps plan ×
    (line ≡ plan_line p f plan)

-- a line tells a lean tree that refutes, so that the workflow has no valid plan
abbrev pub TellsTree : PolicyShape → ℕ → List ℕ → Type 0
TellsTree p f line =
    (tree : Shape) × IsTrue (refutes (problem_of p f) no_users no_steps tree) ×
    IsTrue (is_lean (problem_of p f) no_users tree) × (line ≡ tree_line p f tree)

-- a line tells what a search may find for a workflow
abbrev pub TellsFlow : PolicyShape → ℕ → List ℕ → Type 0
TellsFlow p f line = TellsPlan p f line ⊎ TellsTree p f line

-- a text has such a line for a workflow behind another text
abbrev pub TellsNext : PolicyShape → ℕ → List ℕ → List ℕ → Type 0
TellsNext p f front text = (line : List ℕ) × TellsFlow p f line × (text ≡ front ++ line)

-- a text is such a line for each of the first n workflows, in their order
abbrev pub TellsFirst : PolicyShape → ℕ → List ℕ → Type 0
TellsFirst p zero text = text ≡ []
TellsFirst p (suc n) text = (front : List ℕ) × TellsFirst p n front × TellsNext p n front text

-- the text tells of each workflow of the policy
abbrev pub SolvesPolicy : PolicyShape → RunFault → List ℕ → Type 0
SolvesPolicy p fault text = (fault ≡ Nothing) × TellsFirst p (length p.flows) text

-- a run of `solve` with a policy file; it reads no input
abbrev pub Solves : List ℕ → Run → Type 0
Solves policy r = RunsOnce None policy (λ told. SolvesPolicy) r
