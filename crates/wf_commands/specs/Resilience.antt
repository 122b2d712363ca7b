-- The command `resilience`: whether a workflow can be done whichever of its users are absent.
use Rattle.std.specs.Prelude.{◌≡◌, ◌↔◌, ℕ, List, None, IsTrue, MatchOption}
use Rattle.constraint_forms.specs.Assign.{no_users, no_steps}
use Rattle.refutation_tree.specs.Tree.{Shape}
use Rattle.policy_book.specs.Laws.Shapes.{PolicyShape}
use Rattle.policy_book.specs.Policies.{problem_of}
use Rattle.policy_book.specs.Laws.Refuting.{refutes}
use Rattle.resilience_check.specs.Left.{IsLeastAbsence, IsResilient, problem_without}
use Rattle.resilience_check.specs.Covering.{AreValidPlans, CoversAbsences}
use Rattle.wire_json.specs.Absences.{absence_line, family_line}
use Rattle.run_record.specs.declared.fault.RunFault.{RunFault}
use Rattle.run_record.specs.declared.fault.RunFault.TheVariants.{Nothing, Found, BadInput}
use Rattle.run_record.specs.declared.fault.InputFault.TheVariants.{NoFlow}
use Rattle.run_record.specs.Laws.Run.{Run}
use Rattle.wf_commands.specs.Input.{number_named}
use Rattle.wf_commands.specs.Once.{Refuses, RunsOnce}

-- valid plans are told that cover every absence of at most t users; or the least absence that
-- leaves no valid plan, with a tree that refutes what is left of the workflow
abbrev pub TellsAbsences : PolicyShape → ℕ → ℕ → RunFault → List ℕ → Type 0
TellsAbsences p f t Nothing text =
    (plans : List (List ℕ)) × AreValidPlans (problem_of p f) plans × CoversAbsences plans t
    × (text ≡ family_line p plans)
TellsAbsences p f t Found text =
    (absent : List ℕ) × (tree : Shape) × IsLeastAbsence p f t absent
    × IsTrue (refutes (problem_without p f absent) no_users no_steps tree)
    × (text ≡ absence_line p f absent tree)
TellsAbsences p f t fault text = ⊥

-- the first of these ends the run exactly where the workflow is resilient, the second where it is
-- not
pub record ChecksAbsences (p : PolicyShape) (f t : ℕ) (fault : RunFault) (text : List ℕ)
    : Type 0 where
  pub tells : TellsAbsences p f t fault text
  pub holds : (fault ≡ Nothing) ↔ IsResilient p f t
  pub breaks : (fault ≡ Found) ↔ (IsResilient p f t → ⊥)

-- the workflow that is named is checked; where there is none, that is the answer
abbrev pub ChecksFlow : PolicyShape → List ℕ → ℕ → RunFault → List ℕ → Type 0
ChecksFlow p word t fault text =
    MatchOption (number_named p.flow_names word) (Refuses (BadInput NoFlow) fault text)
    (λ f. ChecksAbsences p f t fault text)

-- a run of `resilience` with a policy file, the name of a workflow and a number of users; it reads
-- no input
abbrev pub ChecksResilience : List ℕ → List ℕ → ℕ → Run → Type 0
ChecksResilience policy flow t r = RunsOnce None policy (λ told p. ChecksFlow p flow t) r
