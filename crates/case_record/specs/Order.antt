-- Which steps of a case may be claimed now.
use Rattle.std.specs.Prelude.{◌≡◌, ℕ, ◌+◌, ◌<◌, Bool, true, false, not, ◌&&◌, nat_lt, IsTrue, List}
use Rattle.std.specs.Prelude.{[], ◌∷◌, length, Option, None, Some, is_none, if◌then◌else◌}
use Rattle.basics.specs.Laws.Pairs.{Pairs}
use Rattle.workflow_schema.specs.Flows.{Precedes, is_before}
use Rattle.wf_names.specs.States.{is_finished}
use Rattle.wf_names.specs.declared.states.StepState.{StepState}
use Rattle.wf_names.specs.declared.states.StepState.TheVariants.{Free, Held, Finished}
use Rattle.case_record.specs.Cases.{CaseShape, state_at}

-- a step is free, and every step that comes before it is finished
pub record IsReady (c : CaseShape) (order : Pairs) (s : ℕ) : Type 0 where
  pub known : s < length c.states
  pub free : state_at c s ≡ Free
  pub led : (t : ℕ) → Precedes order t s → IsTrue (is_finished (state_at c t))

-- the least step that comes before s and is not finished
pub record IsFirstMissing (c : CaseShape) (order : Pairs) (s t : ℕ) : Type 0 where
  pub before : Precedes order t s
  pub unfinished : is_finished (state_at c t) ≡ false
  pub least : (r : ℕ) → r < t → Precedes order r s → IsTrue (is_finished (state_at c r))

-- the same as a function, over steps of which the first has the number t
abbrev pub first_missing_from : Pairs → ℕ → ℕ → List StepState → Option ℕ
first_missing_from order s t [] = None
first_missing_from order s t (x ∷ xs) = if is_before order t s &&
    not (is_finished x) then Some t else first_missing_from order s (t + 1) xs

-- the least step of a case that comes before s and is not finished
abbrev pub first_missing : CaseShape → Pairs → ℕ → Option ℕ
first_missing c order s = first_missing_from order s 0 c.states

-- nobody has the step
abbrev pub is_free : StepState → Bool
is_free Free = true
is_free (Held u) = false
is_free (Finished u) = false

-- a step is ready, as a test
abbrev pub is_ready : CaseShape → Pairs → ℕ → Bool
is_ready c order s = nat_lt s (length c.states) && is_free (state_at c s) &&
    is_none (first_missing c order s)
