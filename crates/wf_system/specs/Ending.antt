-- Which endings have a text, and what is written of them.
use Rattle.std.specs.Prelude.{ℕ, Bool, true, false, List, [], ◌∷◌, ◌++◌, if◌then◌else◌}
use Rattle.run_record.specs.Fault.{fault_said}
use Rattle.run_record.specs.declared.fault.RunFault.{RunFault}
use Rattle.run_record.specs.declared.fault.RunFault.TheVariants.{Nothing, Found}

-- all but those of a command that was done
abbrev pub has_text : RunFault → Bool
has_text Nothing = false
has_text Found = false
has_text fault = true

-- the text with a line end, where there is one
abbrev pub told_text : RunFault → List ℕ
told_text fault = if has_text fault then fault_said fault ++ 10 ∷ [] else []
