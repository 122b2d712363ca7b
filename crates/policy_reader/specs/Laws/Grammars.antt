-- What a policy file may have: its formats, and how many users and steps.
use Rattle.std.specs.Prelude.{ℕ, ℤ, pos, negsuc, ◌==◌, Option, None, Some, if◌then◌else◌}
use Rattle.wf_names.specs.declared.limits.TheConstants.{STEP_LIMIT, USER_LIMIT}
use Rattle.policy_reader.specs.declared.format.Format.{Format}
use Rattle.policy_reader.specs.declared.format.Format.TheVariants.{First}
use Rattle.policy_reader.specs.Formats.{format_with}

pub record Grammar : Type 0 where
  pub format : ℤ → Option Format
  pub users : ℕ
  pub steps : ℕ

-- what a file may have now
abbrev pub today : Grammar
today = record { format = format_with; users = USER_LIMIT; steps = STEP_LIMIT }

-- the first format alone
abbrev pub first_with : ℤ → Option Format
first_with (pos n) = if n == 1 then Some First else None
first_with (negsuc n) = None

-- what it could have before there was a second format
abbrev pub earlier : Grammar
earlier = record { format = first_with; users = 1024; steps = 16 }
