-- What is true of the readings of policy files.
pub mod Grammars
pub mod Printable
use Rattle.std.specs.Prelude.{◌≡◌, ℕ, List, Ok}
use Rattle.policy_book.specs.Laws.Shapes.{PolicyShape}
use Rattle.policy_reader.specs.File.{IsFilePolicy}
use Rattle.policy_reader.specs.Laws.Grammars.{earlier, today}
use Rattle.policy_reader.specs.Files.{policy_by, policy_of_file}

-- every file that was read as a policy before there was a second format is read as the same policy
abbrev pub OldFormatReadsAlike : Type 0
OldFormatReadsAlike = (bytes : List ℕ) (p : PolicyShape) → policy_by earlier bytes ≡ Ok p →
    policy_by today bytes ≡ Ok p

-- the policy that bytes are, whatever the bytes, is sound, with few steps and names of a name's
-- form
abbrev pub PolicyOfFileIsSound : Type 0
PolicyOfFileIsSound = (bytes : List ℕ) (p : PolicyShape) → policy_of_file bytes ≡ Ok p →
    IsFilePolicy p
