-- The words of a command in the form that a usage text shows: first the words that have to be
-- there, then the options, each of which may be left out.
use Rattle.std.specs.Prelude.{◌≢◌, ℕ, List, [], ◌∷◌, ◌++◌, Option, None, Some, codes, slice_index}
use Rattle.std.specs.Prelude.{unwrap_or}
use Rattle.std.specs.Fmt.{decimal}
use Rattle.clap.specs.Words.{Text}
use Rattle.wf_names.specs.declared.limits.TheConstants.{DEFAULT_LANES, DEFAULT_ROUNDS}
use Rattle.command_words.specs.Laws.Words.{Options}

-- a word that begins with no hyphen
abbrev pub IsPlain : Text → Type 0
IsPlain word = slice_index word 0 ≢ 45

-- an option with its number, where it is not left out
abbrev pub words_for : Text → Option ℕ → List Text
words_for name None = []
words_for name (Some n) = name ∷ decimal n ∷ []

abbrev pub option_words : Option ℕ → Option ℕ → List Text
option_words lanes rounds = words_for (codes "--lanes") lanes ++ words_for (codes "--rounds") rounds

-- the options that are meant
abbrev pub options_with : Option ℕ → Option ℕ → Options
options_with lanes rounds =
    record { lanes = unwrap_or lanes DEFAULT_LANES; rounds = unwrap_or rounds DEFAULT_ROUNDS }
