-- Inside: what is known of the values that a parse finds.
use Rattle.std.specs.Prelude.{◌≡◌, ◌⊎◌, ◌≤◌, ◌-◌, ◌^◌, true, ℕ, List, [], Some}
use Rattle.std.specs.Prelude.{IfSome, codes, option_map}
use Rattle.std.specs.List.{All, Any}
use Rattle.std.specs.Str.{bytes_eq}
use Rattle.std.specs.Str.Parse.{IsNumeral, digits_value, without_leading_plus}
use Rattle.clap.specs.Words.{Accepts, App, Row, Rule, Text, first_of, found_of, one_of}
use Rattle.clap.specs.Words.{reading_of, rows_of}
use Rattle.clap.specs.Facts.{parser_of_value}
use Rattle.clap.specs.declared.builder.value_parser.ValueParser.{ValueParser}
use Rattle.clap.specs.declared.parser.matches.ArgMatches.{ArgMatches}
use Rattle.command_words.specs.declared.command.TheConstants.{ABSENCE_LIMIT}
use Rattle.command_words.specs.declared.finding.Found.{Found}
use Rattle.wf_names.specs.declared.limits.TheConstants.{LANE_LIMIT, ROUND_LIMIT}
use Rattle.command_words.specs.Laws.Words.{AreOptions, number_in, options_of, policy_in}
use Rattle.command_words.specs.Command.{options_in}

-- what was found
abbrev pub rows_in : ArgMatches → List Row
rows_in m = rows_of (found_of m)

-- the argument has this name, and takes the value
abbrev pub TakesValue : Text → Text → Rule → Type 0
TakesValue name value r =
    (bytes_eq r.id name ≡ true) × Accepts r.ignore_case (parser_of_value r.parser) value

-- the values of a row passed an argument with its name, and are read as one with its name says
abbrev pub RowPasses : List Rule → Row → Type 0
RowPasses rules row = (row.id ≡ []) ⊎ (All (λ value. Any (TakesValue row.id value) rules) row.values
    × Any (λ r. (bytes_eq r.id row.id ≡ true)
    × (reading_of (parser_of_value r.parser) ≡ row.reading)) rules)

-- an argument, and the same once its command is built: it keeps its name, and a parser that it has
pub record KeepsRule (old new : Rule) : Type 0 where
  pub id : new.id ≡ old.id
  pub parser : (p : ValueParser) → old.parser ≡ Some p → new.parser ≡ Some p

-- an argument of a command that is built: one of its own, or a flag that each command has
abbrev pub IsBuiltOf : List Rule → Rule → Type 0
IsBuiltOf rules r = ((r.id ≡ codes "help") ⊎ (r.id ≡ codes "version"))
    ⊎ Any (λ old. KeepsRule old r) rules

-- the values that were found passed the arguments of a command, as it was built
pub record PassesIn (app : App) (rows : List Row) : Type 0 where
  pub rules : List Rule
  pub are : All (IsBuiltOf app.top.rules) rules
  pub pass : All (RowPasses rules) rows

-- the text that is read under a name, where there is one, writes a number from the least to the
-- most
abbrev pub WritesWithin : ℕ → ℕ → Text → List Row → Type 0
WritesWithin least most name rows = (text : Text) → one_of name rows ≡ Some text
    → IsNumeral 10 (without_leading_plus text)
    × (least ≤ digits_value 10 (without_leading_plus text))
    × (digits_value 10 (without_leading_plus text) ≤ most)

-- the numbers of the commands are within their limits
pub record HasNumbers (rows : List Row) : Type 0 where
  pub lanes : WritesWithin 1 LANE_LIMIT (codes "lanes") rows
  pub rounds : WritesWithin 0 ROUND_LIMIT (codes "rounds") rows
  pub absences : WritesWithin 0 ABSENCE_LIMIT (codes "T") rows
  pub seed : WritesWithin 0 (2 ^ 64 - 1) (codes "SEED") rows

-- these are the words and numbers that were found
pub record AreIn (rows : List Row) (f : Found) : Type 0 where
  pub policy : option_map (λ s. s.now) f.policy ≡ policy_in rows
  pub flow : option_map (λ s. s.now) f.flow ≡ first_of (codes "FLOW") rows
  pub requests : option_map (λ s. s.now) f.requests ≡ first_of (codes "REQUESTS") rows
  pub transcript : option_map (λ s. s.now) f.transcript ≡ first_of (codes "TRANSCRIPT") rows
  pub model : option_map (λ s. s.now) f.model ≡ first_of (codes "MODEL") rows
  pub absences : f.absences ≡ number_in (codes "T") rows
  pub seed : f.seed ≡ number_in (codes "SEED") rows
  pub options : option_map options_in f.options ≡ options_of rows
  pub within : IfSome f.options (λ o. AreOptions (options_in o))
