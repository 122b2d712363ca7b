-- The words of the program's command line. Each command has a form, and the definitions of `clap`
-- say for a form which words are at fault, and what is found at others: `new_rule`, `new_app` and
-- `with_rule` are what its builders make, `fault_of` lists what is wrong with words, and `first_of`
-- and `one_of` are the texts that its getters read.
use Rattle.std.specs.Prelude.{ℕ, pos, ◌<◌, ◌≤◌, ◌^◌, ◌-◌, Bool, true, false, ◌&&◌, List, [], ◌∷◌}
use Rattle.std.specs.Prelude.{fold, Option, None, Some, option_map, option_and_then, codes, nat_eq}
use Rattle.std.specs.Prelude.{nat_lt, if◌then◌else◌}
use Rattle.std.specs.Fmt.{decimal}
use Rattle.std.specs.Str.Parse.{digits_value, without_leading_plus}
use Rattle.std.specs.Cmp.Lexicographic.{pointwise}
use Rattle.clap.specs.Words.{App, Row, Rule, Text, fault_of, first_of, matches_of, new_app}
use Rattle.clap.specs.Words.{new_rule, one_of, with_rule}
use Rattle.clap.specs.Walk.{is_empty}
use Rattle.clap.specs.declared.builder.value_parser.ValueParser.TheVariants.{Signed, Unsigned}
use Rattle.command_words.specs.declared.command.TheConstants.{ABSENCE_LIMIT}
use Rattle.wf_names.specs.declared.limits.TheConstants.{LANE_LIMIT, DEFAULT_LANES, ROUND_LIMIT}
use Rattle.wf_names.specs.declared.limits.TheConstants.{DEFAULT_ROUNDS}

-- how a session is served: on how many lanes, and after how many rounds a request is answered again
pub record Options : Type 0 where
  pub lanes : ℕ
  pub rounds : ℕ

-- there are some lanes, and not too many lanes and rounds
pub record AreOptions (o : Options) : Type 0 where
  pub some : 0 < o.lanes
  pub lanes : o.lanes ≤ LANE_LIMIT
  pub rounds : o.rounds ≤ ROUND_LIMIT

-- what the program is asked to do, with the names of the files and the workflow, and the numbers
pub data Command : Type 0 where
  plan : Text → Text → Command
  show : Text → Command
  solve : Text → Command
  resilience : Text → Text → ℕ → Command
  cnf : Text → Text → Option Text → Command
  serve : Text → Options → Command
  audit : Text → Text → Options → Command
  resume : Text → Text → Text → Options → Command
  trial : ℕ → Command

-- ---- what the forms are made of

-- a word that has to be there
abbrev pub wanted : Text → Rule
wanted name = record (new_rule name) { required = true }

-- a word that has to be there and writes a number below 2 ^ 64
abbrev pub wanted_number : Text → Rule
wanted_number name = record (wanted name) { parser = Some (Unsigned 0 (2 ^ 64 - 1)) }

-- `--name` with a number from the least to the most, and what stands for it where it is left out
abbrev pub ranged : Text → ℕ → ℕ → Text → Rule
ranged name least most usual = record (new_rule name) {
  long = Some name;
  parser = Some (Signed (pos least) (pos most));
  defaults = usual ∷ [];
}

-- a word that has to be there and writes a number up to the most users who may be absent
abbrev pub absences_word : Rule
absences_word = record (wanted (codes "T")) { parser = Some (Signed (pos 0) (pos ABSENCE_LIMIT)) }

-- a word for a file with a model, which may be left out
abbrev pub model_word : Rule
model_word = new_rule (codes "MODEL")

abbrev pub policy_word : Rule
policy_word = wanted (codes "POLICY")

abbrev pub lanes_option : Rule
lanes_option = ranged (codes "lanes") 1 LANE_LIMIT (decimal DEFAULT_LANES)

abbrev pub rounds_option : Rule
rounds_option = ranged (codes "rounds") 0 ROUND_LIMIT (decimal DEFAULT_ROUNDS)

-- a command with this name and these arguments
abbrev pub form : Text → List Rule → App
form name arguments = fold with_rule (new_app name) arguments

-- ---- what is found at the words

-- what `clap` finds at the words, where none of them is at fault; the first names the command
unfoldable pub found : App → List Text → Option (List Row)
found app words = if is_empty (fault_of app words) then Some (matches_of app words) else None

-- the number that was found under a name
abbrev pub number_in : Text → List Row → Option ℕ
number_in name rows =
    option_map (λ text. digits_value 10 (without_leading_plus text)) (one_of name rows)

-- both, where both are there
abbrev pub with_both : {X Y Z : Type 0} → (X → Y → Z) → Option X → Option Y → Option Z
with_both make x y = option_and_then (λ a. option_map (make a) y) x

abbrev pub policy_in : List Row → Option Text
policy_in rows = first_of (codes "POLICY") rows

abbrev pub options_of : List Row → Option Options
options_of rows = with_both (λ lanes rounds. record { lanes = lanes; rounds = rounds })
    (number_in (codes "lanes") rows) (number_in (codes "rounds") rows)

-- ---- the commands, each by its form and by what is found in it

-- what is found in a form at the words, as a command
abbrev pub command_by : App → (List Row → Option Command) → List Text → Option Command
command_by form command_in words = option_and_then command_in (found form words)

abbrev pub plan_form : App
plan_form = form (codes "plan") (policy_word ∷ wanted (codes "FLOW") ∷ [])

abbrev pub plan_asked : List Row → Option Command
plan_asked rows = with_both plan (policy_in rows) (first_of (codes "FLOW") rows)

abbrev pub show_form : App
show_form = form (codes "show") (policy_word ∷ [])

abbrev pub show_in : List Row → Option Command
show_in rows = option_map show (policy_in rows)

abbrev pub solve_form : App
solve_form = form (codes "solve") (policy_word ∷ [])

abbrev pub solve_in : List Row → Option Command
solve_in rows = option_map solve (policy_in rows)

abbrev pub resilience_form : App
resilience_form =
    form (codes "resilience") (policy_word ∷ wanted (codes "FLOW") ∷ absences_word ∷ [])

abbrev pub resilience_in : List Row → Option Command
resilience_in rows = option_and_then (λ policy.
    with_both (resilience policy) (first_of (codes "FLOW") rows) (number_in (codes "T") rows))
    (policy_in rows)

abbrev pub cnf_form : App
cnf_form = form (codes "cnf") (policy_word ∷ wanted (codes "FLOW") ∷ model_word ∷ [])

abbrev pub cnf_in : List Row → Option Command
cnf_in rows = with_both (λ policy flow. cnf policy flow (first_of (codes "MODEL") rows))
    (policy_in rows) (first_of (codes "FLOW") rows)

abbrev pub serve_form : App
serve_form = form (codes "serve") (policy_word ∷ lanes_option ∷ rounds_option ∷ [])

abbrev pub serve_in : List Row → Option Command
serve_in rows = with_both serve (policy_in rows) (options_of rows)

abbrev pub audit_form : App
audit_form = form (codes "audit")
    (policy_word ∷ wanted (codes "REQUESTS") ∷ lanes_option ∷ rounds_option ∷ [])

abbrev pub audit_asked : List Row → Option Command
audit_asked rows = option_and_then (λ policy.
    with_both (audit policy) (first_of (codes "REQUESTS") rows) (options_of rows)) (policy_in rows)

abbrev pub resume_form : App
resume_form = form (codes "resume") (policy_word ∷ wanted (codes "REQUESTS")
    ∷ wanted (codes "TRANSCRIPT") ∷ lanes_option ∷ rounds_option ∷ [])

abbrev pub resume_in : List Row → Option Command
resume_in rows = option_and_then (λ policy. option_and_then (λ requests.
    with_both (resume policy requests) (first_of (codes "TRANSCRIPT") rows) (options_of rows))
    (first_of (codes "REQUESTS") rows)) (policy_in rows)

abbrev pub trial_form : App
trial_form = form (codes "trial") (wanted_number (codes "SEED") ∷ [])

abbrev pub trial_in : List Row → Option Command
trial_in rows = option_map trial (number_in (codes "SEED") rows)

-- ---- the command

-- two words are the same
abbrev pub is_word : Text → Text → Bool
is_word word other = pointwise nat_eq word other

-- the command of this first word, at all the words
abbrev pub command_at : Text → List Text → Option Command
command_at word words =
    if is_word word (codes "plan") then command_by plan_form plan_asked words else
    if is_word word (codes "show") then command_by show_form show_in words else
    if is_word word (codes "solve") then command_by solve_form solve_in words else
    if is_word word (codes "resilience") then command_by resilience_form resilience_in words else
    if is_word word (codes "cnf") then command_by cnf_form cnf_in words else
    if is_word word (codes "serve") then command_by serve_form serve_in words else
    if is_word word (codes "audit") then command_by audit_form audit_asked words else
    if is_word word (codes "resume") then command_by resume_form resume_in words else
    if is_word word (codes "trial") then command_by trial_form trial_in words else
    None

-- the command that the words are, where they are one
abbrev pub command_of : List Text → Option Command
command_of [] = None
command_of (word ∷ more) = command_at word (word ∷ more)

-- whether the input is read for these words
abbrev pub reads_input : Option Command → Bool
reads_input None = false
reads_input (Some (plan policy flow)) = true
reads_input (Some (show policy)) = false
reads_input (Some (solve policy)) = false
reads_input (Some (resilience policy flow absences)) = false
reads_input (Some (cnf policy flow model)) = true
reads_input (Some (serve policy options)) = true
reads_input (Some (audit policy requests options)) = true
reads_input (Some (resume policy requests transcript options)) = true
reads_input (Some (trial seed)) = false

-- whether a request may be answered again for these words: there are several lanes, and some rounds
abbrev pub may_repeat : Option Command → Bool
may_repeat None = false
may_repeat (Some (serve policy options)) = nat_lt 1 options.lanes && nat_lt 0 options.rounds
may_repeat (Some (resume policy requests transcript options)) = nat_lt 1 options.lanes &&
    nat_lt 0 options.rounds
may_repeat (Some other) = false
