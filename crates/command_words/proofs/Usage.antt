-- Words in the form of the usage are taken, and are read as their command.
use Rattle.std.proofs.Common.{◌≡◌, ◌∙◌, ◌<◌, ◌≤◌, ◌^◌, ◌-◌, ℕ, true, false, refl, ap, arith, List, [], ◌∷◌, ◌++◌, Option, Some, None}
use Rattle.std.specs.Prelude.{codes, pos, option_and_then}
use Rattle.std.specs.Fmt.{decimal}
use Rattle.std.specs.Str.Parse.{digits_value, without_leading_plus}
use Rattle.clap.specs.Lexer.{without_minus}
use Rattle.clap.specs.Words.{App, Row, Text, built}
use Rattle.clap.specs.Simple.{Shape}
use Rattle.clap.specs.Faults.{turn_fault}
use Rattle.clap.specs.Walk.{idle, positional}
use Rattle.clap.specs.ValueTests.{accepts}
use Rattle.clap.specs.declared.builder.value_parser.Reading.{Reading}
use Rattle.clap.specs.declared.builder.value_parser.Reading.TheVariants.{AsWritten, WithoutMinus}
use Rattle.clap.specs.declared.builder.value_parser.ValueParser.TheVariants.{Signed, Unsigned}
use Rattle.clap.specs.declared.parser.matches.ValueSource.{ValueSource}
use Rattle.clap.specs.declared.parser.matches.ValueSource.TheVariants.{CommandLine, DefaultValue}
use Rattle.clap.proofs.OnLiterals.{clap_on_literals}
use Rattle.command_words.specs.declared.command.TheConstants.{ABSENCE_LIMIT}
use Rattle.wf_names.specs.declared.limits.TheConstants.{DEFAULT_LANES, DEFAULT_ROUNDS, LANE_LIMIT, ROUND_LIMIT}
use Rattle.command_words.specs.Laws.Words.{AreOptions, Options, command_of, found}
use Rattle.command_words.specs.Laws.Words.{audit, cnf, plan, resilience, resume, serve, show, solve, trial}
use Rattle.command_words.specs.Laws.Words.{audit_form, cnf_form, plan_form, resilience_form, resume_form, serve_form, show_form, solve_form, trial_form}
use Rattle.command_words.specs.Laws.Words.{audit_asked, cnf_in, plan_asked, resume_in, serve_in, show_in, solve_in, trial_in}
use Rattle.command_words.specs.Laws.Usage.{IsPlain, option_words, options_with}
use Rattle.command_words.proofs.Decimals.{decimal_plain, signed_taken, unsigned_taken, value_of, value_without_minus}
use Rattle.command_words.proofs.Walking.{as_option, as_value, at, end_fault, found_by, none_at_end}

-- ---- what is found

abbrev row : Text → Reading → ValueSource → Text → Row
row name how source value = record { id = name; values = value ∷ []; count = None; source = Some source; reading = how }

abbrev word_row : Text → Text → Row
word_row name value = row name AsWritten CommandLine value

abbrev policy_row : Text → Row
policy_row policy = word_row (codes "POLICY") policy

abbrev number_row : Text → ValueSource → ℕ → Row
number_row name source number = row name WithoutMinus source (decimal number)

-- the rows of the options: first those that were given
abbrev option_rows : Option ℕ → Option ℕ → List Row
option_rows None None = number_row (codes "lanes") DefaultValue DEFAULT_LANES ∷ number_row (codes "rounds") DefaultValue DEFAULT_ROUNDS ∷ []
option_rows (Some lanes) None = number_row (codes "lanes") CommandLine lanes ∷ number_row (codes "rounds") DefaultValue DEFAULT_ROUNDS ∷ []
option_rows None (Some rounds) = number_row (codes "rounds") CommandLine rounds ∷ number_row (codes "lanes") DefaultValue DEFAULT_LANES ∷ []
option_rows (Some lanes) (Some rounds) = number_row (codes "lanes") CommandLine lanes ∷ number_row (codes "rounds") CommandLine rounds ∷ []

abbrev top : App → Shape
top a = (built a).top

-- ---- numbers of options

lanes_taken : (n : ℕ) → 0 < n → n ≤ LANE_LIMIT → accepts false (Signed (pos 1) (pos LANE_LIMIT)) (decimal n) ≡ true
lanes_taken n some few = let below : n ≤ 8 = few in signed_taken 1 LANE_LIMIT n (omega arith) few (omega arith)

rounds_taken : (n : ℕ) → n ≤ ROUND_LIMIT → accepts false (Signed (pos 0) (pos ROUND_LIMIT)) (decimal n) ≡ true
rounds_taken n few = let below : n ≤ 8 = few in signed_taken 0 ROUND_LIMIT n (omega arith) few (omega arith)

small_plain : (n : ℕ) → n ≤ 8 → IsPlain (decimal n)
small_plain n few = decimal_plain n (omega arith)

usual_lanes : accepts false (Signed (pos 1) (pos LANE_LIMIT)) (decimal DEFAULT_LANES) ≡ true
usual_lanes = lanes_taken DEFAULT_LANES (omega arith) (omega arith)

usual_rounds : accepts false (Signed (pos 0) (pos ROUND_LIMIT)) (decimal DEFAULT_ROUNDS) ≡ true
usual_rounds = rounds_taken DEFAULT_ROUNDS (omega arith)

-- ---- the forms

show_found : (p : Text) → IsPlain p → found show_form (codes "show" ∷ p ∷ []) ≡ Some (policy_row p ∷ [])
unfolding clap_on_literals
show_found p plain = found_by show_form (codes "show") (as_value p ∷ []) _ refl refl ((plain, refl, refl), tt) refl refl

solve_found : (p : Text) → IsPlain p → found solve_form (codes "solve" ∷ p ∷ []) ≡ Some (policy_row p ∷ [])
unfolding clap_on_literals
solve_found p plain = found_by solve_form (codes "solve") (as_value p ∷ []) _ refl refl ((plain, refl, refl), tt) refl refl

plan_found : (p f : Text) → IsPlain p → IsPlain f
    → found plan_form (codes "plan" ∷ p ∷ f ∷ []) ≡ Some (policy_row p ∷ word_row (codes "FLOW") f ∷ [])
unfolding clap_on_literals
plan_found p f plain plain_f =
    found_by plan_form (codes "plan") (as_value p ∷ as_value f ∷ []) _ refl refl
    ((plain, refl, refl), ((plain_f, refl, refl), tt)) refl refl

trial_found : (n : Text) → IsPlain n → accepts false (Unsigned 0 (2 ^ 64 - 1)) n ≡ true
    → found trial_form (codes "trial" ∷ n ∷ []) ≡ Some (word_row (codes "SEED") n ∷ [])
unfolding clap_on_literals
trial_found n plain takes =
    found_by trial_form (codes "trial") (as_value n ∷ []) _ refl refl ((plain, refl, refl), tt) (rw takes refl) refl

absences_taken : (n : ℕ) → n ≤ ABSENCE_LIMIT → accepts false (Signed (pos 0) (pos ABSENCE_LIMIT)) (decimal n) ≡ true
absences_taken n few = let below : n ≤ 3 = few in signed_taken 0 ABSENCE_LIMIT n (omega arith) few (omega arith)

resilience_found : (p f : Text) (n : ℕ) → IsPlain p → IsPlain f → n ≤ ABSENCE_LIMIT
    → found resilience_form (codes "resilience" ∷ p ∷ f ∷ decimal n ∷ [])
    ≡ Some (policy_row p ∷ word_row (codes "FLOW") f ∷ number_row (codes "T") CommandLine n ∷ [])
unfolding clap_on_literals
resilience_found p f n plain plain_f few =
    let takes = absences_taken n few in
    let below : n ≤ 3 = few in
    let rows = policy_row p ∷ word_row (codes "FLOW") f ∷ [] in
    let end = at (record { rows = rows; pending = Some (codes "T", decimal n ∷ []); skip = 0 }) positional 4 in
    let none : end_fault (built resilience_form) end ≡ [] = none_at_end (built resilience_form) end refl (rw takes refl) refl refl in
    found_by resilience_form (codes "resilience") (as_value p ∷ as_value f ∷ as_value (decimal n) ∷ []) _ refl refl
    ((plain, refl, refl), ((plain_f, refl, refl), ((small_plain n (omega arith), refl, refl), tt))) none refl

cnf_found : (p f : Text) → IsPlain p → IsPlain f
    → found cnf_form (codes "cnf" ∷ p ∷ f ∷ []) ≡ Some (policy_row p ∷ word_row (codes "FLOW") f ∷ [])
unfolding clap_on_literals
cnf_found p f plain plain_f =
    found_by cnf_form (codes "cnf") (as_value p ∷ as_value f ∷ []) _ refl refl
    ((plain, refl, refl), ((plain_f, refl, refl), tt)) refl refl

model_found : (p f m : Text) → IsPlain p → IsPlain f → IsPlain m
    → found cnf_form (codes "cnf" ∷ p ∷ f ∷ m ∷ [])
    ≡ Some (policy_row p ∷ word_row (codes "FLOW") f ∷ word_row (codes "MODEL") m ∷ [])
unfolding clap_on_literals
model_found p f m plain plain_f plain_m =
    found_by cnf_form (codes "cnf") (as_value p ∷ as_value f ∷ as_value m ∷ []) _ refl refl
    ((plain, refl, refl), ((plain_f, refl, refl), ((plain_m, refl, refl), tt))) refl refl

-- `serve`, with the options or without them
abbrev serve_files : Text → List Row
serve_files p = policy_row p ∷ []

serve_found : (p : Text) → IsPlain p → (lanes rounds : Option ℕ) → AreOptions (options_with lanes rounds)
    → found serve_form (codes "serve" ∷ p ∷ option_words lanes rounds) ≡ Some (serve_files p ++ option_rows lanes rounds)
unfolding clap_on_literals
serve_found p plain None None are =
    let lanes_ok = usual_lanes in
    let rounds_ok = usual_rounds in
    found_by serve_form (codes "serve") (as_value p ∷ []) _ refl refl
    ((plain, refl, refl), tt)
    (rw (lanes_ok, rounds_ok) refl) refl
serve_found p plain None (Some rounds) are =
    let lanes_ok = usual_lanes in
    let rounds_ok = rounds_taken rounds are.rounds in
    let end = at (record { rows = serve_files p; pending = Some (codes "rounds", decimal rounds ∷ []); skip = 0 }) idle 2 in
    let none : end_fault (built serve_form) end ≡ [] = rw (lanes_ok, rounds_ok) refl in
    found_by serve_form (codes "serve") (as_value p ∷ as_option (codes "--rounds") ∷ as_value (decimal rounds) ∷ []) _ refl refl
    ((plain, refl, refl), (refl, ((small_plain rounds are.rounds, refl, refl), tt)))
    none refl
serve_found p plain (Some lanes) None are =
    let lanes_ok = lanes_taken lanes are.some are.lanes in
    let rounds_ok = usual_rounds in
    let end = at (record { rows = serve_files p; pending = Some (codes "lanes", decimal lanes ∷ []); skip = 0 }) idle 2 in
    let none : end_fault (built serve_form) end ≡ [] = rw (lanes_ok, rounds_ok) refl in
    found_by serve_form (codes "serve") (as_value p ∷ as_option (codes "--lanes") ∷ as_value (decimal lanes) ∷ []) _ refl refl
    ((plain, refl, refl), (refl, ((small_plain lanes are.lanes, refl, refl), tt)))
    none refl
serve_found p plain (Some lanes) (Some rounds) are =
    let lanes_ok = lanes_taken lanes are.some are.lanes in
    let rounds_ok = rounds_taken rounds are.rounds in
    let before = at (record { rows = serve_files p; pending = Some (codes "lanes", decimal lanes ∷ []); skip = 0 }) idle 2 in
    let between : turn_fault (top serve_form) [] before (codes "--rounds") ≡ [] = rw lanes_ok refl in
    let end = at (record {
      rows = serve_files p ++ number_row (codes "lanes") CommandLine lanes ∷ [];
      pending = Some
          (codes "rounds", decimal rounds ∷ []);
      skip = 0;
    }) idle 2 in
    let none : end_fault (built serve_form) end ≡ [] = rw rounds_ok refl in
    found_by serve_form (codes "serve") (as_value p ∷ as_option (codes "--lanes") ∷ as_value (decimal lanes) ∷ as_option
    (codes "--rounds") ∷ as_value (decimal rounds) ∷ []) _ refl refl
    ((plain, refl, refl), (refl, ((small_plain lanes are.lanes, refl, refl), (between, ((small_plain rounds are.rounds, refl, refl), tt)))))
    none refl

-- `audit`, with the options or without them
abbrev audit_files : Text → Text → List Row
audit_files p q = policy_row p ∷ word_row (codes "REQUESTS") q ∷ []

audit_found : (p q : Text) → IsPlain p → IsPlain q → (lanes rounds : Option ℕ) → AreOptions (options_with lanes rounds)
    → found audit_form (codes "audit" ∷ p ∷ q ∷ option_words lanes rounds) ≡ Some (audit_files p q ++ option_rows lanes rounds)
unfolding clap_on_literals
audit_found p q plain plain_q None None are =
    let lanes_ok = usual_lanes in
    let rounds_ok = usual_rounds in
    found_by audit_form (codes "audit") (as_value p ∷ as_value q ∷ []) _ refl refl
    ((plain, refl, refl), ((plain_q, refl, refl), tt))
    (none_at_end (built audit_form) (at (record { rows = audit_files p q; pending = None; skip = 0 }) idle 2) refl refl
    (rw (lanes_ok, rounds_ok) refl) refl) refl
audit_found p q plain plain_q None (Some rounds) are =
    let lanes_ok = usual_lanes in
    let rounds_ok = rounds_taken rounds are.rounds in
    let end = at (record { rows = audit_files p q; pending = Some (codes "rounds", decimal rounds ∷ []); skip = 0 }) idle 3 in
    let none : end_fault (built audit_form) end ≡ [] = none_at_end (built audit_form) end refl (rw rounds_ok refl) (rw lanes_ok refl) refl in
    found_by audit_form (codes "audit") (as_value p ∷ as_value q ∷ as_option (codes "--rounds") ∷ as_value (decimal rounds) ∷ []) _ refl refl
    ((plain, refl, refl), ((plain_q, refl, refl), (refl, ((small_plain rounds are.rounds, refl, refl), tt))))
    none refl
audit_found p q plain plain_q (Some lanes) None are =
    let lanes_ok = lanes_taken lanes are.some are.lanes in
    let rounds_ok = usual_rounds in
    let end = at (record { rows = audit_files p q; pending = Some (codes "lanes", decimal lanes ∷ []); skip = 0 }) idle 3 in
    let none : end_fault (built audit_form) end ≡ [] = none_at_end (built audit_form) end refl (rw lanes_ok refl) (rw rounds_ok refl) refl in
    found_by audit_form (codes "audit") (as_value p ∷ as_value q ∷ as_option (codes "--lanes") ∷ as_value (decimal lanes) ∷ []) _ refl refl
    ((plain, refl, refl), ((plain_q, refl, refl), (refl, ((small_plain lanes are.lanes, refl, refl), tt))))
    none refl
audit_found p q plain plain_q (Some lanes) (Some rounds) are =
    let lanes_ok = lanes_taken lanes are.some are.lanes in
    let rounds_ok = rounds_taken rounds are.rounds in
    let before = at (record { rows = audit_files p q; pending = Some (codes "lanes", decimal lanes ∷ []); skip = 0 }) idle 3 in
    let between : turn_fault (top audit_form) [] before (codes "--rounds") ≡ [] = rw lanes_ok refl in
    let end = at (record {
      rows = audit_files p q ++ number_row (codes "lanes") CommandLine lanes ∷ [];
      pending = Some
          (codes "rounds", decimal rounds ∷ []);
      skip = 0;
    }) idle 3 in
    let none : end_fault (built audit_form) end ≡ [] = none_at_end (built audit_form) end refl (rw rounds_ok refl) refl refl in
    found_by audit_form (codes "audit") (as_value p ∷ as_value q ∷ as_option (codes "--lanes") ∷ as_value (decimal lanes) ∷ as_option
    (codes "--rounds") ∷ as_value (decimal rounds) ∷ []) _ refl refl (
      (plain, refl, refl),
      (
        (plain_q, refl, refl),
        (
          refl,
          (
            (small_plain lanes are.lanes, refl, refl),
            (between, ((small_plain rounds are.rounds, refl, refl), tt)),
          ),
        ),
      ),
    )
    none refl

-- `resume`, with the options or without them
abbrev resume_files : Text → Text → Text → List Row
resume_files p q t = policy_row p ∷ word_row (codes "REQUESTS") q ∷ word_row (codes "TRANSCRIPT") t ∷ []

resume_found : (p q t : Text) → IsPlain p → IsPlain q → IsPlain t → (lanes rounds : Option ℕ) → AreOptions (options_with lanes rounds)
    → found resume_form (codes "resume" ∷ p ∷ q ∷ t ∷ option_words lanes rounds) ≡ Some (resume_files p q t ++ option_rows lanes rounds)
unfolding clap_on_literals
resume_found p q t plain plain_q plain_t None None are =
    let lanes_ok = usual_lanes in
    let rounds_ok = usual_rounds in
    found_by resume_form (codes "resume") (as_value p ∷ as_value q ∷ as_value t ∷ []) _ refl refl
    ((plain, refl, refl), ((plain_q, refl, refl), ((plain_t, refl, refl), tt)))
    (none_at_end (built resume_form) (at (record { rows = resume_files p q t; pending = None; skip = 0 }) idle 3) refl refl
    (rw (lanes_ok, rounds_ok) refl) refl) refl
resume_found p q t plain plain_q plain_t None (Some rounds) are =
    let lanes_ok = usual_lanes in
    let rounds_ok = rounds_taken rounds are.rounds in
    let end = at (record { rows = resume_files p q t; pending = Some (codes "rounds", decimal rounds ∷ []); skip = 0 }) idle 4 in
    let none : end_fault (built resume_form) end ≡ [] = none_at_end (built resume_form) end refl (rw rounds_ok refl) (rw lanes_ok refl) refl in
    found_by resume_form (codes "resume") (as_value p ∷ as_value q ∷ as_value t ∷ as_option (codes "--rounds") ∷ as_value (decimal rounds) ∷ []) _ refl refl
    ((plain, refl, refl), ((plain_q, refl, refl), ((plain_t, refl, refl), (refl, ((small_plain rounds are.rounds, refl, refl), tt)))))
    none refl
resume_found p q t plain plain_q plain_t (Some lanes) None are =
    let lanes_ok = lanes_taken lanes are.some are.lanes in
    let rounds_ok = usual_rounds in
    let end = at (record { rows = resume_files p q t; pending = Some (codes "lanes", decimal lanes ∷ []); skip = 0 }) idle 4 in
    let none : end_fault (built resume_form) end ≡ [] = none_at_end (built resume_form) end refl (rw lanes_ok refl) (rw rounds_ok refl) refl in
    found_by resume_form (codes "resume") (as_value p ∷ as_value q ∷ as_value t ∷ as_option (codes "--lanes") ∷ as_value (decimal lanes) ∷ []) _ refl refl
    ((plain, refl, refl), ((plain_q, refl, refl), ((plain_t, refl, refl), (refl, ((small_plain lanes are.lanes, refl, refl), tt)))))
    none refl
resume_found p q t plain plain_q plain_t (Some lanes) (Some rounds) are =
    let lanes_ok = lanes_taken lanes are.some are.lanes in
    let rounds_ok = rounds_taken rounds are.rounds in
    let before = at (record { rows = resume_files p q t; pending = Some (codes "lanes", decimal lanes ∷ []); skip = 0 }) idle 4 in
    let between : turn_fault (top resume_form) [] before (codes "--rounds") ≡ [] = rw lanes_ok refl in
    let end = at (record {
      rows = resume_files p q t ++ number_row (codes "lanes") CommandLine lanes ∷ [];
      pending = Some
          (codes "rounds", decimal rounds ∷ []);
      skip = 0;
    }) idle 4 in
    let none : end_fault (built resume_form) end ≡ [] = none_at_end (built resume_form) end refl (rw rounds_ok refl) refl refl in
    found_by resume_form (codes "resume") (as_value p ∷ as_value q ∷ as_value t ∷ as_option (codes "--lanes") ∷ as_value (decimal lanes) ∷ as_option
    (codes "--rounds") ∷ as_value (decimal rounds) ∷ []) _ refl refl (
      (plain, refl, refl),
      (
        (plain_q, refl, refl),
        (
          (plain_t, refl, refl),
          (
            refl,
            (
              (small_plain lanes are.lanes, refl, refl),
              (between, ((small_plain rounds are.rounds, refl, refl), tt)),
            ),
          ),
        ),
      ),
    )
    none refl

-- ---- the commands

abbrev number : ℕ → ℕ
number n = digits_value 10 (without_leading_plus (without_minus (decimal n)))

abbrev with_numbers : ℕ → ℕ → Options
with_numbers lanes rounds = record { lanes = lanes; rounds = rounds }

numbers_are : (o : Options) → AreOptions o → with_numbers (number o.lanes) (number o.rounds) ≡ o
numbers_are o are = grind (arith, value_without_minus)

pub plan_read : (p f : Text) → IsPlain p → IsPlain f → command_of (codes "plan" ∷ p ∷ f ∷ []) ≡ Some (plan p f)
plan_read p f plain plain_f = ap (option_and_then plan_asked) (plan_found p f plain plain_f)

pub show_read : (p : Text) → IsPlain p → command_of (codes "show" ∷ p ∷ []) ≡ Some (show p)
show_read p plain = ap (option_and_then show_in) (show_found p plain)

pub solve_read : (p : Text) → IsPlain p → command_of (codes "solve" ∷ p ∷ []) ≡ Some (solve p)
solve_read p plain = ap (option_and_then solve_in) (solve_found p plain)

serve_rows : (p : Text) (lanes rounds : Option ℕ) → serve_in (serve_files p ++ option_rows lanes rounds)
    ≡ Some (serve p (with_numbers (number (options_with lanes rounds).lanes) (number (options_with lanes rounds).rounds)))
serve_rows p lanes rounds = grind arith

audit_rows : (p q : Text) (lanes rounds : Option ℕ) → audit_asked (audit_files p q ++ option_rows lanes rounds)
    ≡ Some (audit p q (with_numbers (number (options_with lanes rounds).lanes) (number (options_with lanes rounds).rounds)))
audit_rows p q lanes rounds = grind arith

resume_rows : (p q t : Text) (lanes rounds : Option ℕ) → resume_in (resume_files p q t ++ option_rows lanes rounds)
    ≡ Some (resume p q t (with_numbers (number (options_with lanes rounds).lanes) (number (options_with lanes rounds).rounds)))
resume_rows p q t lanes rounds = grind arith

pub cnf_read : (p f : Text) → IsPlain p → IsPlain f → command_of (codes "cnf" ∷ p ∷ f ∷ []) ≡ Some (cnf p f None)
cnf_read p f plain plain_f = ap (option_and_then cnf_in) (cnf_found p f plain plain_f)

pub model_read : (p f m : Text) → IsPlain p → IsPlain f → IsPlain m
    → command_of (codes "cnf" ∷ p ∷ f ∷ m ∷ []) ≡ Some (cnf p f (Some m))
model_read p f m plain plain_f plain_m = ap (option_and_then cnf_in) (model_found p f m plain plain_f plain_m)

pub serve_read : (p : Text) (lanes rounds : Option ℕ) → IsPlain p → AreOptions (options_with lanes rounds)
    → command_of (codes "serve" ∷ p ∷ option_words lanes rounds) ≡ Some (serve p (options_with lanes rounds))
serve_read p lanes rounds plain are =
    ap (option_and_then serve_in) (serve_found p plain lanes rounds are) ∙ serve_rows p lanes rounds
    ∙ ap (λ (o : Options). Some (serve p o)) (numbers_are (options_with lanes rounds) are)

pub audit_read : (p q : Text) (lanes rounds : Option ℕ) → IsPlain p → IsPlain q → AreOptions (options_with lanes rounds)
    → command_of (codes "audit" ∷ p ∷ q ∷ option_words lanes rounds) ≡ Some (audit p q (options_with lanes rounds))
audit_read p q lanes rounds plain plain_q are =
    ap (option_and_then audit_asked) (audit_found p q plain plain_q lanes rounds are) ∙ audit_rows p q lanes rounds
    ∙ ap (λ (o : Options). Some (audit p q o)) (numbers_are (options_with lanes rounds) are)

pub resume_read : (p q t : Text) (lanes rounds : Option ℕ) → IsPlain p → IsPlain q → IsPlain t → AreOptions (options_with lanes rounds)
    → command_of (codes "resume" ∷ p ∷ q ∷ t ∷ option_words lanes rounds) ≡ Some (resume p q t (options_with lanes rounds))
resume_read p q t lanes rounds plain plain_q plain_t are =
    ap (option_and_then resume_in) (resume_found p q t plain plain_q plain_t lanes rounds are) ∙ resume_rows p q t lanes rounds
    ∙ ap (λ (o : Options). Some (resume p q t o)) (numbers_are (options_with lanes rounds) are)

pub trial_read : (seed : ℕ) → seed < 2 ^ 64 → command_of (codes "trial" ∷ decimal seed ∷ []) ≡ Some (trial seed)
trial_read seed small =
    ap (option_and_then trial_in)
    (trial_found (decimal seed) (decimal_plain seed small) (unsigned_taken seed small))
    ∙ ap (λ (n : ℕ). Some (trial n)) (value_of seed small)

pub resilience_read : (p f : Text) (n : ℕ) → IsPlain p → IsPlain f → n ≤ ABSENCE_LIMIT
    → command_of (codes "resilience" ∷ p ∷ f ∷ decimal n ∷ []) ≡ Some (resilience p f n)
resilience_read p f n plain plain_f few = grind (arith, resilience_found, value_without_minus)
