-- The numbers that are found.
use Rattle.std.proofs.Common.{◌≡◌, ◌∙◌, ◌<◌, ◌≤◌, ◌-◌, ◌^◌, ℕ, Bool, true, false, cond, drop, refl, sym, ap, subst, arith, inl, inr, rules}
use Rattle.std.proofs.Common.{List, [], ◌∷◌, map, Option, Some, None, Result, true≢false}
use Rattle.std.specs.Prelude.{IfSome, codes, slice_get, ⊤, find, option_and_then, option_map, pos, unwrap_or}
use Rattle.std.specs.List.{All, Any}
use Rattle.std.specs.Str.{bytes_eq}
use Rattle.std.specs.Str.Parse.{IsNumeral, ParsesUnsigned, digits_value, starts_with_minus, without_leading_plus}
use Rattle.std.proofs.lemmas.Bool.{ne_eqb}
use Rattle.std.proofs.lemmas.Int.{ints}
use Rattle.std.proofs.lemmas.List.Elements.{All-cons, All-drop, All-get_or, All-nil, All-weaker}
use Rattle.std.proofs.lemmas.Slice.Eq.{bytes_eq-Decides}
use Rattle.std.proofs.lemmas.Str.Parse.{digit_from_value}
use Rattle.clap.specs.Lexer.{without_minus}
use Rattle.clap.specs.Words.{Accepts, App, ReadsOne, Row, Rule, Text, is_simple_and_free, one_of, read_as, reading_of}
use Rattle.clap.specs.Facts.{parser_of_value}
use Rattle.clap.specs.Values.{IsSignedIn}
use Rattle.clap.specs.Walk.{row_text}
use Rattle.clap.specs.declared.builder.value_parser.Reading.{Reading}
use Rattle.clap.specs.declared.builder.value_parser.ValueParser.{ValueParser}
use Rattle.clap.specs.declared.builder.value_parser.ValueParser.TheVariants.{Signed, Unsigned}
use Rattle.command_words.specs.declared.command.TheConstants.{ABSENCE_LIMIT}
use Rattle.wf_names.specs.declared.limits.TheConstants.{LANE_LIMIT, ROUND_LIMIT}
use Rattle.command_words.specs.declared.arguments.Word.{Word}
use Rattle.command_words.specs.declared.arguments.Word.TheVariants.{Absences, Flow, Lanes, Model, Policy, Requests, Rounds, Seed, Transcript}
use Rattle.command_words.specs.declared.forms.Form.{Form}
use Rattle.command_words.specs.declared.forms.Form.TheVariants.{Cnf, Plan, Resilience, Session, Show, Solve, Trial}
use Rattle.command_words.specs.declared.forms.SessionForm.TheVariants.{Audit, Resume, Serve}
use Rattle.command_words.specs.Forms.{form_for, rule_for}
use Rattle.command_words.specs.Finding.{HasNumbers, IsBuiltOf, PassesIn, RowPasses, TakesValue, WritesWithin}

-- ---- reading a text that writes a number

number_at : {E : Type 0} (G : List ℕ → Result ℕ E → Type 0) (k least most : ℕ) (text : Text) (r : Option ℕ)
    → ((u : Text) (x : Result ℕ E) → G u x → ParsesUnsigned k 10 u x) → most < 2 ^ k
    → IsNumeral 10 (without_leading_plus text) × (least ≤ digits_value 10 (without_leading_plus text)) × (digits_value 10 (without_leading_plus text) ≤ most)
    → ReadsOne G text r
    → (r ≡ Some (digits_value 10 (without_leading_plus text))) × IfSome r (λ n. (least ≤ n) × (n ≤ most))
number_at G k least most text r only fits writes read = grind arith

pub number_read : {E : Type 0} (G : List ℕ → Result ℕ E → Type 0) (k least most : ℕ) (o : Option Text) (r : Option ℕ)
    → ((u : Text) (x : Result ℕ E) → G u x → ParsesUnsigned k 10 u x) → most < 2 ^ k
    → ((text : Text) → o ≡ Some text → IsNumeral 10 (without_leading_plus text)
    × (least ≤ digits_value 10 (without_leading_plus text)) × (digits_value 10 (without_leading_plus text) ≤ most))
    → (o ≡ None → r ≡ None) → ((text : Text) → o ≡ Some text → ReadsOne G text r)
    → (r ≡ option_map (λ text. digits_value 10 (without_leading_plus text)) o) × IfSome r (λ n. (least ≤ n) × (n ≤ most))
number_read G k least most None r only fits writes none value = let is = none refl in (is, (rw is tt))
number_read G k least most (Some text) r only fits writes none value =
    number_at G k least most text r only fits (writes text refl) (value text refl)

-- ---- the text that was found under a name

row_found : (P : Row → Type 0) (name : Text) (rows : List Row) (row : Row) → All P rows
    → find (λ r. bytes_eq r.id name) rows ≡ Some row → P row × (bytes_eq row.id name ≡ true)
row_found P name [] row all is = cc
row_found P name (r ∷ rows) row all is =
    go (bytes_eq r.id name) refl (λ rest. row_found P name rows row (All-drop P 1 (r ∷ rows) all) rest)
  where
    go : (t : Bool) → bytes_eq r.id name ≡ t
        → (find (λ r. bytes_eq r.id name) rows ≡ Some row → P row × (bytes_eq row.id name ≡ true))
        → P row × (bytes_eq row.id name ≡ true)
    go true t rec =
        let same : Some r ≡ Some row = rw t at is in
        let one : r ≡ row = ap (λ (o : Option Row). unwrap_or o r) same in
        subst (λ (x : Row). P x × (bytes_eq x.id name ≡ true)) one (All-get_or P (r ∷ rows) 0 r (omega arith) all, t)
    go false t rec = rec (rw t at is)

-- each argument with this name has this parser
abbrev pub HasParser : Text → ValueParser → Rule → Type 0
HasParser name q r = bytes_eq r.id name ≡ true → parser_of_value r.parser ≡ q

-- a text that is read by this parser of a value that passed it
abbrev pub IsReadBy : ValueParser → Text → Type 0
IsReadBy q text = (b : Bool) × (v : Text) × (text ≡ read_as (reading_of q) v) × Accepts b q v

parser_at : (rules : List Rule) (name : Text) (q : ValueParser) (P : Rule → Type 0) → All (HasParser name q) rules
    → Any (λ r. (bytes_eq r.id name ≡ true) × P r) rules → (r : Rule) × (parser_of_value r.parser ≡ q) × P r
parser_at rules name q P all any = grind arith

text_read : (rules : List Rule) (name : Text) (q : ValueParser) → All (HasParser name q) rules
    → (how : Reading) (values : List Text)
    → All (λ value. Any (TakesValue name value) rules) values
    → Any (λ r. (bytes_eq r.id name ≡ true) × (reading_of (parser_of_value r.parser) ≡ how)) rules
    → (text : Text) → option_map (read_as how) (slice_get values 0) ≡ Some text → IsReadBy q text
text_read rules name q all how [] pass reads text is = cc
text_read rules name q all how (v ∷ vs) pass reads text is =
    let taken = parser_at rules name q (λ r. Accepts r.ignore_case (parser_of_value r.parser) v) all
    (All-get_or (λ value. Any (TakesValue name value) rules) (v ∷ vs) 0 v (omega arith) pass) in
    let read = parser_at rules name q (λ r. reading_of (parser_of_value r.parser) ≡ how) all reads in
    let how_is : how ≡ reading_of q = sym read.2 ∙ ap reading_of read.1 in
    let same : read_as how v ≡ text = ap (λ (o : Option Text). unwrap_or o text) is in (
      taken.0.ignore_case,
      v,
      sym same ∙ ap (λ (h : Reading). read_as h v) how_is,
      subst (λ (p : ValueParser). Accepts taken.0.ignore_case p v) taken.1 taken.2,
    )

found_text : (rules : List Rule) (name : Text) (q : ValueParser) (rows : List Row) → (name ≡ [] → ⊥) → All (HasParser name q) rules
    → All (RowPasses rules) rows → (text : Text) → one_of name rows ≡ Some text → IsReadBy q text
found_text rules name q rows named all pass text is = go (find (λ r. bytes_eq r.id name) rows) refl is
  where
    at_row : (row : Row) → row.id ≡ name → RowPasses rules row → row_text row ≡ Some text → IsReadBy q text
    at_row row id passes is = elim passes [
      | inl empty ↦ absurd (named (sym id ∙ empty))
      | inr h ↦ text_read rules name q all row.reading row.values
          (subst (λ (w : Text). All (λ value. Any (TakesValue w value) rules) row.values) id h.0)
          (subst (λ (w : Text). Any (λ r. (bytes_eq r.id w ≡ true) × (reading_of (parser_of_value r.parser) ≡ row.reading)) rules) id h.1)
          text is
    ]

    go : (o : Option Row) → find (λ r. bytes_eq r.id name) rows ≡ o → option_and_then row_text o ≡ Some text → IsReadBy q text
    go None e is = cc
    go (Some row) e is =
        let got = row_found (RowPasses rules) name rows row pass e in
        at_row row ((bytes_eq-Decides row.id name).0 got.1) got.0 is

-- ---- what the parsers take

without_minus-cond : (t : Text) → without_minus t ≡ cond (starts_with_minus t) (drop 1 t) t
without_minus-cond t = grind arith

pub no_plus : (ds : Text) → IsNumeral 10 ds → without_leading_plus ds ≡ ds
no_plus ds h = grind (arith, ne_eqb, digit_from_value)

-- the text writes a number from the least to the most
abbrev pub Writes : ℕ → ℕ → Text → Type 0
Writes least most text = IsNumeral 10 (without_leading_plus text)
    × (least ≤ digits_value 10 (without_leading_plus text)) × (digits_value 10 (without_leading_plus text) ≤ most)

signed_writes : (least most : ℕ) (v : Text) → IsSignedIn (pos least) (pos most) v → Writes least most (without_minus v)
signed_writes least most v passed = subst (Writes least most) (sym (without_minus-cond v)) (go (starts_with_minus v) refl)
  where
    go : (b : Bool) → starts_with_minus v ≡ b → Writes least most (cond (starts_with_minus v) (drop 1 v) v)
    go true minus =
        let low_ok = rw minus at passed.2 in
        let numeral : IsNumeral 10 (drop 1 v) = rw minus at passed.0 in
        let same = no_plus (drop 1 v) numeral in
        rw minus (rw same numeral, rw same (omega (arith, ints)), rw same (omega (arith, ints)))
    go false minus =
        let low_ok = rw minus at passed.2 in
        let high_ok = rw minus at passed.3 in
        let numeral = rw minus at passed.0 in
        rw minus (numeral, omega (arith, ints), omega (arith, ints))

signed_within : (rules : List Rule) (name : Text) (least most : ℕ) (rows : List Row) → (name ≡ [] → ⊥)
    → All (HasParser name (Signed (pos least) (pos most))) rules → All (RowPasses rules) rows → WritesWithin least most name rows
signed_within rules name least most rows named all pass text is =
    let read = found_text rules name (Signed (pos least) (pos most)) rows named all pass text is in
    subst (Writes least most) (sym read.2) (signed_writes least most read.1 read.3)

unsigned_within : (rules : List Rule) (name : Text) (least most : ℕ) (rows : List Row) → (name ≡ [] → ⊥)
    → All (HasParser name (Unsigned least most)) rules → All (RowPasses rules) rows → WritesWithin least most name rows
unsigned_within rules name least most rows named all pass text is =
    let read = found_text rules name (Unsigned least most) rows named all pass text is in
    subst (Writes least most) (sym read.2) (read.3.0, read.3.2, read.3.3)

-- ---- the forms

-- P holds of each rule, one by one
abbrev pub Each : (Rule → Type 0) → List Rule → Type 0
Each P [] = ⊤
Each P (r ∷ rs) = P r × Each P rs

all_of : (P : Rule → Type 0) (rs : List Rule) → Each P rs → All P rs
all_of P [] h = All-nil P
all_of P (r ∷ rs) h = All-cons P r rs h.0 (all_of P rs h.1)

other : {X : Type 0} → false ≡ true → X
other e = absurd (true≢false (sym e))

-- each argument with this name is given this parser
abbrev AsksFor : Text → ValueParser → Rule → Type 0
AsksFor name q r = bytes_eq r.id name ≡ true → r.parser ≡ Some q

-- each argument with the name of a number is given the parser of that number
abbrev HasNumber : Rule → Type 0
HasNumber r = AsksFor (codes "lanes") (Signed (pos 1) (pos LANE_LIMIT)) r
    × AsksFor (codes "rounds") (Signed (pos 0) (pos ROUND_LIMIT)) r
    × AsksFor (codes "T") (Signed (pos 0) (pos ABSENCE_LIMIT)) r
    × AsksFor (codes "SEED") (Unsigned 0 (2 ^ 64 - 1)) r

built_parser : (name : Text) (q : ValueParser) (rules : List Rule) → bytes_eq name (codes "help") ≡ false → bytes_eq name (codes "version") ≡ false
    → ((r : Rule) → HasNumber r → AsksFor name q r) → Each HasNumber rules → (r : Rule) → IsBuiltOf rules r → HasParser name q r
built_parser name q rules help version asks each r is t =
    let id : r.id ≡ name = (bytes_eq-Decides r.id name).0 t in
    elim is [
      | inl flag ↦ elim flag [
        | inl h ↦ other (sym help ∙ ap (λ (n : Text). bytes_eq n (codes "help")) (sym id ∙ h))
        | inr v ↦ other (sym version ∙ ap (λ (n : Text). bytes_eq n (codes "version")) (sym id ∙ v))
      ]
      | inr any ↦
          let old = any.1 in
          let has = asks old (subst HasNumber any.3 (All-get_or HasNumber rules any.0 old any.2 (all_of HasNumber rules each))) in
          ap parser_of_value (any.4.parser q (has (rw (← any.4.id) t)))
    ]

numbers_of : (a : App) → Each HasNumber a.top.rules → (rows : List Row) → PassesIn a rows → HasNumbers rows
numbers_of a each rows p = record {
  lanes = signed_within p.rules (codes "lanes") 1 LANE_LIMIT rows (λ e. cc) (All-weaker _ _
      (built_parser (codes "lanes") _ a.top.rules refl refl (λ r h. h.0) each) p.rules p.are) p.pass;
  rounds = signed_within p.rules (codes "rounds") 0 ROUND_LIMIT rows (λ e. cc) (All-weaker _ _
      (built_parser (codes "rounds") _ a.top.rules refl refl (λ r h. h.1) each) p.rules p.are) p.pass;
  absences = signed_within p.rules (codes "T") 0 ABSENCE_LIMIT rows (λ e. cc) (All-weaker _ _
      (built_parser (codes "T") _ a.top.rules refl refl (λ r h. h.2) each) p.rules p.are) p.pass;
  seed = unsigned_within p.rules (codes "SEED") 0 (2 ^ 64 - 1) rows (λ e. cc) (All-weaker _ _
      (built_parser (codes "SEED") _ a.top.rules refl refl (λ r h. h.3) each) p.rules p.are) p.pass;
}

has_number : (w : Word) → HasNumber (rule_for w)
has_number w = grind (arith, other)

have_numbers : (ws : List Word) → Each HasNumber (map rule_for ws)
have_numbers [] = tt
have_numbers (w ∷ ws) = (has_number w, have_numbers ws)

pub form_numbers : (form : Form) (rows : List Row) → PassesIn (form_for form) rows → HasNumbers rows
form_numbers Plan = numbers_of _ (have_numbers (Policy ∷ Flow ∷ []))
form_numbers Show = numbers_of _ (have_numbers (Policy ∷ []))
form_numbers Solve = numbers_of _ (have_numbers (Policy ∷ []))
form_numbers Resilience = numbers_of _ (have_numbers (Policy ∷ Flow ∷ Absences ∷ []))
form_numbers Cnf = numbers_of _ (have_numbers (Policy ∷ Flow ∷ Model ∷ []))
form_numbers (Session Serve) = numbers_of _ (have_numbers (Policy ∷ Lanes ∷ Rounds ∷ []))
form_numbers (Session Audit) = numbers_of _ (have_numbers (Policy ∷ Requests ∷ Lanes ∷ Rounds ∷ []))
form_numbers (Session Resume) = numbers_of _ (have_numbers (Policy ∷ Requests ∷ Transcript ∷ Lanes ∷ Rounds ∷ []))
form_numbers Trial = numbers_of _ (have_numbers (Seed ∷ []))

pub form_free : (form : Form) → is_simple_and_free (form_for form) ≡ true
form_free form = grind arith
