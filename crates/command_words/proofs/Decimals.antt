-- The decimal digits of a number are read as that number.
use Rattle.std.proofs.Common.{◌≡◌, ◌∙◌, ◌<◌, ◌≤◌, ◌-◌, ◌^◌, ℕ, Bool, true, false, cond, drop, ap, arith, [], ◌∷◌, Option}
use Rattle.std.specs.Prelude.{neg_ℤ, pos, unwrap_or}
use Rattle.std.specs.Fmt.{decimal}
use Rattle.std.specs.Str.Parse.{IsNumeral, digits_value, signed_digits_value, without_leading_plus, without_leading_sign}
use Rattle.std.proofs.lemmas.Bool.{ne_eqb}
use Rattle.std.proofs.lemmas.Fmt.{decimal_is_IsNumeral}
use Rattle.std.proofs.lemmas.Int.{ints}
use Rattle.std.proofs.lemmas.Str.Parse.{digit_from_value}
use Rattle.clap.proofs.ValueTestLemmas.{Accepts-accepts}
use Rattle.clap.specs.Lexer.{without_minus}
use Rattle.clap.specs.ValueTests.{accepts}
use Rattle.clap.specs.Values.{IsSignedIn}
use Rattle.clap.specs.Words.{Text}
use Rattle.clap.specs.declared.builder.value_parser.ValueParser.TheVariants.{Signed, Unsigned}
use Rattle.command_words.specs.Laws.Usage.{IsPlain}
use Rattle.command_words.proofs.Numbers.{no_plus}
use Rattle.command_words.proofs.Plain.{no_hyphen}

numeral_plain : (ds : Text) → IsNumeral 10 ds → IsPlain ds
numeral_plain [] h = absurd (let bad : 0 < 0 = h.0 in omega arith)
numeral_plain (d ∷ ds) h = λ e. let is : d ≡ 45 = e in omega (arith, digit_from_value d h.1.0)

pub decimal_plain : (n : ℕ) → n < 2 ^ 64 → IsPlain (decimal n)
decimal_plain n small = numeral_plain (decimal n) (decimal_is_IsNumeral n small).0

no_sign : (ds : Text) → IsNumeral 10 ds → without_leading_sign ds ≡ ds
no_sign ds h = ap (λ (b : Bool). cond b (drop 1 ds) (without_leading_plus ds)) (ne_eqb _ _ (numeral_plain ds h)) ∙ no_plus ds h

no_minus : (ds : Text) → IsNumeral 10 ds → without_minus ds ≡ ds
no_minus ds h = ap (λ (o : Option Text). unwrap_or o ds) (no_hyphen ds (numeral_plain ds h))

pub value_of : (n : ℕ) → n < 2 ^ 64 → digits_value 10 (without_leading_plus (decimal n)) ≡ n
value_of n small = grind (arith, decimal_is_IsNumeral, no_plus)

pub value_without_minus : (n : ℕ) → n < 2 ^ 64 → digits_value 10 (without_leading_plus (without_minus (decimal n))) ≡ n
value_without_minus n small = grind (arith, no_minus, decimal_is_IsNumeral, value_of)

signed_value : (n : ℕ) → n < 2 ^ 64 → signed_digits_value 10 (decimal n) ≡ pos n
signed_value n small =
    let is = decimal_is_IsNumeral n small in
    ap (λ (b : Bool). cond b (neg_ℤ (pos (digits_value 10 (without_leading_sign (decimal n))))) (pos (digits_value 10 (without_leading_sign (decimal n)))))
    (ne_eqb _ _ (numeral_plain (decimal n) is.0))
    ∙ ap (λ (t : Text). pos (digits_value 10 t)) (no_sign (decimal n) is.0) ∙ ap pos is.1

signed_in : (least most n : ℕ) → least ≤ n → n ≤ most → n < 2 ^ 63 → IsSignedIn (pos least) (pos most) (decimal n)
signed_in least most n low high small = grind (arith, decimal_is_IsNumeral, signed_value, no_sign, ints)

pub signed_taken : (least most n : ℕ) → least ≤ n → n ≤ most → n < 2 ^ 63 → accepts false (Signed (pos least) (pos most)) (decimal n) ≡ true
signed_taken least most n low high small = Accepts-accepts false (Signed (pos least) (pos most)) (decimal n) (signed_in least most n low high small)

pub unsigned_taken : (n : ℕ) → n < 2 ^ 64 → accepts false (Unsigned 0 (2 ^ 64 - 1)) (decimal n) ≡ true
unsigned_taken n small =
    let is = decimal_is_IsNumeral n small in
    let value = value_of n small in
    Accepts-accepts false (Unsigned 0 (2 ^ 64 - 1)) (decimal n)
    (rw (no_plus (decimal n) is.0) is.0, rw value small, rw value (omega arith), rw value (omega arith))
