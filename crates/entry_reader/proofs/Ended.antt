-- A line end behind what is printed changes no token.
use Rattle.std.proofs.Common.{◌≡◌, ℕ, Bool, true, false, cond, List, [], ◌∷◌, ◌++◌, refl, sym, ap, ◌∙◌, append_assoc, append-nil, arith}
use Rattle.json.specs.Token.{Token, string}
use Rattle.json.specs.Word.{ends_word, word}
use Rattle.json.specs.Lex.{token, lex, between, fresh, punctuate, tokens}
use Rattle.json.specs.Print.{quoted, token_text, ends, print_from, print, IsPrintable, ArePrintable}
use Rattle.json.proofs.Printed.Strings.{content-escape, lex-escape}
use Rattle.json.proofs.Printed.Numbers.{lex-number, in_word-ended}
use Rattle.json.proofs.Printed.Tokens.{tokens-print}

abbrev pub line_end : List ℕ
line_end = 10 ∷ []

-- after a value stands a comma, a closing bracket or a line end
value_ends : (ts : List Token) (more : List ℕ) → ends_word more ≡ true → ends_word (print_from true ts ++ more) ≡ true
unfolding print_from
value_ends [] more h = h
value_ends ts more h = grind arith

value_ends_alone : (ts : List Token) → ends_word (print_from true ts) ≡ true
value_ends_alone ts = ap ends_word (sym (append-nil (print_from true ts))) ∙ value_ends ts [] refl

quoted_before : (s r : List ℕ) → lex between (quoted s ++ r) ≡ token (string s) ∷ lex between r
unfolding lex
quoted_before s r = grind (arith, append_assoc, content-escape, lex-escape)

-- two texts that go on alike behind a token are read alike from it on
pub record GoOnAlike (t : Token) (r q : List ℕ) : Type 0 where
  pub first : ends t ≡ true → ends_word r ≡ true
  pub second : ends t ≡ true → ends_word q ≡ true
  pub rest : lex between r ≡ lex between q

same_before : (t : Token) (r q : List ℕ) → IsPrintable t → GoOnAlike t r q → lex between (token_text t ++ r) ≡ lex between (token_text t ++ q)
unfolding lex word
same_before t r q h go = grind (arith, append_assoc, quoted_before, lex-number, in_word-ended)

same_behind : (b : Bool) (r q : List ℕ) → lex between r ≡ lex between q → lex between (cond b (44 ∷ []) [] ++ r) ≡ lex between (cond b (44 ∷ []) [] ++ q)
unfolding lex
same_behind b r q e = grind arith

ended : (c : Bool) (ts : List Token) → ArePrintable ts → lex between (print_from c ts ++ line_end) ≡ lex between (print_from c ts)
unfolding lex print_from ArePrintable
ended c [] h = refl
ended c (t ∷ ts) h = grind (arith, value_ends, value_ends_alone, append_assoc, same_behind, same_before, (ended (ends t) ts h.1))

-- the tokens of what is printed with a line end
pub tokens_of_line : (ts : List Token) → ArePrintable ts → tokens (print ts ++ line_end) ≡ ts
tokens_of_line ts h = ap (punctuate fresh) (ended false ts h) ∙ tokens-print ts h
