-- A word that begins with no hyphen.
use Rattle.std.proofs.Common.{◌≡◌, None, arith}
use Rattle.std.proofs.lemmas.Bool.{ne_eqb}
use Rattle.clap.specs.Lexer.{strip_byte}
use Rattle.clap.specs.Words.{Text}
use Rattle.command_words.specs.Laws.Usage.{IsPlain}

pub no_hyphen : (word : Text) → IsPlain word → strip_byte 45 word ≡ None
no_hyphen word plain = grind (arith, ne_eqb)
