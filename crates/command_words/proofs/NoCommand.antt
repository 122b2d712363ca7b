-- A first word that names no command.
use Rattle.std.proofs.Common.{◌≡◌, ◌≢◌, Bool, true, false, refl, List, None, codes, arith}
use Rattle.std.specs.Bool.{Decides}
use Rattle.std.specs.Cmp.Lexicographic.{bytes_decides}
use Rattle.clap.specs.Words.{Text}
use Rattle.command_words.specs.Laws.Words.{command_at, is_word}

not_word : (word other : Text) → word ≢ other → is_word word other ≡ false
not_word word other apart = go (is_word word other) (bytes_decides word other)
  where
    go : (b : Bool) → Decides b (word ≡ other) → b ≡ false
    go true is = absurd (apart (is.0 refl))
    go false is = refl

pub no_command : (word : Text) (words : List Text) → word ≢ codes "plan" → word ≢ codes "show" → word ≢ codes "solve" → word ≢ codes "resilience"
    → word ≢ codes "cnf" → word ≢ codes "serve" → word ≢ codes "audit" → word ≢ codes "resume" → word ≢ codes "trial" → command_at word words ≡ None
no_command word words plan show solve resilience cnf serve audit resume trial = grind (arith, not_word)
