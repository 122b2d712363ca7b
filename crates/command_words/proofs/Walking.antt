-- The walk of `clap` over words that are written out, but for those that begin with no hyphen.
use Rattle.std.proofs.Common.{◌≡◌, ◌∙◌, ℕ, false, refl, ap, ap₂, sym, subst, List, [], ◌∷◌, Option, Some, None, arith}
use Rattle.std.specs.Prelude.{⊤, fold, is_some, option_and_then}
use Rattle.std.specs.Str.{bytes_eq}
use Rattle.std.proofs.lemmas.Slice.Eq.{bytes_eq-Decides}
use Rattle.clap.specs.Lexer.{long_of, long_of_rest, short_of, short_of_rest, strip_byte}
use Rattle.clap.specs.Words.{App, Kinds, Row, Rule, Text, built}
use Rattle.clap.specs.Faults.{check_fault, defaults_fault, entered_fault, settle_fault, step_fault}
use Rattle.clap.specs.Faults.{turn_fault, walk_fault, word_fault}
use Rattle.clap.specs.Kinds.{or_else}
use Rattle.clap.specs.Simple.{Shape, argument_words, entered, names_of}
use Rattle.clap.specs.Walk.{Held, Step, Waiting, Walk, after_step, finished, nothing_held}
use Rattle.clap.specs.Walk.{plain_word, settled, subcommand_met, walk, walk_from, walked, word_met}
use Rattle.command_words.specs.Laws.Words.{found}
use Rattle.command_words.specs.Laws.Usage.{IsPlain}
use Rattle.command_words.proofs.Plain.{no_hyphen}

-- ---- a word that begins with no hyphen

no_long : (word : Text) → IsPlain word → long_of word ≡ None
no_long word plain = ap (λ (o : Option Text). option_and_then long_of_rest (option_and_then (strip_byte 45) o)) (no_hyphen word plain)

no_short : (word : Text) → IsPlain word → short_of word ≡ None
no_short word plain = ap (option_and_then short_of_rest) (no_hyphen word plain)

no_dashes : (word : Text) → IsPlain word → bytes_eq word (45 ∷ 45 ∷ []) ≡ false
no_dashes word plain = grind (arith, bytes_eq-Decides)

none_met : (waiting : Waiting) (word : Text) → subcommand_met [] waiting word ≡ None
none_met waiting word = grind arith

plain_met : (c : List Rule) (waiting : Waiting) (position : ℕ) (word : Text) (h : Held) → IsPlain word
    → word_met c [] false waiting position word h ≡ plain_word c waiting word h
plain_met c waiting position word h plain = grind (arith, none_met, no_dashes, no_long, no_short)

plain_fault : (s : Shape) (waiting : Waiting) (word : Text) (h : Held) → IsPlain word
    → word_fault s [] false waiting word h ≡ []
plain_fault s waiting word h plain = grind (arith, none_met, no_dashes, no_long, no_short)

-- ---- the walk, word by word

-- the walk goes over the words to its end, and none of them is at fault
pub record Goes (s : Shape) (w : Walk) (words : List Text) (end : Walk) : Type 0 where
  pub fault : walk_fault s [] w words ≡ []
  pub walk : fold (walked s.rules []) w words ≡ end

pub ends : (s : Shape) (w : Walk) → Goes s w [] w
unfolding walk_fault
ends s w = record { fault = refl; walk = refl }

pub goes : (s : Shape) (w next end : Walk) (word : Text) (words : List Text)
    → turn_fault s [] w word ≡ [] → walked s.rules [] w word ≡ next → Goes s next words end → Goes s w (word ∷ words) end
unfolding walk_fault
goes s w next end word words none step rest = grind arith

-- where the walk stands, at no trailing word
abbrev pub at : Held → Waiting → ℕ → Walk
at h waiting position =
    record { held = h; waiting = waiting; position = position; is_trailing = false; stopped = None }

abbrev pub after_plain : List Rule → Held → Waiting → ℕ → Text → Walk
after_plain c h waiting position word =
    after_step c word (at h waiting position) (plain_word c waiting word h).0 (plain_word c waiting word h).1

pub goes_plain : (s : Shape) (h : Held) (waiting : Waiting) (position : ℕ) (next end : Walk) (word : Text) (words : List Text) → IsPlain word
    → step_fault s position (plain_word s.rules waiting word h).0 (plain_word s.rules waiting word h).1 ≡ []
    → after_plain s.rules h waiting position word ≡ next → Goes s next words end → Goes s (at h waiting position) (word ∷ words) end
unfolding walked
goes_plain s h waiting position next end word words plain none step rest =
    let met = plain_met s.rules waiting position word h plain in
    goes s (at h waiting position) next end word words
    (ap₂ or_else (plain_fault s waiting word h plain)
    (ap (λ (m : Held × Step). step_fault s position m.0 m.1) met ∙ none))
    (ap (λ (m : Held × Step). after_step s.rules word (at h waiting position) m.0 m.1) met ∙ step) rest

-- ---- the end

-- what is at fault once the walk has ended
abbrev pub end_fault : App → Walk → Kinds
end_fault b w = or_else (entered_fault b w.stopped)
    (or_else (settle_fault b.top.rules b.top.args_override_self w.held)
    (or_else (defaults_fault (settled b.top.rules w.held).rows b.top.rules)
    (check_fault b.top (finished b.top.rules w.held) (is_some (entered b w.stopped)))))

pub none_at_end : (b : App) (w : Walk) → entered_fault b w.stopped ≡ [] → settle_fault b.top.rules b.top.args_override_self w.held ≡ []
    → defaults_fault (settled b.top.rules w.held).rows b.top.rules ≡ []
    → check_fault b.top (finished b.top.rules w.held) (is_some (entered b w.stopped)) ≡ [] → end_fault b w ≡ []
none_at_end b w entered_none settle_none defaults_none check_none = grind arith

pub taken : (a : App) (words : List Text) (end : Walk) (rows : List Row) → names_of (built a) ≡ []
    → Goes (built a).top (walk_from nothing_held) (argument_words a words) end
    → end_fault (built a) end ≡ [] → finished (built a).top.rules end.held ≡ rows → found a words ≡ Some rows
unfolding found
taken a words end rows no_names over none rows_are = grind arith

-- ---- words in a form

-- a word of a form: a value, which begins with no hyphen; or the name of an option
pub data Piece : Type 0 where
  as_value : Text → Piece
  as_option : Text → Piece

abbrev pub words_of : List Piece → List Text
words_of [] = []
words_of (as_value word ∷ ps) = word ∷ words_of ps
words_of (as_option word ∷ ps) = word ∷ words_of ps

-- where the walk stands after a word
abbrev pub after_piece : List Rule → Walk → Piece → Walk
after_piece c w (as_value word) = after_plain c w.held w.waiting w.position word
after_piece c w (as_option word) = walked c [] w word

abbrev pub after_pieces : List Rule → Walk → List Piece → Walk
after_pieces c w [] = w
after_pieces c w (p ∷ ps) = after_pieces c (after_piece c w p) ps

-- the walk takes a word
abbrev pub TakesPiece : Shape → Walk → Piece → Type 0
TakesPiece s w (as_value word) = IsPlain word × (w ≡ at w.held w.waiting w.position)
    × (step_fault s w.position (plain_word s.rules w.waiting word w.held).0 (plain_word s.rules w.waiting word w.held).1 ≡ [])
TakesPiece s w (as_option word) = turn_fault s [] w word ≡ []

-- the walk takes each of the words, one after the other
abbrev pub TakesPieces : Shape → Walk → List Piece → Type 0
TakesPieces s w [] = ⊤
TakesPieces s w (p ∷ ps) = TakesPiece s w p × TakesPieces s (after_piece s.rules w p) ps

pub goes_over : (s : Shape) (w : Walk) (ps : List Piece) → TakesPieces s w ps → Goes s w (words_of ps) (after_pieces s.rules w ps)
goes_over s w [] takes = ends s w
goes_over s w (as_value word ∷ ps) takes =
    let next = after_piece s.rules w (as_value word) in
    let end = after_pieces s.rules next ps in
    subst (λ (v : Walk). Goes s v (word ∷ words_of ps) end) (sym takes.0.1)
    (goes_plain s w.held w.waiting w.position next end word (words_of ps) takes.0.0 takes.0.2 refl (goes_over s next ps takes.1))
goes_over s w (as_option word ∷ ps) takes =
    let next = after_piece s.rules w (as_option word) in
    goes s w next (after_pieces s.rules next ps) word (words_of ps) takes.0 refl (goes_over s next ps takes.1)

-- what is found at words in the form of a command, some of which may be left out
pub found_by : (a : App) (first : Text) (ps : List Piece) (rows : List Row) → names_of (built a) ≡ []
    → argument_words a (first ∷ words_of ps) ≡ words_of ps
    → TakesPieces (built a).top (walk_from nothing_held) ps
    → end_fault (built a) (after_pieces (built a).top.rules (walk_from nothing_held) ps) ≡ []
    → finished (built a).top.rules (after_pieces (built a).top.rules (walk_from nothing_held) ps).held ≡ rows
    → found a (first ∷ words_of ps) ≡ Some rows
found_by a first ps rows no_names arguments takes none rows_are =
    let end = after_pieces (built a).top.rules (walk_from nothing_held) ps in
    taken a (first ∷ words_of ps) end rows no_names
    (subst (λ (ws : List Text). Goes (built a).top (walk_from nothing_held) ws end) (sym arguments)
    (goes_over (built a).top (walk_from nothing_held) ps takes)) none rows_are
