-- A line that is the text of an entry of a plain reply.
use Rattle.std.proofs.Common.{◌≡◌, ℕ, ◌<◌, ◌≤◌, ◌^◌, List, [], ◌∷◌, map, max, refl, ap, arith, true, ltb-true}
use Rattle.std.specs.Prelude.{nat_lt, Option, Some}
use Rattle.std.specs.List.{All, list_all}
use Rattle.serde_json.specs.Data.{depth, items_depth}
use Rattle.serde_json.specs.Read.{max_depth}
use Rattle.serde_json.specs.View.{items_of}
use Rattle.basics.proofs.Booleans.{and_both}
use Rattle.wf_talk.specs.declared.request.Ask.{Ask}
use Rattle.wf_talk.specs.declared.reply.Reply.{Reply}
use Rattle.wf_talk.specs.declared.reply.Reply.TheVariants as reply
use Rattle.policy_book.specs.Laws.Shapes.{PolicyShape}
use Rattle.wire_json.specs.Entries.{named}
use Rattle.wire_json.specs.Replies.{entry_data, entry_text}
use Rattle.entry_reader.specs.declared.place.Place.{Place}
use Rattle.entry_reader.specs.Named.{HasNames}
use Rattle.entry_reader.specs.Places.{place_of_line}
use Rattle.entry_reader.specs.Laws.Lines.{HasReply, IsLineOf, concerned, entry_at}
use Rattle.entry_reader.specs.Plain.{IsPlainReply, IsGuessed}
use Rattle.entry_reader.specs.Laws.Within.{IsReply}
use Rattle.entry_reader.proofs.LinesBack.{line_reply, line_place}

-- where a test passes for each item, it holds of each place
pub all_within : (n : ℕ) (xs : List ℕ) → list_all (λ x. nat_lt x n) xs ≡ true → All (λ x. x < n) xs
all_within n [] e k d lt = absurd (omega (arith, lt))
all_within n (x ∷ xs) e h3 d lt = grind (arith, ltb-true, and_both, (all_within n xs))

-- names nest in nothing
pub names_flat : (names : List (List ℕ)) (ns : List ℕ) → items_depth (items_of (map (named names) ns)) ≡ 0
names_flat names [] = refl
names_flat names (n ∷ ns) = ap (max 0) (names_flat names ns)

plain_nests : (p : PolicyShape) (place : Place) (a : Ask) (r : Reply) → IsPlainReply p r → depth (entry_data p (entry_at place a r)) ≤ max_depth
plain_nests p place a r h = grind (arith, names_flat)

plain_within : (p : PolicyShape) (flows : ℕ → Option ℕ) (f : Option ℕ) (r : Reply) → IsPlainReply p r → IsReply p flows f r
plain_within p flows f r h = grind arith

guessed_nests : (p : PolicyShape) (flows : ℕ → Option ℕ) (f : Option ℕ) (place : Place) (a : Ask) (r : Reply) → IsGuessed p flows f r
    → depth (entry_data p (entry_at place a r)) ≤ max_depth
guessed_nests p flows f place a (reply.Denied d) h = omega (arith, h.1)
guessed_nests p flows f place a given h = plain_nests p place a given h

guessed_within : (p : PolicyShape) (flows : ℕ → Option ℕ) (f : Option ℕ) (r : Reply) → IsGuessed p flows f r → IsReply p flows f r
guessed_within p flows f r h = grind (arith, plain_within)

-- a plain reply is one that is guessed, whatever is concerned
pub plain_guessed : (p : PolicyShape) (flows : ℕ → Option ℕ) (f : Option ℕ) (r : Reply) → IsPlainReply p r → IsGuessed p flows f r
plain_guessed p flows f r h = grind arith

guessed_line : (p : PolicyShape) (flows : ℕ → Option ℕ) (text : List ℕ) (place : Place) (a : Ask) (r : Reply) → IsGuessed p flows (concerned p flows a) r
    → place.at < 2 ^ 32 → place.lane < 2 ^ 8 → place.line < 2 ^ 32 → entry_text p (entry_at place a r) ≡ text → IsLineOf p flows text (entry_at place a r)
guessed_line p flows text place a r h first lane line same =
    let o = concerned p flows a in
    record {
      entry = record { place = first; lane = lane; line = line; reply = guessed_within p flows o r h; nests = guessed_nests p flows o place a r h };
      written = same;
    }

pub guessed_reply : (p : PolicyShape) (flows : ℕ → Option ℕ) (text : List ℕ) (place : Place) (a : Ask) (r : Reply) → HasNames p
    → IsGuessed p flows (concerned p flows a) r
    → place.at < 2 ^ 32 → place.lane < 2 ^ 8 → place.line < 2 ^ 32 → entry_text p (entry_at place a r) ≡ text → HasReply p flows a text r
guessed_reply p flows text place a r k h first lane line same = line_reply p flows a text place r k (guessed_line p flows text place a r h first lane line same)

pub guessed_place : (p : PolicyShape) (flows : ℕ → Option ℕ) (text : List ℕ) (place : Place) (a : Ask) (r : Reply) → HasNames p
    → IsGuessed p flows (concerned p flows a) r
    → place.at < 2 ^ 32 → place.lane < 2 ^ 8 → place.line < 2 ^ 32 → entry_text p (entry_at place a r) ≡ text → place_of_line text ≡ Some place
guessed_place p flows text place a r k h first lane line same = line_place p flows a text place r k (guessed_line p flows text place a r h first lane line same)
