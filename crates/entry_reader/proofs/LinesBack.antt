-- A line is read as the entry whose text it is.
use Rattle.std.proofs.Common.{◌≡◌, ◌≢◌, ℕ, ◌<◌, ◌^◌, List, refl, sym, ap, ◌∙◌, subst, lt-ltb, arith}
use Rattle.std.specs.Prelude.{codes, Option, Some, None, option_and_then}
use Rattle.serde_json.specs.Data.{Data}
use Rattle.serde_json.specs.Find.{get}
use Rattle.wf_talk.specs.declared.entry.Entry.{Entry}
use Rattle.wf_talk.specs.declared.request.Ask.{Ask}
use Rattle.wf_talk.specs.declared.reply.Reply.{Reply}
use Rattle.policy_book.specs.Laws.Shapes.{PolicyShape}
use Rattle.wire_json.specs.Replies.{entry_data, entry_text}
use Rattle.wire_json.specs.Values.{value_of}
use Rattle.entry_reader.specs.declared.place.Place.{Place}
use Rattle.entry_reader.specs.Named.{HasNames}
use Rattle.entry_reader.specs.Places.{place_read, place_of_line}
use Rattle.refutation_tree.specs.Tree.{Shape}
use Rattle.wire_json.specs.Trees.{tree_data}
use Rattle.entry_reader.proofs.TreesBack.{tree_is, tree_back}
use Rattle.entry_reader.specs.Laws.Within.{IsTree}
use Rattle.entry_reader.specs.Laws.Lines.{concerned, IsEntry, IsLineOf, entry_at, HasReply, HasNoReply}
use Rattle.entry_reader.specs.Values.{at_key, tree_in}
use Rattle.entry_reader.specs.Told.{reply_read, entry_read, entry_of_line}
use Rattle.entry_reader.proofs.Readings.{and_then_some, map_some, none_some, some_same}
use Rattle.entry_reader.proofs.ReadBack.{line_back, shallow}
use Rattle.entry_reader.proofs.PlainReplies.{Fits, plain_entry}
use Rattle.entry_reader.proofs.RepliesBack.{reply_back}
use Rattle.entry_reader.proofs.RepliesWithin.{number_within, reply_within}

fits : (p : PolicyShape) (flows : ℕ → Option ℕ) (e : Entry) → IsEntry p flows e → Fits p flows e
fits p flows e h = record { place = h.place; lane = h.lane; line = h.line; reply = h.reply }

-- ---- from the entry to what is read

place_back : (p : PolicyShape) (flows : ℕ → Option ℕ) (e : Entry) → IsEntry p flows e → place_read
    (entry_data p e) ≡ Some (record { at = e.at; lane = e.lane; line = e.line })
place_back p flows e h = rw (lt-ltb e.at (2 ^ 32) h.place, lt-ltb e.lane (2 ^ 8) h.lane, lt-ltb e.line (2 ^ 32) h.line) refl

entry_back : (p : PolicyShape) (flows : ℕ → Option ℕ) (e : Entry) → HasNames p → IsEntry p flows e → entry_read p flows e.ask (entry_data p e) ≡ Some e
unfolding entry_read
entry_back p flows e k h = grind (arith, place_back, reply_back)

value_back : (p : PolicyShape) (flows : ℕ → Option ℕ) (text : List ℕ) (e : Entry) → HasNames p → IsLineOf p flows text e → value_of text ≡ Some (entry_data p e)
unfolding entry_text
value_back p flows text e k h =
    ap value_of (sym h.written) ∙ line_back (entry_data p e) (plain_entry p flows e k (fits p flows e h.entry)) h.entry.nests

-- a line of an entry names the entry's place
pub line_placed : (p : PolicyShape) (flows : ℕ → Option ℕ) (text : List ℕ) (e : Entry) → HasNames p → IsLineOf p flows text e →
    place_of_line text ≡ Some (record { at = e.at; lane = e.lane; line = e.line })
unfolding place_of_line
line_placed p flows text e k h = ap (option_and_then place_read) (value_back p flows text e k h) ∙ place_back p flows e h.entry

line_told : (p : PolicyShape) (flows : ℕ → Option ℕ) (text : List ℕ) (e : Entry) → HasNames p → IsLineOf p flows text e →
    entry_of_line p flows e.ask text ≡ Some e
unfolding entry_of_line
line_told p flows text e k h =
    ap (option_and_then (entry_read p flows e.ask)) (value_back p flows text e k h) ∙ entry_back p flows e k h.entry

told_for : (p : PolicyShape) (flows : ℕ → Option ℕ) (a : Ask) (text : List ℕ) (e : Entry) → HasNames p → e.ask ≡ a → IsLineOf p flows text e →
    entry_of_line p flows a text ≡ Some e
told_for p flows a text e k same h = subst (λ (b : Ask). entry_of_line p flows b text ≡ Some e) same (line_told p flows text e k h)

-- ---- from what is read to the entry

-- a line has a place and a reply, and these are the entry's
pub record IsTold (p : PolicyShape) (flows : ℕ → Option ℕ) (a : Ask) (text : List ℕ) (e : Entry) : Type 0 where
  pub value : Data
  pub place : Place
  pub reply : Reply
  pub read : value_of text ≡ Some value
  pub placed : place_read value ≡ Some place
  pub replied : at_key (reply_read p flows (concerned p flows a)) (codes "reply") value ≡ Some reply
  pub entry : entry_at place a reply ≡ e

told_parts : (p : PolicyShape) (flows : ℕ → Option ℕ) (a : Ask) (text : List ℕ) (e : Entry) → entry_of_line p flows a text ≡ Some e → IsTold p flows a text e
unfolding entry_of_line entry_read
told_parts p flows a text e h = grind (arith, and_then_some, map_some)

-- the numbers of a place fit
pub record PlaceFits (place : Place) : Type 0 where
  pub first : place.at < 2 ^ 32
  pub lane : place.lane < 2 ^ 8
  pub line : place.line < 2 ^ 32

place_fits : (d : Data) (place : Place) → place_read d ≡ Some place → PlaceFits place
place_fits d place e = grind (arith, and_then_some, map_some, number_within)

place_named : (p : PolicyShape) (flows : ℕ → Option ℕ) (a : Ask) (text : List ℕ) (e : Entry) → (t : IsTold p flows a text e) → place_of_line text ≡ Some t.place
unfolding place_of_line
place_named p flows a text e t = ap (option_and_then place_read) t.read ∙ t.placed

told_line : (p : PolicyShape) (flows : ℕ → Option ℕ) (a : Ask) (text : List ℕ) (e : Entry) → HasNames p → (t : IsTold p flows a text e) →
    entry_text p (entry_at t.place a t.reply) ≡ text
    → IsLineOf p flows text (entry_at t.place a t.reply)
unfolding entry_text
told_line p flows a text e k t same =
    let at_place = place_fits t.value t.place t.placed in
    let found = and_then_some (get (codes "reply") t.value) (reply_read p flows (concerned p flows a)) t.reply t.replied in
    let here : Fits p flows (entry_at t.place a t.reply) = record {
      place = at_place.first;
      lane = at_place.lane;
      line = at_place.line;
      reply = reply_within p flows (concerned p flows a) found.found t.reply found.then_;
    } in
    record {
      entry = record {
        place = here.place;
        lane = here.lane;
        line = here.line;
        reply = here.reply;
        nests = shallow (entry_data p (entry_at t.place a t.reply)) t.value (plain_entry p flows (entry_at t.place a t.reply) k here)
            (ap value_of same ∙ t.read);
      };
      written = same;
    }

with_parts : (p : PolicyShape) (flows : ℕ → Option ℕ) (a : Ask) (text : List ℕ) (e : Entry) → HasNames p → entry_of_line p flows a text ≡ Some e →
    entry_text p e ≡ text
    → (t : IsTold p flows a text e) → HasReply p flows a text e.reply
with_parts p flows a text e k read same t =
    subst (λ (x : Entry). HasReply p flows a text x.reply) t.entry (record {
      place = t.place;
      named = place_named p flows a text e t;
      line = told_line p flows a text e k t (ap (entry_text p) t.entry ∙ same);
      alone = λ d asks h. some_same d (entry_at t.place a t.reply) (sym (told_for p flows a text d k asks h) ∙ read ∙ ap Some (sym t.entry));
    })

-- ---- what the code rests on

pub has_reply : (p : PolicyShape) (flows : ℕ → Option ℕ) (a : Ask) (text : List ℕ) (e : Entry) → HasNames p → entry_of_line p flows a text ≡ Some e →
    entry_text p e ≡ text → HasReply p flows a text e.reply
has_reply p flows a text e k read same = with_parts p flows a text e k read same (told_parts p flows a text e read)

-- the place and the reply of a line that is the text of an entry
pub line_place : (p : PolicyShape) (flows : ℕ → Option ℕ) (a : Ask) (text : List ℕ) (place : Place) (r : Reply) → HasNames p →
    IsLineOf p flows text (entry_at place a r) → place_of_line text ≡ Some place
unfolding place_of_line
line_place p flows a text place r k h =
    ap (option_and_then place_read) (value_back p flows text (entry_at place a r) k h) ∙ place_back p flows (entry_at place a r) h.entry

pub line_reply : (p : PolicyShape) (flows : ℕ → Option ℕ) (a : Ask) (text : List ℕ) (place : Place) (r : Reply) → HasNames p →
    IsLineOf p flows text (entry_at place a r) → HasReply p flows a text r
line_reply p flows a text place r k h = record {
  place = place;
  named = line_place p flows a text place r k h;
  line = h;
  alone = λ d asks other. some_same d (entry_at place a r) (sym (told_for p flows a text d k asks other) ∙ line_told p flows text (entry_at place a r) k h);
}

pub not_told : (p : PolicyShape) (flows : ℕ → Option ℕ) (a : Ask) (text : List ℕ) → HasNames p → entry_of_line p flows a text ≡ None → HasNoReply p flows a text
not_told p flows a text k none e asks h = none_some e (sym none ∙ told_for p flows a text e k asks h)

pub not_written : (p : PolicyShape) (flows : ℕ → Option ℕ) (a : Ask) (text : List ℕ) (e : Entry) → HasNames p → entry_of_line p flows a text ≡ Some e →
    entry_text p e ≢ text → HasNoReply p flows a text
not_written p flows a text e k read other = grind (arith, some_same, told_for)

-- ---- trees

pub tree_told : (p : PolicyShape) (f : ℕ) (d : Data) (t : Shape) → tree_in p f d ≡ Some t → IsTree p f t × (tree_data p f t ≡ d)
tree_told p f d t e = let r = tree_is p f d t e in (r.tree, r.written)

pub no_tree : (p : PolicyShape) (f : ℕ) (d : Data) → HasNames p → tree_in p f d ≡ None → (t : Shape) → IsTree p f t → tree_data p f t ≢ d
no_tree p f d k none t h e = none_some t (sym none ∙ ap (tree_in p f) (sym e) ∙ tree_back p f t k h)
