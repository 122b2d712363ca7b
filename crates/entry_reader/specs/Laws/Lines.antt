-- The entries whose text is a line of a transcript.
use Rattle.std.specs.Prelude.{◌≡◌, ℕ, ◌<◌, ◌≤◌, ◌^◌, List, Option, None, Some}
use Rattle.serde_json.specs.Data.{depth}
use Rattle.serde_json.specs.Read.{max_depth}
use Rattle.wf_names.specs.Table.{place_of}
use Rattle.wf_talk.specs.declared.entry.Entry.{Entry}
use Rattle.wf_talk.specs.declared.request.Ask.{Ask}
use Rattle.wf_talk.specs.declared.request.Ask.TheVariants as ask
use Rattle.wf_talk.specs.declared.request.Request.{Request}
use Rattle.wf_talk.specs.declared.request.Request.TheVariants.{OpenCase, Claim, Finish, GiveBack}
use Rattle.wf_talk.specs.declared.request.Request.TheVariants.{Release, Withdraw, Change, Show}
use Rattle.wf_talk.specs.declared.request.Request.TheVariants.{Worklist, WhatIf}
use Rattle.wf_talk.specs.declared.reply.Reply.{Reply}
use Rattle.policy_book.specs.Laws.Shapes.{PolicyShape}
use Rattle.wire_json.specs.Replies.{entry_data, entry_text}
use Rattle.entry_reader.specs.declared.place.Place.{Place}
use Rattle.entry_reader.specs.Places.{place_of_line}
use Rattle.entry_reader.specs.Laws.Within.{IsReply}

-- the workflow that a request concerns: the one that it names, or the one of its case
abbrev pub concerned_by : PolicyShape → (ℕ → Option ℕ) → Request → Option ℕ
concerned_by p flows (OpenCase name) = place_of p.flow_names name
concerned_by p flows (Claim c step user) = flows c
concerned_by p flows (Finish c step user) = flows c
concerned_by p flows (GiveBack c step user) = flows c
concerned_by p flows (Release by c step) = flows c
concerned_by p flows (Withdraw by c) = flows c
concerned_by p flows (Change by edit) = None
concerned_by p flows (Show c) = flows c
concerned_by p flows (Worklist user) = None
concerned_by p flows (WhatIf by edit) = None

-- the workflow that an ask concerns
abbrev pub concerned : PolicyShape → (ℕ → Option ℕ) → Ask → Option ℕ
concerned p flows (ask.Request r) = concerned_by p flows r
concerned p flows (ask.Bad b) = None

-- an entry whose numbers fit and stand for something, and whose text nests no deeper than JSON is
-- read
pub record IsEntry (p : PolicyShape) (flows : ℕ → Option ℕ) (e : Entry) : Type 0 where
  pub place : e.at < 2 ^ 32
  pub lane : e.lane < 2 ^ 8
  pub line : e.line < 2 ^ 32
  pub reply : IsReply p flows (concerned p flows e.ask) e.reply
  pub nests : depth (entry_data p e) ≤ max_depth

-- a line is the text of an entry
pub record IsLineOf (p : PolicyShape) (flows : ℕ → Option ℕ) (text : List ℕ) (e : Entry) :
    Type 0 where
  pub entry : IsEntry p flows e
  pub written : entry_text p e ≡ text

-- the entry at a place, with its ask and its reply
abbrev pub entry_at : Place → Ask → Reply → Entry
entry_at place a r =
    record { at = place.at; lane = place.lane; line = place.line; ask = a; reply = r }

-- a line is the text of an entry for an ask that has this reply, at the place that the line names,
-- and of no other
pub record HasReply (p : PolicyShape) (flows : ℕ → Option ℕ) (a : Ask) (text : List ℕ)
    (r : Reply) : Type 0 where
  pub place : Place
  pub named : place_of_line text ≡ Some place
  pub line : IsLineOf p flows text (entry_at place a r)
  pub alone : (e : Entry) → e.ask ≡ a → IsLineOf p flows text e → e ≡ entry_at place a r

-- a line is the text of no entry for an ask
abbrev pub HasNoReply : PolicyShape → (ℕ → Option ℕ) → Ask → List ℕ → Type 0
HasNoReply p flows a text = (e : Entry) → e.ask ≡ a → ¬ IsLineOf p flows text e
