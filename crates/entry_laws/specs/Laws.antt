-- Every entry of a legal history is a line that the reader of transcripts accepts.
pub mod Fits
pub mod Transcripts
use Rattle.std.specs.Prelude.{◌≡◌, ◌≢◌, ℕ, ◌+◌, ◌<◌, ◌≤◌, ◌^◌, Bool, false, true, List, [], ◌∷◌}
use Rattle.std.specs.Prelude.{◌++◌, length, Option, option_map}
use Rattle.std.specs.List.{All}
use Rattle.wf_names.specs.Table.{AreNames}
use Rattle.wf_names.specs.declared.limits.TheConstants.{STEP_LIMIT, TRANSCRIPT_LINE_LIMIT}
use Rattle.policy_book.specs.Laws.Shapes.{PolicyShape}
use Rattle.policy_book.specs.Policies.{flow_at}
use Rattle.policy_book.specs.Laws.Facts.{IsSoundPolicy}
use Rattle.wf_talk.specs.declared.entry.Entry.{Entry}
use Rattle.wf_talk.specs.declared.reply.Reply.{Reply}
use Rattle.wf_talk.specs.declared.reply.Reply.TheVariants as reply
use Rattle.wf_talk.specs.declared.reply.Denial.TheVariants as denial
use Rattle.wf_talk.specs.Jobs.{IsNamedAsk}
use Rattle.wf_board.specs.Laws.States.{State, numbered_case, opening_state}
use Rattle.wf_board.specs.Laws.Histories.{IsLegal, state_after}
use Rattle.wf_board.specs.Limits.{shows_large}
use Rattle.wire_json.specs.Replies.{entry_text}
use Rattle.entry_reader.specs.Laws.Lines.{IsEntry, IsLineOf}

-- which workflow each case of a state is of
abbrev pub flows_of : State → ℕ → Option ℕ
flows_of s n = option_map (λ c. c.flow) (numbered_case s.book.cases n)

-- no workflow has more steps than the limit
abbrev pub HasFewSteps : PolicyShape → Type 0
HasFewSteps p = (f : ℕ) → f < length p.flows → length (flow_at p f).flow.steps ≤ STEP_LIMIT

-- an entry is the last of a legal history of a sound policy, and place, lane, line and rounds fit
pub record IsLastOf (p : PolicyShape) (rounds : ℕ) (entries : List Entry) (e : Entry) : Type 0 where
  pub policy : IsSoundPolicy p
  pub steps : HasFewSteps p
  pub legal : IsLegal (opening_state p) rounds (entries ++ e ∷ [])
  pub few_rounds : rounds < 2 ^ 8
  pub few_entries : length entries + 1 < 2 ^ 32
  pub lane : e.lane < 2 ^ 8
  pub line : e.line < 2 ^ 32
  pub named : IsNamedAsk e.ask

-- the text of the last entry, with the names of the policy after it, is a line of it in the state
-- before it
abbrev pub EntriesAreLines : Type 0
EntriesAreLines =
    (p : PolicyShape) (rounds : ℕ) (entries : List Entry) (e : Entry) →
    IsLastOf p rounds entries e →
    let before = state_after (opening_state p) entries in
    let after = state_after (opening_state p) (entries ++ e ∷ []) in
    IsLineOf before.book.policy (flows_of before) (entry_text after.book.policy e) e

-- a text has LF at its end and nowhere else
pub record IsOneLine (text : List ℕ) : Type 0 where
  pub front : List ℕ
  pub ends : text ≡ front ++ 10 ∷ []
  pub inside : All (λ b. b ≢ 10) front

-- the text of every entry does
abbrev pub TextsAreLines : Type 0
TextsAreLines = (p : PolicyShape) (e : Entry) → IsOneLine (entry_text p e)

-- the names of users and steps have a name's form
pub record HasNameForms (p : PolicyShape) : Type 0 where
  pub users : AreNames p.roster.users
  pub steps : (f : ℕ) → AreNames (flow_at p f).flow.steps

-- a reply that denies by a tree
abbrev pub is_by_tree : Reply → Bool
is_by_tree (reply.Denied (denial.Unsatisfiable f tree)) = true
is_by_tree (reply.Denied (denial.Stranded f tree)) = true
is_by_tree (reply.Denied (denial.Strands n f tree)) = true
is_by_tree given = false

-- the text of an entry that denies by a tree which is not too large is, without its LF, no longer
-- than a line of an audit
abbrev pub TreesFitLines : Type 0
TreesFitLines =
    (p : PolicyShape) (flows : ℕ → Option ℕ) (e : Entry) → HasNameForms p → IsEntry p flows e →
    is_by_tree e.reply ≡ true → shows_large e.reply ≡ false →
    length (entry_text p e) ≤ TRANSCRIPT_LINE_LIMIT + 1
