-- The text of each entry of a legal history is a line of it.
use Rattle.entry_laws.proofs.Common.{◌≡◌, ℕ, ◌+◌, ◌<◌, ◌≤◌, ◌^◌, ◌⊎◌, inl, inr, false, List, [], ◌∷◌, ◌++◌, length, Option, sym, ap, subst, arith, append_assoc}
use Rattle.entry_laws.proofs.Common.{append-nil, depth, PolicyShape, IsSoundPolicy, STEP_LIMIT, Entry, Ask, Reply, State, opening_state, KeepsNames, IsStep}
use Rattle.entry_laws.proofs.Common.{state_after_step, EachAfter, IsRightAfter, after_more, reply_data, IsEntry, concerned, HasFewSteps, IsLastOf, flows_of}
use Rattle.wf_talk.specs.declared.reply.Reply.TheVariants as reply
use Rattle.wf_board.specs.Counting.{is_edited}
use Rattle.wf_board.specs.Laws.Histories.{IsRetry, state_after}
use Rattle.wf_board.proofs.HistoryLaws.{again_stays, edits_within, policy_stays}
use Rattle.wf_board.proofs.Counted.{end_within}
use Rattle.wf_board.proofs.Keeping.{step_keeps}
use Rattle.wire_json.specs.Replies.{entry_text}
use Rattle.wire_json.proofs.Lines.{text_same}
use Rattle.entry_laws.specs.Laws.{EntriesAreLines}
use Rattle.entry_laws.proofs.Names.{step_keeps_names}
use Rattle.entry_laws.proofs.Numbers.{step_serial}
use Rattle.entry_laws.proofs.Replies.{FitsReply, IsReached, step_fits}

-- ---- what each step keeps

few_kept : (p q : PolicyShape) → KeepsNames p q → HasFewSteps p → HasFewSteps q
few_kept p q keeps few f below = subst (λ (m : ℕ). m ≤ STEP_LIMIT) (sym (ap length (keeps.steps f))) (few f (subst (λ m. f < m) keeps.flows below))

step_reached : (s : State) (what : Ask) (answer : Reply) → IsReached s → IsStep s what answer → IsReached (state_after_step s what answer)
step_reached s what answer is step =
    let keeps = step_keeps s what answer (is.sound, is.kept) step in
    record {
      sound = keeps.0;
      kept = keeps.1;
      few = few_kept s.book.policy (state_after_step s what answer).book.policy (step_keeps_names s what answer is.sound) is.few;
      serial = step_serial s what answer is.serial;
    }

pub entry_reached : (start : State) (rounds : ℕ) (earlier : List Entry) (e : Entry) → IsReached (state_after start earlier) →
    IsRightAfter start rounds earlier e
    → IsReached (state_after start (earlier ++ e ∷ []))
entry_reached start rounds earlier e is right = grind (arith, after_more, step_reached, again_stays)

pub opening_reached : (p : PolicyShape) → IsSoundPolicy p → HasFewSteps p → IsReached (opening_state p)
opening_reached p sound few = grind arith

-- what is known behind some entries, and of the entry that comes behind more of them
record IsKnownLast (start : State) (rounds : ℕ) (earlier : List Entry) (e : Entry) : Type 0 where
  reached : IsReached (state_after start earlier)
  right : IsRightAfter start rounds earlier e

last_known : (start : State) (rounds : ℕ) (earlier entries : List Entry) (e : Entry) → IsReached (state_after start earlier)
    → EachAfter (IsRightAfter start rounds) earlier (entries ++ e ∷ []) → IsKnownLast start rounds (earlier ++ entries) e
last_known start rounds earlier [] e is each = subst (λ es. IsKnownLast start rounds es e) (sym (append-nil earlier)) record { reached = is; right = each.0 }
last_known start rounds earlier (x ∷ xs) e is each =
    grind (arith, append_assoc, entry_reached, (last_known start rounds (earlier ++ x ∷ []) xs e (entry_reached start rounds earlier x is each.0) each.1))

-- ---- the text

reply_same : (p q : PolicyShape) (r : Reply) → (is_edited r ≡ false → q ≡ p) → reply_data q r ≡ reply_data p r
reply_same p q r same = grind arith

-- the text of an entry is the same with the names of the policy after it
pub text_stays : (start : State) (entries : List Entry) (e : Entry)
    → entry_text (state_after start (entries ++ e ∷ [])).book.policy e ≡ entry_text (state_after start entries).book.policy e
text_stays start entries e = grind (arith, after_more, text_same, reply_same, policy_stays)

-- ---- the reply

again_fits : (s : State) (o : Option ℕ) (answer : Reply) (n place : ℕ) → answer ≡ reply.Again n place → n < 2 ^ 8 → place < 2 ^ 32 →
    FitsReply s.book.policy (flows_of s) o answer
again_fits s o answer n place is few below = subst (FitsReply s.book.policy (flows_of s) o) (sym is) ((few, below), omega arith)

retry_fits : (start : State) (rounds : ℕ) (entries : List Entry) (e : Entry) → IsRetry start rounds entries e → rounds < 2 ^ 8 → length entries + 1 < 2 ^ 32
    → FitsReply (state_after start entries).book.policy (flows_of (state_after start entries))
    (concerned (state_after start entries).book.policy (flows_of (state_after start entries)) e.ask) e.reply
retry_fits start rounds entries e retry few short = grind (arith, end_within, again_fits)

entry_fits : (p : PolicyShape) (rounds : ℕ) (entries : List Entry) (e : Entry) → IsLastOf p rounds entries e → IsKnownLast (opening_state p) rounds entries e
    → IsEntry (state_after (opening_state p) entries).book.policy (flows_of (state_after (opening_state p) entries)) e
entry_fits p rounds entries e is known = record {
  place = omega (arith, at, short);
  lane = is.lane;
  line = is.line;
  reply = fits.0;
  nests = omega (arith, nests);
}
  where
    s : State
    s = state_after (opening_state p) entries

    at : e.at ≡ length entries
    at = known.right.0

    short : length entries + 1 < 2 ^ 32
    short = is.few_entries

    edits : s.edits + 1 < 2 ^ 32
    edits = let within = edits_within p entries in omega (arith, within, short)

    by_reply : IsStep s e.ask e.reply ⊎ IsRetry (opening_state p) rounds entries e →
        FitsReply s.book.policy (flows_of s) (concerned s.book.policy (flows_of s) e.ask) e.reply
    by_reply (inl step) = step_fits s e.ask e.reply edits known.reached is.named step
    by_reply (inr retry) = retry_fits (opening_state p) rounds entries e retry is.few_rounds short

    fits : FitsReply s.book.policy (flows_of s) (concerned s.book.policy (flows_of s) e.ask) e.reply
    fits = by_reply known.right.1

    nests : depth (reply_data s.book.policy e.reply) ≤ 90
    nests = fits.1

pub entries_are_lines : EntriesAreLines
entries_are_lines p rounds entries e is = record {
  entry = entry_fits p rounds entries e is (last_known (opening_state p) rounds [] entries e (opening_reached p is.policy is.steps) is.legal);
  written = sym (text_stays (opening_state p) entries e);
}
