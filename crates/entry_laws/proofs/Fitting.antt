-- Every line that is written of a legal history fits a line of an audit.
use Rattle.entry_laws.proofs.Common.{◌≡◌, ℕ, ◌+◌, ◌<◌, ◌≤◌, ◌^◌, inl, inr, false, List, [], ◌∷◌, ◌++◌, length, Option, append_assoc, append-nil, sym, subst}
use Rattle.entry_laws.proofs.Common.{◌∙◌, arith, length-append, TRANSCRIPT_LINE_LIMIT, PolicyShape, IsSoundPolicy, Entry, Reply, State, opening_state}
use Rattle.entry_laws.proofs.Common.{state_after_step, EachAfter, IsRightAfter, shows_large, after_more, IsEntry, HasNames, HasFewSteps, IsLastOf, flows_of}
use Rattle.entry_laws.proofs.Common.{is_by_tree}
use Rattle.basics.proofs.Booleans.{bool_cases}
use Rattle.wf_talk.specs.declared.reply.Reply.TheVariants as reply
use Rattle.wf_board.specs.Laws.Histories.{AreRightful, IsLegal, state_after}
use Rattle.wf_board.proofs.HistoryLaws.{each_later, each_more}
use Rattle.wire_json.specs.Replies.{entry_text}
use Rattle.entry_laws.specs.Laws.Fits.{AreOfLines, FitLines, LinesFit}
use Rattle.entry_laws.specs.Laws.Transcripts.{texts_of}
use Rattle.entry_laws.proofs.Entries.{entries_are_lines, entry_reached, opening_reached, text_stays}
use Rattle.entry_laws.proofs.Few.{HasFewOpen, step_few, step_open}
use Rattle.entry_laws.proofs.Long.{entry_fits, trees_fit_lines}
use Rattle.entry_laws.proofs.Names.{step_names}
use Rattle.entry_laws.proofs.Replies.{IsReached}
use Rattle.entry_laws.proofs.Short.{ListsFew, reply_short, shows_tree}

-- ---- an entry

tree_alike : (given : Reply) → is_by_tree given ≡ shows_tree given
tree_alike given = grind arith

-- an entry whose reply lists few, and shows no tree that is too large
entry_short : (p : PolicyShape) (flows : ℕ → Option ℕ) (e : Entry) → HasNames p → IsEntry p flows e → ListsFew e.reply → shows_large e.reply ≡ false →
    length (entry_text p e) ≤ TRANSCRIPT_LINE_LIMIT + 1
entry_short p flows e names is few small = elim (bool_cases (is_by_tree e.reply)) [
  | inl by_tree ↦ trees_fit_lines p flows e (record { users = names.users; steps = names.steps }) is by_tree small
  | inr other ↦
      let short = reply_short p flows _ e.reply names is.reply few (sym (tree_alike e.reply) ∙ other) in
      entry_fits p flows e is (omega (arith, short))
]

-- ---- a history

-- what is known behind entries
record IsKnown (p : PolicyShape) (rounds : ℕ) (earlier : List Entry) : Type 0 where
  pub legal : IsLegal (opening_state p) rounds earlier
  pub reached : IsReached (state_after (opening_state p) earlier)
  pub few : HasFewOpen (state_after (opening_state p) earlier)

known_more : (p : PolicyShape) (rounds : ℕ) (earlier : List Entry) (e : Entry) → IsKnown p rounds earlier →
    IsRightAfter (opening_state p) rounds earlier e → IsKnown p rounds (earlier ++ e ∷ [])
known_more p rounds earlier e known right = record {
  legal = each_more (IsRightAfter (opening_state p) rounds) [] earlier e known.legal right;
  reached = entry_reached (opening_state p) rounds earlier e known.reached right;
  few = subst HasFewOpen (sym (after_more (opening_state p) earlier e)) (step_open (state_after (opening_state p) earlier) e.ask e.reply known.few);
}

known_all : (p : PolicyShape) (rounds : ℕ) (earlier entries : List Entry) → IsKnown p rounds earlier →
    EachAfter (IsRightAfter (opening_state p) rounds) earlier entries → IsKnown p rounds (earlier ++ entries)
known_all p rounds earlier [] known each = subst (IsKnown p rounds) (sym (append-nil earlier)) known
known_all p rounds earlier (e ∷ es) known each =
    subst (IsKnown p rounds) (append_assoc earlier (e ∷ []) es) (known_all p rounds (earlier ++ e ∷ []) es (known_more p rounds earlier e known each.0) each.1)

each_front : (P : List Entry → Entry → Type 0) (earlier entries more : List Entry) → EachAfter P earlier (entries ++ more) → EachAfter P earlier entries
each_front P earlier [] more each = tt
each_front P earlier (e ∷ es) more each = (each.0, each_front P (earlier ++ e ∷ []) es more each.1)

-- the reply of an entry lists few
right_few : (p : PolicyShape) (rounds : ℕ) (earlier : List Entry) (e : Entry) → IsKnown p rounds earlier → IsRightAfter (opening_state p) rounds earlier e →
    ListsFew e.reply
right_few p rounds earlier e known right = grind (arith, step_few)

-- its text fits, with the names of the policy after it
next_fits : (p : PolicyShape) (rounds : ℕ) (earlier : List Entry) (e : Entry) → IsLastOf p rounds earlier e →
    HasNames (state_after (opening_state p) earlier).book.policy → ListsFew e.reply →
    shows_large e.reply ≡ false →
    length (entry_text (state_after_step (state_after (opening_state p) earlier) e.ask e.reply).book.policy e) ≤ TRANSCRIPT_LINE_LIMIT + 1
next_fits p rounds earlier e last names few small =
    let s = state_after (opening_state p) earlier in
    let fits = entry_short s.book.policy (flows_of s) e names (entries_are_lines p rounds earlier e last).entry few small in
    subst (λ (t : State). length (entry_text t.book.policy e) ≤ TRANSCRIPT_LINE_LIMIT + 1) (after_more (opening_state p) earlier e)
    (subst (λ text. length text ≤ TRANSCRIPT_LINE_LIMIT + 1) (sym (text_stays (opening_state p) earlier e)) fits)

-- what does not change along a history
record IsSession (p : PolicyShape) (rounds : ℕ) : Type 0 where
  policy : IsSoundPolicy p
  steps : HasFewSteps p
  few_rounds : rounds < 2 ^ 8

fit_from : (p : PolicyShape) (rounds : ℕ) (earlier entries : List Entry) → IsSession p rounds → IsKnown p rounds earlier →
    length earlier + length entries < 2 ^ 32 →
    HasNames (state_after (opening_state p) earlier).book.policy → AreOfLines entries → AreRightful entries →
    EachAfter (IsRightAfter (opening_state p) rounds) earlier entries →
    FitLines (texts_of (state_after (opening_state p) earlier) entries)
fit_from p rounds earlier [] session known short names lines rightful each = tt
fit_from p rounds earlier (e ∷ es) session known short names lines rightful each =
    let s = state_after (opening_state p) earlier in
    let more = known_more p rounds earlier e known each.0 in
    let last : IsLastOf p rounds earlier e = record {
      policy = session.policy;
      steps = session.steps;
      legal = more.legal;
      few_rounds = session.few_rounds;
      few_entries = omega (arith, short);
      lane = lines.0.lane;
      line = lines.0.line;
      named = lines.0.named;
    } in
    let after = after_more (opening_state p) earlier e in
    let named = step_names s e.ask e.reply known.reached.sound lines.0.adds names in (
      next_fits p rounds earlier e last names (right_few p rounds earlier e known each.0) rightful.0.1,
      subst (λ (t : State). FitLines (texts_of t es)) after
          (fit_from p rounds (earlier ++ e ∷ []) es session more (omega (arith, short, length-append earlier (e ∷ [])))
          (subst (λ (t : State). HasNames t.book.policy) (sym after) named) lines.1 rightful.1 each.1),
    )

pub lines_fit : LinesFit
lines_fit p rounds earlier entries is =
    let right = IsRightAfter (opening_state p) rounds in
    let first : IsKnown p rounds [] = record { legal = tt; reached = opening_reached p is.policy is.steps; few = omega arith } in
    fit_from p rounds earlier entries (record { policy = is.policy; steps = is.steps; few_rounds = is.few_rounds })
    (known_all p rounds [] earlier first (each_front right [] earlier entries is.legal)) is.few_entries is.names is.lines is.rightful
    (each_later right [] earlier entries is.legal)
