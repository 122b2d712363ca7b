-- The entries of a legal history are written with the names of the policy after them all.
use Rattle.wf_server.proofs.Common.{◌≡◌, ℕ, ◌⊎◌, inl, inr, List, [], ◌∷◌, ◌++◌, refl, sym, ap, subst, ◌∙◌, append_assoc, arith, PolicyShape, Entry, Ask, Reply}
use Rattle.wf_server.proofs.Common.{KeepsNames, State, opening_state, IsStep, EachAfter, IsRightAfter, after_all, IsSoundState, KeepsCompletable, reply_data}
use Rattle.wf_server.proofs.Common.{DeskShape, IsSoundDesk, transcript_text, AreSerial, entries_text, KeepsTexts}
use Rattle.wf_talk.specs.declared.reply.Reply.TheVariants as reply
use Rattle.wf_board.specs.Boards.{state_on}
use Rattle.wf_board.specs.Laws.Steps.{state_after_step}
use Rattle.wf_board.specs.Laws.Histories.{state_after}
use Rattle.wf_board.proofs.HistoryLaws.{after_more, again_stays, each_later}
use Rattle.wf_board.proofs.Keeping.{step_keeps}
use Rattle.wire_json.specs.Replies.{entry_text}
use Rattle.wire_json.proofs.Lines.{text_same}
use Rattle.entry_laws.proofs.Names.{keeps_same, keeps_then, step_keeps_names}
use Rattle.entry_laws.proofs.Numbers.{step_serial}
use Rattle.wf_server.proofs.NamesStep.{IsNamed, step_text}

-- a reply is a step, or it is answered again
abbrev IsStepOrAgain : State → Ask → Reply → Type 0
IsStepOrAgain s what given = IsStep s what given ⊎ ((n : ℕ) × ((place : ℕ) × (given ≡ reply.Again n place)))

abbrev AreSteps : State → List Entry → Type 0
AreSteps s [] = Unit {0}
AreSteps s (e ∷ es) = IsStepOrAgain s e.ask e.reply × AreSteps (state_after_step s e.ask e.reply) es

one_step : (start : State) (rounds : ℕ) (earlier : List Entry) (e : Entry) → IsRightAfter start rounds earlier e → IsStepOrAgain
    (state_after start earlier) e.ask e.reply
one_step start rounds earlier e h4 = grind arith

all_steps : (start : State) (rounds : ℕ) (earlier more : List Entry) → EachAfter (IsRightAfter start rounds) earlier more →
    AreSteps (state_after start earlier) more
all_steps start rounds earlier [] each = tt
all_steps start rounds earlier (e ∷ es) each = grind (arith, one_step, after_more, (all_steps start rounds (earlier ++ e ∷ []) es each.1))

-- what is known of a state and the one after an entry
record IsGoneOn (s : State) (what : Ask) (given : Reply) : Type 0 where
  next : IsNamed (state_after_step s what given)
  names : KeepsNames s.book.policy (state_after_step s what given).book.policy
  text : (q : PolicyShape) → KeepsNames s.book.policy q → reply_data q given ≡ reply_data s.book.policy given

goes_on : (s : State) (what : Ask) (given : Reply) → IsNamed s → IsStepOrAgain s what given → IsGoneOn s what given
goes_on s what given is (inl step) =
    let kept = step_keeps s what given (is.sound, is.kept) step in
    record {
      next = record { sound = kept.0; kept = kept.1; serial = step_serial s what given is.serial };
      names = step_keeps_names s what given is.sound;
      text = λ q keeps. step_text s q what given keeps is step;
    }
goes_on s what given is (inr again) =
    let same = again_stays s what given again.0 again.1.0 again.1.1 in
    record {
      next = subst IsNamed (sym same) is;
      names = keeps_same s.book.policy (state_after_step s what given).book.policy (ap (λ (t : State). t.book.policy) same);
      text = λ q keeps. subst (λ x. reply_data q x ≡ reply_data s.book.policy x) (sym again.1.1) refl;
    }

texts : (s : State) (es : List Entry) → IsNamed s → AreSteps s es
    → KeepsNames s.book.policy (state_after s es).book.policy × (transcript_text s es ≡ entries_text (state_after s es).book.policy es)
texts s [] is all = (keeps_same s.book.policy s.book.policy refl, refl)
texts s (e ∷ es) is all =
    let t = state_after_step s e.ask e.reply in
    let q = (state_after t es).book.policy in
    let gone = goes_on s e.ask e.reply is all.0 in
    let rest = texts t es gone.next all.1 in
    let keeps = keeps_then s.book.policy t.book.policy q gone.names rest.0 in
    let here : entry_text t.book.policy e ≡ entry_text q e =
    sym (text_same t.book.policy q e (gone.text q keeps ∙ sym (gone.text t.book.policy gone.names))) in (
      keeps,
      ap (λ x. x ++ transcript_text t es) here ∙ ap (λ x. entry_text q e ++ x) rest.1,
    )

serial_after : (s : State) (es : List Entry) → AreSerial s.book → AreSerial (state_after s es).book
serial_after s [] are = are
serial_after s (e ∷ es) are = serial_after (state_after_step s e.ask e.reply) es (step_serial s e.ask e.reply are)

-- of those behind the entries of a desk
pub desk_texts : (d : DeskShape) → IsSoundDesk d → IsSoundState (state_on d.board) → KeepsCompletable (state_on d.board) → KeepsTexts d
desk_texts d sound state kept more legal =
    let start = opening_state d.opening in
    let s = state_after start d.entries in
    let all = all_steps start d.rounds d.entries more (each_later (IsRightAfter start d.rounds) [] d.entries more legal) in
    (texts s more (record {
      sound = subst IsSoundState sound.state state;
      kept = subst KeepsCompletable sound.state kept;
      serial = serial_after start d.entries (record { numbers = tt; ever = refl; within = omega arith });
    }) all).1
    ∙ ap (λ (t : State). entries_text t.book.policy more) (sym (after_all start d.entries more))

-- ---- parts

-- what is written of a history with more entries
pub transcript_more : (s : State) (es more : List Entry) → transcript_text s (es ++ more) ≡ transcript_text s es ++ transcript_text (state_after s es) more
transcript_more s [] more = refl
transcript_more s (e ∷ es) more =
    let t = state_after_step s e.ask e.reply in
    ap (λ x. entry_text t.book.policy e ++ x) (transcript_more t es more)
    ∙ sym (append_assoc (entry_text t.book.policy e) (transcript_text t es) (transcript_text (state_after t es) more))
