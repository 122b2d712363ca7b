-- What a board answers shows no tree that is too large.
use Rattle.wf_board.proofs.Common.{◌≡◌, ℕ, inl, inr, true, false, Result, Err, refl, arith, bool_cases, CasesShape, PolicyShape, Ask, Reply}
use Rattle.wf_board.proofs.Common.{Denial, Deed, Verdict, Answered, has_no_tree, BoardShape, book_of, state_on, decision_of, needs_plan, needs_verdict, State}
use Rattle.wf_board.proofs.Common.{Answers, IsReplyTo, IsKept, board_of, shows_large, HasAnswered, IsMadeOf}
use Rattle.wf_talk.specs.declared.reply.Reply.TheVariants as reply
use Rattle.wf_board.specs.declared.verdict.Answered.TheVariants as answered
use Rattle.wf_board.specs.declared.verdict.Stepped.{Stepped}
use Rattle.wf_board.specs.Deeds.{HasStepped, IsLeftTo, answered_of}
use Rattle.wf_board.specs.Taking.{HasAnsweredAlone, HasAnsweredBy}
use Rattle.wf_board.specs.Verdicts.{HasUsed, has_shown_large, is_unusable}
use Rattle.wf_board.proofs.Admission.{cause_bare}

-- a reply that is made of a verdict
made_small : (v : Verdict) (given : Reply) → IsMadeOf v given → shows_large given ≡ false
made_small v given made = grind arith

bare_small : (d : Denial) → has_no_tree d ≡ true → shows_large (reply.Denied d) ≡ false
bare_small d bare = grind arith

-- a reply to a deed that needs no verdict
deed_small : (s : State) (d : Deed) (given : Reply) → IsReplyTo s d given → needs_plan d ≡ false → shows_large given ≡ false
deed_small s d given is none = grind arith

-- a reply where no verdict is needed
plain_small : (s : State) (r : Result Deed Denial) (given : Reply) → ((d : Denial) → r ≡ Err d → has_no_tree d ≡ true) → Answers s r given →
    needs_verdict r ≡ false → shows_large given ≡ false
plain_small s r given bare is none = grind (arith, deed_small, bare_small)

-- what is answered with a verdict where one is needed
pub answered_small : (before after : BoardShape) (what : Ask) (v : Verdict) (given : Answered) → HasAnswered before after what v given →
    (needs_verdict (decision_of (state_on before).book what) ≡ true → HasUsed v given) → has_shown_large given ≡ false
answered_small before after what v answered.Needs is used = refl
answered_small before after what v (answered.Done given) is used =
    let b = (state_on before).book in
    elim (bool_cases (needs_verdict (decision_of b what))) [
      | inl needs ↦ made_small v given (used needs)
      | inr none ↦ plain_small (state_on before) (decision_of b what) given (λ d denied. cause_bare b what d denied) is.0 none
    ]

-- what is answered with none
pub stepped_small : (p : PolicyShape) (before after : CasesShape) (edits : ℕ) (what : Ask) (given : Stepped) →
    HasAnsweredAlone p before after (decision_of (book_of p before) what) (answered_of given) → IsLeftTo p before what given →
    HasStepped (board_of p before edits) (board_of p after edits) what given
stepped_small p before after edits what given alone left = grind (arith, plain_small, cause_bare)

-- what was answered without one
pub done_unusable : (p : PolicyShape) (before after : CasesShape) (what : Ask) (v : Verdict) (given : Reply) → is_unusable v ≡ true →
    HasAnsweredAlone p before after (decision_of (book_of p before) what) (answered.Done given) → HasAnsweredBy p before after what v (answered.Done given)
done_unusable p before after what v given unusable alone = grind arith

-- and where one is needed
pub needed_unusable : (p : PolicyShape) (before after : CasesShape) (what : Ask) (v : Verdict) → is_unusable v ≡ true → IsKept p before →
    HasAnsweredAlone p before after (decision_of (book_of p before) what) answered.Needs → HasAnsweredBy p before after what v (answered.Done reply.NoMemory)
needed_unusable p before after what v unusable kept alone = grind arith
