use Rattle.std.proofs.Common.{◌≡◌, ◌&&◌, not, false, Result, Ok, Err, refl, sym, ap, subst, ◌∙◌}
use Rattle.wf_talk.specs.declared.reply.Denial.{Denial}
use Rattle.wf_board.specs.declared.deed.Deed.{Deed}
use Rattle.wf_board.specs.Boards.{state_on}
use Rattle.wf_board.specs.Decisions.{decision_of, needs_verdict}
use Rattle.wf_board.specs.Deeds.{is_harmless_deed, needs_search}
use Rattle.wf_desk.specs.Laws.Commits.{HasTakenUp, asks_search}
use Rattle.wf_desk.specs.Desks.{DeskShape}
use Rattle.wf_desk.specs.Keeping.{LeavesDeed}
use Rattle.wf_desk.proofs.desk.Desk.take_up.Goals as goal

-- what needs no verdict needs no search
unsearched : (r : Result Deed Denial) → needs_verdict r ≡ false → needs_search r ≡ false
unsearched (Ok given) none = ap (λ b. b && not (is_harmless_deed given)) none
unsearched (Err d) none = refl

pub take_up_left-requires-clause-left : goal.take_up_left-requires-clause-left
take_up_left-requires-clause-left g c =
    let next = c.has_next.ensures.some c.if-not-has_next.false in
    let looked = c.in-Some.ensures next.0 next.1 in
    subst (λ (d : DeskShape). LeavesDeed d c.args.lane c.in-Some.deed) (sym looked.0) (next.0, (next.1, looked.1.1))

pub returns-in-None : goal.returns-in-None
returns-in-None g c =
    let book = (state_on c.args.self.now.board).book in
    let next = c.has_next.ensures.some c.if-not-has_next.false in
    let looked = c.in-None.ensures next.0 next.1 in
    (ap (asks_search book) next.1 ∙ unsearched (decision_of book next.0.ask) looked.1, (next.0, (next.1, looked.0)))

pub returns-in-Some : goal.returns-in-Some
returns-in-Some g c =
    let next = c.has_next.ensures.some c.if-not-has_next.false in
    let looked = c.in-Some.ensures next.0 next.1 in
    subst (λ (d : DeskShape). HasTakenUp c.args.near d c.take_up_left.new.self c.args.lane c.take_up_left.result) looked.0 c.take_up_left.ensures
