use Rattle.std.proofs.Common.{◌≡◌, ◌&&◌, nat_le, true, false, not, Bool, refl, sym, subst, ◌∙◌}
use Rattle.wf_board.specs.declared.verdict.Verdict.TheVariants as verdicts
use Rattle.wf_board.specs.Boards.{state_on}
use Rattle.wf_board.specs.Decisions.{decision_of, is_view, needs_verdict}
use Rattle.wf_desk.specs.Laws.Commits.{IsReplyWhere, floor_of, is_lost, job_of_task}
use Rattle.wf_desk.specs.Desks.{HasAdded}
use Rattle.wf_desk.specs.Keeping.{may_lose}
use Rattle.wf_desk.proofs.desk.Desk.miss.Goals as goal

-- what may not be lost is not, whether or not a verdict is needed
unlost : (rounds view needs floor : Bool) → rounds && (view && floor) ≡ false → rounds && (view && (needs && floor)) ≡ false
unlost false view needs floor none = refl
unlost true false needs floor none = refl
unlost true true false floor none = refl
unlost true true true floor none = none

pub returns-then-not-may_lose : goal.returns-then-not-may_lose
returns-then-not-may_lose g c =
    let d = c.args.self.now in
    let t = c.args.task.now in
    let may : may_lose d t ≡ false = sym c.may_lose.ensures ∙ c.if-not-may_lose.true in
    let lost : is_lost d t ≡ false =
    unlost (nat_le 1 d.rounds) (not (is_view t.ask)) (needs_verdict (decision_of (state_on d.board).book t.ask)) (nat_le (floor_of d t.lane) t.number) may in
    subst (λ b. HasAdded d c.serve.new.self (job_of_task t) c.serve.result (IsReplyWhere false b d t verdicts.Nothing)) (sym lost)
    (c.serve.ensures (job_of_task t) c.requires.next)
