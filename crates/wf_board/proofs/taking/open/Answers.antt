use Rattle.std.proofs.Common.{◌≡◌, ◌<◌, true, false, sym, subst, ◌∙◌}
use Rattle.wf_names.specs.declared.limits.TheConstants.{CASE_LIMIT, OPEN_CASE_LIMIT}
use Rattle.grant_table.specs.Cases.{open_count}
use Rattle.wf_talk.specs.declared.reply.Reply.TheVariants as replies
use Rattle.wf_talk.specs.declared.reply.Denial.TheVariants.{Full}
use Rattle.wf_board.specs.Boards.{book_of}
use Rattle.wf_board.specs.Taking.{HasTakenStep}
use Rattle.wf_board.proofs.Answering.{below_limits, denied_taken, full_denied, on_err, opened_taken}
use Rattle.wf_board.proofs.taking.open.Goals as goal

pub returns-then-is_full-clause-taken : goal.returns-then-is_full-clause-taken
returns-then-is_full-clause-taken c =
    let p = c.args.course.now.policy.now in
    let full = full_denied (book_of p c.args.cases.now) c.args.course.now.number (sym c.is_full.ensures ∙ c.if-is_full.true) in
    subst (λ d. HasTakenStep p c.args.cases.now c.args.cases.now d (replies.Denied Full)) (sym full) (denied_taken p c.args.cases.now Full c.requires.kept)

pub returns-then-is_full-clause-made : goal.returns-then-is_full-clause-made
returns-then-is_full-clause-made c =
    λ left. let is : true ≡ false = sym c.if-is_full.true ∙ c.is_full.ensures ∙ left in cc

pub returns-then-is_err-clause-memory : goal.returns-then-is_err-clause-memory
returns-then-is_err-clause-memory c =
    λ short. (sym c.is_full.ensures ∙ c.if-is_full.false, on_err c.make_room.result (sym c.is_err.ensures.value ∙ c.if-is_err.true) c.make_room.ensures.short)

pub open_case-case-requires-clause-open : goal.open_case-case-requires-clause-open
open_case-case-requires-clause-open c =
    let below = below_limits c.args.course.now.policy.now c.args.cases.now (sym c.is_full.ensures ∙ c.if-is_full.false) in
    subst (λ t. open_count t.rows < OPEN_CASE_LIMIT) (sym c.make_room.ensures.same) below.0

pub open_case-case-requires-clause-ever : goal.open_case-case-requires-clause-ever
open_case-case-requires-clause-ever c =
    let below = below_limits c.args.course.now.policy.now c.args.cases.now (sym c.is_full.ensures ∙ c.if-is_full.false) in
    subst (λ t. t.ever < CASE_LIMIT) (sym c.make_room.ensures.same) below.1

pub returns-clause-taken : goal.returns-clause-taken
returns-clause-taken c =
    opened_taken c.args.course.now.policy.now c.args.cases.now c.make_room.new.cases c.open_case-case.new.self c.args.course.now.number
    c.open_case-case.result c.args.plan
    c.requires.kept c.args.course.now.known c.requires.valid (sym c.is_full.ensures ∙ c.if-is_full.false)
    c.make_room.ensures.same c.make_room.ensures.kept c.open_case-case.ensures.number c.open_case-case.ensures.opened
