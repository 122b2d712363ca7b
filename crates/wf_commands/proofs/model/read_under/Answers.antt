use Rattle.std.proofs.Common.{Some}
use Rattle.wf_names.specs.declared.limits.TheConstants.{LINE_LIMIT}
use Rattle.wf_commands.proofs.Runs.{unread_after}
use Rattle.wf_commands.proofs.Telling.{answers_no_case, answers_no_model, answers_told}
use Rattle.wf_commands.proofs.model.read_under.Goals as goal

pub returns-in_err-text-clause-answer : goal.returns-in_err-text-clause-answer
returns-in_err-text-clause-answer g c =
    answers_no_model c.args.p.now c.args.flow.now c.in_ok-find_flow.field-0 (g.F.Shelf.file c.args.shelf.now c.args.model.now)
    (g.S.Source.left c.args.source.now)
    c.from_residual-in_err-text.result c.in_err-text.field-0.0 c.from_residual-in_err-text.ensures.1 c.in_ok-find_flow.ensures.0 c.in_err-text.ensures.bytes
    c.in_err-text.ensures.ending

pub returns-in_err-text-clause-input : goal.returns-in_err-text-clause-input
returns-in_err-text-clause-input g c =
    unread_after (Some LINE_LIMIT) c.from_residual-in_err-text.result c.in_err-text.field-0.0
    (g.S.Source.left c.args.source.now) c.from_residual-in_err-text.ensures.1 c.in_err-text.ensures.ending

pub returns-in_err-c-clause-answer : goal.returns-in_err-c-clause-answer
returns-in_err-c-clause-answer g c =
    answers_no_case c.args.p.now c.args.flow.now c.in_ok-find_flow.field-0 (g.F.Shelf.file c.args.shelf.now c.args.model.now) c.in_ok-text.text
    (g.S.Source.left c.args.source.now)
    c.from_residual-in_err-c.result c.in_err-c.field-0.0 c.from_residual-in_err-c.ensures.1 c.in_ok-find_flow.ensures.0 c.in_ok-text.ensures.bytes
    c.in_err-c.ensures.case c.in_err-c.ensures.ending

pub returns-clause-answer : goal.returns-clause-answer
returns-clause-answer g c =
    answers_told c.args.p.now c.args.flow.now c.in_ok-find_flow.field-0 (g.F.Shelf.file c.args.shelf.now c.args.model.now) c.in_ok-text.text
    (g.S.Source.left c.args.source.now)
    c.in_ok-c.c c.answer_case.result c.in_ok-find_flow.ensures.0 c.in_ok-text.ensures.bytes c.in_ok-c.ensures.case
    (let is = c.as_bytes.ensures in rw is at c.answer_case.ensures.answer)
