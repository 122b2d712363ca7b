use Rattle.std.proofs.Common.{◌≡◌, sym, subst, ◌∙◌}
use Rattle.wf_board.specs.declared.verdict.Verdict.TheVariants as verdicts
use Rattle.wf_board.specs.Boards.{book_of}
use Rattle.wf_board.specs.Verdicts.{IsViewFor}
use Rattle.std.specs.Prelude.{Ok}
use Rattle.wf_board.proofs.Admission.{view_admitted, view_right}
use Rattle.wf_board.proofs.views.admit_view.Goals as goal

pub returns : goal.returns
returns c =
    let p = c.args.p.now in
    let t = c.args.cases.now in
    let right = view_right (book_of p t) c.args.deed.now c.args.verdict.now c.requires.view c.requires.verdict in
    let same : verdicts.View right.0 ≡ verdicts.View c.in-View.view = sym right.1.0 ∙ c.in-View.is in
    view_admitted p t c.args.deed.now c.in-View.view c.args.reply.now c.is_told.result c.when.result c.requires.kept c.requires.given c.requires.view
    (subst (IsViewFor (book_of p t) (Ok c.args.deed.now)) (let is = same in cc) right.1.1) c.is_told.ensures c.when.ensures

pub unreachable-requires : goal.unreachable-requires
unreachable-requires c =
    let right = view_right (book_of c.args.p.now c.args.cases.now) c.args.deed.now c.args.verdict.now c.requires.view c.requires.verdict in
    absurd (c.in_default.not-View right.0 right.1.0)
