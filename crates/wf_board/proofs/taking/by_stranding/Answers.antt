use Rattle.std.proofs.Common.{sym, ap, ◌∙◌}
use Rattle.case_record.specs.Cases.{CaseShape}
use Rattle.wf_board.proofs.Answering.{stranding_taken, stranding_there}
use Rattle.wf_board.proofs.Amended.{same_case}
use Rattle.wf_board.proofs.taking.by_stranding.Goals as goal

pub unreachable-requires : goal.unreachable-requires
unreachable-requires c =
    stranding_there c.args.p.now c.args.cases.now c.args.ask.now c.args.number c.args.tree c.live-ascending.ensures.kept.ascend c.requires.tree
    c.in-None.ensures

pub returns-clause-taken : goal.returns-clause-taken
returns-clause-taken c =
    stranding_taken c.args.p.now c.args.cases.now c.args.ask.now c.args.number c.flow.result c.args.tree c.requires.kept
    c.live-ascending.ensures.kept.ascend c.requires.tree
    (λ k found. c.flow.ensures ∙ ap (λ (x : CaseShape). x.flow) (same_case c.in-Some.case.now k (sym c.in-Some.ensures ∙ found)))
