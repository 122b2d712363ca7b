use Rattle.std.proofs.Common.{sym, subst}
use Rattle.wf_names.specs.declared.states.Phase.TheVariants.{Withdrawn}
use Rattle.case_record.specs.Cases.{with_phase}
use Rattle.grant_table.specs.Cases.{withdrawn_row}
use Rattle.wf_board.specs.Taking.{HasChanged}
use Rattle.wf_board.proofs.Planned.{withdrawn_keeps}
use Rattle.wf_board.proofs.taking.withdraw.Goals as goal

pub returns : goal.returns
returns c =
    subst (λ t. HasChanged c.args.p.now c.args.cases.now t c.args.n withdrawn_row (λ d. with_phase d Withdrawn)) (sym c.withdraw.ensures)
    (withdrawn_keeps c.args.p.now c.args.cases.now c.args.n c.requires.found.0 c.requires.kept c.requires.found.1)
