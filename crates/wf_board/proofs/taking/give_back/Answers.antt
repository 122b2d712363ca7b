use Rattle.std.proofs.Common.{sym, subst}
use Rattle.wf_names.specs.declared.states.StepState.TheVariants.{Free}
use Rattle.case_record.specs.Cases.{with_state}
use Rattle.grant_table.specs.Cases.{freed_row, HasHeldStep}
use Rattle.wf_board.specs.Taking.{HasChanged}
use Rattle.wf_board.proofs.Planned.{freed_keeps, on_case}
use Rattle.wf_board.proofs.taking.give_back.Goals as goal

pub give_back-requires : goal.give_back-requires
give_back-requires c =
    on_case (λ k. HasHeldStep k c.args.s) c.args.cases.now.rows c.args.n c.args.case.now c.requires.found.found
    record { open_case = c.requires.found.live; held = c.requires.held }

pub returns : goal.returns
returns c =
    subst (λ t. HasChanged c.args.p.now c.args.cases.now t c.args.n (freed_row c.args.s) (λ d. with_state d c.args.s Free)) (sym c.give_back.ensures)
    (freed_keeps c.args.p.now c.args.cases.now c.args.n c.args.case.now c.args.s c.requires.kept c.requires.found c.requires.held)
