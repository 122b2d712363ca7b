use Rattle.std.proofs.Common.{◌≡◌, refl, sym, ap, subst, IsSomeAnd, ◌∙◌, arith}
use Rattle.wf_names.specs.States.{is_done}
use Rattle.case_record.specs.Cases.{CaseShape}
use Rattle.grant_table.specs.Cases.{case_at, finished_row}
use Rattle.grant_table.proofs.Keeping.{known, there_again, table_put, finish_counts, case_changed}
use Rattle.grant_table.proofs.cases.Cases.finish.Goals as goal

pub put_row-requires-clause-there : goal.put_row-requires-clause-there
put_row-requires-clause-there c = grind (arith, known, there_again, finish_counts)

pub returns-clause-finished : goal.returns-clause-finished
returns-clause-finished c = c.put_row.ensures ∙
    table_put c.args.self.now c.args.c c.row-row.result c.finish.new.row (finished_row c.args.s) c.row-row.ensures.row c.finish.ensures refl

pub returns-clause-done : goal.returns-clause-done
returns-clause-done c =
    let P : CaseShape → Type 0 = λ k. c.is_done-done.result ≡ is_done k.phase in
    subst (λ t. IsSomeAnd (case_at t c.args.c) P) (sym c.put_row.ensures)
    (case_changed P c.args.self.now c.args.c c.row-row.result c.finish.new.row c.row-row.ensures.row (ap (λ r. r.number) c.finish.ensures)
    (c.is_done-done.ensures ∙ ap is_done c.phase.ensures))
