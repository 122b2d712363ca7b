use Rattle.std.proofs.Common.{◌≡◌, arith, length, subst, sym}
use Rattle.std.proofs.lemmas.Grind.{common_steps}
use Rattle.std.proofs.lemmas.List.{nil_from_length}
use Rattle.wf_outside.specs.Laws.Outside.{with_bytes}
use Rattle.wf_outside.proofs.OutsideLaws.{nothing_put, part_none}
use Rattle.wf_server.specs.Batches.{entries_text}
use Rattle.wf_server.proofs.writing.write_entries.Goals as goal

pub returns-then-is_empty-clause-all : goal.returns-then-is_empty-clause-all
returns-then-is_empty-clause-all g c =
    let held = g.K.Sink.held c.args.sink.now in
    let none : length c.args.entries.now ≡ 0 = grind (arith, common_steps, c.if-is_empty.true, c.is_empty.ensures) in
    subst (λ es. held ≡ with_bytes held (entries_text c.args.p.now es)) (sym (nil_from_length c.args.entries.now none)) (sym (nothing_put held))

pub returns-then-is_empty-clause-part : goal.returns-then-is_empty-clause-part
returns-then-is_empty-clause-part g c = part_none _ _
