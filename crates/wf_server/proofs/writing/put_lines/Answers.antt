use Rattle.std.proofs.Common.{◌≡◌, take, refl, sym, ap, subst, ◌∙◌, arith}
use Rattle.std.specs.List.{flat_map}
use Rattle.std.proofs.lemmas.List.{take_all}
use Rattle.wf_outside.specs.Laws.Outside.{HasPart, with_bytes}
use Rattle.wf_outside.proofs.OutsideLaws.{nothing_put, part_all}
use Rattle.wf_server.proofs.WritingLaws.{put_more, put_part}
use Rattle.wf_server.proofs.writing.put_lines.Goals as goal

pub lines-init : goal.lines-init
lines-init g c = record { written = sym (nothing_put (g.K.Sink.held c.args.sink.now)); faults = refl }

pub returns-in_err-put_line-clause-part : goal.returns-in_err-put_line-clause-part
returns-in_err-put_line-clause-part g c =
    put_part (λ line. line.items) (g.K.Sink.held c.args.sink.now) (g.K.Sink.held c.lines.sink) _ c.args.lines.now c.lines.line-index c.line-item.result
    c.lines-test.true c.line-item.is c.lines.invariant.written (rw c.deref.ensures.value at c.put_line.ensures.part)

pub returns-clause-part : goal.returns-clause-part
returns-clause-part g c =
    let held = g.K.Sink.held c.args.sink.now in
    let all = c.args.lines.now in
    let whole : take c.lines.line-index all ≡ all = take_all c.lines.line-index all (omega (arith, c.lines-test.false)) in
    subst (λ after. HasPart held after (flat_map (λ line. line.items) all))
    (sym (c.lines.invariant.written ∙ ap (λ l. with_bytes held (flat_map (λ line. line.items) l)) whole))
    (part_all held (flat_map (λ line. line.items) all))

pub lines-preserved : goal.lines-preserved
lines-preserved g c = record {
  written = put_more (λ line. line.items) (g.K.Sink.held c.args.sink.now) (g.K.Sink.held c.lines.sink) _ c.args.lines.now c.lines.line-index
      c.line-item.result c.lines-test.true c.line-item.is
      c.lines.invariant.written (rw c.deref.ensures.value at c.in_ok-put_line.ensures.all);
  faults = c.in_ok-put_line.ensures.counts ∙ c.lines.invariant.faults;
}
