use Rattle.std.proofs.Common.{◌≡◌, take, refl, sym, ap, subst, ◌∙◌, arith}
use Rattle.std.proofs.lemmas.List.{take_all}
use Rattle.wf_outside.specs.Laws.Outside.{HasPart, with_bytes}
use Rattle.wf_outside.proofs.OutsideLaws.{nothing_put, part_all, part_none}
use Rattle.wf_server.specs.Batches.{entries_text}
use Rattle.wire_json.specs.Replies.{entry_text}
use Rattle.wf_server.proofs.WritingLaws.{put_more, put_part}
use Rattle.wf_server.proofs.writing.write_lines.Goals as goal

pub writing-init : goal.writing-init
writing-init g c = record {
  policy = c.new-writer.ensures;
  written = sym (nothing_put (g.K.Sink.held c.args.sink.now));
  faults = refl;
}

pub returns-in_err-line-clause-part : goal.returns-in_err-line-clause-part
returns-in_err-line-clause-part g c = part_none _ _

pub returns-in_err-write_one-clause-part : goal.returns-in_err-write_one-clause-part
returns-in_err-write_one-clause-part g c =
    put_part (entry_text c.args.p.now) (g.K.Sink.held c.args.sink.now) (g.K.Sink.held c.writing.sink) _ c.args.entries.now c.writing.entry-index
    c.entry-item.result c.writing-test.true c.entry-item.is
    c.writing.invariant.written (rw c.writing.invariant.policy at c.write_one.ensures.part)

pub returns-clause-part : goal.returns-clause-part
returns-clause-part g c =
    let held = g.K.Sink.held c.args.sink.now in
    let es = c.args.entries.now in
    let whole : take c.writing.entry-index es ≡ es = take_all c.writing.entry-index es (omega (arith, c.writing-test.false)) in
    subst (λ after. HasPart held after (entries_text c.args.p.now es))
    (sym (c.writing.invariant.written ∙ ap (λ l. with_bytes held (entries_text c.args.p.now l)) whole))
    (part_all held (entries_text c.args.p.now es))

pub writing-preserved : goal.writing-preserved
writing-preserved g c = record {
  policy = c.in_ok-write_one.ensures.same ∙ c.writing.invariant.policy;
  written = put_more (entry_text c.args.p.now) (g.K.Sink.held c.args.sink.now) (g.K.Sink.held c.writing.sink) _ c.args.entries.now c.writing.entry-index
      c.entry-item.result c.writing-test.true c.entry-item.is
      c.writing.invariant.written (rw c.writing.invariant.policy at c.in_ok-write_one.ensures.all);
  faults = c.in_ok-write_one.ensures.counts ∙ c.writing.invariant.faults;
}
