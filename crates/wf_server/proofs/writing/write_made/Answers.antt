use Rattle.std.proofs.Common.{◌≡◌, OnOk, subst}
use Rattle.wf_outside.specs.Laws.Outside.{HasPart, with_bytes}
use Rattle.wire_json.specs.Replies.{entry_text}
use Rattle.wf_server.proofs.WritingLaws.{texts_same}
use Rattle.wf_server.proofs.writing.write_made.Goals as goal

pub returns-in-Some-clause-all : goal.returns-in-Some-clause-all
returns-in-Some-clause-all g c =
    let held = g.K.Sink.held c.args.sink.now in
    let same = texts_same (entry_text c.args.p.now) (λ line. line.items) c.args.entries.now c.in-Some.lines.items c.in-Some.ensures in
    subst (λ text. OnOk c.put_lines.result (g.K.Sink.held c.put_lines.new.sink ≡ with_bytes held text)) same
    (rw c.deref.ensures.value at c.put_lines.ensures.all)

pub returns-in-Some-clause-part : goal.returns-in-Some-clause-part
returns-in-Some-clause-part g c =
    let same = texts_same (entry_text c.args.p.now) (λ line. line.items) c.args.entries.now c.in-Some.lines.items c.in-Some.ensures in
    subst (HasPart (g.K.Sink.held c.args.sink.now) (g.K.Sink.held c.put_lines.new.sink)) same (rw c.deref.ensures.value at c.put_lines.ensures.part)
