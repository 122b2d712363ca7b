use Rattle.std.proofs.Common.{List, ℕ, refl, subst, ap, ◌∙◌}
use Rattle.wf_outside.specs.Laws.Outside.{HasPart, with_bytes}
use Rattle.case_story.specs.Transcript.{Tells}
use Rattle.transcript_commands.specs.Start.{names_in}
use Rattle.transcript_commands.specs.Load.{FileNames}
use Rattle.case_story.proofs.Answering.{told_none, told_part, told_whole}
use Rattle.case_story.proofs.transcript.run_told.Goals as goal

pub returns-in-Ok-put_and_flush-clause-tells : goal.returns-in-Ok-put_and_flush-clause-tells
returns-in-Ok-put_and_flush-clause-tells g c =
    let n : FileNames = names_in c.args.files in
    told_whole (g.F.Shelf.file c.args.shelf.now) n c.args.files.lanes c.args.files.rounds (Tells c.args.what) c.in-Ok.answer (g.K.Sink.held c.args.sink.now)
    (g.K.Sink.held c.put_and_flush.new.sink) _
    c.in-Ok.ensures.finds c.ending.ensures
    (c.in-Ok-put_and_flush.ensures.all ∙ ap (λ (xs : List ℕ). with_bytes (g.K.Sink.held c.args.sink.now) xs) c.as_slice.ensures.value)

pub returns-in-Ok-clause-tells : goal.returns-in-Ok-clause-tells
returns-in-Ok-clause-tells g c =
    let n : FileNames = names_in c.args.files in
    told_part (g.F.Shelf.file c.args.shelf.now) n c.args.files.lanes c.args.files.rounds (Tells c.args.what) c.in-Ok.answer (g.K.Sink.held c.args.sink.now)
    (g.K.Sink.held c.put_and_flush.new.sink)
    c.in-Ok.ensures.finds (subst (λ (text : List ℕ). HasPart (g.K.Sink.held c.args.sink.now) (g.K.Sink.held c.put_and_flush.new.sink) text)
    c.as_slice.ensures.value c.in-Err-put_and_flush.ensures.part)

pub returns-clause-tells : goal.returns-clause-tells
returns-clause-tells g c =
    let n : FileNames = names_in c.args.files in
    told_none (g.F.Shelf.file c.args.shelf.now) n c.args.files.lanes c.args.files.rounds (Tells c.args.what) (g.K.Sink.held c.args.sink.now)
    (g.K.Sink.held c.args.sink.now) c.in-Err.fault c.in-Err.ensures.finds c.in-Err.ensures.ending refl
