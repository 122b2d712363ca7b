use Rattle.std.proofs.Common.{inl}
use Rattle.case_story.specs.Transcript.{Tells}
use Rattle.transcript_commands.specs.Start.{names_in}
use Rattle.transcript_commands.specs.Load.{FileNames}
use Rattle.case_story.proofs.Answering.{found_all}
use Rattle.case_story.proofs.transcript.find.Goals as goal

pub returns-in-Ok-clause-finds : goal.returns-in-Ok-clause-finds
returns-in-Ok-clause-finds g c =
    let n : FileNames = names_in c.args.files in
    found_all (g.F.Shelf.file c.args.shelf.now) n c.args.files.lanes c.args.files.rounds (Tells c.args.what) c.in-Ok.s c.tell.result
    (record { gives = c.in-Ok.ensures.gives; on_lanes = c.in-Ok.ensures.lanes; with_rounds = c.in-Ok.ensures.rounds }) c.tell.ensures.tells

pub returns-in-Err-clause-finds : goal.returns-in-Err-clause-finds
returns-in-Err-clause-finds g c = inl (c.in-Err.ensures.ending, c.in-Err.ensures.gives)
