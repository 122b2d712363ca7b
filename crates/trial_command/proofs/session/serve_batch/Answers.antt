use Rattle.trial_command.proofs.Batches.{batch_served}
use Rattle.trial_command.proofs.session.serve_batch.Goals as goal

pub returns : goal.returns
returns g c =
    batch_served c.args.desk.now c.load_batch.new.self c.serve_by_turns.new.desk c.args.batch.now _ _
    c.in_ok-load_batch.ensures.loaded c.serve_by_turns.ensures.turns c.serve_by_turns.ensures.done c.journal-kept.ensures.sound
