use Rattle.std.proofs.Common.{refl}
use Rattle.command_words.specs.Command.{asked}
use Rattle.wf_server.proofs.ResumeLaws.{threaded, threaded_once}
use Rattle.wf_server.proofs.runs.run_on_lanes.Goals as goal

pub returns-clause-does : goal.returns-clause-does
returns-clause-does g c = threaded _ (asked c.args.command) _ refl c.requires.lanes c.run_command.ensures.does

pub returns-clause-once : goal.returns-clause-once
returns-clause-once g c kept never = threaded_once _ (asked c.args.command) refl c.requires.lanes (c.run_command.ensures.once kept) never
