use Rattle.std.proofs.Common.{length}
use Rattle.wf_commands.proofs.CaseLaws.{said_on}
use Rattle.wf_commands.proofs.case.read_state.Goals as goal

pub returns-in-Some-Some-clause-sound : goal.returns-in-Some-Some-clause-sound
returns-in-Some-Some-clause-sound c =
    rw c.with_said.ensures.case
    (said_on (length c.args.p.now.roster.users) c.args.c.now c.in-Some-Some.state c.requires.room c.requires.sound
    (rw c.in-Some-Some.field-0-is at c.in-Some-Some.ensures.known))
