use Rattle.policy_reader.proofs.file.read.Goals as goal

pub returns-in-Ok-clause-sound : goal.returns-in-Ok-clause-sound
returns-in-Ok-clause-sound c = (c.policy_of_file_is_sound.ensures c.args.bytes.now c.in-Ok.policy c.in-Ok.ensures.policy).sound

pub returns-in-Ok-clause-given : goal.returns-in-Ok-clause-given
returns-in-Ok-clause-given c = c.policy_of_file_is_sound.ensures c.args.bytes.now c.in-Ok.policy c.in-Ok.ensures.policy
