use Rattle.policy_reader.proofs.GetsFile.{policy_of_file_is_sound}
use Rattle.policy_reader.proofs.laws.policy_of_file_is_sound.Goals as goal

pub returns : goal.returns
returns c = policy_of_file_is_sound
