use Rattle.wf_names.proofs.NextUsers.{NobodyBefore}
use Rattle.wf_names.proofs.user_set.next_in.Given as goal

abbrev pub invariant-words : goal.invariant-words
invariant-words l = NobodyBefore l.words l.from l.i
