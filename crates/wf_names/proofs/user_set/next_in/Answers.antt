use Rattle.std.proofs.Common.{arith}
use Rattle.std.proofs.lemmas.Bool.{cases_lt}
use Rattle.wf_names.proofs.NextUsers.{next_at, nobody_on, nobody_past}
use Rattle.wf_names.proofs.user_set.next_in.Goals as goal

pub returns-then-first-words : goal.returns-then-first-words
returns-then-first-words c = λ v above. nobody_past c.args.words.now v (omega (arith, above, c.if-first-words.true))

pub returns-in-Some : goal.returns-in-Some
returns-in-Some c = grind (arith, next_at)

pub words-init : goal.words-init
words-init c = grind (arith, nobody_on)

pub returns-in-Some-bit_from : goal.returns-in-Some-bit_from
returns-in-Some-bit_from c = grind (arith, next_at)

pub words-preserved : goal.words-preserved
words-preserved c = grind (arith, nobody_on)

pub returns : goal.returns
returns c = grind (arith, cases_lt, nobody_past)
