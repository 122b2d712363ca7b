use Rattle.std.proofs.Common.{◌≡◌, ◌<◌, false, nat_le, ap, ◌∙◌, arith}
use Rattle.std.proofs.lemmas.Grind.{common_steps}
use Rattle.transcript_audit.specs.Auditor.{present_start}
use Rattle.transcript_audit.specs.Keeping.{rests_on}
use Rattle.transcript_audit.proofs.Sound.{entries_few}
use Rattle.transcript_audit.proofs.Cursors.{cursor_start}
use Rattle.transcript_audit.proofs.Entering.{found_own, rests_else, rests_then, some_count}
use Rattle.transcript_audit.proofs.record.Record.rests.Goals as goal

pub last_counting-requires-clause-small : goal.last_counting-requires-clause-small
last_counting-requires-clause-small c = let few = entries_few _ c.self.inside.cursor.batch c.self.invariant.sound in omega (arith, few)

pub last_counting-requires-clause-some : goal.last_counting-requires-clause-some
last_counting-requires-clause-some c =
    let entries = c.self.inside.journal.entries in
    let found = found_own c.args.ask.now c.args.lane c.as_slice-entries.result.now entries _ _ _ _ c.own_start-from.ensures.own
    (cursor_start _ c.self.inside.cursor c.self.invariant) c.count-found.ensures c.as_slice-entries.ensures in
    some_count c.args.ask.now entries _ c.count-found.result c.args.rounds found c.if-rounds-found.true c.requires

pub returns-then-rounds-found : goal.returns-then-rounds-found
returns-then-rounds-found c =
    let what = c.args.ask.now in
    let lane = c.args.lane in
    let entries = c.self.inside.journal.entries in
    let found = found_own c.args.ask.now c.args.lane c.as_slice-entries.result.now entries _ _ _ _ c.own_start-from.ensures.own
    (cursor_start _ c.self.inside.cursor c.self.invariant) c.count-found.ensures c.as_slice-entries.ensures in
    rests_then entries _ lane what c.args.rounds c.args.place c.count-found.result c.last_counting.result found c.if-rounds-found.true c.last_counting.ensures
    ∙ ap (λ r. rests_on r.audit.entries (present_start r.audit) lane what c.args.rounds c.args.place) c.self.view_is

pub returns-else-rounds-found : goal.returns-else-rounds-found
returns-else-rounds-found c =
    let what = c.args.ask.now in
    let lane = c.args.lane in
    let entries = c.self.inside.journal.entries in
    let found = found_own c.args.ask.now c.args.lane c.as_slice-entries.result.now entries _ _ _ _ c.own_start-from.ensures.own
    (cursor_start _ c.self.inside.cursor c.self.invariant) c.count-found.ensures c.as_slice-entries.ensures in
    let short : c.count-found.result < c.args.rounds = c.if-rounds-found.false in
    let no : nat_le c.args.rounds c.count-found.result ≡ false = grind (arith, common_steps, short) in
    no ∙ rests_else entries _ lane what c.args.rounds c.args.place c.count-found.result found short
    ∙ ap (λ r. rests_on r.audit.entries (present_start r.audit) lane what c.args.rounds c.args.place) c.self.view_is
