use Rattle.std.proofs.Common.{arith}
use Rattle.transcript_audit.proofs.Sound.{entries_few}
use Rattle.transcript_audit.proofs.Cursors.{added_record, cursor_within, next_begins, next_ends, next_known, place_short}
use Rattle.transcript_audit.proofs.record.Record.add.Goals as goal

pub add_entry-requires-clause-small : goal.add_entry-requires-clause-small
add_entry-requires-clause-small c = let few = entries_few _ c.self.inside.cursor.batch c.self.invariant.sound in omega (arith, few)

pub advance-requires-clause-known : goal.advance-requires-clause-known
advance-requires-clause-known c = next_known _ c.self.inside.cursor c.args.job.now.lane _ c.self.invariant (rw (← c.self.view_is) at c.requires.next).answers

pub advance-requires-clause-here : goal.advance-requires-clause-here
advance-requires-clause-here c =
    rw c.as_slice.ensures (place_short _ c.self.inside.cursor c.args.job.now.lane _ c.self.invariant (rw (← c.self.view_is) at c.requires.next).answers)

pub advance-requires-clause-within : goal.advance-requires-clause-within
advance-requires-clause-within c = rw c.as_slice.ensures (cursor_within _ c.self.inside.cursor c.self.invariant)

pub advance-requires-clause-begins : goal.advance-requires-clause-begins
advance-requires-clause-begins c =
    rw c.as_slice-2.ensures (next_begins _ c.self.inside.cursor c.args.job.now.lane _ c.self.invariant (rw (← c.self.view_is) at c.requires.next).answers)

pub advance-requires-clause-next : goal.advance-requires-clause-next
advance-requires-clause-next c =
    rw (c.as_slice.ensures, c.as_slice-2.ensures)
    (next_ends _ c.self.inside.cursor c.args.job.now.lane _ c.self.invariant (rw (← c.self.view_is) at c.requires.next).answers)

pub invariant_of-self : goal.invariant_of-self
invariant_of-self c =
    added_record _ c.self.inside.cursor c.advance.new.cursor _ c.add_entry.new.journal.entries c.len.result c.self.invariant
    (rw (← c.self.view_is) at c.requires.next)
    c.add_entry.ensures.added c.len.ensures (rw (c.as_slice.ensures, c.as_slice-2.ensures) at c.advance.ensures)
