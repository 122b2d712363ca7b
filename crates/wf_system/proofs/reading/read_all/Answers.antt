use Rattle.std.proofs.Common.{rules, arith}
use Rattle.std.proofs.lemmas.Grind.{common_steps}
use Rattle.std.proofs.KnownBytes.{Consumes-nil}
use Rattle.wf_system.proofs.ReadingLaws.{reads_whole, reads_more}
use Rattle.wf_system.proofs.reading.read_all.Goals as goal

pub reading-init : goal.reading-init
reading-init g c =
    record {
      read = rw c.new-bytes.ensures.items (Consumes-nil _);
      within = rw c.new-bytes.ensures.items (omega arith);
      buffer = search rules;
    }

pub returns-then-branch-eq0-clause-told : goal.returns-then-branch-eq0-clause-told
returns-then-branch-eq0-clause-told g c =
    rw c.from_bytes.ensures (reads_whole _ _ _ c.args.limit (c.in_ok-read_piece.ensures.more _ c.reading.invariant.read)
    (c.in_ok-read_piece.ensures.ended c.if-branch-eq0.true (grind (arith, common_steps))) (grind (arith, common_steps)))

pub returns-clause-told : goal.returns-clause-told
returns-clause-told g c = reads_more _ _ _ c.args.limit c.reading.invariant.read (omega (arith, c.reading-test.false, c.len.ensures))
