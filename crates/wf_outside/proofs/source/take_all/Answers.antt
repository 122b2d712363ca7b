use Rattle.std.proofs.Common.{length-take, arith}
use Rattle.std.proofs.lemmas.Grind.{common_steps}
use Rattle.wf_outside.proofs.OutsideLaws.{nothing_taken, nothing_at_most, at_most_more, reads_whole, reads_more}
use Rattle.wf_outside.proofs.source.take_all.Goals as goal

pub returns-in_err-buf-clause-part : goal.returns-in_err-buf-clause-part
returns-in_err-buf-clause-part g c = nothing_at_most _ _

pub taking-init : goal.taking-init
taking-init g c = grind (arith, nothing_taken)

pub returns-in_err-take_piece-clause-part : goal.returns-in_err-take_piece-clause-part
returns-in_err-take_piece-clause-part g c = at_most_more _ _ _ _ (c.in_err-take_piece.ensures.part _ c.taking.invariant.taken) (grind (arith, common_steps))

pub returns-then-branch-eq0-clause-part : goal.returns-then-branch-eq0-clause-part
returns-then-branch-eq0-clause-part g c = at_most_more _ _ _ _ (c.in_ok-take_piece.ensures.part _ c.taking.invariant.taken) (grind (arith, common_steps))

pub returns-then-branch-eq0-clause-told : goal.returns-then-branch-eq0-clause-told
returns-then-branch-eq0-clause-told g c =
    rw c.from_bytes.ensures (reads_whole _ _ _ c.args.limit (c.in_ok-take_piece.ensures.more _ c.taking.invariant.taken)
    (c.in_ok-take_piece.ensures.ended c.if-branch-eq0.true (grind (arith, common_steps))) (grind (arith, common_steps)))

pub returns-clause-told : goal.returns-clause-told
returns-clause-told g c = reads_more _ _ _ c.args.limit c.taking.invariant.taken (omega (arith, c.taking-test.false, c.len.ensures))

pub taking-preserved : goal.taking-preserved
taking-preserved g c = grind (arith, length-take, common_steps)

pub taking-smaller : goal.taking-smaller
taking-smaller g c = grind arith

pub returns-then-branch-eq0-clause-counts : goal.returns-then-branch-eq0-clause-counts
returns-then-branch-eq0-clause-counts g c = grind arith
