use Rattle.std.proofs.Common.{List, ℕ, refl, subst}
use Rattle.wf_outside.specs.Laws.Outside.{HasPart}
use Rattle.cnf_export.proofs.Written.{added, all_put, emptied, next_is, none_left, none_put, part_put, so_far}
use Rattle.cnf_export.proofs.writing.write_left.Goals as goal

pub writing-init : goal.writing-init
writing-init g c = record { put = none_put (g.K.Sink.held c.args.sink.now) _ _ refl; faults = refl }

pub returns-in_err-next-clause-part : goal.returns-in_err-next-clause-part
returns-in_err-next-clause-part g c = so_far _ _ _ _ c.writing.invariant.put

pub returns-in-Err-clause-part : goal.returns-in-Err-clause-part
returns-in-Err-clause-part g c =
    part_put _ _ _ _ c.writing.out.items _ c.writing.invariant.put
    (subst (λ (bytes : List ℕ). HasPart (g.K.Sink.held c.writing.sink) (g.K.Sink.held c.put_and_flush.new.sink) bytes) c.deref.ensures.value
    c.put_and_flush.ensures.part)

pub returns-in-Ok-clause-all : goal.returns-in-Ok-clause-all
returns-in-Ok-clause-all g c =
    all_put _ _ _ _ c.writing.out.items _ c.writing.invariant.put
    (none_left _ _ _ _ c.in_ok-next.ensures.given c.if-not-branch.true)
    (let all = c.in-Ok.ensures.all in let bytes = c.deref.ensures.value in cc)

pub returns-in-Ok-clause-part : goal.returns-in-Ok-clause-part
returns-in-Ok-clause-part g c =
    part_put _ _ _ _ c.writing.out.items _ c.writing.invariant.put
    (subst (λ (bytes : List ℕ). HasPart (g.K.Sink.held c.writing.sink) (g.K.Sink.held c.put_and_flush.new.sink) bytes) c.deref.ensures.value
    c.put_and_flush.ensures.part)

pub returns-in_err-push_clause-clause-part : goal.returns-in_err-push_clause-clause-part
returns-in_err-push_clause-clause-part g c = so_far _ _ _ _ c.writing.invariant.put

pub returns-in-Err-put_piece-clause-part : goal.returns-in-Err-put_piece-clause-part
returns-in-Err-put_piece-clause-part g c =
    part_put _ _ _ _ c.push_clause.new.out.items _
    (added _ _ _ _ _ _ _ _ c.in_ok-push_clause.ensures (next_is _ _ _ _ c.in_ok-next.ensures.given c.if-not-branch.false) c.writing.invariant.put)
    c.put_piece.ensures.part

pub writing-preserved-in_default : goal.writing-preserved-in_default
writing-preserved-in_default g c = record {
  put = emptied _ _ _ _ _ c.put_piece.new.out.items _
      (added _ _ _ _ _ _ _ _ c.in_ok-push_clause.ensures (next_is _ _ _ _ c.in_ok-next.ensures.given c.if-not-branch.false) c.writing.invariant.put)
      c.in_default.ensures.all c.in_default.ensures.empty;
  faults = (let stays = c.in_default.ensures.stays in let before = c.writing.invariant.faults in cc);
}
