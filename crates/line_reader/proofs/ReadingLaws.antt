-- How what was read goes on.
use Rattle.std.proofs.Common.{◌≡◌, ℕ, ◌+◌, ◌<◌, Bool, true, false, List, [], ◌∷◌, ◌++◌, length, map, Option, None, Some, inl, inr}
use Rattle.std.proofs.Common.{sym, ◌∙◌, ap, subst, arith, append_assoc}
use Rattle.std.specs.Prelude.{◌≢◌, is_some}
use Rattle.std.proofs.lemmas.Grind.{common_steps}
use Rattle.std.proofs.lemmas.List.{append-nil, length-append}
use Rattle.wf_outside.specs.Laws.Outside.{HasTaken, IsAtEnd}
use Rattle.wf_outside.proofs.OutsideLaws.{more_taken}
use Rattle.wf_talk.specs.declared.job.Job.{Job}
use Rattle.line_reader.specs.declared.stop.Stop.{Stop}
use Rattle.line_reader.specs.Jobs.{Cut, cut_all, flush, end_batch, jobs_from, UpToAnEnd}
use Rattle.line_reader.specs.Cutter.{Cuts, IsEnded, after_handing, ends_after, emptied}
use Rattle.line_reader.proofs.CutLaws.{cut_all-append, handed_all, handed_finish, handed_over, closed_after, up_to_end, stopped, finished_stop}
use Rattle.line_reader.specs.declared.batch_reader.Paused.{Paused}
use Rattle.line_reader.specs.declared.batch_reader.Paused.TheVariants.{Batch, End, Failed, Stopped, NoMemory}
use Rattle.line_reader.specs.BatchReader.{BatchReaderShape, Handed, handed_more, HasRead, HasPaused, HasReadAll}
use Rattle.line_reader.specs.BatchReader.{StopsCutting, IsReadUp, ReadsBatch, CountsPause}
use Rattle.line_reader.specs.Pausing.{HasCut, PausesBy, PausesAs, ClosesAs, FinishesAs}

-- what was cut was read
pub read_behind : (before after : Option (List ℕ)) (h : Handed) (r : BatchReaderShape) → HasCut before after h r → HasRead before after h r
read_behind before after h r cut = record { bytes = cut.front ++ cut.last ∷ []; taken = cut.taken; cut = cut.cut; closed = cut.closed }

-- some of what is pending is cut
pub cut_more : (before after : Option (List ℕ)) (h : Handed) (r s : BatchReaderShape) (more : List ℕ)
    → Cuts r.cut s.cut more → r.cut.ends ≡ [] → r.pending ≡ more ++ s.pending → HasRead before after h r → HasCut before after h s
cut_more before after h r s more cuts none pending read =
    let bytes = read.bytes in
    let behind : more ≡ cuts.front ++ cuts.last ∷ [] = cuts.whole in
    let all : bytes ++ more ≡ (bytes ++ cuts.front) ++ cuts.last ∷ [] =
    ap (λ xs. bytes ++ xs) behind ∙ sym (append_assoc bytes cuts.front (cuts.last ∷ [])) in
    let before_last : cut_all h.first (bytes ++ cuts.front) ≡ after_handing h.jobs h.batch_ends (cut_all r.cut cuts.front) =
    cut_all-append h.first bytes cuts.front ∙ ap (λ c. cut_all c cuts.front) (sym read.cut) ∙ handed_all h.jobs h.batch_ends r.cut cuts.front in
    record {
      front = bytes ++ cuts.front;
      last = cuts.last;
      taken = grind (arith, append_assoc);
      cut = grind (arith, handed_all, cut_all-append);
      closed = read.closed;
      none = ap (λ (c : Cut). c.ends) before_last ∙ ap (λ es. h.batch_ends ++ map (λ n. length h.jobs + n) es) (cuts.none ∙ none) ∙ append-nil h.batch_ends;
      going = ap (λ (c : Cut). c.stop) before_last ∙ cuts.going;
    }

-- the next piece is taken, where the last one is cut
pub take_more : (before left after : Option (List ℕ)) (h : Handed) (r s : BatchReaderShape)
    → r.pending ≡ [] → s.cut ≡ r.cut → HasTaken left after s.pending → HasRead before left h r → HasRead before after h s
take_more before left after h r s empty same taken read =
    let all : HasTaken before left read.bytes =
    subst (λ xs. HasTaken before left xs) (ap (λ xs. read.bytes ++ xs) empty ∙ append-nil read.bytes) read.taken in
    record {
      bytes = read.bytes;
      taken = more_taken before left after read.bytes s.pending all taken;
      cut = ap (after_handing h.jobs h.batch_ends) same ∙ read.cut;
      closed = read.closed;
    }

-- ---- at the end of a batch, or of what can be read

-- what was read is up to an end
pub up_read : (before after : Option (List ℕ)) (h : Handed) (r : BatchReaderShape) → HasRead before after h r → IsReadUp before after h
unfolding jobs_from
up_read before after h r read =
    let rest : Cut = cut_all r.cut r.pending in
    let whole : cut_all h.first (read.bytes ++ r.pending) ≡ after_handing h.jobs h.batch_ends rest =
    cut_all-append h.first read.bytes r.pending ∙ ap (λ c. cut_all c r.pending) (sym read.cut) ∙ handed_all h.jobs h.batch_ends r.cut r.pending in
    let all : end_batch (flush false (cut_all h.first (read.bytes ++ r.pending))) ≡ after_handing h.jobs h.batch_ends (end_batch (flush false rest)) =
    ap (λ c. end_batch (flush false c)) whole ∙ handed_finish h.jobs h.batch_ends rest false in
    record {
      bytes = read.bytes ++ r.pending;
      ended = false;
      taken = read.taken;
      at_end = λ e. cc;
      up = subst (λ (c : Cut). UpToAnEnd h.jobs h.batch_ends c) (sym all) (up_to_end h.jobs h.batch_ends (end_batch (flush false rest)) read.closed);
    }

-- what reading had read, however it paused
pub read_by : (before after : Option (List ℕ)) (h : Handed) (r : BatchReaderShape) (paused : Paused) → PausesBy before after h r paused →
    HasRead before after h r
read_by before after h r paused read = grind arith

-- a batch that has ended is handed over
batch_over : (before after : Option (List ℕ)) (h : Handed) (r : BatchReaderShape) (cut : HasCut before after h r) → IsEnded r.cut
    → after_handing (h.jobs ++ r.cut.jobs) (ends_after h.batch_ends (length h.jobs) r.cut.jobs) (emptied r.cut) ≡ cut_all h.first (cut.front ++ cut.last ∷ [])
batch_over before after h r cut ended = sym (handed_over h.jobs h.batch_ends r.cut ended) ∙ cut.cut

batch_read : (before after : Option (List ℕ)) (h : Handed) (r : BatchReaderShape) → HasCut before after h r → IsEnded r.cut
    → HasRead before after (handed_more h r.cut.jobs) (record r { cut = emptied r.cut })
batch_read before after h r cut ended = record {
  bytes = cut.front ++ cut.last ∷ [];
  taken = cut.taken;
  cut = batch_over before after h r cut ended;
  closed = closed_after h.jobs r.cut.jobs h.batch_ends cut.closed;
}

batch_paused : (before after : Option (List ℕ)) (h : Handed) (r : BatchReaderShape) → HasCut before after h r → IsEnded r.cut → 0 < length r.cut.jobs →
    length r.pending < r.room
    → HasPaused before after r.room (handed_more h r.cut.jobs)
batch_paused before after h r cut ended some ahead = grind (arith, common_steps, length-append, append-nil)

-- the input was ended, and the last batch is handed over
finish_over : (before after : Option (List ℕ)) (ended : Bool) (h : Handed) (r : BatchReaderShape) (d : Cut) (read : HasRead before after h r) →
    d ≡ end_batch (flush ended r.cut) → IsEnded d
    → jobs_from h.first read.bytes ended ≡ after_handing (h.jobs ++ d.jobs) (ends_after h.batch_ends (length h.jobs) d.jobs) (emptied d)
unfolding jobs_from
finish_over before after ended h r d read is closed = grind (arith, handed_finish, handed_over)

-- so are the jobs of all that was taken, where nothing of what is pending can be cut
all_over : (before after : Option (List ℕ)) (ended : Bool) (h : Handed) (r : BatchReaderShape) (d : Cut) (read : HasRead before after h r) →
    d ≡ end_batch (flush ended r.cut) → IsEnded d → cut_all r.cut r.pending ≡ r.cut
    → jobs_from h.first (read.bytes ++ r.pending) ended ≡ after_handing (h.jobs ++ d.jobs) (ends_after h.batch_ends (length h.jobs) d.jobs) (emptied d)
unfolding jobs_from
all_over before after ended h r d read is closed rest =
    ap (λ c. end_batch (flush ended c)) (cut_all-append h.first read.bytes r.pending ∙ ap (λ c. cut_all c r.pending) (sym read.cut)
    ∙ handed_all h.jobs h.batch_ends r.cut r.pending ∙ ap (after_handing h.jobs h.batch_ends) rest ∙ read.cut)
    ∙ finish_over before after ended h r d read is closed

all_read : (before after : Option (List ℕ)) (ended : Bool) (h : Handed) (r : BatchReaderShape) (d : Cut) → HasRead before after h r →
    d ≡ end_batch (flush ended r.cut) → IsEnded d
    → cut_all r.cut r.pending ≡ r.cut → r.cut.stop ≡ None → (ended ≡ true → IsAtEnd after) → HasReadAll before after ended (handed_more h d.jobs)
all_read before after ended h r d read is closed rest going at_end =
    let over = all_over before after ended h r d read is closed rest in
    record {
      bytes = read.bytes ++ r.pending;
      taken = read.taken;
      at_end = at_end;
      jobs = sym (ap (λ (c : Cut). c.jobs) over ∙ append-nil (h.jobs ++ d.jobs));
      ends = sym (ap (λ (c : Cut). c.ends) over ∙ append-nil (ends_after h.batch_ends (length h.jobs) d.jobs));
      going = ap (λ (c : Cut). c.stop) over ∙ ap (λ (c : Cut). c.stop) is ∙ finished_stop r.cut ended ∙ going;
    }

-- and are up to an end
all_up : (before after : Option (List ℕ)) (ended : Bool) (h : Handed) (r : BatchReaderShape) (d : Cut) → HasRead before after h r →
    d ≡ end_batch (flush ended r.cut) → IsEnded d
    → cut_all r.cut r.pending ≡ r.cut → (ended ≡ true → IsAtEnd after) → IsReadUp before after (handed_more h d.jobs)
all_up before after ended h r d read is closed rest at_end = record {
  bytes = read.bytes ++ r.pending;
  ended = ended;
  taken = read.taken;
  at_end = at_end;
  up = subst (λ (c : Cut). UpToAnEnd (h.jobs ++ d.jobs) (ends_after h.batch_ends (length h.jobs) d.jobs) c)
      (sym (all_over before after ended h r d read is closed rest))
      (up_to_end (h.jobs ++ d.jobs) (ends_after h.batch_ends (length h.jobs) d.jobs) (emptied d) (closed_after h.jobs d.jobs h.batch_ends read.closed));
}

stop_read : (before after : Option (List ℕ)) (h : Handed) (r : BatchReaderShape) (d : Cut) (stop : Stop) → HasCut before after h r →
    d ≡ end_batch (flush false r.cut) → IsEnded d
    → r.cut.stop ≡ Some stop → length r.pending < r.room → StopsCutting before after r.room stop (handed_more h d.jobs)
unfolding read_behind
stop_read before after h r d stop cut is closed stops ahead =
    let over = finish_over before after false h r d (read_behind before after h r cut) is closed in
    record {
      front = cut.front;
      last = cut.last;
      rest = r.pending;
      taken = cut.taken;
      jobs = sym (ap (λ (c : Cut). c.jobs) over ∙ append-nil (h.jobs ++ d.jobs));
      ends = sym (ap (λ (c : Cut). c.ends) over ∙ append-nil (ends_after h.batch_ends (length h.jobs) d.jobs));
      before_last = cut.going;
      stopped = ap (λ (c : Cut). c.stop) over ∙ ap (λ (c : Cut). c.stop) is ∙ finished_stop r.cut false ∙ stops;
      ahead = ahead;
    }

-- what a closed reading has read, and that its jobs are up to an end
pub record HasClosed (before after : Option (List ℕ)) (room : ℕ) (h : Handed) (result : Paused) : Type 0 where
  pub reads : ReadsBatch before after room h result
  pub up : IsReadUp before after h

finished : (before after : Option (List ℕ)) (ended : Bool) (h : Handed) (r : BatchReaderShape) (d : Cut) (paused result : Paused)
    → HasRead before after h r → FinishesAs r.cut d ended paused result → result ≢ NoMemory → cut_all r.cut r.pending ≡ r.cut → (ended ≡ true → IsAtEnd after)
    → (d ≡ end_batch (flush ended r.cut) → IsEnded d → ReadsBatch before after r.room (handed_more h d.jobs) paused)
    → HasClosed before after r.room (handed_more h d.jobs) result
finished before after ended h r d paused result read finishes memory rest at_end reads = elim finishes [
  | inl done ↦ rw done.0 (record { reads = reads done.1 done.2; up = all_up before after ended h r d read done.1 done.2 rest at_end })
  | inr none ↦ absurd (memory none.0)
]

closed_reads : (before after : Option (List ℕ)) (h : Handed) (r : BatchReaderShape) (d : Cut) (paused result : Paused)
    → PausesBy before after h r paused → PausesAs r after paused → ClosesAs r.cut d paused result → result ≢ NoMemory
    → HasClosed before after r.room (handed_more h d.jobs) result
closed_reads before after h r d Batch result read pauses closes memory =
    rw (closes.0, closes.1) (record {
      reads = batch_paused before after h r read pauses.1 pauses.2 pauses.3;
      up = up_read before after (handed_more h r.cut.jobs) (record r { cut = emptied r.cut }) (batch_read before after h r read pauses.1);
    })
closed_reads before after h r d NoMemory result read pauses closes memory = absurd (memory closes.0)
closed_reads before after h r d End result read pauses closes memory =
    finished before after true h r d End result read closes memory (ap (cut_all r.cut) pauses.1) (λ e. pauses.2)
    (λ is closed. all_read before after true h r d read is closed (ap (cut_all r.cut) pauses.1) pauses.0.going (λ e. pauses.2))
closed_reads before after h r d Failed result read pauses closes memory =
    finished before after false h r d Failed result read closes memory (ap (cut_all r.cut) pauses.1) (λ e. cc)
    (λ is closed. all_read before after false h r d read is closed (ap (cut_all r.cut) pauses.1) pauses.0.going (λ e. cc))
closed_reads before after h r d (Stopped stop) result read pauses closes memory =
    finished before after false h r d (Stopped stop) result (read_behind before after h r read) closes memory
    (stopped r.cut r.pending (ap is_some pauses.0)) (λ e. cc)
    (λ is closed. stop_read before after h r d stop read is closed pauses.0 pauses.2)

-- the same with these jobs
pub closed_at : (before after : Option (List ℕ)) (h : Handed) (r : BatchReaderShape) (d : Cut) (jobs : List Job) (room : ℕ) (paused result : Paused)
    → PausesBy before after h r paused → PausesAs r after paused → ClosesAs r.cut d paused result → result ≢ NoMemory
    → jobs ≡ d.jobs → room ≡ r.room → HasClosed before after room (handed_more h jobs) result
closed_at before after h r d jobs room paused result read pauses closes memory same is = grind (arith, closed_reads)

-- after a batch reading goes on
pub closed_on : (before after : Option (List ℕ)) (h : Handed) (r t : BatchReaderShape) (jobs : List Job) → HasCut before after h r → IsEnded r.cut
    → jobs ≡ r.cut.jobs → t.cut ≡ emptied r.cut → t.pending ≡ r.pending → HasRead before after (handed_more h jobs) t
closed_on before after h r t jobs read ended same cut pending =
    let on = batch_read before after h r read ended in
    rw same (record {
      bytes = on.bytes;
      taken = subst (λ (p : List ℕ). HasTaken before after (on.bytes ++ p)) (sym pending) on.taken;
      cut = ap (after_handing (h.jobs ++ r.cut.jobs) (ends_after h.batch_ends (length h.jobs) r.cut.jobs)) cut ∙ on.cut;
      closed = on.closed;
    })

-- what was handed over before is up to an end
pub up_before : (before after : Option (List ℕ)) (h : Handed) (r : BatchReaderShape) (paused : Paused) → PausesBy before after h r paused →
    IsReadUp before after h
up_before before after h r paused read = up_read before after h r (read_by before after h r paused read)

-- where memory was refused
pub closed_none : (before after : Option (List ℕ)) (h : Handed) (r : BatchReaderShape) (none : List Job) (paused : Paused)
    → PausesBy before after h r paused → none ≡ [] → IsReadUp before after (handed_more h none)
closed_none before after h r none paused read e = grind (arith, append-nil, up_before)

-- only a batch that had ended closes so
pub closed_batch : (c d : Cut) (paused result : Paused) → ClosesAs c d paused result → result ≡ Batch → (paused ≡ Batch) × (d ≡ c)
closed_batch c d paused result closes e = grind arith

-- closing counts no fault
pub closed_counts : (c d : Cut) (paused result : Paused) (before after : ℕ) → ClosesAs c d paused result → CountsPause paused before after →
    CountsPause result before after
closed_counts c d paused result before after closes counts = grind arith
