-- How the batches of a session follow one another.
use Rattle.wf_server.proofs.Common.{◌≡◌, ℕ, ◌+◌, ◌<◌, ◌≤◌, false, List, [], ◌∷◌, ◌++◌, length, take, Option, Err, refl, sym, ◌∙◌, ap, subst, arith}
use Rattle.wf_server.proofs.Common.{append_assoc, length-append, take-append-drop, nothing_taken, nothing_put, Job, Cut, start, last_or, ends_after}
use Rattle.wf_server.proofs.Common.{JobsAreInOrder, LeadTo, Paused, BatchReaderShape, ReadsBatch, opening_state, FillsJobs, IsLegal, DeskShape, jobs_told}
use Rattle.wf_server.proofs.Common.{PolicyShape, HistoriesAreExact, HistoriesKeepCompletable, RunFault, is_before_input, CountsWrites, Told, nothing_told}
use Rattle.wf_server.proofs.Common.{Streams, ReadsFor, Served, Setting, handed_in, setting_of, Answered, Serves, told_of, AreInOrderFrom, HasAnsweredAll}
use Rattle.wf_server.proofs.Common.{IsBatchAdded, IsBatch, AnswersTo, IsServing, IsWriteEnding, ending_after}
use Rattle.std.proofs.Common.{drop}
use Rattle.std.specs.Prelude.{◌≢◌}
use Rattle.std.proofs.lemmas.List.{length-take}
use Rattle.wf_names.specs.declared.limits.TheConstants.{BATCH_LINE_LIMIT}
use Rattle.wf_outside.specs.Laws.Outside.{with_bytes}
use Rattle.line_reader.specs.declared.stop.Stop.TheVariants as stop
use Rattle.line_reader.specs.Jobs.{jobs_from}
use Rattle.line_reader.specs.declared.batch_reader.Paused.TheVariants as paused
use Rattle.line_reader.specs.BatchReader.{Handed, handed_more, HasRead, IsReadUp, CountsPause}
use Rattle.wf_desk.specs.Desks.{AreOfLanes, desk_with}
use Rattle.wf_desk.proofs.DocketLaws.{first_of_lanes}
use Rattle.policy_book.specs.Laws.Facts.{IsSoundPolicy}
use Rattle.run_record.specs.declared.fault.RunFault.TheVariants as fault
use Rattle.wf_server.specs.Sessions.{text_from}
use Rattle.wf_server.specs.Batches.{BatchEnds}
use Rattle.wf_server.proofs.BatchLaws.{ends_some, writes_whole}

-- no count of faults falls
counts_le : (how : Paused) (before after : ℕ) → CountsPause how before after → before ≤ after
counts_le how before after counts = grind arith

-- each job of a part is of one of the lanes
rest_of_lanes : (lanes : ℕ) (front jobs : List Job) → AreOfLanes lanes (front ++ jobs) → AreOfLanes lanes jobs
rest_of_lanes lanes [] jobs all = all
rest_of_lanes lanes (j ∷ front) jobs all = rest_of_lanes lanes front jobs all.1

-- an end is near the one before it
near_end : (before x total : ℕ) (ends rest : List ℕ) → LeadTo before (ends ++ (x ∷ rest)) total → x ≤ last_or before ends + BATCH_LINE_LIMIT
near_end before x total [] rest leads = leads.1
near_end before x total (e ∷ ends) rest leads = near_end e x total ends rest leads.2

-- a batch has not too many jobs
short_batch : (before k total : ℕ) (batch : List Job) (ends all : List ℕ) → LeadTo 0 all total → last_or 0 ends ≡ before →
    ends_after ends before batch ≡ take k all
    → length batch ≤ BATCH_LINE_LIMIT
short_batch before k total [] ends all leads closed is = omega arith
short_batch before k total (j ∷ batch) ends all leads closed is =
    let x = before + length (j ∷ batch) in
    let whole : all ≡ ends ++ (x ∷ drop k all) =
    sym (take-append-drop k all) ∙ ap (λ es. es ++ drop k all) (sym is ∙ ends_some ends before j batch) ∙ append_assoc ends (x ∷ []) (drop k all) in
    let near = near_end 0 x total ends (drop k all) (subst (λ es. LeadTo 0 es total) whole leads) in
    omega (arith, near, closed)

-- what is handed over next is a batch
pub next_batch : (lanes : ℕ) (first : Cut) (before after : Option (List ℕ)) (told : Told) (more : List Job) → AreInOrderFrom lanes first →
    last_or 0 told.batch_ends ≡ length told.jobs
    → IsReadUp before after (handed_more (handed_in first told) more) → IsBatch lanes (length told.jobs) more
next_batch lanes first before after told more order closed up =
    let all = jobs_from first up.bytes up.ended in
    let whole = order up.bytes up.ended in
    let few = whole.few in
    let front = ap length up.up.within in
    record {
      few = omega (arith, few, length-append told.jobs more, simp length-take at front);
      short = short_batch (length told.jobs) up.up.ends.0 (length all.jobs) more told.batch_ends all.ends whole.ends closed up.up.ends.1;
      of_lanes = rest_of_lanes lanes told.jobs more (subst (AreOfLanes lanes) (sym up.up.within) (first_of_lanes lanes _ all.jobs whole.of_lanes));
    }

-- what is told with one more batch
added_handed : (first : Cut) (before : Told) (batch : List Job) (after : Told) → IsBatchAdded before batch after →
    handed_more (handed_in first before) batch ≡ handed_in first after
added_handed first before batch after added = rw (added.jobs, added.ends) refl

pub lanes_of : (d e : DeskShape) → setting_of e ≡ setting_of d → e.lanes ≡ d.lanes
lanes_of d e same = ap (λ (s : Setting). s.lanes) same

-- memory was refused while a batch was read
pub memory_serves : (first : Cut) (room : ℕ) (before mid aft : Streams) (r : BatchReaderShape) (d : DeskShape) (told : Told) (how : Paused)
    → IsServing first before mid r d told → IsReadUp before.input aft.input (handed_in first told) → aft.output ≡ mid.output →
    CountsPause how mid.read_faults aft.read_faults
    → aft.write_faults ≡ mid.write_faults → Serves (setting_of d) first room before aft told fault.NoMemory
memory_serves first room before mid aft r d told how serving up output reads writes = record {
  reads = up;
  fills = serving.answered.fills;
  writes = writes_whole (setting_of d) before.output aft.output told (output ∙ serving.answered.written);
  read_faults = let le = counts_le how mid.read_faults aft.read_faults reads in let same = serving.read_faults in omega arith;
  write_faults = writes ∙ serving.write_faults;
}

-- the session after a batch that is answered
pub done_ends : (first : Cut) (before mid aft : Streams) (r t : BatchReaderShape) (d e : DeskShape) (told after : Told) (batch : List Job) (how : Paused)
    → IsServing first before mid r d told → setting_of e ≡ setting_of d →
    ReadsBatch before.input aft.input t.room (handed_more (handed_in first told) batch) how
    → (how ≡ paused.Batch → HasRead before.input aft.input (handed_more (handed_in first told) batch) t)
    → IsBatchAdded told batch after → HasAnsweredAll before.output aft.output e after
    → CountsPause how mid.read_faults aft.read_faults → aft.write_faults ≡ mid.write_faults → BatchEnds first before aft t e after (ending_after how)
done_ends first before mid aft r t d e told after batch paused.Batch serving same reads goes_on added answered counts writes = record {
  order = subst (λ n. AreInOrderFrom n first) (sym (lanes_of d e same)) serving.order;
  read = subst (λ (h : Handed). HasRead before.input aft.input h t) (added_handed first told batch after added) (goes_on refl);
  answered = answered;
  read_faults = counts ∙ serving.read_faults;
  write_faults = writes ∙ serving.write_faults;
}
done_ends first before mid aft r t d e told after batch paused.End serving same reads goes_on added answered counts writes = record {
  reads = subst (λ (h : Handed). ReadsBatch before.input aft.input t.room h paused.End) (added_handed first told batch after added) reads;
  fills = answered.fills;
  writes = answered.written;
  read_faults = counts ∙ serving.read_faults;
  write_faults = writes ∙ serving.write_faults;
}
done_ends first before mid aft r t d e told after batch paused.Failed serving same reads goes_on added answered counts writes = record {
  reads = subst (λ (h : Handed). ReadsBatch before.input aft.input t.room h paused.Failed) (added_handed first told batch after added) reads;
  fills = answered.fills;
  writes = answered.written;
  read_faults = λ small. let rose = counts.1 small in let same_count = serving.read_faults in omega arith;
  write_faults = writes ∙ serving.write_faults;
}
done_ends first before mid aft r t d e told after batch (paused.Stopped (stop.LineTooLong line)) serving same reads goes_on added answered counts writes =
    record {
      reads = subst (λ (h : Handed). ReadsBatch before.input aft.input t.room h (paused.Stopped (stop.LineTooLong line)))
          (added_handed first told batch after added) reads;
      fills = answered.fills;
      writes = answered.written;
      read_faults = counts ∙ serving.read_faults;
      write_faults = writes ∙ serving.write_faults;
    }
done_ends first before mid aft r t d e told after batch (paused.Stopped stop.TooManyLines) serving same reads goes_on added answered counts writes = record {
  reads = subst (λ (h : Handed). ReadsBatch before.input aft.input t.room h (paused.Stopped stop.TooManyLines)) (added_handed first told batch after added)
      reads;
  fills = answered.fills;
  writes = answered.written;
  read_faults = counts ∙ serving.read_faults;
  write_faults = writes ∙ serving.write_faults;
}
done_ends first before mid aft r t d e told after batch paused.NoMemory serving same reads goes_on added answered counts writes = record {
  reads = subst (λ (h : Handed). IsReadUp before.input aft.input h) (added_handed first told batch after added) reads;
  fills = answered.fills;
  writes = writes_whole (setting_of e) before.output aft.output after answered.written;
  read_faults = let le = counts_le paused.NoMemory mid.read_faults aft.read_faults counts in let same_count = serving.read_faults in omega arith;
  write_faults = writes ∙ serving.write_faults;
}

-- the session after a batch whose answering failed
pub fault_ends : (first : Cut) (room : ℕ) (before mid aft : Streams) (r : BatchReaderShape) (d e : DeskShape) (told after : Told) (batch : List Job)
    (how : Paused) (ending : RunFault)
    → IsServing first before mid r d told → setting_of e ≡ setting_of d →
    ReadsBatch before.input aft.input room (handed_more (handed_in first told) batch) how → how ≢ paused.NoMemory
    → IsReadUp before.input aft.input (handed_more (handed_in first told) batch) → IsReadUp before.input aft.input (handed_in first told)
    → AnswersTo before.output aft.output told batch e after (Err ending) → IsWriteEnding ending → CountsPause how mid.read_faults aft.read_faults
    → CountsWrites ending mid.write_faults aft.write_faults → Serves (setting_of e) first room before aft after ending
fault_ends first room before mid aft r d e told after batch how ending serving same reads memory up up_before answers end counts writes =
    grind arith

none_ends : (k : ℕ) → k < length {A = ℕ} [] → ⊥
none_ends k lt = omega (arith, lt)

none_filled : FillsJobs [] [] []
none_filled = record { whole = refl; batches = λ k lt lane. absurd (none_ends k lt); rests = λ k lt. absurd (none_ends k lt) }

-- before the first batch
pub opening_serves : (streams : Streams) (r : BatchReaderShape) (d : DeskShape) (told : Told) → JobsAreInOrder d.lanes → d.jobs ≡ [] → d.restored ≡ 0 →
    told ≡ nothing_told → r.cut ≡ start d.lanes → r.pending ≡ []
    → IsServing (start d.lanes) streams streams r d told
opening_serves streams r d told order jobs none_restored none begun empty = grind (arith, nothing_taken, none_filled, none_ends, nothing_put)

-- so begins a session at a new desk
pub session_begins : (streams : Streams) (r : BatchReaderShape) (d : DeskShape) (a : Answered) (p : PolicyShape) (lanes rounds room : ℕ) →
    JobsAreInOrder lanes → d ≡ desk_with p lanes rounds d.board [] d.spare → a.batch_ends ≡ [] →
    r ≡ record { cut = start lanes; pending = []; room = room } → IsServing (start d.lanes) streams streams r d (told_of d a)
session_begins streams r d a p lanes rounds room order new none_ends is =
    let same : d.lanes ≡ lanes = ap (λ (x : DeskShape). x.lanes) new in
    let entries : d.entries ≡ [] = ap (λ (x : DeskShape). x.entries) new in
    let none_jobs : jobs_told d ≡ [] = ap (λ (x : DeskShape). jobs_told x) new in
    opening_serves streams r d (told_of d a) (subst JobsAreInOrder (sym same) order) (ap (λ (x : DeskShape). x.jobs) new)
    (ap (λ (x : DeskShape). x.restored) new) (rw (entries, none_jobs, none_ends) refl)
    (ap (λ (x : BatchReaderShape). x.cut) is ∙ ap start (sym same)) (ap (λ (x : BatchReaderShape). x.pending) is)

-- where there was no memory for a session
pub bare_serves : (set : Setting) (room : ℕ) (streams : Streams) (told : Told) (ending : RunFault) → set.restored ≡ 0 → told ≡ nothing_told →
    ending ≡ fault.NoMemory → Serves set (start set.lanes) room streams streams told ending
bare_serves set room streams told ending none_restored nothing memory = rw (nothing, memory) (record {
  reads = record {
    bytes = [];
    ended = false;
    taken = nothing_taken streams.input;
    at_end = λ e. cc;
    up = record { ends = (0, refl); within = refl };
  };
  fills = none_filled;
  writes = writes_whole set streams.output streams.output nothing_told
      (subst (λ n. streams.output ≡ with_bytes streams.output (text_from set.policy n [])) (sym none_restored) (sym (nothing_put streams.output)));
  read_faults = omega arith;
  write_faults = refl;
})

-- a session is one as it is promised
pub serves_kept : (set : Setting) (first : Cut) (room : ℕ) (before after : Streams) (told : Told) (ending : RunFault) → IsSoundPolicy set.policy →
    HistoriesKeepCompletable → HistoriesAreExact
    → IsLegal (opening_state set.policy) set.rounds told.entries → Serves set first room before after told ending →
    Served set first room before after told ending
serves_kept set first room before after told ending sound keeps exact legal h = record {
  reads = h.reads;
  legal = legal;
  fills = h.fills;
  writes = h.writes;
  exact = exact set.policy set.rounds told.entries sound legal;
  kept = keeps set.policy set.rounds told.entries sound legal;
  read_faults = h.read_faults;
  write_faults = h.write_faults;
}

-- a session ends with its own endings alone
pub late_reads : (before after : Option (List ℕ)) (room : ℕ) (handed : Handed) (ending : RunFault) → ReadsFor before after room handed ending →
    is_before_input ending ≡ false
late_reads before after room handed ending h = grind arith

pub serves_late : (set : Setting) (first : Cut) (room : ℕ) (before after : Streams) (told : Told) (ending : RunFault) →
    Serves set first room before after told ending → is_before_input ending ≡ false
serves_late set first room before after told ending h = late_reads before.input after.input room (handed_in first told) ending h.reads
