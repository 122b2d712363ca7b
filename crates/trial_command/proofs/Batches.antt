-- How the entries of a batch follow those before.
use Rattle.std.proofs.Common.{◌≡◌, ℕ, zero, suc, ◌+◌, ◌-◌, ◌<◌, ◌≤◌, List, [], ◌∷◌, ◌++◌, length, take, drop, refl, sym, ◌∙◌, ap, subst, arith}
use Rattle.std.specs.List.{All}
use Rattle.std.proofs.lemmas.List.Elements.{All-head, All-tail, All-take, All-drop}
use Rattle.std.proofs.lemmas.Bool.Decides.{leb_tells}
use Rattle.std.proofs.lemmas.List.{length-append, length-take-le, take-append-le, take_more}
use Rattle.std.proofs.Math.Seq.{drop-append_seam, take-append_seam, take-length}
use Rattle.wf_talk.specs.declared.entry.Entry.{Entry}
use Rattle.wf_talk.specs.declared.job.Job.{Job}
use Rattle.wf_board.specs.Laws.Histories.{AreAnsweredOnce, FillsJobs, batch_end, batch_start}
use Rattle.wf_board.proofs.HistoryLaws.{once_all}
use Rattle.wf_desk.specs.BatchLaws.{AnswersBatch, EndAt}
use Rattle.wf_desk.proofs.BatchLaws.{batch_fills, end_before, end_last, start_before}
use Rattle.wf_desk.specs.Desks.{AreOfLanes, DeskShape, IsDone, IsSoundDesk, with_batch_from, with_room}
use Rattle.wf_desk.proofs.DocketLaws.{batch_done}
use Rattle.wf_desk.proofs.Ends.{end_more}
use Rattle.wf_lanes.specs.Turns.{AreByTurns, HasServedByTurns}
use Rattle.trial_command.specs.TrialLaws.{AreEndsOf}
use Rattle.trial_command.specs.Run.{AreBatchesByTurns, batch_entries}
use Rattle.trial_command.specs.Serving.{HasServedAll, HasServedBatch}

-- a batch that was loaded and served by turns
pub batch_served : (old loaded d : DeskShape) (batch : List Job) (spare cases : ℕ) →
    loaded ≡ with_room (with_batch_from old batch (length old.entries)) spare cases
    → HasServedByTurns loaded d → IsDone d → IsSoundDesk d → HasServedBatch old d batch
batch_served old loaded d batch spare cases is by_turns done sound = at (subst (λ x. HasServedByTurns x d) is by_turns)
  where
    at : HasServedByTurns (with_room (with_batch_from old batch (length old.entries)) spare cases) d → HasServedBatch old d batch
    at by_turns =
        let on = by_turns.on in
        let new = on.grown.more in
        let first : take d.start d.entries ≡ old.entries = ap (λ n. take n d.entries) on.grown.start ∙ ap (take (length old.entries)) on.grown.extends ∙
        take-append_seam old.entries new in
        let rest : drop d.start d.entries ≡ new = ap (λ n. drop n d.entries) on.grown.start ∙ ap (drop (length old.entries)) on.grown.extends ∙
        drop-append_seam old.entries new in
        record {
          same = record { opening = on.grown.opening; lanes = on.grown.lanes; rounds = on.grown.rounds; restored = on.grown.restored };
          more = new;
          extends = on.grown.extends;
          answers = subst (λ es. AnswersBatch es new batch) first (subst (λ es. AnswersBatch (take d.start d.entries) es batch) rest
              (subst (AnswersBatch (take d.start d.entries) (drop d.start d.entries)) on.grown.jobs (batch_done d sound done)));
          turns = by_turns.turns;
          once = on.once;
          done = done;
        }

-- ---- ends

start_within : (count m k : ℕ) (ends : List ℕ) → AreEndsOf count ends → k + m ≡ length ends → batch_start ends k ≤ count
start_within count zero k ends are all = grind arith
start_within count (suc m) k ends are all = grind (arith, (start_within count m (suc k) ends are (omega (arith, all))))

-- each end is within the jobs
pub end_within_jobs : (count k : ℕ) (ends : List ℕ) → AreEndsOf count ends → k < length ends → batch_end ends k ≤ count
end_within_jobs count k ends are lt = start_within count (length ends - suc k) (suc k) ends are (omega (arith, lt))

-- ---- jobs

-- jobs of lanes, one by one
pub of_lanes : (lanes : ℕ) (jobs : List Job) → All (λ j. j.lane < lanes) jobs → AreOfLanes lanes jobs
of_lanes lanes [] all = tt
of_lanes lanes (j ∷ jobs) all = (All-head (λ (x : Job). x.lane < lanes) j jobs all, of_lanes lanes jobs (All-tail (λ (x : Job). x.lane < lanes) j jobs all))

-- ---- the entries of the batches so far

-- with one more batch those of an earlier one are the same
entries_before : (ends : List ℕ) (x k : ℕ) (es new : List Entry) → k < length ends → batch_end ends k ≤ length es
    → batch_entries (ends ++ x ∷ []) k (es ++ new) ≡ batch_entries ends k es
entries_before ends x k es new lt within = grind (arith, start_before, end_before, take-append-le)

-- and those of the last are the new ones
entries_last : (ends : List ℕ) (x : ℕ) (es new : List Entry) → batch_start ends (length ends) ≡ length es → x ≡ length es + length new
    → batch_entries (ends ++ x ∷ []) (length ends) (es ++ new) ≡ new
entries_last ends x es new begins stops =
    ap (λ n. drop n (take (batch_end (ends ++ x ∷ []) (length ends)) (es ++ new))) (start_before ends x (length ends) (omega arith) ∙ begins)
    ∙ ap (λ n. drop (length es) (take n (es ++ new))) (end_last ends x ∙ stops ∙ sym (length-append es new))
    ∙ ap (drop (length es)) (take-length (es ++ new)) ∙ drop-append_seam es new

-- in one more batch the lanes take turns as well
turns_more : (ends : List ℕ) (x : ℕ) (es new : List Entry) → EndAt ends (length es) → x ≡ length es + length new
    → AreBatchesByTurns ends es → AreByTurns new → AreBatchesByTurns (ends ++ x ∷ []) (es ++ new)
turns_more ends x es new are stops so_far next = grind (arith, leb_tells, length-append, entries_last, entries_before)

-- ---- the batches so far

-- with one more batch
pub served_more : (first d e : DeskShape) (js batch : List Job) (ends : List ℕ) → HasServedAll first d js ends → HasServedBatch d e batch
    → HasServedAll first e (js ++ batch) (ends ++ (length js + length batch) ∷ [])
served_more first d e js batch ends so_far next = record {
  same = record {
    opening = next.same.opening ∙ so_far.same.opening;
    lanes = next.same.lanes ∙ so_far.same.lanes;
    rounds = next.same.rounds ∙ so_far.same.rounds;
    restored = next.same.restored ∙ so_far.same.restored;
  };
  done = next.done;
  fills = subst (λ es. FillsJobs es (js ++ batch) (ends ++ (length js + length batch) ∷ [])) (sym next.extends)
      (batch_fills d.entries next.more js batch ends record { fills = so_far.fills; at_end = so_far.ends; answers = next.answers });
  ends = subst (EndAt (ends ++ (length js + length batch) ∷ [])) (sym (length-append js batch))
      (end_more ends (length js) (length js + length batch) so_far.ends (omega arith));
  turns = subst (AreBatchesByTurns (ends ++ (length js + length batch) ∷ [])) (sym next.extends)
      (turns_more ends (length js + length batch) d.entries next.more (subst (EndAt ends) (sym so_far.fills.whole) so_far.ends)
      (omega (arith, so_far.fills.whole, next.answers.whole)) so_far.turns next.turns);
  once = subst AreAnsweredOnce (sym next.extends) (once_all d.entries next.more so_far.once next.once);
}

-- ---- the jobs in their order

-- a batch begins where the one before ends
pub next_start : (ends : List ℕ) (k : ℕ) → batch_end ends k ≡ batch_start ends (k + 1)
next_start ends k = let same : suc k ≡ k + 1 = omega arith in ap (batch_start ends) same

pub part_of_lanes : (lanes start size : ℕ) (jobs : List Job) → All (λ j. j.lane < lanes) jobs → AreOfLanes lanes (take size (drop start jobs))
part_of_lanes lanes start size jobs all =
    let P = λ (j : Job). j.lane < lanes in
    of_lanes lanes (take size (drop start jobs)) (All-take P size (drop start jobs) (All-drop P start jobs all))

-- the first jobs and those after them are more of the first
first_more : (start stop : ℕ) (jobs : List Job) → start ≤ stop → take start jobs ++ take (stop - start) (drop start jobs) ≡ take stop jobs
first_more zero stop jobs le = ap (λ n. take n jobs) (omega arith)
first_more (suc start) zero jobs le = absurd (omega (arith, le))
first_more (suc start) (suc stop) [] le = none (suc stop - suc start)
  where
    none : (n : ℕ) → take {A = Job} n [] ≡ []
    none zero = refl
    none (suc n) = refl
first_more (suc start) (suc stop) (j ∷ jobs) le =
    let same : suc stop - suc start ≡ stop - start = omega arith in
    ap (λ n. j ∷ (take start jobs ++ take n (drop start jobs))) same ∙ ap (λ js. j ∷ js) (first_more start stop jobs (omega (arith, le)))

-- and so for the batches
pub served_next : (first d e : DeskShape) (jobs : List Job) (ends : List ℕ) (k start stop : ℕ) → AreEndsOf (length jobs) ends → k < length ends
    → stop ≡ batch_end ends k → start ≡ batch_start ends k → start ≤ length jobs
    → HasServedAll first d (take start jobs) (take k ends) → HasServedBatch d e (take (stop - start) (drop start jobs))
    → HasServedAll first e (take stop jobs) (take (k + 1) ends)
served_next first d e jobs ends k start stop are lt at from within so_far next =
    let ahead : start ≤ stop = let h = are.ascend k lt in omega (arith, h, at, from) in
    let inside : stop ≤ length jobs = let h = end_within_jobs (length jobs) k ends are lt in omega (arith, h, at) in
    let js : take start jobs ++ take (stop - start) (drop start jobs) ≡ take stop jobs = first_more start stop jobs ahead in
    let size : length (take start jobs) + length (take (stop - start) (drop start jobs)) ≡ stop =
    sym (length-append (take start jobs) (take (stop - start) (drop start jobs))) ∙ ap length js ∙ length-take-le stop jobs inside in
    let ns : take k ends ++ (length (take start jobs) + length (take (stop - start) (drop start jobs))) ∷ [] ≡ take (k + 1) ends =
    ap (λ n. take k ends ++ n ∷ []) (size ∙ at) ∙ sym (take_more ends k 0 lt) in
    subst (λ xs. HasServedAll first e xs (take (k + 1) ends)) js
    (subst (HasServedAll first e (take start jobs ++ take (stop - start) (drop start jobs))) ns
    (served_more first d e (take start jobs) (take (stop - start) (drop start jobs)) (take k ends) so_far next))
