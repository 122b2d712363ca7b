-- The jobs of every input are in order.
use Rattle.std.proofs.Common.{inl, inr, nat_eq, None, refl, sym, subst, ◌∙◌, arith}
use Rattle.std.specs.Prelude.{◌≡◌, ℕ, ◌+◌, ◌==◌, ◌<◌, ◌≤◌, nat_lt, Bool, true, List, [], ◌∷◌, ◌++◌, length, is_some}
use Rattle.std.proofs.lemmas.Grind.{common_steps}
use Rattle.basics.proofs.Booleans.{bool_cases}
use Rattle.std.proofs.lemmas.List.{append-nil, length-append}
use Rattle.wf_names.specs.declared.limits.TheConstants.{LINE_LIMIT, SESSION_LINE_LIMIT, BATCH_LINE_LIMIT}
use Rattle.wf_talk.specs.declared.job.Job.{Job}
use Rattle.wf_talk.specs.Jobs.{AreOfLanes}
use Rattle.wire_json.proofs.RequestLaws.{lane_below}
use Rattle.line_reader.specs.Jobs.{Cut, start, without_cr, job_of, end_batch, end_full_batch, next_line, with_job, end_line, step, cut_all, flush}
use Rattle.line_reader.specs.Jobs.{jobs_from}
use Rattle.line_reader.specs.Jobs.{last_or, next_input}
use Rattle.line_reader.proofs.CutLaws.{finished_stop, if_both}
use Rattle.line_reader.specs.Laws.{AreLinesBelow, LinesAscend, LeadTo, AreInOrder, GoesOn, InputsGoOn, JobsAreInOrder}

-- the line after the last of the jobs
abbrev after_lines : ℕ → List Job → ℕ
after_lines number [] = number
after_lines number (job ∷ jobs) = after_lines (job.line + 1) jobs

ascend_push : (number : ℕ) (jobs : List Job) (job : Job) → LinesAscend number jobs → after_lines number jobs ≤ job.line → LinesAscend number (jobs ++ job ∷ [])
ascend_push number [] job ascend below = (below, tt)
ascend_push number (j ∷ js) job ascend below = (ascend.0, ascend_push (j.line + 1) js job ascend.1 below)

after_push : (number : ℕ) (jobs : List Job) (job : Job) → after_lines number (jobs ++ job ∷ []) ≡ job.line + 1
after_push number [] job = refl
after_push number (j ∷ js) job = after_push (j.line + 1) js job

after_above : (number : ℕ) (jobs : List Job) → LinesAscend number jobs → number ≤ after_lines number jobs
after_above number [] ascend = omega arith
after_above number (j ∷ js) ascend = let later = after_above (j.line + 1) js ascend.1 in omega (arith, later, ascend.0)

-- no line is at or behind the one after the last
lines_below : (limit number : ℕ) (jobs : List Job) → LinesAscend number jobs → after_lines number jobs ≤ limit → AreLinesBelow limit jobs
lines_below limit number [] ascend within = tt
lines_below limit number (j ∷ js) ascend within = grind (arith, after_above, (lines_below limit (j.line + 1) js ascend.1 within))

lanes_push : (lanes : ℕ) (jobs : List Job) (job : Job) → AreOfLanes lanes jobs → job.lane < lanes → AreOfLanes lanes (jobs ++ job ∷ [])
lanes_push lanes [] job all below = (below, tt)
lanes_push lanes (j ∷ js) job all below = (all.0, lanes_push lanes js job all.1 below)

lead_push : (before total end : ℕ) (ends : List ℕ) → LeadTo before ends total → total < end → end ≤ total + BATCH_LINE_LIMIT →
    LeadTo before (ends ++ end ∷ []) end
lead_push before total end [] lead above within = (omega (arith, lead), omega (arith, lead), refl)
lead_push before total end (e ∷ es) lead above within = (lead.0, lead.1, lead_push e total end es lead.2 above within)

-- what the cutting keeps; within a step a batch may have one line more
pub record Keeps (lanes spare : ℕ) (c : Cut) : Type 0 where
  pub same : c.lanes ≡ lanes
  pub number : c.number ≤ SESSION_LINE_LIMIT
  pub within : 0 < length c.line → c.number < SESSION_LINE_LIMIT
  pub few : length c.jobs ≤ c.number
  pub lines : LinesAscend 0 c.jobs
  pub next : after_lines 0 c.jobs ≤ c.number
  pub of_lanes : AreOfLanes lanes c.jobs
  pub ends : LeadTo 0 c.ends c.from
  pub begins : c.from ≤ length c.jobs
  pub batch : length c.jobs < c.from + BATCH_LINE_LIMIT + spare

-- a batch may have as many lines more as there is room
keeps_spare : (lanes spare more : ℕ) (c : Cut) → Keeps lanes spare c → length c.jobs < c.from + BATCH_LINE_LIMIT + more → Keeps lanes more c
keeps_spare lanes spare more c k room = grind arith

keeps_end : (lanes : ℕ) (c : Cut) → Keeps lanes 1 c → Keeps lanes 0 (end_batch c)
unfolding end_batch
keeps_end lanes c k = grind (arith, if_both, common_steps, lead_push, keeps_spare)

keeps_full : (lanes : ℕ) (c : Cut) → Keeps lanes 1 c → Keeps lanes 0 (end_full_batch c)
unfolding end_full_batch
keeps_full lanes c k = grind (arith, if_both, keeps_end, keeps_spare, common_steps)

keeps_next : (lanes : ℕ) (c : Cut) → Keeps lanes 0 c → c.number < SESSION_LINE_LIMIT → Keeps lanes 1 (next_line c)
keeps_next lanes c k within = grind arith

keeps_job : (lanes : ℕ) (c : Cut) (job : Job) → Keeps lanes 0 c → c.number < SESSION_LINE_LIMIT → job.lane < lanes → job.line ≡ c.number →
    Keeps lanes 1 (with_job c job)
keeps_job lanes c job k within lane line = grind (arith, length-append, ascend_push, after_push, lanes_push)

-- a job is of one of the lanes
job_below : (lanes : ℕ) (c : Cut) (line : List ℕ) → c.lanes ≡ lanes → 0 < lanes → (job_of c.lanes c.number line).lane < lanes
job_below lanes c line same some = rw same (lane_below lanes line some)

keeps_line : (lanes : ℕ) (c : Cut) → 0 < lanes → Keeps lanes 0 c → c.number < SESSION_LINE_LIMIT → Keeps lanes 0 (end_line c)
unfolding end_line
keeps_line lanes c some k within =
    if_both (Keeps lanes 0) (length (without_cr c.line) == 0) (end_batch (next_line c))
    (end_full_batch (with_job c (job_of c.lanes c.number (without_cr c.line))))
    (λ empty. keeps_end lanes (next_line c) (keeps_next lanes c k within))
    (λ full. keeps_full lanes (with_job c (job_of c.lanes c.number (without_cr c.line)))
    (keeps_job lanes c (job_of c.lanes c.number (without_cr c.line)) k within (job_below lanes c (without_cr c.line) k.same some) refl))

keeps_still : (lanes : ℕ) (c d : Cut) → Keeps lanes 0 c → d.lanes ≡ c.lanes → d.number ≡ c.number → d.jobs ≡ c.jobs → d.ends ≡ c.ends → d.from ≡ c.from
    → (0 < length d.line → c.number < SESSION_LINE_LIMIT) → Keeps lanes 0 d
keeps_still lanes c d k same number jobs ends from within = grind arith

keeps_step : (lanes : ℕ) (c : Cut) (b : ℕ) → 0 < lanes → Keeps lanes 0 c → Keeps lanes 0 (step c b)
unfolding step
keeps_step lanes c b some k =
    if_both (Keeps lanes 0) (is_some c.stop) c _ (λ stopped. k) (λ going.
    if_both (Keeps lanes 0) (nat_lt c.number SESSION_LINE_LIMIT) _ _ (λ below.
    let within : c.number < SESSION_LINE_LIMIT = grind (arith, common_steps) in
    if_both (Keeps lanes 0) (b == 10) (end_line c) _ (λ lf. keeps_line lanes c some k within) (λ other.
    if_both (Keeps lanes 0) (nat_lt (length c.line) LINE_LIMIT) _ _
    (λ short. keeps_still lanes c _ k refl refl refl refl refl (λ line. within))
    (λ long. keeps_still lanes c _ k refl refl refl refl refl k.within)))
    (λ above. keeps_still lanes c _ k refl refl refl refl refl k.within))

keeps_all : (lanes : ℕ) (c : Cut) (bytes : List ℕ) → 0 < lanes → Keeps lanes 0 c → Keeps lanes 0 (cut_all c bytes)
keeps_all lanes c [] some k = k
keeps_all lanes c (b ∷ bs) some k = keeps_all lanes (step c b) bs some (keeps_step lanes c b some k)

keeps_start : (lanes : ℕ) → Keeps lanes 0 (start lanes)
keeps_start lanes = grind arith

-- what is kept to the end, where the last line may have a job too
record IsDone (lanes : ℕ) (c : Cut) : Type 0 where
  pub few : length c.jobs ≤ SESSION_LINE_LIMIT
  pub lines : LinesAscend 0 c.jobs
  pub below : AreLinesBelow SESSION_LINE_LIMIT c.jobs
  pub of_lanes : AreOfLanes lanes c.jobs
  pub ends : LeadTo 0 c.ends c.from
  pub begins : c.from ≤ length c.jobs
  pub batch : length c.jobs ≤ c.from + BATCH_LINE_LIMIT

done_kept : (lanes : ℕ) (c : Cut) → Keeps lanes 0 c → IsDone lanes c
done_kept lanes c k = grind (arith, lines_below)

done_job : (lanes : ℕ) (c : Cut) (job : Job) → Keeps lanes 0 c → 0 < length c.line → job.lane < lanes → job.line ≡ c.number →
    IsDone lanes (record c { jobs = c.jobs ++ job ∷ [] })
done_job lanes c job k some lane line =
    let more : Keeps lanes 1 (with_job c job) = keeps_job lanes c job k (k.within some) lane line in
    record {
      few = let h = more.few in let i = more.number in omega arith;
      lines = more.lines;
      below = lines_below SESSION_LINE_LIMIT 0 (c.jobs ++ job ∷ []) more.lines (let h = more.next in let i = more.number in omega arith);
      of_lanes = more.of_lanes;
      ends = more.ends;
      begins = more.begins;
      batch = let h = more.batch in omega arith;
    }

done_flush : (lanes : ℕ) (c : Cut) (ended : Bool) → 0 < lanes → Keeps lanes 0 c → IsDone lanes (flush ended c)
unfolding flush
done_flush lanes c ended some k =
    if_both (IsDone lanes) ended _ c (λ yes.
    if_both (IsDone lanes) (is_some c.stop) c _ (λ stopped. done_kept lanes c k) (λ going.
    if_both (IsDone lanes) (length c.line == 0) c _ (λ empty. done_kept lanes c k)
    (λ full. done_job lanes c (job_of c.lanes c.number c.line) k (grind (arith, common_steps)) (job_below lanes c c.line k.same some) refl)))
    (λ no. done_kept lanes c k)

in_order_end : (lanes : ℕ) (c : Cut) → IsDone lanes c → AreInOrder lanes (end_batch c).jobs (end_batch c).ends
unfolding end_batch
in_order_end lanes c h = grind (arith, if_both, lead_push, common_steps)

-- ---- another input

next_empty : (c : Cut) → c.stop ≡ None → length c.line ≡ 0 → next_input (end_batch (flush true c)) ≡ record (end_batch c) { line = [] }
unfolding flush end_batch
next_empty c going empty = grind (arith, common_steps)

next_full : (c : Cut) → c.stop ≡ None → 0 < length c.line → next_input (end_batch (flush true c)) ≡ end_batch (with_job c (job_of c.lanes c.number c.line))
unfolding flush end_batch
next_full c going full = grind (arith, common_steps)

-- where one input has ended, another can be cut behind it
pub next_keeps : (lanes : ℕ) (c : Cut) → 0 < lanes → Keeps lanes 0 c → c.stop ≡ None → Keeps lanes 0 (next_input (end_batch (flush true c)))
next_keeps lanes c some k going = elim (bool_cases (nat_eq (length c.line) 0)) [
  | inl empty ↦
      let same = next_empty c going (grind (arith, common_steps)) in
      let kept = keeps_end lanes c (keeps_spare lanes 0 1 c k (omega (arith, k.batch))) in
      subst (Keeps lanes 0) (sym same)
      (keeps_still lanes (end_batch c) (record (end_batch c) { line = [] }) kept refl refl refl refl refl (λ line. absurd (omega (arith, line))))
  | inr other ↦
      let full : 0 < length c.line = grind (arith, common_steps) in
      let same = next_full c going full in
      let job = job_of c.lanes c.number c.line in
      subst (Keeps lanes 0) (sym same) (keeps_end lanes (with_job c job) (keeps_job lanes c job k (k.within full) (job_below lanes c c.line k.same some) refl))
]

-- so are the jobs behind what was cut before, if that keeps what every cutting does
pub in_order_from : (lanes : ℕ) (c : Cut) (bytes : List ℕ) (ended : Bool) → 0 < lanes → Keeps lanes 0 c →
    AreInOrder lanes (jobs_from c bytes ended).jobs (jobs_from c bytes ended).ends
unfolding jobs_from
in_order_from lanes c bytes ended some k =
    in_order_end lanes (flush ended (cut_all c bytes)) (done_flush lanes (cut_all c bytes) ended some (keeps_all lanes c bytes some k))

pub jobs_are_in_order : (lanes : ℕ) → 0 < lanes → JobsAreInOrder lanes
jobs_are_in_order lanes some bytes ended = in_order_from lanes (start lanes) bytes ended some (keeps_start lanes)

-- ---- behind a text

-- where ends lead to a total, the last of them is the total
pub lead_last : (before : ℕ) (ends : List ℕ) (total : ℕ) → LeadTo before ends total → last_or before ends ≡ total
lead_last before [] total lead = lead
lead_last before (e ∷ es) total lead = lead_last e es total lead.2

-- no batch is open
end_closes : (c : Cut) → c.from ≤ length c.jobs → (end_batch c).from ≡ length (end_batch c).jobs
unfolding end_batch
end_closes c begins = grind (arith, common_steps)

goes_on : (lanes : ℕ) (c : Cut) → 0 < lanes → Keeps lanes 0 c → c.stop ≡ None → GoesOn lanes (end_batch (flush true c))
goes_on lanes c some k going =
    let file = end_batch (flush true c) in
    let kept : Keeps lanes 0 (next_input file) = next_keeps lanes c some k going in
    let done = done_flush lanes c true some k in
    let from : file.from ≡ length file.jobs = end_closes (flush true c) done.begins in
    let stop : file.stop ≡ None = finished_stop c true ∙ going in
    let same : file.lanes ≡ lanes = kept.same in
    let added : length file.jobs + 0 ≡ file.from = omega (arith, from) in
    record {
      begins = λ i. record {
        lanes = (sym same) i;
        line = [];
        number = (next_input file).number;
        jobs = (append-nil file.jobs) i;
        from = added i;
        ends = (append-nil file.ends) i;
        stop = (sym stop) i;
      };
      closed = lead_last 0 file.ends file.from kept.ends ∙ from;
      order = λ bytes ended. in_order_from lanes (next_input file) bytes ended some kept;
    }

pub inputs_go_on : (lanes : ℕ) → 0 < lanes → InputsGoOn lanes
unfolding jobs_from
inputs_go_on lanes some text going =
    let c = cut_all (start lanes) text in
    goes_on lanes c some (keeps_all lanes (start lanes) text some (keeps_start lanes)) (sym (finished_stop c true) ∙ going)

-- ---- more lanes

of_more_lanes : (lanes more : ℕ) (jobs : List Job) → lanes ≤ more → AreOfLanes lanes jobs → AreOfLanes more jobs
of_more_lanes lanes more [] within all = tt
of_more_lanes lanes more (j ∷ js) within all = (let h = all.0 in omega (arith, h, within), of_more_lanes lanes more js within all.1)

-- jobs that are in order for some lanes are so for more
pub order_within : (lanes more : ℕ) (jobs : List Job) (batch_ends : List ℕ) → lanes ≤ more → AreInOrder lanes jobs batch_ends → AreInOrder more jobs batch_ends
order_within lanes more jobs batch_ends within h = grind (arith, of_more_lanes)
