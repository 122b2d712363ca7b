-- An audit stays sound with one more entry that comes next, and at its end the jobs are filled.
use Rattle.std.proofs.Common.{◌≡◌, ℕ, ◌+◌, ◌<◌, ◌≤◌, inl, inr, nat_eq, nat_lt, List, [], ◌∷◌, ◌++◌, length, take, drop, get_or, map, slice_get, slice_index_or}
use Rattle.std.proofs.Common.{Some, refl, sym, ap, subst, ◌∙◌, arith}
use Rattle.std.proofs.lemmas.Grind.{common_steps}
use Rattle.std.proofs.lemmas.List.{drop_all, length-append, length-take-le, take-append-drop, take-append-le, take-take, take_all, take_more}
use Rattle.std.proofs.lemmas.Option.{slice_get_cases}
use Rattle.basics.proofs.Booleans.{bool_cases, eq_back}
use Rattle.wf_names.specs.declared.limits.TheConstants.{LANE_LIMIT, SESSION_LINE_LIMIT}
use Rattle.policy_book.specs.Laws.Shapes.{PolicyShape}
use Rattle.wf_talk.specs.declared.entry.Entry.{Entry}
use Rattle.wf_talk.specs.declared.job.Job.{Job}
use Rattle.wf_board.specs.Laws.Histories.{EachAfter, FillsJobs, IsLegal, IsRightAfter, RestsFrom, batch_start, job_of_entry, lane_jobs}
use Rattle.wf_board.proofs.HistoryLaws.{each_more, rests_more}
use Rattle.wf_board.specs.Laws.States.{opening_state}
use Rattle.line_reader.specs.Laws.{AreInOrder}
use Rattle.wf_desk.specs.Desks.{DeskShape, IsDone, served, served_jobs}
use Rattle.wf_desk.specs.Desks as desk
use Rattle.wf_desk.specs.BatchLaws.{EndAt}
use Rattle.wf_desk.proofs.BatchLaws.{batch_fills}
use Rattle.wf_desk.proofs.DocketLaws.{all_done, batch_short, front_more, no_more, served_other, served_own}
use Rattle.transcript_audit.specs.Auditor.{AuditShape, ComesNext, audit_of, end_at, next_job, present_start, with_entry}
use Rattle.transcript_audit.specs.Laws.Outcomes.{IsWhole}
use Rattle.transcript_audit.specs.Keeping.{IsSoundAudit, end_of, jobs_in}
use Rattle.transcript_audit.proofs.Batches.{end_is, end_read, ends_within, first_ends, last_start, next_start, part_length, read_behind, start_ahead}
use Rattle.transcript_audit.proofs.Batches.{start_before_end, start_is, start_within}

-- a desk with the jobs and the entries of a batch
abbrev pub desk_of : AuditShape → ℕ → DeskShape
desk_of a k = record {
  opening = a.opening;
  lanes = LANE_LIMIT;
  rounds = a.rounds;
  board = record { policy = a.opening; cases = record { rows = []; ever = 0; spare = 0 }; edits = 0 };
  entries = a.entries;
  spare = 0;
  earlier = [];
  jobs = jobs_in a.jobs a.batch_ends k;
  start = batch_start a.batch_ends k;
  restored = 0;
  losses = [];
}

pub start_now : (a : AuditShape) (k : ℕ) → IsSoundAudit a k → present_start a ≡ batch_start a.batch_ends k
start_now a k sound = start_is a.batch_ends (length a.jobs) (length a.entries) k sound.order.ends sound.here

pub end_now : (a : AuditShape) (k : ℕ) → IsSoundAudit a k → end_at (length a.entries) a.batch_ends ≡ end_of a.batch_ends k
end_now a k sound = end_is a.batch_ends (length a.jobs) (length a.entries) k sound.order.ends sound.here

-- a lane's next job is that of the desk
pub next_is : (a : AuditShape) (k lane : ℕ) → IsSoundAudit a k → next_job a lane ≡ desk.next_job (desk_of a k) lane
next_is a k lane sound = grind (arith, start_now, end_now)

-- how many jobs there are up to the end of the batch
batch_size : (a : AuditShape) (k : ℕ) → IsSoundAudit a k → batch_start a.batch_ends k + length (jobs_in a.jobs a.batch_ends k) ≡ end_of a.batch_ends k
batch_size a k sound = grind (arith, part_length, start_before_end, ends_within)

-- where a lane has a job left, the entries stand before the end of the batch
pub next_short : (a : AuditShape) (k lane : ℕ) (j : Job) → IsSoundAudit a k → next_job a lane ≡ Some j → length a.entries < end_of a.batch_ends k
next_short a k lane j sound next =
    let short = batch_short (desk_of a k) lane j sound.here.begun sound.front (sym (next_is a k lane sound) ∙ next) in
    let size = batch_size a k sound in
    omega (arith, short, size)

-- and there is a batch
pub next_open : (a : AuditShape) (k lane : ℕ) (j : Job) → IsSoundAudit a k → next_job a lane ≡ Some j → k < length a.batch_ends
next_open a k lane j sound next = elim (bool_cases (nat_lt k (length a.batch_ends))) [
  | inl ahead ↦ grind (arith, common_steps)
  | inr shut ↦
      let known = sound.here.known in
      let last : k ≡ length a.batch_ends = grind (arith, common_steps) in
      let start = batch_start a.batch_ends k in
      let is : end_of a.batch_ends k ≡ start = ap (λ m. slice_index_or a.batch_ends m start) last ∙ read_behind a.batch_ends start in
      let here = sound.here.behind last in
      let short = next_short a k lane j sound next in
      absurd (omega (arith, is, here, short))
]

-- no more entries than jobs
pub within_end : (a : AuditShape) (k : ℕ) → IsSoundAudit a k → length a.entries ≤ end_of a.batch_ends k
within_end a k sound =
    let within = no_more (desk_of a k) sound.here.begun sound.front in
    let size = batch_size a k sound in
    omega (arith, within, size)

pub within_jobs : (a : AuditShape) (k : ℕ) → IsSoundAudit a k → length a.entries ≤ length a.jobs
within_jobs a k sound = grind (arith, within_end, ends_within)

pub entries_few : (a : AuditShape) (k : ℕ) → IsSoundAudit a k → length a.entries ≤ SESSION_LINE_LIMIT
entries_few a k sound = grind (arith, within_jobs)

-- ---- one more entry

legal_more : (a : AuditShape) (k : ℕ) (e : Entry) → IsSoundAudit a k → ComesNext a e → IsLegal (opening_state a.opening) a.rounds (a.entries ++ e ∷ [])
legal_more a k e sound next = each_more (IsRightAfter (opening_state a.opening) a.rounds) [] a.entries e sound.legal next.right

abbrev IsFront : ℕ → List Entry → List Job → ℕ → Type 0
IsFront start entries jobs lane = served_jobs start entries lane ≡ take (length (served_jobs start entries lane)) (lane_jobs lane jobs)

front_one : (start : ℕ) (entries : List Entry) (jobs : List Job) (e : Entry) (lane : ℕ) → start ≤ length entries → IsFront start entries jobs lane →
    slice_get (lane_jobs e.lane jobs) (length (served_jobs start entries e.lane)) ≡ Some (job_of_entry e) → IsFront start (entries ++ e ∷ []) jobs lane
front_one start entries jobs e lane begun front next = grind (arith, bool_cases, eq_back, served_own, front_more, served_other)

-- each lane's entries of the batch still answer its first jobs
front_next : (a : AuditShape) (k : ℕ) (e : Entry) (lane : ℕ) → IsSoundAudit a k → ComesNext a e →
    IsFront (batch_start a.batch_ends k) (a.entries ++ e ∷ []) (jobs_in a.jobs a.batch_ends k) lane
front_next a k e lane sound next = grind (arith, front_one, next_is)

-- what is answered again still rests on entries of the batch
rests_next : (a : AuditShape) (k : ℕ) (e : Entry) → IsSoundAudit a k → ComesNext a e →
    EachAfter (RestsFrom (batch_start a.batch_ends k)) (take (batch_start a.batch_ends k) (a.entries ++ e ∷ []))
    (drop (batch_start a.batch_ends k) (a.entries ++ e ∷ []))
rests_next a k e sound next = grind (arith, rests_more, start_now)

-- the batches before are still filled
filled_next : (a : AuditShape) (k : ℕ) (e : Entry) → IsSoundAudit a k →
    FillsJobs (take (batch_start a.batch_ends k) (a.entries ++ e ∷ [])) (take (batch_start a.batch_ends k) a.jobs) (take k a.batch_ends)
filled_next a k e sound = grind (arith, take-append-le)

size_more : (entries : List Entry) (e : Entry) → length (entries ++ e ∷ []) ≡ length entries + 1
size_more entries e = length-append entries (e ∷ [])

-- within the batch
pub sound_within : (a : AuditShape) (k : ℕ) (e : Entry) → IsSoundAudit a k → ComesNext a e → length (a.entries ++ e ∷ []) < end_of a.batch_ends k →
    IsSoundAudit (with_entry a e) k
sound_within a k e sound next short =
    let ahead = next_open a k e.lane (job_of_entry e) sound next.answers in
    record {
      order = sound.order;
      legal = legal_more a k e sound next;
      here = record {
        known = sound.here.known;
        begun = let begun = sound.here.begun in omega (arith, begun, size_more a.entries e);
        before = λ _. let read = end_read a.batch_ends k ahead in omega (arith, read, short);
        behind = λ last. absurd (omega (arith, ahead, last));
      };
      front = λ lane. front_next a k e lane sound next;
      rests = rests_next a k e sound next;
      filled = filled_next a k e sound;
    }

-- ---- the end of the batch

-- no lane has a job left
all_answered : (a : AuditShape) (k : ℕ) (e : Entry) → IsSoundAudit a k → ComesNext a e → length (a.entries ++ e ∷ []) ≡ end_of a.batch_ends k →
    IsDone (desk_of (with_entry a e) k)
all_answered a k e sound next full lane =
    let d = desk_of (with_entry a e) k in
    let jobs = lane_jobs lane d.jobs in
    let count = length (served d lane) in
    let begun : d.start ≤ length d.entries = let begun = sound.here.begun in omega (arith, begun, size_more a.entries e) in
    elim ((slice_get_cases jobs count).1) [
      | inl found ↦
          let short = batch_short d lane found.0 begun (λ l. front_next a k e l sound next) found.2 in
          let size = batch_size a k sound in
          absurd (omega (arith, short, size, full))
      | inr none ↦ none.1
    ]

take_both : (s e : ℕ) (jobs : List Job) → s ≤ e → take s jobs ++ drop s (take e jobs) ≡ take e jobs
take_both s e jobs within = ap (λ js. js ++ drop s (take e jobs)) (sym (take-take s e jobs within)) ∙ take-append-drop s (take e jobs)

-- with it one more batch is filled
filled_more : (a : AuditShape) (k : ℕ) (e : Entry) → IsSoundAudit a k → ComesNext a e → length (a.entries ++ e ∷ []) ≡ end_of a.batch_ends k →
    k < length a.batch_ends →
    FillsJobs (a.entries ++ e ∷ []) (take (end_of a.batch_ends k) a.jobs) (take (k + 1) a.batch_ends)
filled_more a k e sound next full ahead =
    let ends = a.batch_ends in
    let start = batch_start ends k in
    let end = end_of ends k in
    let new = a.entries ++ e ∷ [] in
    let total = length a.jobs in
    let known = sound.here.known in
    let jobs = jobs_in a.jobs ends k in
    let begun : start ≤ length new = let begun = sound.here.begun in omega (arith, begun, size_more a.entries e) in
    let answers = all_done (desk_of (with_entry a e) k) begun (λ lane. front_next a k e lane sound next) (rests_next a k e sound next)
    (all_answered a k e sound next full) in
    let long : length (take start a.jobs) ≡ start = length-take-le start a.jobs (start_within ends total k sound.order.ends known) in
    let at : EndAt (take k ends) (length (take start a.jobs)) = subst (EndAt (take k ends)) (sym long) (first_ends ends total k sound.order.ends known) in
    let fills = batch_fills (take start new) (drop start new) (take start a.jobs) jobs (take k ends)
    record { fills = filled_next a k e sound; at_end = at; answers = answers } in
    let size = batch_size a k sound in
    let sum : length (take start a.jobs) + length jobs ≡ get_or ends k 0 = let read = end_read ends k ahead in omega (arith, long, size, read) in
    subst (λ es. FillsJobs es (take end a.jobs) (take (k + 1) ends)) (take-append-drop start new)
    (subst (λ js. FillsJobs (take start new ++ drop start new) js (take (k + 1) ends))
    (take_both start end a.jobs (start_before_end ends total k sound.order.ends known))
    (subst (λ ns. FillsJobs (take start new ++ drop start new) (take start a.jobs ++ jobs) ns)
    (ap (λ n. take k ends ++ n ∷ []) sum ∙ sym (take_more ends k 0 ahead)) fills))

pub none_served : (start : ℕ) (entries : List Entry) (lane : ℕ) → length entries ≤ start → served_jobs start entries lane ≡ []
none_served start entries lane past = ap (λ es. lane_jobs lane (map job_of_entry es)) (drop_all start entries past)

-- to the next batch
pub sound_past : (a : AuditShape) (k : ℕ) (e : Entry) → IsSoundAudit a k → ComesNext a e → length (a.entries ++ e ∷ []) ≡ end_of a.batch_ends k →
    IsSoundAudit (with_entry a e) (k + 1)
sound_past a k e sound next full =
    let ends = a.batch_ends in
    let new = a.entries ++ e ∷ [] in
    let total = length a.jobs in
    let ahead = next_open a k e.lane (job_of_entry e) sound next.answers in
    let start = batch_start ends (k + 1) in
    let here : start ≡ length new = next_start ends k ahead ∙ sym full in
    let past : length new ≤ start = omega (arith, here) in
    let done : take start new ≡ new = take_all start new past in
    record {
      order = sound.order;
      legal = legal_more a k e sound next;
      here = record {
        known = omega (arith, ahead);
        begun = omega (arith, here);
        before = λ more. let below = start_ahead ends total (k + 1) sound.order.ends more in omega (arith, below, here);
        behind = λ last. sym here;
      };
      front = λ lane.
          subst (λ js. js ≡ take (length js) (lane_jobs lane (jobs_in a.jobs ends (k + 1)))) (sym (none_served start new lane past)) refl;
      rests = subst (EachAfter (RestsFrom start) (take start new)) (sym (drop_all start new past)) tt;
      filled = subst (λ es. FillsJobs es (take start a.jobs) (take (k + 1) ends)) (sym done)
          (subst (λ n. FillsJobs new (take n a.jobs) (take (k + 1) ends)) (sym (next_start ends k ahead)) (filled_more a k e sound next full ahead));
    }

-- ---- the first line, and the last

none_below : {X : Type 0} (k : ℕ) → k < 0 → X
none_below k below = absurd (omega (arith, below))

pub sound_start : (p : PolicyShape) (rounds : ℕ) (jobs : List Job) (ends : List ℕ) → AreInOrder LANE_LIMIT jobs ends →
    IsSoundAudit (audit_of p rounds jobs ends) 0
sound_start p rounds jobs ends order = record {
  order = order;
  legal = tt;
  here = record {
    known = omega arith;
    begun = omega arith;
    before = λ some. start_ahead ends (length jobs) 0 order.ends some;
    behind = λ last. refl;
  };
  front = λ lane. refl;
  rests = tt;
  filled = record {
    whole = refl;
    batches = λ k below lane. none_below k below;
    rests = λ k below. none_below k below;
  };
}

-- where each job has its entry, the entries fill the jobs
pub whole_at_end : (a : AuditShape) (k : ℕ) → IsSoundAudit a k → length a.entries ≡ length a.jobs → IsWhole a
whole_at_end a k sound full =
    let ends = a.batch_ends in
    let total = length a.jobs in
    let known = sound.here.known in
    elim (bool_cases (nat_lt k (length ends))) [
      | inl ahead ↦
          let below : k < length ends = grind (arith, common_steps) in
          let before = sound.here.before below in
          let read = end_read ends k below in
          let within = ends_within ends total k sound.order.ends known in
          absurd (omega (arith, before, read, within, full))
      | inr shut ↦
          let last : k ≡ length ends = grind (arith, common_steps) in
          let start : batch_start ends k ≡ total = ap (λ m. batch_start ends m) last ∙ last_start ends total sound.order.ends in
          let jobs : take (batch_start ends k) a.jobs ≡ a.jobs = take_all (batch_start ends k) a.jobs (omega (arith, start)) in
          let entries : take (batch_start ends k) a.entries ≡ a.entries = take_all (batch_start ends k) a.entries (omega (arith, start, full)) in
          let all : take k ends ≡ ends = take_all k ends (omega (arith, last)) in
          record {
            legal = sound.legal;
            fills = subst (λ es. FillsJobs es a.jobs ends) entries
                (subst (λ js. FillsJobs (take (batch_start ends k) a.entries) js ends) jobs
                (subst (λ ns. FillsJobs (take (batch_start ends k) a.entries) (take (batch_start ends k) a.jobs) ns) all sound.filled));
          }
    ]

-- ---- the next batch, whichever it is

-- one more entry that comes next
pub sound_more : (a : AuditShape) (k : ℕ) (e : Entry) → IsSoundAudit a k → ComesNext a e → (n : ℕ) × IsSoundAudit (with_entry a e) n
sound_more a k e sound next = elim (bool_cases (nat_eq (length (a.entries ++ e ∷ [])) (end_of a.batch_ends k))) [
  | inl full ↦ (k + 1, sound_past a k e sound next (eq_back (length (a.entries ++ e ∷ [])) (end_of a.batch_ends k) full))
  | inr short ↦
      let within = next_short a k e.lane (job_of_entry e) sound next.answers in
      let size = size_more a.entries e in
      (k, sound_within a k e sound next (grind (arith, common_steps)))
]
