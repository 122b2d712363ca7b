-- How the batches of a requests file follow one another.
use Rattle.wf_server.proofs.Common.{◌≡◌, ℕ, ◌+◌, ◌<◌, ◌≤◌, List, length, take, slice_index_or, Option, Err, inl, inr, refl, sym, ap, subst, ◌∙◌, arith}
use Rattle.wf_server.proofs.Common.{drop_all, length-append, length-take-le, take_more, nothing_put, Job, batch_start, DeskShape, jobs_told, AreInOrder}
use Rattle.wf_server.proofs.Common.{RunFault, Told, setting_of, Answered, told_of, AnswersTo, HasAnsweredPart, HasLoaded, IsBatchAdded, IsBatch, IsWriteEnding}
use Rattle.wf_server.proofs.Common.{FileTo, IsToldTo}
use Rattle.std.proofs.lemmas.Bool.{lt-ltb}
use Rattle.transcript_audit.proofs.Batches.{ends_within, next_start, end_read, part_length, start_ahead, start_within}
use Rattle.transcript_commands.specs.Unserved.{jobs_between}
use Rattle.transcript_commands.proofs.Rests.{lanes_between, near_from}
use Rattle.transcript_commands.specs.Laws.Begun.{StandsAt}
use Rattle.transcript_commands.proofs.Stands.{jobs_here}
use Rattle.run_record.specs.declared.fault.RunFault.TheVariants as fault
use Rattle.wf_server.proofs.SessionLaws.{lanes_of}

-- ---- one batch

-- the next batch of a file that is in order, and where it begins and ends
pub record IsNext (lanes : ℕ) (jobs : List Job) (ends : List ℕ) (count start stop : ℕ) : Type 0 where
  pub in_order : AreInOrder lanes jobs ends
  pub known : count < length ends
  pub begins : start ≡ batch_start ends count
  pub closes : stop ≡ batch_start ends (count + 1)
  pub end_here : slice_index_or ends count 0 ≡ stop
  pub order : start < stop
  pub within : stop ≤ length jobs

-- it comes next at a desk that is served on
pub is_next : (d e : DeskShape) (jobs : List Job) (ends : List ℕ) (count size : ℕ) (told : Told) → setting_of e ≡ setting_of d → AreInOrder d.lanes jobs ends →
    count < size → size ≡ length ends → IsToldTo jobs ends count told
    → IsNext e.lanes jobs ends count (length told.jobs) (slice_index_or ends count 0)
is_next d e jobs ends count size told same order test whole is =
    let lead = order.ends in
    let known : count < length ends = omega (arith, test, whole) in
    let begun = start_within ends (length jobs) count lead (omega (arith, known)) in
    let begins : length told.jobs ≡ batch_start ends count = ap length is.all_jobs ∙ length-take-le (batch_start ends count) jobs begun in
    let ahead = start_ahead ends (length jobs) count lead known in
    let last = end_read ends count known in
    let inside = ends_within ends (length jobs) count lead (omega (arith, known)) in
    record {
      in_order = subst (λ n. AreInOrder n jobs ends) (sym (lanes_of d e same)) order;
      known = known;
      begins = begins;
      closes = sym (next_start ends count known ∙ last);
      end_here = refl;
      order = omega (arith, begins, ahead);
      within = omega (arith, last, inside);
    }

-- its jobs are a batch
pub file_batch : (lanes : ℕ) (jobs : List Job) (ends : List ℕ) (count start stop : ℕ) → IsNext lanes jobs ends count start stop →
    IsBatch lanes start (jobs_between start stop jobs)
file_batch lanes jobs ends count start stop next = grind (arith, part_length, near_from, lanes_between)

-- and are told
pub told_more : (lanes : ℕ) (jobs : List Job) (ends : List ℕ) (count : ℕ) (before after : Told) (batch : List Job) (start stop : ℕ) →
    IsToldTo jobs ends count before → IsNext lanes jobs ends count start stop → start ≡ length before.jobs → batch ≡ jobs_between start stop jobs →
    IsBatchAdded before batch after
    → IsToldTo jobs ends (count + 1) after
told_more lanes jobs ends count before after batch start stop is next begins same added = grind (arith, part_length, lt-ltb, take_more, jobs_here)

-- the jobs so far are some where a batch was told
told_some : (before after : Told) (batch : List Job) → IsBatchAdded before batch after → 0 < length batch → 0 < length after.jobs
told_some before after batch added some = let size = ap length added.jobs in omega (arith, size, some, length-append before.jobs batch)

-- ---- a fault

pub file_fails : (lanes : ℕ) (jobs : List Job) (ends : List ℕ) (count : ℕ) (held aft : Option (List ℕ)) (before after : Told) (d : DeskShape)
    (batch : List Job) (start stop : ℕ) (ending : RunFault)
    → IsToldTo jobs ends count before → IsNext lanes jobs ends count start stop → start ≡ length before.jobs → batch ≡ jobs_between start stop jobs
    → AnswersTo held aft before batch d after (Err ending) → IsWriteEnding ending → FileTo held aft jobs ends d after (Err ending)
file_fails lanes jobs ends count held aft before after d batch start stop fault.Write is next begins same answers end =
    let above = next.order in
    let size = part_length start stop jobs (omega (arith, above)) next.within in
    let same_size = ap length same in (
      record {
        count = count + 1;
        to = told_more lanes jobs ends count before after batch start stop is next begins same answers.0;
        some = λ _. told_some before after batch answers.0 (omega (arith, size, above, same_size));
      },
      answers.1,
    )
file_fails lanes jobs ends count held aft before after d batch start stop fault.NoMemory is next begins same answers end = (
  elim answers.0 [
    | inl stays ↦ record { count = count; to = subst (λ (t : Told). IsToldTo jobs ends count t) (sym stays) is; some = λ other. absurd cc }
    | inr added ↦ record {
      count = count + 1;
      to = told_more lanes jobs ends count before after batch start stop is next begins same added;
      some = λ other. absurd cc;
    }
  ],
  answers.1,
)
file_fails lanes jobs ends count held aft before after d batch start stop ending is next begins same answers end = absurd end

-- ---- the batch at the desk

-- the batches before the one at the desk
abbrev pub earlier : (d : DeskShape) (a : Answered) → StandsAt d.entries d.start d.jobs (jobs_told d) a.batch_ends → Told
earlier d a stands = record { entries = take d.start d.entries; jobs = stands.earlier_jobs; batch_ends = stands.earlier_ends }

pub first_loaded : (held : Option (List ℕ)) (d : DeskShape) (a : Answered) → (stands : StandsAt d.entries d.start d.jobs (jobs_told d) a.batch_ends) →
    d.restored ≡ length d.entries
    → HasLoaded held held d (earlier d a stands)
first_loaded held d a stands restored = grind (arith, drop_all, nothing_put)

pub first_added : (d : DeskShape) (a : Answered) → (stands : StandsAt d.entries d.start d.jobs (jobs_told d) a.batch_ends) →
    IsBatchAdded (earlier d a stands) d.jobs (told_of d a)
first_added d a stands = record { jobs = stands.all_jobs; ends = stands.all_ends }

-- what is told is the same at another desk that was given the same jobs
pub told_at : (jobs : List Job) (ends : List ℕ) (count : ℕ) (d e : DeskShape) (a : Answered) → jobs_told e ≡ jobs_told d →
    IsToldTo jobs ends count (told_of d a) → IsToldTo jobs ends count (told_of e a)
told_at jobs ends count d e a same is = record { known = is.known; all_jobs = same ∙ is.all_jobs; all_ends = is.all_ends }

-- its jobs are answered, but a fault ended the session
pub first_fails : (jobs : List Job) (ends : List ℕ) (count : ℕ) (held aft : Option (List ℕ)) (d e : DeskShape) (a : Answered) (ending : RunFault) →
    jobs_told e ≡ jobs_told d → IsToldTo jobs ends count (told_of d a)
    → HasAnsweredPart (setting_of e) held aft (told_of e a) → 0 < length e.entries → FileTo held aft jobs ends e (told_of e a) (Err ending)
first_fails jobs ends count held aft d e a ending same is part some = grind arith
