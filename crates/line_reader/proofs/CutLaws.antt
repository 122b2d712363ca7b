-- Laws of the cutting, for the proofs over it.
use Rattle.std.proofs.Common.{refl, ap, sym, ◌∙◌, arith}
use Rattle.std.specs.Prelude.{◌≡◌, ◌≢◌, ℕ, suc, ◌+◌, ◌-◌, ◌==◌, ◌<◌, ◌≤◌, Bool, true, false, List, [], ◌∷◌, ◌++◌, length, map, take, slice_index, Some, None}
use Rattle.std.specs.Prelude.{is_some, if◌then◌else◌}
use Rattle.std.proofs.lemmas.Grind.{common_steps}
use Rattle.std.proofs.lemmas.List.{map-append, length-append, append_assoc, append-nil, length-take-le, get_or-take, take_more}
use Rattle.std.proofs.Math.Seq.{take-append_seam}
use Rattle.wf_names.specs.declared.limits.TheConstants.{LINE_LIMIT, SESSION_LINE_LIMIT, BATCH_LINE_LIMIT}
use Rattle.wf_talk.specs.declared.job.Job.{Job}
use Rattle.line_reader.specs.declared.stop.Stop.{Stop}
use Rattle.line_reader.specs.Jobs.{Cut, without_cr, job_of, end_batch, end_full_batch, next_line, with_job, end_line, step, cut_all, flush, last_or}
use Rattle.line_reader.specs.Jobs.{UpToAnEnd}
use Rattle.line_reader.specs.Cutter.{CanCut, IsSound, IsEnded, Cuts, CutsOn, emptied, after_handing, ends_after, place}

-- either case of a test
pub if_both : (P : Cut → Type 0) (b : Bool) (c d : Cut) → (b ≡ true → P c) → (b ≡ false → P d) → P (if b then c else d)
if_both P b c d first second = grind arith

-- ---- soundness

last-push : (d : ℕ) (xs : List ℕ) (x : ℕ) → last_or d (xs ++ x ∷ []) ≡ x
last-push d [] x = refl
last-push d (y ∷ ys) x = last-push y ys x

sound_end : (c : Cut) → c.number ≤ SESSION_LINE_LIMIT → length c.line ≤ LINE_LIMIT → c.from ≤ length c.jobs → length c.jobs < c.from + BATCH_LINE_LIMIT →
    c.from ≡ last_or 0 c.ends → IsSound (end_batch c)
unfolding end_batch
sound_end c lines short begins batch last = grind (arith, common_steps, last-push)

sound_full : (c : Cut) → c.number ≤ SESSION_LINE_LIMIT → length c.line ≤ LINE_LIMIT → c.from ≤ length c.jobs → length c.jobs ≤ c.from + BATCH_LINE_LIMIT →
    c.from ≡ last_or 0 c.ends → IsSound (end_full_batch c)
unfolding end_full_batch end_batch
sound_full c lines short begins batch last = grind (arith, common_steps, last-push)

sound_line : (c : Cut) → IsSound c → c.number < SESSION_LINE_LIMIT → IsSound (end_line c)
unfolding end_line
sound_line c h within = grind (arith, common_steps, h.lines, h.short, h.begins, h.batch, h.last, sound_end, sound_full, length-append)

pub sound_step : (c : Cut) (b : ℕ) → IsSound c → IsSound (step c b)
unfolding step
sound_step c b h = grind (arith, common_steps, h.lines, h.short, h.begins, h.batch, h.last, h, sound_line, length-append)

pub sound_finish : (c : Cut) (ended : Bool) → IsSound c → IsSound (end_batch (flush ended c))
unfolding flush end_batch
sound_finish c ended h = grind (arith, common_steps, h.lines, h.short, h.begins, h.batch, h.last, last-push, length-append)

-- ---- what a step does

ends_of_line : (c : Cut) → ((end_line c).number ≡ c.number + 1) × ((end_line c).line ≡ []) × ((end_line c).stop ≡ c.stop)
unfolding end_line end_full_batch end_batch
ends_of_line c = grind (arith, common_steps)

further : (c : Cut) (b : ℕ) → IsSound c → (step c b).stop ≡ None → place c < place (step c b)
unfolding step
further c b h going = grind (arith, common_steps, h.short, ends_of_line, length-append)

-- ---- ends of batches

ended_end : (c : Cut) → c.from ≡ 0 → c.ends ≡ [] → IsEnded (end_batch c)
unfolding end_batch
ended_end c from none = record { closed = grind (arith, common_steps); ends = grind (arith, common_steps) }

flush_keeps : (c : Cut) (ended : Bool) → ((flush ended c).from ≡ c.from) × ((flush ended c).ends ≡ c.ends)
unfolding flush
flush_keeps c ended = grind (arith, common_steps)

pub ended_finish : (c : Cut) (ended : Bool) → IsSound c → c.ends ≡ [] → IsEnded (end_batch (flush ended c))
ended_finish c ended h none = grind (arith, flush_keeps, ended_end)

pub ruleset finished = (sound_finish, ended_finish)

ended_step : (c : Cut) (b : ℕ) → c.from ≡ 0 → c.ends ≡ [] → (step c b).ends ≢ [] → IsEnded (step c b)
unfolding step end_line end_full_batch end_batch
ended_step c b from none some = record { closed = grind (arith, common_steps, length-append); ends = grind (arith, common_steps, length-append) }

stops_step : (c : Cut) (b : ℕ) (stop : Stop) → c.stop ≡ None → c.ends ≡ [] → (step c b).stop ≡ Some stop → (step c b).ends ≡ []
unfolding step
stops_step c b stop going none e = grind (arith, common_steps, ends_of_line)

pub byte_on : (c : Cut) (b : ℕ) → CanCut c → CutsOn c (step c b)
byte_on c b h = grind (arith, ended_step, stops_step, further)

-- ---- runs

plain_step : (c : Cut) (b : ℕ) → c.stop ≡ None → c.number < SESSION_LINE_LIMIT → length c.line < LINE_LIMIT → b ≢ 10 →
    step c b ≡ record c { line = c.line ++ b ∷ [] }
unfolding step
plain_step c b going lines short other = grind (arith, common_steps)

-- bytes that are no LF, and within the limits, are more of the line
pub plain_all : (c : Cut) (bytes : List ℕ) → c.stop ≡ None → c.number < SESSION_LINE_LIMIT → length c.line + length bytes ≤ LINE_LIMIT
    → ((k : ℕ) → k < length bytes → slice_index bytes k ≢ 10) → cut_all c bytes ≡ record c { line = c.line ++ bytes }
plain_all c [] going lines short others = rw append-nil refl
plain_all c (b ∷ bs) going lines short others =
    let d : Cut = record c { line = c.line ++ b ∷ [] } in
    let grown : length d.line ≡ length c.line + 1 = length-append c.line (b ∷ []) in
    let first : step c b ≡ d = plain_step c b going lines (omega arith) (others 0 (omega arith)) in
    let rest : cut_all d bs ≡ record d { line = d.line ++ bs } = plain_all d bs going lines (omega arith) (λ k h. others (suc k) (omega arith)) in
    ap (λ x. cut_all x bs) first ∙ rest ∙ ap (λ l. record c { line = l }) (append_assoc c.line (b ∷ []) bs)

-- and so is the front of a piece
plain_front : (c : Cut) (piece : List ℕ) (n : ℕ) → n ≤ length piece → c.stop ≡ None → c.number < SESSION_LINE_LIMIT → length c.line + n ≤ LINE_LIMIT
    → ((k : ℕ) → k < n → slice_index piece k ≢ 10) → cut_all c (take n piece) ≡ record c { line = c.line ++ take n piece }
plain_front c piece n within going lines short others = grind (arith, length-take-le, plain_all, get_or-take)

pub plain_cut : (c d : Cut) (piece : List ℕ) (n : ℕ) → 0 < n → n ≤ length piece → c.stop ≡ None → c.number < SESSION_LINE_LIMIT → length c.line + n ≤ LINE_LIMIT
    → ((k : ℕ) → k < n → slice_index piece k ≢ 10) → d ≡ record c { line = c.line ++ take n piece } → Cuts c d (take n piece)
plain_cut c d piece n some within going lines short others e =
    let m : ℕ = n - 1 in
    let next : m + 1 ≡ n = omega arith in
    let before : cut_all c (take m piece) ≡ record c { line = c.line ++ take m piece } =
    plain_front c piece m (omega arith) going lines (omega arith) (λ k h. others k (omega arith)) in
    record {
      cut = e ∙ sym (plain_front c piece n within going lines short others);
      front = take m piece;
      last = slice_index piece m;
      whole = ap (λ k. take k piece) (sym next) ∙ take_more piece m 0 (omega arith);
      none = ap (λ (x : Cut). x.ends) before;
      going = ap (λ (x : Cut). x.stop) before ∙ going;
    }

-- one byte alone
pub one_cut : (c d : Cut) (piece : List ℕ) → 0 < length piece → c.stop ≡ None → d ≡ step c (slice_index piece 0) → Cuts c d (take 1 piece)
one_cut c d piece some going e =
    let one : take 1 piece ≡ slice_index piece 0 ∷ [] = take_more piece 0 0 some in
    record {
      cut = e ∙ ap (cut_all c) (sym one);
      front = [];
      last = slice_index piece 0;
      whole = one;
      none = refl;
      going = going;
    }

-- more of the line, within the limit
pub plain_on : (c d : Cut) (bytes : List ℕ) → CanCut c → 0 < length bytes → d ≡ record c { line = c.line ++ bytes } → CutsOn c d
plain_on c d bytes h some e = grind (arith, length-append)

pub plain_sound : (c d : Cut) (bytes : List ℕ) → IsSound c → d ≡ record c { line = c.line ++ bytes } → length c.line + length bytes ≤ LINE_LIMIT → IsSound d
plain_sound c d bytes h e short = grind (arith, length-append)

-- ---- pieces

pub cut_all-append : (c : Cut) (xs ys : List ℕ) → cut_all c (xs ++ ys) ≡ cut_all (cut_all c xs) ys
cut_all-append c [] ys = refl
cut_all-append c (x ∷ xs) ys = cut_all-append (step c x) xs ys

-- ---- what was handed over

handed_end : (jobs : List Job) (batch_ends : List ℕ) (c : Cut) → end_batch (after_handing jobs batch_ends c) ≡ after_handing jobs batch_ends (end_batch c)
unfolding end_batch
handed_end jobs batch_ends c = grind (arith, common_steps, length-append, map-append, append_assoc)

handed_full : (jobs : List Job) (batch_ends : List ℕ) (c : Cut) →
    end_full_batch (after_handing jobs batch_ends c) ≡ after_handing jobs batch_ends (end_full_batch c)
unfolding end_full_batch
handed_full jobs batch_ends c = grind (arith, common_steps, length-append, handed_end)

handed_if : (b : Bool) (jobs : List Job) (batch_ends : List ℕ) (c d c' d' : Cut)
    → c' ≡ after_handing jobs batch_ends c → d' ≡ after_handing jobs batch_ends d → (if b then c' else d') ≡ after_handing jobs batch_ends (if b then c else d)
handed_if b jobs batch_ends c d c' d' first second = grind arith

handed_line : (jobs : List Job) (batch_ends : List ℕ) (c : Cut) → end_line (after_handing jobs batch_ends c) ≡ after_handing jobs batch_ends (end_line c)
unfolding end_line
handed_line jobs batch_ends c =
    let job : Job = job_of c.lanes c.number (without_cr c.line) in
    handed_if (length (without_cr c.line) == 0) jobs batch_ends (end_batch (next_line c)) (end_full_batch (with_job c job)) _ _
    (handed_end jobs batch_ends (next_line c))
    (ap (λ js. end_full_batch (record (after_handing jobs batch_ends (next_line c)) { jobs = js })) (append_assoc jobs c.jobs (job ∷ []))
    ∙ handed_full jobs batch_ends (with_job c job))

handed_step : (jobs : List Job) (batch_ends : List ℕ) (c : Cut) (b : ℕ) → step (after_handing jobs batch_ends c) b ≡ after_handing jobs batch_ends (step c b)
unfolding step
handed_step jobs batch_ends c b = grind (arith, common_steps, handed_line)

-- what was handed over stays in front of all that is cut
pub handed_all : (jobs : List Job) (batch_ends : List ℕ) (c : Cut) (bytes : List ℕ) →
    cut_all (after_handing jobs batch_ends c) bytes ≡ after_handing jobs batch_ends (cut_all c bytes)
handed_all jobs batch_ends c [] = refl
handed_all jobs batch_ends c (b ∷ bs) = ap (λ d. cut_all d bs) (handed_step jobs batch_ends c b) ∙ handed_all jobs batch_ends (step c b) bs

handed_flush : (jobs : List Job) (batch_ends : List ℕ) (c : Cut) (ended : Bool) →
    flush ended (after_handing jobs batch_ends c) ≡ after_handing jobs batch_ends (flush ended c)
unfolding flush
handed_flush jobs batch_ends c ended = grind (arith, common_steps, append_assoc)

-- so does it where the input is ended
pub handed_finish : (jobs : List Job) (batch_ends : List ℕ) (c : Cut) (ended : Bool)
    → end_batch (flush ended (after_handing jobs batch_ends c)) ≡ after_handing jobs batch_ends (end_batch (flush ended c))
handed_finish jobs batch_ends c ended = ap end_batch (handed_flush jobs batch_ends c ended) ∙ handed_end jobs batch_ends (flush ended c)

-- an ended batch that is handed over is the last of what was
pub handed_over : (jobs : List Job) (batch_ends : List ℕ) (c : Cut) → IsEnded c
    → after_handing jobs batch_ends c ≡ after_handing (jobs ++ c.jobs) (ends_after batch_ends (length jobs) c.jobs) (emptied c)
handed_over jobs batch_ends c h = grind (arith, common_steps, h.closed, h.ends, append-nil, length-append)

-- ---- ends of what was handed over

-- the last end is the count of the jobs, with one more batch too
pub closed_after : (jobs more : List Job) (batch_ends : List ℕ) → last_or 0 batch_ends ≡ length jobs
    → last_or 0 (ends_after batch_ends (length jobs) more) ≡ length (jobs ++ more)
closed_after jobs more batch_ends closed = grind (arith, common_steps, length-append, last-push)

-- what was handed over stands first, up to its last end of a batch
pub up_to_end : (jobs : List Job) (batch_ends : List ℕ) (c : Cut) → last_or 0 batch_ends ≡ length jobs →
    UpToAnEnd jobs batch_ends (after_handing jobs batch_ends c)
up_to_end jobs batch_ends c closed =
    let more : List ℕ = map (λ n. length jobs + n) c.ends in
    record {
      ends = (length batch_ends, sym (take-append_seam batch_ends more));
      within = sym (rw closed (take-append_seam jobs c.jobs));
    }

-- ---- where the cutting stopped

stopped_step : (c : Cut) (b : ℕ) → is_some c.stop ≡ true → step c b ≡ c
unfolding step
stopped_step c b h = rw h refl

-- what follows is not cut
pub stopped : (c : Cut) (bytes : List ℕ) → is_some c.stop ≡ true → cut_all c bytes ≡ c
stopped c [] h = refl
stopped c (b ∷ bs) h = rw (stopped_step c b h) (stopped c bs h)

-- and ending the input changes nothing of it
pub finished_stop : (c : Cut) (ended : Bool) → (end_batch (flush ended c)).stop ≡ c.stop
unfolding end_batch flush
finished_stop c ended = grind (arith, common_steps)
