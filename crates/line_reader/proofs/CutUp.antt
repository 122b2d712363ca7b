-- How a whole text is cut, step by step.
use Rattle.std.proofs.Common.{ap, subst, sym, ◌∙◌, arith}
use Rattle.std.specs.Prelude.{◌≡◌, ℕ, ◌+◌, ◌-◌, ◌<◌, ◌≤◌, true, List, [], ◌∷◌, ◌++◌, length, take, drop, is_some}
use Rattle.std.proofs.lemmas.Grind.{common_steps}
use Rattle.std.proofs.lemmas.List.{length-append, append-nil, take-append-drop, take_all, length-drop}
use Rattle.std.proofs.Math.Seq.{take-add}
use Rattle.wf_names.specs.declared.limits.TheConstants.{SESSION_LINE_LIMIT}
use Rattle.wf_talk.specs.declared.job.Job.{Job}
use Rattle.line_reader.specs.Jobs.{Cut, start, end_batch, end_full_batch, end_line, step, cut_all, flush, jobs_from, jobs_of_input, next_input}
use Rattle.line_reader.specs.Cutter.{IsSound, IsEnded, Cuts, emptied, ends_after, after_handing}
use Rattle.line_reader.proofs.CutLaws.{cut_all-append, handed_all, handed_finish, handed_over, stopped}
use Rattle.line_reader.specs.Laws.{AreInOrder, AreNamedJobs}
use Rattle.line_reader.specs.Whole.{HasCutUp}
use Rattle.line_reader.proofs.Order.{jobs_are_in_order}
use Rattle.line_reader.proofs.Named.{jobs_are_named}

-- the beginning
pub cut_none : (lanes : ℕ) (jobs : List Job) (batch_ends : List ℕ) (c : Cut) → jobs ≡ [] → batch_ends ≡ [] → c ≡ start lanes → IsSound c
    → HasCutUp lanes jobs batch_ends c []
cut_none lanes jobs batch_ends c none no_ends e sound = grind arith

-- some more is cut
pub cut_further : (lanes : ℕ) (seen more : List ℕ) (jobs : List Job) (batch_ends : List ℕ) (c d : Cut) → HasCutUp lanes jobs batch_ends c seen → Cuts c d more
    → after_handing jobs batch_ends d ≡ cut_all (start lanes) (seen ++ more)
cut_further lanes seen more jobs batch_ends c d before cuts = grind (arith, handed_all, cut_all-append)

pub cut_more : (lanes : ℕ) (seen more : List ℕ) (jobs : List Job) (batch_ends : List ℕ) (c d : Cut) → HasCutUp lanes jobs batch_ends c seen → Cuts c d more
    → IsSound d → d.ends ≡ [] → HasCutUp lanes jobs batch_ends d (seen ++ more)
cut_more lanes seen more jobs batch_ends c d before cuts sound none = grind (arith, cut_further)

sound_emptied : (c : Cut) → IsSound c → IsSound (emptied c)
sound_emptied c h = grind arith

-- a batch that has ended is taken out
pub cut_batch : (lanes : ℕ) (seen more : List ℕ) (jobs after : List Job) (batch_ends ends_new : List ℕ) (c d e : Cut) (batch : List Job)
    → HasCutUp lanes jobs batch_ends c seen → Cuts c d more → IsSound d → IsEnded d → batch ≡ d.jobs → e ≡ emptied d
    → after ≡ jobs ++ batch → ends_new ≡ ends_after batch_ends (length jobs) batch → HasCutUp lanes after ends_new e (seen ++ more)
cut_batch lanes seen more jobs after batch_ends ends_new c d e batch before cuts sound ended is empty grown ends =
    grind (arith, handed_over, cut_further, sound_emptied)

-- the same where more of a text is cut
pub cut_rest : (lanes at count : ℕ) (bytes : List ℕ) (jobs : List Job) (batch_ends : List ℕ) (c : Cut)
    → HasCutUp lanes jobs batch_ends c (take at bytes ++ take count (take (length bytes - at) (drop at bytes))) →
    HasCutUp lanes jobs batch_ends c (take (at + count) bytes)
cut_rest lanes at count bytes jobs batch_ends c cut = grind (arith, take_all, length-drop, take-add)

-- all of a text is cut
pub cut_to_end : (lanes at : ℕ) (bytes : List ℕ) (jobs : List Job) (batch_ends : List ℕ) (c : Cut) → HasCutUp lanes jobs batch_ends c (take at bytes)
    → length bytes ≤ at → HasCutUp lanes jobs batch_ends c bytes
cut_to_end lanes at bytes jobs batch_ends c cut within = subst (λ (xs : List ℕ). HasCutUp lanes jobs batch_ends c xs) (take_all at bytes within) cut

-- where the cutting stopped, what follows changes nothing
pub cut_stopped : (lanes at : ℕ) (bytes : List ℕ) (jobs : List Job) (batch_ends : List ℕ) (c : Cut) → HasCutUp lanes jobs batch_ends c (take at bytes)
    → is_some c.stop ≡ true → HasCutUp lanes jobs batch_ends c bytes
cut_stopped lanes at bytes jobs batch_ends c before stop =
    let same : is_some (cut_all (start lanes) (take at bytes)).stop ≡ true = ap (λ (x : Cut). is_some x.stop) (sym before.cut) ∙ stop in
    record {
      cut = before.cut ∙ sym (stopped (cut_all (start lanes) (take at bytes)) (drop at bytes) same) ∙
          sym (cut_all-append (start lanes) (take at bytes) (drop at bytes))
          ∙ ap (cut_all (start lanes)) (take-append-drop at bytes);
      sound = before.sound;
      handed = before.handed;
    }

-- ---- how many jobs there are

record AreFew (c : Cut) : Type 0 where
  pub few : length c.jobs ≤ c.number
  pub number : c.number ≤ SESSION_LINE_LIMIT
  pub within : 0 < length c.line → c.number < SESSION_LINE_LIMIT

few_line : (c : Cut) → length c.jobs ≤ c.number → length (end_line c).jobs ≤ (end_line c).number
unfolding end_line end_full_batch end_batch
few_line c few = grind (arith, common_steps, length-append)

line_ended : (c : Cut) → ((end_line c).number ≡ c.number + 1) × ((end_line c).line ≡ [])
unfolding end_line end_full_batch end_batch
line_ended c = grind (arith, common_steps)

few_step : (c : Cut) (b : ℕ) → AreFew c → AreFew (step c b)
unfolding step
few_step c b h = grind (arith, common_steps, few_line, line_ended)

few_all : (c : Cut) (bytes : List ℕ) → AreFew c → AreFew (cut_all c bytes)
few_all c [] h = h
few_all c (b ∷ bs) h = few_all (step c b) bs (few_step c b h)

few_start : (lanes : ℕ) → AreFew (start lanes)
few_start lanes = record { few = omega arith; number = omega arith; within = λ some. omega arith }

few_finish : (c : Cut) → AreFew c → length (end_batch (flush true c)).jobs ≤ SESSION_LINE_LIMIT
unfolding flush end_batch
few_finish c h = grind (arith, common_steps, length-append, h.few, h.number, h.within)

pub few_cut : (lanes : ℕ) (bytes : List ℕ) (jobs batch : List Job) (batch_ends : List ℕ) (c : Cut) →
    after_handing jobs batch_ends c ≡ cut_all (start lanes) bytes
    → batch ≡ c.jobs → length jobs + length batch ≤ SESSION_LINE_LIMIT
few_cut lanes bytes jobs batch batch_ends c e is =
    let all = few_all (start lanes) bytes (few_start lanes) in
    let same : length (jobs ++ c.jobs) ≡ length (cut_all (start lanes) bytes).jobs = ap (λ (x : Cut). length x.jobs) e in
    let few = all.few in let number = all.number in
    omega (arith, few, number, same, length-append jobs c.jobs, ap length is)

-- ---- the whole text

pub whole_cut : (lanes : ℕ) (bytes : List ℕ) (jobs : List Job) (batch_ends : List ℕ) (c d : Cut) → HasCutUp lanes jobs batch_ends c bytes
    → d ≡ end_batch (flush true c) → after_handing jobs batch_ends d ≡ jobs_of_input bytes true lanes
unfolding jobs_from
whole_cut lanes bytes jobs batch_ends c d before is = grind (arith, handed_finish)

pub few_whole : (lanes : ℕ) (bytes : List ℕ) (jobs batch : List Job) (batch_ends : List ℕ) (c d : Cut) → HasCutUp lanes jobs batch_ends c bytes
    → d ≡ end_batch (flush true c) → batch ≡ d.jobs → length jobs + length batch ≤ SESSION_LINE_LIMIT
unfolding jobs_from
few_whole lanes bytes jobs batch batch_ends c d before is batch_is =
    let few : length (jobs_of_input bytes true lanes).jobs ≤ SESSION_LINE_LIMIT =
    few_finish (cut_all (start lanes) bytes) (few_all (start lanes) bytes (few_start lanes)) in
    let same : length (jobs ++ d.jobs) ≡ length (jobs_of_input bytes true lanes).jobs =
    ap (λ (x : Cut). length x.jobs) (whole_cut lanes bytes jobs batch_ends c d before is) in
    omega (arith, few, same, length-append jobs d.jobs, ap length batch_is)

pub whole_jobs : (lanes : ℕ) (bytes : List ℕ) (jobs batch after : List Job) (batch_ends : List ℕ) (c d : Cut) → HasCutUp lanes jobs batch_ends c bytes
    → d ≡ end_batch (flush true c) → batch ≡ d.jobs → after ≡ jobs ++ batch → after ≡ (jobs_of_input bytes true lanes).jobs
whole_jobs lanes bytes jobs batch after batch_ends c d before is batch_is grown = grind (arith, whole_cut)

pub whole_ends : (lanes : ℕ) (bytes : List ℕ) (jobs batch : List Job) (batch_ends ends_new : List ℕ) (c d : Cut) → HasCutUp lanes jobs batch_ends c bytes
    → d ≡ end_batch (flush true c) → IsEnded d → batch ≡ d.jobs → ends_new ≡ ends_after batch_ends (length jobs) batch →
    ends_new ≡ (jobs_of_input bytes true lanes).ends
whole_ends lanes bytes jobs batch batch_ends ends_new c d before is ended batch_is grown =
    grown ∙ ap (ends_after batch_ends (length jobs)) batch_is ∙ sym (append-nil _) ∙ ap (λ (x : Cut). x.ends) (sym (handed_over jobs batch_ends d ended))
    ∙ ap (λ (x : Cut). x.ends) (whole_cut lanes bytes jobs batch_ends c d before is)

pub in_order : (lanes : ℕ) (bytes : List ℕ) (jobs : List Job) (batch_ends : List ℕ) → jobs ≡ (jobs_of_input bytes true lanes).jobs
    → batch_ends ≡ (jobs_of_input bytes true lanes).ends → 0 < lanes → AreInOrder lanes jobs batch_ends
in_order lanes bytes jobs batch_ends same same_ends some = rw (same, same_ends) (jobs_are_in_order lanes some bytes true)

pub named : (lanes : ℕ) (bytes : List ℕ) (jobs : List Job) → jobs ≡ (jobs_of_input bytes true lanes).jobs → AreNamedJobs jobs
named lanes bytes jobs same = rw same (jobs_are_named lanes bytes true)

pub whole_stop : (lanes : ℕ) (bytes : List ℕ) (jobs : List Job) (batch_ends : List ℕ) (c d : Cut) → HasCutUp lanes jobs batch_ends c bytes
    → d ≡ end_batch (flush true c) → d.stop ≡ (jobs_of_input bytes true lanes).stop
whole_stop lanes bytes jobs batch_ends c d before is = ap (λ (x : Cut). x.stop) (whole_cut lanes bytes jobs batch_ends c d before is)

pub whole_lines : (lanes : ℕ) (bytes : List ℕ) (jobs : List Job) (batch_ends : List ℕ) (c d : Cut) → HasCutUp lanes jobs batch_ends c bytes
    → d ≡ end_batch (flush true c) → (next_input d).number ≡ (next_input (jobs_of_input bytes true lanes)).number
whole_lines lanes bytes jobs batch_ends c d before is = ap (λ (x : Cut). (next_input x).number) (whole_cut lanes bytes jobs batch_ends c d before is)

next_few : (c : Cut) → AreFew c → (next_input (end_batch (flush true c))).number ≤ SESSION_LINE_LIMIT
unfolding flush end_batch
next_few c h = grind (arith, common_steps, h.number, h.within)

-- the line behind a text is within the limit, or the first past it
pub few_lines : (lanes : ℕ) (bytes : List ℕ) → (next_input (jobs_of_input bytes true lanes)).number ≤ SESSION_LINE_LIMIT
unfolding jobs_from
few_lines lanes bytes = next_few (cut_all (start lanes) bytes) (few_all (start lanes) bytes (few_start lanes))
