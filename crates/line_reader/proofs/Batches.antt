-- No batch of an input has an empty line in it.
use Rattle.std.proofs.Common.{refl, sym, subst, arith}
use Rattle.std.specs.Prelude.{◌≡◌, ℕ, ◌+◌, ◌-◌, ◌==◌, ◌≤◌, nat_le, Bool, List, [], ◌∷◌, ◌++◌, length, drop, is_some}
use Rattle.std.proofs.lemmas.Grind.{common_steps}
use Rattle.std.proofs.lemmas.List.{length-append, length-drop, take_all, take-append-le, drop_all, drop-append-le, drop-drop}
use Rattle.wf_names.specs.declared.limits.TheConstants.{BATCH_LINE_LIMIT}
use Rattle.wf_talk.specs.declared.job.Job.{Job}
use Rattle.line_reader.proofs.CutLaws.{if_both}
use Rattle.line_reader.specs.Jobs.{Cut, start_from, without_cr, job_of, end_batch, end_full_batch, next_line, with_job, end_line, step, cut_all, flush}
use Rattle.line_reader.specs.Lines.{AreBatches, FollowOn, LeadUpTo}

-- ---- lines that follow one another

lead_one : (n : ℕ) (jobs : List Job) (job : Job) → LeadUpTo n jobs → job.line ≡ n → LeadUpTo (n + 1) (jobs ++ job ∷ [])
lead_one n [] job lead is = (omega (arith, is), tt)
lead_one n (j ∷ js) job lead is = grind (arith, length-append, (lead_one n js job lead.1 is))

-- the ends ascend up to this one
abbrev EndsUpTo : ℕ → List ℕ → ℕ → Type 0
EndsUpTo before [] last = before ≡ last
EndsUpTo before (e ∷ es) last = (before ≤ e) × EndsUpTo e es last

ends_above : (before : ℕ) (ends : List ℕ) (last : ℕ) → EndsUpTo before ends last → before ≤ last
ends_above before [] last up = omega (arith, up)
ends_above before (e ∷ es) last up = let later = ends_above e es last up.1 in let first = up.0 in omega (arith, later, first)

ends_more : (before : ℕ) (ends : List ℕ) (last more : ℕ) → EndsUpTo before ends last → last ≤ more → EndsUpTo before (ends ++ more ∷ []) more
ends_more before [] last more up above = (omega (arith, up, above), refl)
ends_more before (e ∷ es) last more up above = (up.0, ends_more e es last more up.1 above)

batches_more : (before : ℕ) (ends : List ℕ) (last : ℕ) (jobs more : List Job) → EndsUpTo before ends last → last ≤ before + length jobs →
    AreBatches before ends jobs → AreBatches before ends (jobs ++ more)
batches_more before [] last jobs more up within are = tt
batches_more before (e ∷ es) last jobs more up within are = grind (arith, ends_above, length-drop, take-append-le, drop-append-le, (batches_more e es))

batches_end : (before : ℕ) (ends : List ℕ) (last : ℕ) (jobs : List Job) (end : ℕ) → EndsUpTo before ends last → last ≤ before + length jobs →
    AreBatches before ends jobs → FollowOn (drop (last - before) jobs) → end ≡ before + length jobs →
    AreBatches before (ends ++ end ∷ []) jobs
batches_end before [] last jobs end up within are follows is = grind (arith, take_all)
batches_end before (e ∷ es) last jobs end up within are follows is = grind (arith, ends_above, length-drop, drop-drop, (batches_end e es))

-- ---- what the cutting keeps

-- the batches that have ended are so, and the open one is
pub record HasBatches (c : Cut) : Type 0 where
  pub begins : c.from ≤ length c.jobs
  pub ends : EndsUpTo 0 c.ends c.from
  pub batches : AreBatches 0 c.ends c.jobs
  pub follows : FollowOn (drop c.from c.jobs)

-- and the open one leads up to the open line
pub record HasRuns (c : Cut) : Type 0 where
  pub all : HasBatches c
  pub run : LeadUpTo c.number (drop c.from c.jobs)

none_lead : (n : ℕ) (jobs : List Job) → jobs ≡ [] → LeadUpTo n jobs
none_lead n jobs none = subst (LeadUpTo n) (sym none) tt

runs_end : (c : Cut) → HasBatches c → HasRuns (end_batch c)
unfolding end_batch
runs_end c h = grind (arith, if_both, drop_all, ends_more, batches_end, none_lead, common_steps)

runs_full : (c : Cut) → HasRuns c → HasRuns (end_full_batch c)
unfolding end_full_batch
runs_full c h = if_both HasRuns (nat_le (c.from + BATCH_LINE_LIMIT) (length c.jobs)) (end_batch c) c (λ full. runs_end c h.all) (λ room. h)

-- behind one more job
one_more : (c : Cut) (job : Job) (number : ℕ) → HasRuns c → job.line ≡ c.number → HasBatches (record c { jobs = c.jobs ++ job ∷ []; number = number }) ×
    LeadUpTo (c.number + 1) (drop c.from (c.jobs ++ job ∷ []))
one_more c job number h is =
    let begins = h.all.begins in
    let size : length (c.jobs ++ job ∷ []) ≡ length c.jobs + 1 = length-append c.jobs (job ∷ []) in
    let open_jobs : drop c.from (c.jobs ++ job ∷ []) ≡ drop c.from c.jobs ++ job ∷ [] = drop-append-le c.from c.jobs (job ∷ []) begins in
    let lead = subst (LeadUpTo (c.number + 1)) (sym open_jobs) (lead_one c.number (drop c.from c.jobs) job h.run is) in (
      record {
        begins = omega (arith, begins, size);
        ends = h.all.ends;
        batches = batches_more 0 c.ends c.from c.jobs (job ∷ []) h.all.ends (omega (arith, begins)) h.all.batches;
        follows = (c.number + 1, lead);
      },
      lead,
    )

runs_line : (c : Cut) → HasRuns c → HasRuns (end_line c)
unfolding end_line
runs_line c h =
    let job = job_of c.lanes c.number (without_cr c.line) in
    if_both HasRuns (length (without_cr c.line) == 0) (end_batch (next_line c)) (end_full_batch (with_job c job))
    (λ empty. runs_end (next_line c) (record { begins = h.all.begins; ends = h.all.ends; batches = h.all.batches; follows = h.all.follows }))
    (λ some.
    let more = one_more c job (c.number + 1) h refl in
    runs_full (with_job c job) (record {
      all = record { begins = more.0.begins; ends = more.0.ends; batches = more.0.batches; follows = more.0.follows };
      run = more.1;
    }))

runs_still : (c d : Cut) → HasRuns c → d.number ≡ c.number → d.jobs ≡ c.jobs → d.ends ≡ c.ends → d.from ≡ c.from → HasRuns d
runs_still c d h number jobs ends from = grind arith

runs_step : (c : Cut) (b : ℕ) → HasRuns c → HasRuns (step c b)
unfolding step
runs_step c b h = grind (arith, if_both, runs_line, runs_still)

pub runs_all : (c : Cut) (bytes : List ℕ) → HasRuns c → HasRuns (cut_all c bytes)
runs_all c [] h = h
runs_all c (b ∷ bs) h = runs_all (step c b) bs (runs_step c b h)

pub runs_start : (lanes first : ℕ) → HasRuns (start_from lanes first)
runs_start lanes first = grind arith

batches_flush : (c : Cut) (ended : Bool) → HasRuns c → HasBatches (flush ended c)
unfolding flush
batches_flush c ended h =
    if_both HasBatches ended _ c (λ yes.
    if_both HasBatches (is_some c.stop) c _ (λ stopped. h.all) (λ going.
    if_both HasBatches (length c.line == 0) c _ (λ empty. h.all)
    (λ full.
    let more = one_more c (job_of c.lanes c.number c.line) c.number h refl in
    record { begins = more.0.begins; ends = more.0.ends; batches = more.0.batches; follows = more.0.follows })))
    (λ no. h.all)

-- the batches of an input
pub batches_are : (c : Cut) (ended : Bool) → HasRuns c → AreBatches 0 (end_batch (flush ended c)).ends (end_batch (flush ended c)).jobs
batches_are c ended h = (runs_end (flush ended c) (batches_flush c ended h)).all.batches
