-- The jobs of a session are handed over up to an end of a batch, and its entries answer lines.
use Rattle.wf_server.proofs.Common.{◌≡◌, ℕ, zero, suc, ◌<◌, ◌≤◌, ◌^◌, Bool, true, false, List, [], ◌∷◌, ◌++◌, length, take, map, Option, inl, inr, refl, sym}
use Rattle.wf_server.proofs.Common.{ap, subst, ◌∙◌, arith, common_steps, length-append, length-take-le, take_all, LANE_LIMIT, Entry, Job, Cut, UpToAnEnd}
use Rattle.wf_server.proofs.Common.{last_or, next_input, AreNamedJobs, GoesOn, LeadTo, Paused, ReadsBatch, FillsJobs, batch_start, EndAt, RunFault, Told}
use Rattle.wf_server.proofs.Common.{ReadsFor, handed_in, AreInOrderFrom}
use Rattle.std.proofs.Common.{nat_eq, drop}
use Rattle.std.proofs.Common.{if◌then◌else◌}
use Rattle.std.proofs.lemmas.List.{length-map}
use Rattle.basics.proofs.Booleans.{eq_same, lt_no}
use Rattle.wf_names.specs.declared.limits.TheConstants.{SESSION_LINE_LIMIT}
use Rattle.wf_talk.specs.Jobs.{AreOfLanes, IsNamedAsk}
use Rattle.line_reader.specs.Jobs.{cut_all, end_batch, end_full_batch, end_line, flush, jobs_from, step}
use Rattle.line_reader.specs.Laws.{AddsNamed, AreLinesBelow}
use Rattle.line_reader.proofs.CutLaws.{cut_all-append}
use Rattle.line_reader.proofs.Order.{lead_last}
use Rattle.line_reader.specs.declared.batch_reader.Paused.TheVariants as paused
use Rattle.wf_board.specs.Laws.Histories.{batch_end, batch_jobs, job_of_entry, lane_jobs}
use Rattle.run_record.specs.declared.fault.RunFault.TheVariants as fault
use Rattle.transcript_audit.proofs.Batches.{first_ends, last_start}
use Rattle.transcript_audit.proofs.Excludes.{EachJob, each_first, each_lane, each_rest}
use Rattle.entry_laws.specs.Laws.Fits.{AreOfLines}

-- ---- up to an end of a batch

-- of what some bytes are cut into
record IsUpTo (first : Cut) (jobs : List Job) (batch_ends : List ℕ) : Type 0 where
  pub bytes : List ℕ
  pub ended : Bool
  pub up : UpToAnEnd jobs batch_ends (jobs_from first bytes ended)

-- all of it
whole_up : (lanes : ℕ) (first : Cut) (jobs : List Job) (batch_ends bytes : List ℕ) (ended : Bool) → AreInOrderFrom lanes first →
    jobs ≡ (jobs_from first bytes ended).jobs →
    batch_ends ≡ (jobs_from first bytes ended).ends → IsUpTo first jobs batch_ends
whole_up lanes first jobs batch_ends bytes ended order same same_ends =
    let all = jobs_from first bytes ended in
    let total : last_or 0 batch_ends ≡ length all.jobs = ap (last_or 0) same_ends ∙ lead_last 0 all.ends (length all.jobs) (order bytes ended).ends in
    record {
      bytes = bytes;
      ended = ended;
      up = record {
        ends = (length all.ends, same_ends ∙ sym (take_all (length all.ends) all.ends (omega arith)));
        within = same ∙ sym (take_all (last_or 0 batch_ends) all.jobs (omega (arith, total)));
      };
    }

-- a byte that ends a batch leaves none open
closes : (c : Cut) (b : ℕ) → length c.ends < length (step c b).ends → (step c b).from ≡ length (step c b).jobs
unfolding step end_line end_full_batch end_batch
closes c b more = grind (arith, common_steps, length-append)

none_open : (c : Cut) → c.from ≡ length c.jobs → end_batch (flush false c) ≡ c
unfolding end_batch flush
none_open c closed = grind (arith, lt_no)

-- no batch is open where the input goes on
pub nothing_open : (lanes : ℕ) (cut : Cut) → GoesOn lanes cut → jobs_from (next_input cut) [] false ≡ next_input cut
unfolding jobs_from end_batch flush
nothing_open lanes cut goes = grind (arith, lt_no)

paused_up : (lanes : ℕ) (first : Cut) (jobs : List Job) (batch_ends front : List ℕ) (last : ℕ) → AreInOrderFrom lanes first →
    jobs ≡ (cut_all first (front ++ last ∷ [])).jobs →
    batch_ends ≡ (cut_all first (front ++ last ∷ [])).ends → length (cut_all first front).ends < length batch_ends → IsUpTo first jobs batch_ends
unfolding jobs_from
paused_up lanes first jobs batch_ends front last order same same_ends more =
    let c = cut_all first front in
    let cut : cut_all first (front ++ last ∷ []) ≡ step c last = cut_all-append first front (last ∷ []) in
    let grown : length c.ends < length (step c last).ends = omega (arith, more, ap length same_ends, ap (λ (x : Cut). length x.ends) cut) in
    let whole : end_batch (flush false (cut_all first (front ++ last ∷ []))) ≡ cut_all first (front ++ last ∷ []) =
    ap (λ x. end_batch (flush false x)) cut ∙ none_open (step c last) (closes c last grown) ∙ sym cut in
    whole_up lanes first jobs batch_ends (front ++ last ∷ []) false order (same ∙ ap (λ (x : Cut). x.jobs) (sym whole))
    (same_ends ∙ ap (λ (x : Cut). x.ends) (sym whole))

paused_to : (lanes : ℕ) (first : Cut) (before after : Option (List ℕ)) (room : ℕ) (told : Told) (how : Paused) → AreInOrderFrom lanes first →
    ReadsBatch before after room (handed_in first told) how → IsUpTo first told.jobs told.batch_ends
paused_to lanes first before after room told paused.Batch order reads =
    paused_up lanes first told.jobs told.batch_ends reads.front reads.last order reads.jobs reads.ends reads.before_last
paused_to lanes first before after room told paused.End order reads =
    whole_up lanes first told.jobs told.batch_ends reads.bytes true order reads.jobs reads.ends
paused_to lanes first before after room told paused.Failed order reads =
    whole_up lanes first told.jobs told.batch_ends reads.bytes false order reads.jobs reads.ends
paused_to lanes first before after room told (paused.Stopped stop) order reads =
    whole_up lanes first told.jobs told.batch_ends (reads.front ++ reads.last ∷ []) false order reads.jobs reads.ends
paused_to lanes first before after room told paused.NoMemory order reads = record { bytes = reads.bytes; ended = reads.ended; up = reads.up }

handed_to : (lanes : ℕ) (first : Cut) (before after : Option (List ℕ)) (room : ℕ) (told : Told) (ending : RunFault) → AreInOrderFrom lanes first →
    jobs_from first [] false ≡ first →
    ReadsFor before after room (handed_in first told) ending → IsUpTo first told.jobs told.batch_ends
handed_to lanes first before after room told fault.Nothing order none reads =
    whole_up lanes first told.jobs told.batch_ends reads.bytes true order reads.jobs reads.ends
handed_to lanes first before after room told fault.Read order none reads =
    whole_up lanes first told.jobs told.batch_ends reads.bytes false order reads.jobs reads.ends
handed_to lanes first before after room told (fault.LineTooLong line) order none reads =
    whole_up lanes first told.jobs told.batch_ends (reads.front ++ reads.last ∷ []) false order reads.jobs reads.ends
handed_to lanes first before after room told fault.TooManyLines order none reads =
    whole_up lanes first told.jobs told.batch_ends (reads.front ++ reads.last ∷ []) false order reads.jobs reads.ends
handed_to lanes first before after room told fault.Write order none (inl reads) = paused_to lanes first before after room told reads.0 order reads.2
handed_to lanes first before after room told fault.Write order none (inr within) =
    record { bytes = []; ended = false; up = subst (UpToAnEnd told.jobs told.batch_ends) (sym none) within.up }
handed_to lanes first before after room told fault.NoMemory order none reads = record { bytes = reads.bytes; ended = reads.ended; up = reads.up }
handed_to lanes first before after room told ending order none reads = absurd reads

-- ---- jobs of lines

-- a job is of a line of an input
pub record IsLineJob (j : Job) : Type 0 where
  pub lane : j.lane < 2 ^ 8
  pub line : j.line < 2 ^ 32
  pub named : IsNamedAsk j.ask
  pub adds : AddsNamed j.ask

line_jobs : (lanes : ℕ) (jobs : List Job) → lanes ≤ LANE_LIMIT → AreOfLanes lanes jobs → AreLinesBelow SESSION_LINE_LIMIT jobs → AreNamedJobs jobs →
    EachJob IsLineJob jobs
line_jobs lanes [] few of below named = tt
line_jobs lanes (j ∷ js) few of below named = grind (arith, (line_jobs lanes js few of.1 below.1 named.1))

-- ---- ends of batches

lead_first : (before k total : ℕ) (ends : List ℕ) → LeadTo before ends total → LeadTo before (take k ends) (last_or before (take k ends))
lead_first before zero total ends lead = refl
lead_first before (suc k) total [] lead = refl
lead_first before (suc k) total (x ∷ xs) lead = (lead.0, lead.1, lead_first x k total xs lead.2)

lead_above : (before total : ℕ) (ends : List ℕ) → LeadTo before ends total → before ≤ total
lead_above before total [] lead = omega (arith, lead)
lead_above before total (x ∷ xs) lead = let here = lead.0 in let rest = lead_above x total xs lead.2 in omega (arith, here, rest)

first_below : (before k total : ℕ) (ends : List ℕ) → LeadTo before ends total → last_or before (take k ends) ≤ total
first_below before zero total ends lead = lead_above before total ends lead
first_below before (suc k) total [] lead = omega (arith, lead)
first_below before (suc k) total (x ∷ xs) lead = first_below x k total xs lead.2

end_at : (ends : List ℕ) (total : ℕ) → LeadTo 0 ends total → EndAt ends total
end_at ends total lead =
    subst (λ es. EndAt es total) (take_all (length ends) ends (omega arith))
    (subst (λ n. EndAt (take (length ends) ends) n) (last_start ends total lead) (first_ends ends total (length ends) lead (omega arith)))

-- jobs that were handed over up to an end are of lines, and the last end is that of all
pub record AreHanded (jobs : List Job) (batch_ends : List ℕ) : Type 0 where
  pub each : EachJob IsLineJob jobs
  pub at_end : EndAt batch_ends (length jobs)
  pub few : length jobs ≤ SESSION_LINE_LIMIT

are_handed : (lanes : ℕ) (first : Cut) (jobs : List Job) (batch_ends : List ℕ) → lanes ≤ LANE_LIMIT → AreInOrderFrom lanes first →
    ((bytes : List ℕ) (ended : Bool) → AreNamedJobs (jobs_from first bytes ended).jobs) → IsUpTo first jobs batch_ends → AreHanded jobs batch_ends
are_handed lanes first jobs batch_ends few order named is =
    let all = jobs_from first is.bytes is.ended in
    let ordered = order is.bytes is.ended in
    let k = is.up.ends.0 in
    let same : batch_ends ≡ take k all.ends = is.up.ends.1 in
    let below : last_or 0 batch_ends ≤ length all.jobs =
    subst (λ es. last_or 0 es ≤ length all.jobs) (sym same) (first_below 0 k (length all.jobs) all.ends ordered.ends) in
    let size : length jobs ≡ last_or 0 batch_ends = ap length is.up.within ∙ length-take-le (last_or 0 batch_ends) all.jobs below in
    let leads : LeadTo 0 batch_ends (last_or 0 batch_ends) =
    subst (λ es. LeadTo 0 es (last_or 0 es)) (sym same) (lead_first 0 k (length all.jobs) all.ends ordered.ends) in
    let short = ordered.few in
    record {
      each = subst (EachJob IsLineJob) (sym is.up.within)
          (each_first IsLineJob (last_or 0 batch_ends) all.jobs (line_jobs lanes all.jobs few ordered.of_lanes ordered.below (named is.bytes is.ended)));
      at_end = subst (EndAt batch_ends) (sym size) (end_at batch_ends (last_or 0 batch_ends) leads);
      few = omega (arith, size, below, short);
    }

-- ---- entries that fill jobs

by_lanes : (P : Job → Type 0) (js : List Job) → ((lane : ℕ) → EachJob P (lane_jobs lane js)) → EachJob P js
by_lanes P [] each = tt
by_lanes P (j ∷ js) each = (own (nat_eq j.lane j.lane) (eq_same j.lane) (each j.lane), by_lanes P js (λ lane. rest lane (nat_eq j.lane lane) (each lane)))
  where
    own : (b : Bool) → b ≡ true → EachJob P (if b then j ∷ lane_jobs j.lane js else lane_jobs j.lane js) → P j
    own true is all = all.0
    own false is all = cc

    rest : (lane : ℕ) (b : Bool) → EachJob P (if b then j ∷ lane_jobs lane js else lane_jobs lane js) → EachJob P (lane_jobs lane js)
    rest lane true all = all.1
    rest lane false all = all

two_parts : (P : Job → Type 0) (n : ℕ) (js : List Job) → EachJob P (take n js) → EachJob P (drop n js) → EachJob P js
two_parts P zero js first later = later
two_parts P (suc n) [] first later = tt
two_parts P (suc n) (j ∷ js) first later = (first.0, two_parts P n js first.1 later)

first_of_first : (P : Job → Type 0) (n m : ℕ) (js : List Job) → EachJob P (take n js) → EachJob P (take n (take m js))
first_of_first P zero m js each = tt
first_of_first P (suc n) zero js each = tt
first_of_first P (suc n) (suc m) [] each = tt
first_of_first P (suc n) (suc m) (j ∷ js) each = (each.0, first_of_first P n m js each.1)

filled_to : (P : Job → Type 0) (es : List Entry) (jobs : List Job) (ends : List ℕ) (k : ℕ) → FillsJobs es jobs ends → EachJob P jobs → k ≤ length ends →
    EachJob P (take (batch_start ends k) (map job_of_entry es))
filled_to P es jobs ends zero fills each known = tt
filled_to P es jobs ends (suc k) fills each known =
    let all = map job_of_entry es in
    let start = batch_start ends k in
    let end = batch_end ends k in
    two_parts P start (take end all) (first_of_first P start end all (filled_to P es jobs ends k fills each (omega (arith, known))))
    (by_lanes P (batch_jobs ends k all)
    (λ lane. subst (EachJob P) (sym (fills.batches k (omega (arith, known)) lane))
    (each_lane P lane (batch_jobs ends k jobs) (each_rest P start (take end jobs) (each_first P end jobs each)))))

filled : (P : Job → Type 0) (es : List Entry) (jobs : List Job) (ends : List ℕ) → FillsJobs es jobs ends → EndAt ends (length jobs) → EachJob P jobs →
    EachJob P (map job_of_entry es)
filled P es jobs ends fills at_end each =
    let all = map job_of_entry es in
    let size : length all ≡ length jobs = length-map es job_of_entry ∙ fills.whole in
    let closed = at_end.closed in
    subst (EachJob P) (take_all (batch_start ends (length ends)) all (omega (arith, size, closed)))
    (filled_to P es jobs ends (length ends) fills each (omega arith))

lines_of : (es : List Entry) → EachJob IsLineJob (map job_of_entry es) → AreOfLines es
lines_of [] each = tt
lines_of (e ∷ es) each = (record { lane = each.0.lane; line = each.0.line; named = each.0.named; adds = each.0.adds }, lines_of es each.1)

pub lines_behind : (n : ℕ) (es : List Entry) → AreOfLines es → AreOfLines (drop n es)
lines_behind zero es lines = lines
lines_behind (suc n) [] lines = tt
lines_behind (suc n) (e ∷ es) lines = lines_behind n es lines.1

-- the entries of a session answer lines, and are no more than a session may have
pub record AnswerLines (es : List Entry) : Type 0 where
  pub lines : AreOfLines es
  pub few : length es ≤ SESSION_LINE_LIMIT

pub answer_lines : (lanes : ℕ) (first : Cut) (before after : Option (List ℕ)) (room : ℕ) (told : Told) (ending : RunFault) → lanes ≤ LANE_LIMIT →
    AreInOrderFrom lanes first →
    ((bytes : List ℕ) (ended : Bool) → AreNamedJobs (jobs_from first bytes ended).jobs) → jobs_from first [] false ≡ first →
    ReadsFor before after room (handed_in first told) ending → FillsJobs told.entries told.jobs told.batch_ends → AnswerLines told.entries
answer_lines lanes first before after room told ending few order named none reads fills =
    let handed = are_handed lanes first told.jobs told.batch_ends few order named (handed_to lanes first before after room told ending order none reads) in
    let short = handed.few in
    let whole = fills.whole in
    record {
      lines = lines_of told.entries (filled IsLineJob told.entries told.jobs told.batch_ends fills handed.at_end handed.each);
      few = omega (arith, short, whole);
    }
