use Rattle.std.proofs.Common.{◌≡◌, length, take, ap, refl, ◌∙◌, arith}
use Rattle.transcript_commands.specs.Unserved.{jobs_between}
use Rattle.transcript_commands.proofs.Rests.{answers_part, bounds_order, bounds_within, short_between}
use Rattle.transcript_commands.proofs.unserved.rest.Goals as goal

pub jobs_between-jobs-requires-clause-order : goal.jobs_between-jobs-requires-clause-order
jobs_between-jobs-requires-clause-order c =
    let jobs = c.args.batch.now.jobs in
    let ends = c.args.batch.now.ends in
    let n = length c.args.journal.now.entries in
    let order = bounds_order ends (length jobs) n c.requires.ends c.requires.part.few in
    rw (c.bounds-from.ensures.start, c.bounds-from.ensures.end, c.as_slice.ensures, c.len.ensures) order

pub jobs_between-jobs-requires-clause-within : goal.jobs_between-jobs-requires-clause-within
jobs_between-jobs-requires-clause-within c =
    let jobs = c.args.batch.now.jobs in
    let ends = c.args.batch.now.ends in
    let n = length c.args.journal.now.entries in
    let within = bounds_within ends (length jobs) n c.requires.ends c.requires.part.few in
    rw (c.bounds-from.ensures.end, c.as_slice.ensures, c.as_slice-2.ensures, c.len.ensures) within

pub jobs_between-before-requires-clause-within : goal.jobs_between-before-requires-clause-within
jobs_between-before-requires-clause-within c =
    let jobs = c.args.batch.now.jobs in
    let ends = c.args.batch.now.ends in
    let n = length c.args.journal.now.entries in
    let order = bounds_order ends (length jobs) n c.requires.ends c.requires.part.few in
    let within = bounds_within ends (length jobs) n c.requires.ends c.requires.part.few in
    rw (c.bounds-from.ensures.start, c.as_slice.ensures, c.as_slice-3.ensures, c.len.ensures) (omega (arith, order, within))

pub returns-clause-stopped : goal.returns-clause-stopped
returns-clause-stopped c =
    let from = c.bounds-from.result.0 in
    let next = c.bounds-from.result.1 in
    record {
      from = rw (c.bounds-from.ensures.start, c.as_slice.ensures, c.len.ensures) refl;
      next = rw (c.bounds-from.ensures.end, c.as_slice.ensures, c.len.ensures) refl;
      jobs = c.from_vec.ensures ∙ c.in_ok-from_slice.ensures.items ∙ c.jobs_between-jobs.ensures ∙ ap (λ js. jobs_between from next js) c.as_slice-2.ensures;
      earlier = c.from_vec-2.ensures ∙ c.in_ok-earlier.ensures.items ∙ c.jobs_between-before.ensures ∙ ap (take from) c.as_slice-3.ensures;
    }

pub returns-clause-answers : goal.returns-clause-answers
returns-clause-answers c =
    let jobs = c.args.batch.now.jobs in
    let ends = c.args.batch.now.ends in
    let from = c.bounds-from.result.0 in
    let next = c.bounds-from.result.1 in
    let same : c.from_vec.result ≡ jobs_between from next jobs =
    c.from_vec.ensures ∙ c.in_ok-from_slice.ensures.items ∙ c.jobs_between-jobs.ensures ∙ ap (λ js. jobs_between from next js) c.as_slice-2.ensures in
    let answers = answers_part c.args.journal.now.entries jobs ends c.requires.ends c.requires.part in
    rw same (rw (c.bounds-from.ensures.start, c.bounds-from.ensures.end, c.as_slice.ensures, c.len.ensures) answers)

pub returns-clause-short : goal.returns-clause-short
returns-clause-short c =
    let jobs = c.args.batch.now.jobs in
    let ends = c.args.batch.now.ends in
    let n = length c.args.journal.now.entries in
    let from = c.bounds-from.result.0 in
    let next = c.bounds-from.result.1 in
    let same : c.from_vec.result ≡ jobs_between from next jobs =
    c.from_vec.ensures ∙ c.in_ok-from_slice.ensures.items ∙ c.jobs_between-jobs.ensures ∙ ap (λ js. jobs_between from next js) c.as_slice-2.ensures in
    let short = short_between ends n jobs c.requires.ends c.requires.part.few in
    rw same (rw (c.bounds-from.ensures.start, c.bounds-from.ensures.end, c.as_slice.ensures, c.len.ensures) short)
