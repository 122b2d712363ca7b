-- A session that was taken up.
use Rattle.transcript_commands.proofs.Common.{◌≡◌, ℕ, ◌≤◌, true, List, [], None, Result, length, take, refl, sym, ap, subst, ◌∙◌, arith, IsErrAnd, PolicyShape}
use Rattle.transcript_commands.proofs.Common.{CutText, Cut, jobs_of_input, AreInOrder, batch_start, RunFault, AuditFault, RefusesBy, Session, StandsAt, ends_to}
use Rattle.transcript_commands.proofs.Common.{IsCutOf}
use Rattle.policy_book.specs.Laws.Facts.{IsSoundPolicy}
use Rattle.line_reader.specs.Jobs.{next_input, start_from}
use Rattle.line_reader.specs.Laws.{GoesOn, InputsGoOn}
use Rattle.line_reader.specs.BatchReader.{BatchReaderShape}
use Rattle.run_record.specs.declared.fault.RunFault.TheVariants as run
use Rattle.transcript_audit.specs.declared.fault.AuditFault.TheVariants.{NoMemory}
use Rattle.transcript_commands.specs.Resumed.{HasResumed}
use Rattle.transcript_commands.specs.declared.start.Beginning.{Beginning}
use Rattle.transcript_commands.specs.declared.start.TheConstants.{PIECE}
use Rattle.transcript_commands.specs.declared.refusal.Refusal.{Refusal}
use Rattle.transcript_commands.specs.declared.refusal.Refusal.TheVariants.{Ends}
use Rattle.transcript_commands.specs.Laws.Begun.{BeginsBy, HasBegun, StopsBy, session_of}
use Rattle.transcript_commands.specs.Refusal.{refused_by}
use Rattle.transcript_commands.proofs.Stands.{desk_lanes, reaches, stands, told_jobs}

-- what was made of the jobs of a file
pub record IsMadeOf (s : Session) (next : ℕ) (r : BatchReaderShape) (b : Beginning) : Type 0 where
  pub file_jobs : b.file.jobs ≡ s.jobs
  pub file_ends : b.file.ends ≡ s.batch_ends
  pub count : b.count ≡ ends_to next s.batch_ends
  pub ends : b.ends ≡ take b.count s.batch_ends
  pub reader : b.reader ≡ r

begun_at : (s : Session) (cut : Cut) (transcript : List ℕ) (next : ℕ) (r : BatchReaderShape) (b : Beginning) → IsSoundPolicy s.policy →
    AreInOrder s.lanes s.jobs s.batch_ends
    → s.jobs ≡ cut.jobs → s.batch_ends ≡ cut.ends → GoesOn s.lanes cut → HasResumed s transcript next b.desk → IsMadeOf s next r b
    → r ≡ record { cut = start_from s.lanes (next_input cut).number; pending = []; room = PIECE } → HasBegun s cut transcript b
begun_at s cut transcript next r b sound order jobs ends goes resumed made reads =
    let lead = order.ends in
    let part = resumed.taken.part in
    let at = resumed.goes_on in
    let far = reaches s b.desk.entries next b.desk lead part at in
    let told = told_jobs s b.desk.entries next b.desk lead part at in
    record {
      policy = sound;
      order = order;
      cut_jobs = jobs;
      cut_ends = ends;
      taken = resumed.taken;
      opening = at.opening;
      lanes = at.lanes;
      rounds = at.rounds;
      restored = at.restored;
      of_lanes = desk_lanes s b.desk.entries next b.desk order.of_lanes at;
      stands = subst (λ js. StandsAt b.desk.entries b.desk.start b.desk.jobs js b.ends) (sym told)
          (subst (λ es. StandsAt b.desk.entries b.desk.start b.desk.jobs (take next s.jobs) es) (sym (made.ends ∙ ap (λ n. take n s.batch_ends) made.count))
          (stands s b.desk.entries next b.desk lead part at));
      file_jobs = made.file_jobs;
      file_ends = made.file_ends;
      known = subst (λ n. n ≤ length s.batch_ends) (sym made.count) far.known;
      first_jobs = told ∙ ap (λ n. take n s.jobs) (sym (ap (batch_start s.batch_ends) made.count ∙ far.there));
      first_ends = made.ends;
      goes_on = goes;
      reader = made.reader ∙ reads;
    }

-- a session that was taken up behind the requests of a file
pub has_begun : (p : PolicyShape) (lanes rounds : ℕ) (requests transcript : List ℕ) (text : CutText) (next : ℕ) (r : BatchReaderShape) (b : Beginning) →
    IsSoundPolicy p
    → AreInOrder lanes text.batch.jobs text.batch.ends → InputsGoOn lanes → IsCutOf requests lanes text → text.stop ≡ None
    → HasResumed (record { policy = p; lanes = lanes; rounds = rounds; jobs = text.batch.jobs; batch_ends = text.batch.ends }) transcript next b.desk
    → IsMadeOf (record { policy = p; lanes = lanes; rounds = rounds; jobs = text.batch.jobs; batch_ends = text.batch.ends }) next r b
    → r ≡ record { cut = start_from lanes text.lines; pending = []; room = PIECE }
    → HasBegun (session_of p lanes rounds (jobs_of_input requests true lanes)) (jobs_of_input requests true lanes) transcript b
has_begun p lanes rounds requests transcript text next r b sound order law is going resumed made reads =
    let cut = jobs_of_input requests true lanes in
    let s : Session = record { policy = p; lanes = lanes; rounds = rounds; jobs = text.batch.jobs; batch_ends = text.batch.ends } in
    let same : s ≡ session_of p lanes rounds cut = rw (is.jobs, is.ends) refl in
    let at : r ≡ record { cut = start_from lanes (next_input cut).number; pending = []; room = PIECE } =
    reads ∙ ap (λ n. record { cut = start_from lanes n; pending = []; room = PIECE }) is.behind in
    subst (λ x. HasBegun x cut transcript b) same
    (begun_at s cut transcript next r b sound order is.jobs is.ends (law requests (sym is.stop ∙ going)) resumed made at)

-- the answer of a call that failed so
pub stopped : (result : Result Beginning Refusal) (fault : RunFault) → IsErrAnd result (λ x. x ≡ Ends fault) → StopsBy result fault
stopped result fault is = grind arith

pub lacked : (s : Session) (cut : Cut) (transcript : List ℕ) (result : Result Beginning Refusal) → IsErrAnd result (λ x. x ≡ Ends run.NoMemory) →
    BeginsBy s cut transcript result
lacked s cut transcript result is = grind arith

pub refused_so : (p : PolicyShape) (lanes rounds : ℕ) (requests transcript : List ℕ) (text : CutText) (e : AuditFault) (result : Result Beginning Refusal) →
    IsCutOf requests lanes text
    → RefusesBy (record { policy = p; lanes = lanes; rounds = rounds; jobs = text.batch.jobs; batch_ends = text.batch.ends }) transcript e
    → IsErrAnd result (λ x. x ≡ refused_by e)
    → BeginsBy (session_of p lanes rounds (jobs_of_input requests true lanes)) (jobs_of_input requests true lanes) transcript result
refused_so p lanes rounds requests transcript text e result is refused err = grind arith
