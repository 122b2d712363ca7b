-- What was loaded, and what is found with it.
use Rattle.transcript_commands.proofs.Common.{◌≡◌, ℕ, List, [], length, Result, Ok, Err, refl, subst, arith, IfErr, IsErrAnd, le-ltb, lt-ltb, POLICY_FILE_LIMIT}
use Rattle.transcript_commands.proofs.Common.{REQUESTS_FILE_LIMIT, Filed, told, missing, untold, PolicyShape, Batch, AuditShape, audit_of, AreOfSession}
use Rattle.transcript_commands.proofs.Common.{RunFault, OverPolicy, GivesPolicy, IsLoadEnding, Finding, HasFound, ending_of, finding_text, LegalIsExact}
use Rattle.transcript_commands.proofs.Common.{AuditsPolicy, EndsWithout, FindsFile, IsReadEnding}
use Rattle.std.specs.Prelude.{IfOk}
use Rattle.run_record.specs.declared.fault.RunFault.TheVariants.{Load, FileTooLong}
use Rattle.wf_commands.specs.Load.{PolicyOf}
use Rattle.wf_commands.proofs.Loading.{answers_file}
use Rattle.wf_commands.proofs.Telling.{policy_refused}
use Rattle.transcript_commands.specs.Loading.{GivesJobs, JobsOf}
use Rattle.transcript_commands.specs.Audit.{AuditOf, AuditsFile, AuditsRequests, Input, audit_for}
use Rattle.transcript_commands.specs.Steps.{FindsAs}

-- ---- what is found with them

audits_requests : LegalIsExact → (p : PolicyShape) (o : AuditOf) (i : Input) (requests : List ℕ) (batch : Batch) (f : Finding) →
    JobsOf requests o.lanes (Ok batch) → AreOfSession p o.rounds batch.jobs batch.ends
    → HasFound (audit_of p o.rounds batch.jobs batch.ends) f i.before i.after → AuditsRequests p o i requests (ending_of f) (finding_text f)
audits_requests exact p o i requests batch f gives order found =
    let same : audit_of p o.rounds batch.jobs batch.ends ≡ audit_for p o requests = rw (gives.1.0, gives.1.1) refl in
    rw (le-ltb REQUESTS_FILE_LIMIT (length requests) gives.0)
    (record {
      finding = f;
      legal = grind arith;
      found = subst (λ (a : AuditShape). HasFound a f i.before i.after) same found;
      ends = refl;
      writes = refl;
    })

audits_file : LegalIsExact → (p : PolicyShape) (o : AuditOf) (i : Input) (filed : Filed) (batch : Batch) (f : Finding) →
    GivesJobs filed o.lanes (Ok batch) → AreOfSession p o.rounds batch.jobs batch.ends
    → HasFound (audit_of p o.rounds batch.jobs batch.ends) f i.before i.after → AuditsFile p o i filed (ending_of f) (finding_text f)
audits_file exact p o i untold batch f gives order found = (gives.0, audits_requests exact p o i gives.0 batch f gives.1 order found)
audits_file exact p o i missing batch f gives order found = cc
audits_file exact p o i (told file) batch f gives order found = audits_requests exact p o i file batch f gives order found

pub finds_under : LegalIsExact → (p : PolicyShape) (o : AuditOf) (i : Input) (batch : Batch) (result : Result Finding RunFault) →
    GivesJobs o.requests o.lanes (Ok batch) → AreOfSession p o.rounds batch.jobs batch.ends
    → IfOk result (λ f. HasFound (audit_of p o.rounds batch.jobs batch.ends) f i.before i.after) → IfErr result IsReadEnding →
    FindsAs (AuditsPolicy o i p) result
finds_under exact p o i batch result gives order found ending = grind (arith, audits_file)

-- where there are jobs the file is not missing, and not too long
pub jobs_there : (filed : Filed) (lanes : ℕ) (batch : Batch) (fault : RunFault) → GivesJobs filed lanes (Ok batch) → EndsWithout filed fault
jobs_there filed lanes batch fault gives = grind arith

requests_too_long : (p : PolicyShape) (o : AuditOf) (i : Input) (filed : Filed) → GivesJobs filed o.lanes (Err FileTooLong) →
    AuditsFile p o i filed FileTooLong []
requests_too_long p o i filed gives = grind (arith, lt-ltb)

ends_otherwise : (filed : Filed) (lanes : ℕ) (fault : RunFault) → ((file : List ℕ) → JobsOf file lanes (Err fault) → ⊥) → (fault ≡ Load → ⊥)
    → GivesJobs filed lanes (Err fault) → ⊥
ends_otherwise filed lanes fault never other gives = grind arith

finds_no_jobs : (p : PolicyShape) (o : AuditOf) (i : Input) (fault : RunFault) → GivesJobs o.requests o.lanes (Err fault) → IsLoadEnding fault
    → FindsAs (AuditsPolicy o i p) (Err fault)
finds_no_jobs p o i fault gives ending = grind (arith, requests_too_long, ends_otherwise)

pub no_jobs : (p : PolicyShape) (o : AuditOf) (i : Input) (result : Result Finding RunFault) (fault : RunFault) → IsErrAnd result (λ e. e ≡ fault)
    → GivesJobs o.requests o.lanes (Err fault) → IsLoadEnding fault → FindsAs (AuditsPolicy o i p) result
no_jobs p o i result fault is gives ending = grind (arith, finds_no_jobs)

-- ---- what is found over the policy file

finds_over : (A : PolicyShape → RunFault → List ℕ → Type 0) (file : List ℕ) (p : PolicyShape) (f : Finding) → PolicyOf file (Ok p) →
    A p (ending_of f) (finding_text f)
    → OverPolicy A file (ending_of f) (finding_text f)
finds_over A file p f gives h = rw (le-ltb POLICY_FILE_LIMIT (length file) gives.0, gives.1) h

finds_file : (A : PolicyShape → RunFault → List ℕ → Type 0) (f : Filed) (p : PolicyShape) (result : Result Finding RunFault)
    → GivesPolicy f (Ok p) → FindsAs (A p) result → FindsFile A f result
finds_file A f p result gives h = grind (arith, finds_over, answers_file)

-- the requests are as they were before the policy was loaded
pub finds_behind : (policy : Filed) (p : PolicyShape) (o : AuditOf) (requests : Filed) (i : Input) (result : Result Finding RunFault)
    → GivesPolicy policy (Ok p) → o.requests ≡ requests → FindsAs (AuditsPolicy o i p) result
    → FindsFile (AuditsPolicy (record { requests = requests; lanes = o.lanes; rounds = o.rounds }) i) policy result
finds_behind policy p o requests i result gives kept h = grind (arith, finds_file)

finds_no_policy : (A : PolicyShape → RunFault → List ℕ → Type 0) (f : Filed) (fault : RunFault) → GivesPolicy f (Err fault) → IsLoadEnding fault →
    FindsFile A f (Err fault)
finds_no_policy A f fault gives ending = grind (arith, policy_refused)

pub no_policy : (A : PolicyShape → RunFault → List ℕ → Type 0) (f : Filed) (result : Result Finding RunFault) (fault : RunFault) →
    IsErrAnd result (λ e. e ≡ fault)
    → GivesPolicy f (Err fault) → IsLoadEnding fault → FindsFile A f result
no_policy A f result fault is gives ending = grind (arith, finds_no_policy)
