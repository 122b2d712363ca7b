-- What is found legal is the text of a legal history that fills the jobs.
use Rattle.transcript_commands.proofs.Common.{◌≡◌, ℕ, ◌+◌, List, [], ◌∷◌, length, ◌++◌, ◌≤◌, ◌⊎◌, inl, inr, subst, arith, length-append, TRANSCRIPT_LINE_LIMIT}
use Rattle.transcript_commands.proofs.Common.{PolicyShape, Entry, Job, AreInOrder, line_length, AuditShape, AreNext, IsNextLine, audit_of, with_entry}
use Rattle.transcript_commands.proofs.Common.{next_pushed, AreOfSession, FaultsExclude, NextIsOne, Finding, Legal, IsAudited, StopsAtLine, LegalIsExact}
use Rattle.wf_names.specs.declared.limits.TheConstants.{LANE_LIMIT}
use Rattle.line_reader.specs.Reader.{AreShort}
use Rattle.transcript_audit.specs.Auditor.{IsTranscript}
use Rattle.transcript_audit.specs.Laws.{AuditIsExact}
use Rattle.transcript_commands.specs.Finding.{AuditsLine}

pub next_of : (a : AuditShape) (lines : List (List ℕ)) → IsAudited a lines Legal → (es : List Entry) ×
    (AreNext a lines es × (length a.entries + length es ≡ length a.jobs))
next_of a [] h = ([], (tt, omega (arith, h)))
next_of a (line ∷ lines) h = elim h [
  | inl stops ↦ absurd stops
  | inr goes ↦
      let more = next_of (with_entry a goes.0) lines goes.1.1 in
      let size = more.1.1 in
      (goes.0 ∷ more.0, ((goes.1.0.1, more.1.0), omega (arith, size, length-append a.entries (goes.0 ∷ []))))
]

legal_lines : AuditIsExact → (p : PolicyShape) (rounds : ℕ) (jobs : List Job) (ends : List ℕ) (lines : List (List ℕ)) → AreInOrder LANE_LIMIT jobs ends →
    IsAudited (audit_of p rounds jobs ends) lines Legal → IsTranscript p rounds jobs ends lines
legal_lines exact p rounds jobs ends lines order found = grind (arith, next_of)

-- ---- what is such a text is found legal

-- a line that is the text of an entry that comes next is no fault, and not too long
not_stopped : FaultsExclude →
    (p : PolicyShape) (rounds : ℕ) (jobs : List Job) (ends : List ℕ) (done : List (List ℕ)) (es : List Entry) (line : List ℕ) (e : Entry) (f : Finding) →
    AreOfSession p rounds jobs ends → AreNext (audit_of p rounds jobs ends) done es →
    IsNextLine (record (audit_of p rounds jobs ends) { entries = es }) line e →
    line_length line ≤ TRANSCRIPT_LINE_LIMIT → ¬ StopsAtLine (record (audit_of p rounds jobs ends) { entries = es }) line f
not_stopped law p rounds jobs ends done es line e f session so_far next short = grind arith

found_legal : FaultsExclude → NextIsOne →
    (p : PolicyShape) (rounds : ℕ) (jobs : List Job) (ends : List ℕ) (done lines : List (List ℕ)) (es rest : List Entry) (f : Finding) →
    AreOfSession p rounds jobs ends → AreNext (audit_of p rounds jobs ends) done es →
    AreNext (record (audit_of p rounds jobs ends) { entries = es }) lines rest → AreShort lines →
    length es + length rest ≡ length jobs → IsAudited (record (audit_of p rounds jobs ends) { entries = es }) lines f → f ≡ Legal
found_legal law one p rounds jobs ends done [] es rest f session so_far next short size found = grind arith
found_legal law one p rounds jobs ends done (line ∷ lines) es [] f session so_far next short size found = absurd next
found_legal law one p rounds jobs ends done (line ∷ lines) es (e ∷ rest) f session so_far next short size found =
    by_line found (λ more.
    found_legal law one p rounds jobs ends (done ++ line ∷ []) lines (es ++ e ∷ []) rest f session
    (next_pushed (audit_of p rounds jobs ends) done es line e so_far next.0) next.1 short.1
    (omega (arith, size, length-append es (e ∷ []))) more)
  where
    by_line : StopsAtLine (record (audit_of p rounds jobs ends) { entries = es }) line f
        ⊎ ((x : Entry) × (AuditsLine (record (audit_of p rounds jobs ends) { entries = es }) line x ×
        IsAudited (record (audit_of p rounds jobs ends) { entries = es ++ x ∷ [] }) lines f)) →
        (IsAudited (record (audit_of p rounds jobs ends) { entries = es ++ e ∷ [] }) lines f → f ≡ Legal) → f ≡ Legal
    by_line (inl stops) later = absurd (not_stopped law p rounds jobs ends done es line e f session so_far next.0 short.0 stops)
    by_line (inr goes) later =
        let same : goes.0 ≡ e = one p rounds jobs ends done es session so_far line goes.0 e goes.1.0.1 next.0 in
        later (subst (λ (x : Entry). IsAudited (record (audit_of p rounds jobs ends) { entries = es ++ x ∷ [] }) lines f) same goes.1.1)

pub legal_is_exact : AuditIsExact → FaultsExclude → NextIsOne → LegalIsExact
legal_is_exact exact law one p rounds jobs ends lines f session short found = (
  λ is. legal_lines exact p rounds jobs ends lines session.order (subst (λ (x : Finding). IsAudited (audit_of p rounds jobs ends) lines x) is found),
  λ is.
      let all = (exact p rounds jobs ends lines session.order).1 is in
      let size = all.1.1 in
      found_legal law one p rounds jobs ends [] lines [] all.0 f session tt all.1.0 short (omega (arith, size)) found,
)
