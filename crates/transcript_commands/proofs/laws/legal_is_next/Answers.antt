use Rattle.std.proofs.Common.{◌≡◌, ℕ, ◌+◌, List, [], ◌∷◌, length, inr, arith}
use Rattle.std.proofs.lemmas.List.{length-append}
use Rattle.wf_talk.specs.declared.entry.Entry.{Entry}
use Rattle.transcript_audit.specs.Auditor.{AuditShape, AreNext, audit_of, with_entry}
use Rattle.line_reader.specs.Reader.{AreShort}
use Rattle.transcript_commands.specs.declared.finding.Finding.TheVariants.{Legal}
use Rattle.transcript_commands.specs.Finding.{IsAudited}
use Rattle.transcript_commands.proofs.Legal.{next_of}
use Rattle.transcript_commands.proofs.laws.legal_is_next.Goals as goal

audited_of : (a : AuditShape) (lines : List (List ℕ)) (es : List Entry) → AreShort lines → AreNext a lines es →
    length a.entries + length es ≡ length a.jobs → IsAudited a lines Legal
audited_of a [] [] short next size = omega (arith, size)
audited_of a [] (e ∷ es) short next size = absurd next
audited_of a (line ∷ lines) [] short next size = absurd next
audited_of a (line ∷ lines) (e ∷ es) short next size =
    inr (e, ((short.0, next.0), audited_of (with_entry a e) lines es short.1 next.1 (omega (arith, size, length-append a.entries (e ∷ [])))))

pub returns : goal.returns
returns c p rounds jobs batch_ends lines short = (
  λ h. (let n = next_of (audit_of p rounds jobs batch_ends) lines h in let size = n.1.1 in (n.0, (n.1.0, omega (arith, size)))),
  λ n. let size = n.1.1 in audited_of (audit_of p rounds jobs batch_ends) lines n.0 short n.1.0 (omega (arith, size)),
)
