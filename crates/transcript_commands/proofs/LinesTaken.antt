-- The lines of a text are taken one after the other.
use Rattle.transcript_commands.proofs.Common.{◌≡◌, ℕ, ◌+◌, ◌-◌, ◌<◌, ◌≤◌, List, [], ◌∷◌, ◌++◌, length, take, None, Result, Ok, Err, inl, inr, subst, arith}
use Rattle.transcript_commands.proofs.Common.{IfErr, IsErrAnd, length-drop, take_all, Entry, Job, behind_line, first_line, lines_of, lines_first, AuditFault}
use Rattle.transcript_commands.proofs.Common.{AuditKind, PolicyShape, AuditShape, AreNext, audit_of, next_pushed, AreOfSession, FaultsExclude, NextIsOne}
use Rattle.transcript_commands.proofs.Common.{RefusesBy, Session, whole_lines}
use Rattle.std.proofs.Common.{drop}
use Rattle.transcript_audit.specs.declared.fault.AuditFault.TheVariants.{At, NoMemory}
use Rattle.wf_board.specs.Laws.States.{State, opening_state}
use Rattle.wf_board.specs.Laws.Histories.{state_after}
use Rattle.transcript_audit.specs.Auditor.{state_now}
use Rattle.transcript_audit.specs.Laws.{PartIsExact}
use Rattle.transcript_audit.specs.Laws.Outcomes.{HasTakenLine}
use Rattle.transcript_commands.specs.Auditing.{FailsIn, HasTakenAll, HasTakenFirst}
use Rattle.transcript_commands.specs.Resumed.{FailsAt, IsTakenUp}

-- ---- one line

-- a line that was taken
pub took_first : (a b : AuditShape) (text : List ℕ) (n : ℕ) → 0 < length text → take n text ≡ first_line text → drop n text ≡ behind_line text →
    HasTakenLine a b (take n text) (Ok tt) → HasTakenFirst a b text (drop n text)
took_first a b text n some line behind taken = grind (arith, lines_first)

-- and one that was not
pub failed_first : (a b : AuditShape) (text : List ℕ) (n : ℕ) (fault : AuditFault) → 0 < length text → take n text ≡ first_line text → a.fault ≡ None →
    HasTakenLine a b (take n text) (Err fault) → FailsIn a (lines_of text) fault
failed_first a b text n fault some line going taken = grind (arith, lines_first)

-- ---- all lines

-- what is left of a text behind a place, as a slice
pub left_at : (text : List ℕ) (at : ℕ) → take (length text - at) (drop at text) ≡ drop at text
left_at text at = take_all (length text - at) (drop at text) (omega (arith, length-drop at text))

pub left_within : (text : List ℕ) (at n : ℕ) → at ≤ length text → n ≤ length (take (length text - at) (drop at text)) → at + n ≤ length text
left_within text at n begun within = grind (arith, left_at, length-drop)

-- ---- what was taken, and what was not

-- the entries are those of the lines
taken_up : PartIsExact → (s : Session) (transcript : List ℕ) (b : AuditShape) → AreOfSession s.policy s.rounds s.jobs s.batch_ends →
    HasTakenAll (audit_of s.policy s.rounds s.jobs s.batch_ends) b (lines_of (whole_lines transcript)) → IsTakenUp s transcript b.entries
taken_up exact s transcript b session all = grind arith

-- lines of which one fails are those of no entries
none_next : FaultsExclude → NextIsOne → (s : Session) (done lines : List (List ℕ)) (es rest : List Entry) (n : ℕ) (kind : AuditKind) →
    AreOfSession s.policy s.rounds s.jobs s.batch_ends →
    AreNext (audit_of s.policy s.rounds s.jobs s.batch_ends) done es →
    AreNext (record (audit_of s.policy s.rounds s.jobs s.batch_ends) { entries = es }) lines rest →
    FailsAt (record (audit_of s.policy s.rounds s.jobs s.batch_ends) { entries = es }) lines n kind → ⊥
none_next law one s done [] es rest n kind session so_far next fails = fails
none_next law one s done (line ∷ lines) es [] n kind session so_far next fails = next
none_next law one s done (line ∷ lines) es (e ∷ rest) n kind session so_far next fails = elim fails [
  | inl stops ↦ law s.policy s.rounds s.jobs s.batch_ends done es session so_far line kind e stops.1 next.0
  | inr goes ↦
      let a = audit_of s.policy s.rounds s.jobs s.batch_ends in
      let same : goes.0 ≡ e = one s.policy s.rounds s.jobs s.batch_ends done es session so_far line goes.0 e goes.1.0 next.0 in
      none_next law one s (done ++ line ∷ []) lines (es ++ e ∷ []) rest n kind session (next_pushed a done es line e so_far next.0) next.1
      (subst (λ x. FailsAt (record a { entries = es ++ x ∷ [] }) lines n kind) same goes.1.1)
]

refused_by : FaultsExclude → NextIsOne → PartIsExact → (s : Session) (transcript : List ℕ) (fault : AuditFault) →
    AreOfSession s.policy s.rounds s.jobs s.batch_ends →
    FailsIn (audit_of s.policy s.rounds s.jobs s.batch_ends) (lines_of (whole_lines transcript)) fault → RefusesBy s transcript fault
refused_by law one exact s transcript (At n kind) session fails = record {
  fails = fails;
  none = λ es taken.
      let next = (exact s.policy s.rounds s.jobs s.batch_ends (lines_of (whole_lines transcript)) es session.order).1 taken in
      none_next law one s [] (lines_of (whole_lines transcript)) [] es n kind session tt next fails;
}
refused_by law one exact s transcript NoMemory session fails = tt

-- an audit of the whole lines that began so, and did not take one of them
pub refused_of : {A : Type 0} → FaultsExclude → NextIsOne → PartIsExact →
    (s : Session) (transcript lines : List ℕ) (a : AuditShape) (result : Result A AuditFault) (fault : AuditFault) →
    AreOfSession s.policy s.rounds s.jobs s.batch_ends → a ≡ audit_of s.policy s.rounds s.jobs s.batch_ends → lines ≡ whole_lines transcript →
    FailsIn a (lines_of lines) fault →
    IsErrAnd result (λ e. e ≡ fault) → IfErr result (RefusesBy s transcript)
refused_of law one exact s transcript lines a result fault session begun whole fails is = grind (arith, refused_by)

-- and one that took them all
pub taken_of : PartIsExact → (s : Session) (transcript lines : List ℕ) (a b : AuditShape) (es : List Entry) →
    AreOfSession s.policy s.rounds s.jobs s.batch_ends →
    a ≡ audit_of s.policy s.rounds s.jobs s.batch_ends → lines ≡ whole_lines transcript → HasTakenAll a b (lines_of lines) → es ≡ b.entries →
    IsTakenUp s transcript es
taken_of exact s transcript lines a b es session begun whole all same = grind (arith, taken_up)

-- and the board behind its entries
pub state_of : (p : PolicyShape) (rounds : ℕ) (jobs : List Job) (ends : List ℕ) (lines : List (List ℕ)) (a b : AuditShape) (s : State) (es : List Entry) →
    a ≡ audit_of p rounds jobs ends → HasTakenAll a b lines → s ≡ state_now b → es ≡ b.entries → s ≡ state_after (opening_state p) es
state_of p rounds jobs ends lines a b s es begun all is same = grind arith
