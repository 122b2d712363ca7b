-- What is known once a transcript is audited.
use Rattle.std.proofs.Common.{◌≡◌, ℕ, suc, ◌<◌, false, List, [], ◌∷◌, ◌++◌, length, drop, refl, ap, sym, subst, ◌∙◌, arith}
use Rattle.std.proofs.lemmas.List.{append-nil, append_assoc}
use Rattle.wf_talk.specs.declared.entry.Entry.{Entry}
use Rattle.wf_board.specs.Laws.Histories.{state_after}
use Rattle.wf_board.specs.Laws.States.{opening_state}
use Rattle.line_reader.specs.Reader.{AreShort, lines_of}
use Rattle.wf_names.specs.declared.limits.TheConstants.{TRANSCRIPT_LINE_LIMIT}
use Rattle.line_reader.specs.Reader.{line_length}
use Rattle.transcript_audit.specs.Auditor.{AuditShape, AreNext, IsNextLine, IsTranscript, state_now, with_entry}
use Rattle.transcript_audit.specs.Laws.{AreOfSession, AuditIsExact, FaultsExclude, NextIsOne, PartIsExact}
use Rattle.transcript_audit.proofs.Exact.{next_pushed}
use Rattle.case_story.specs.declared.place.Place.{Place}
use Rattle.case_story.specs.declared.session.Session.{Session}
use Rattle.case_story.specs.declared.verdict.Verdict.{Verdict}
use Rattle.case_story.specs.declared.verdict.Verdict.TheVariants.{Legal, Fault, TooLong}
use Rattle.case_story.specs.Followed.{HasFollowed, StopsAudit, StopsTo}
use Rattle.case_story.specs.Sessions.{AreFirst, audit_in, cut_in, state_of}
use Rattle.case_story.specs.Verdicts.{EndsWith, IsVerdict, is_wrong}
use Rattle.case_story.specs.Printed.{Finds}
use Rattle.case_story.proofs.Following.{begins}

-- an audit with some entries
abbrev with_all : (s : Session) → List Entry → AuditShape
with_all s es = record (audit_in s) { entries = es }

-- where lines are the texts of entries that come next, and the first of them of these, the line behind them is that of one
next_at : NextIsOne → (s : Session) (done front more : List (List ℕ)) (so_far es all : List Entry) (line : List ℕ) →
    AreOfSession s.policy s.rounds (cut_in s).jobs (cut_in s).ends
    → AreNext (audit_in s) done so_far → AreNext (record (audit_in s) { entries = so_far }) front es →
    AreNext (record (audit_in s) { entries = so_far }) (front ++ line ∷ more) all
    → (n : Entry) × ((ls : List (List ℕ)) × (AreNext (audit_in s) ls (so_far ++ es) × IsNextLine (record (audit_in s) { entries = so_far ++ es }) line n))
next_at one s done [] more so_far [] (e ∷ all) line session before next whole = (
  e,
  (
    done,
    (
      subst (λ xs. AreNext (audit_in s) done xs) (sym (append-nil so_far)) before,
      subst (λ xs. IsNextLine (record (audit_in s) { entries = xs }) line e) (sym (append-nil so_far)) whole.0,
    ),
  ),
)
next_at one s done [] more so_far [] [] line session before next whole = absurd whole
next_at one s done [] more so_far (x ∷ es) all line session before next whole = absurd next
next_at one s done (l ∷ front) more so_far [] all line session before next whole = absurd next
next_at one s done (l ∷ front) more so_far (x ∷ es) [] line session before next whole = absurd whole
next_at one s done (l ∷ front) more so_far (x ∷ es) (y ∷ all) line session before next whole =
    let a = audit_in s in
    let same : y ≡ x = one s.policy s.rounds (cut_in s).jobs (cut_in s).ends done so_far session before l y x whole.0 next.0 in
    let found = next_at one s (done ++ l ∷ []) front more (so_far ++ x ∷ []) es all line session (next_pushed a done so_far l x before next.0) next.1
    (subst (λ (z : Entry). AreNext (record a { entries = so_far ++ z ∷ [] }) (front ++ line ∷ more) all) same whole.1) in
    let is : (so_far ++ x ∷ []) ++ es ≡ so_far ++ x ∷ es = append_assoc so_far (x ∷ []) es in (
      found.0,
      (
        found.1.0,
        (subst (λ xs. AreNext a found.1.0 xs) is found.1.1.0, subst (λ xs. IsNextLine (record a { entries = xs }) line found.0) is found.1.1.1),
      ),
    )

-- as many entries as lines
as_many : (a : AuditShape) (lines : List (List ℕ)) (es : List Entry) → AreNext a lines es → length es ≡ length lines
as_many a [] [] next = refl
as_many a (line ∷ lines) (e ∷ es) next = ap suc (as_many (with_entry a e) lines es next.1)
as_many a [] (e ∷ es) next = absurd next
as_many a (line ∷ lines) [] next = absurd next

-- lines among which one is too long
long_in : (front more : List (List ℕ)) (line : List ℕ) → AreShort (front ++ line ∷ more) → TRANSCRIPT_LINE_LIMIT < line_length line → ⊥
long_in [] more line short long = let fits = short.0 in omega (arith, fits, long)
long_in (l ∷ front) more line short long = long_in front more line short.1 long

-- the three laws that an audit is judged by
pub record Laws : Type 0 where
  pub exact : AuditIsExact
  pub exclude : FaultsExclude
  pub one : NextIsOne

-- where the transcript is legal, nothing is wrong
not_wrong : Laws → (s : Session) (lines front rest : List (List ℕ)) (es all : List Entry) (v : Verdict) →
    AreOfSession s.policy s.rounds (cut_in s).jobs (cut_in s).ends
    → AreShort lines → lines ≡ front ++ rest → AreNext (audit_in s) front es → EndsWith (with_all s es) rest v → AreNext (audit_in s) lines all →
    length all ≡ length (cut_in s).jobs
    → is_wrong v ≡ false
not_wrong laws s lines front rest es all (Legal n) session short parts next ends whole size = refl
not_wrong laws s lines front [] es all (Fault n kind) session short parts next ends whole size =
    let many : length all ≡ length lines = as_many (audit_in s) lines all whole in
    let some : length es ≡ length front = as_many (audit_in s) front es next in
    let same : length lines ≡ length front = ap length (parts ∙ append-nil front) in
    let less : length es < length (cut_in s).jobs = ends.1 in
    absurd (omega (arith, many, some, same, less, size))
not_wrong laws s lines front (line ∷ more) es all (Fault n kind) session short parts next ends whole size =
    let found = next_at laws.one s [] front more [] es all line session tt next (subst (λ ls. AreNext (audit_in s) ls all) parts whole) in
    absurd (laws.exclude s.policy s.rounds (cut_in s).jobs (cut_in s).ends found.1.0 es session found.1.1.0 line kind found.0 ends.1 found.1.1.1)
not_wrong laws s lines front [] es all (TooLong n) session short parts next ends whole size = absurd ends
not_wrong laws s lines front (line ∷ more) es all (TooLong n) session short parts next ends whole size =
    absurd (long_in front more line (subst AreShort parts short) ends)

-- where nothing is wrong, the transcript is legal
right_only : Laws → (s : Session) (lines front rest : List (List ℕ)) (es : List Entry) (v : Verdict) →
    AreOfSession s.policy s.rounds (cut_in s).jobs (cut_in s).ends
    → lines ≡ front ++ rest → AreNext (audit_in s) front es → EndsWith (with_all s es) rest v → is_wrong v ≡ false
    → IsTranscript s.policy s.rounds (cut_in s).jobs (cut_in s).ends lines
right_only laws s lines front [] es (Legal n) session parts next ends none =
    (laws.exact s.policy s.rounds (cut_in s).jobs (cut_in s).ends lines session.order).0
    (es, (subst (λ ls. AreNext (audit_in s) ls es) (sym (parts ∙ append-nil front)) next, ends))
right_only laws s lines front (line ∷ more) es (Legal n) session parts next ends none = absurd ends
right_only laws s lines front rest es (Fault n kind) session parts next ends none = cc
right_only laws s lines front rest es (TooLong n) session parts next ends none = cc

-- nothing is wrong exactly where the transcript is legal
pub finds : Laws → (s : Session) (v : Verdict) → AreOfSession s.policy s.rounds (cut_in s).jobs (cut_in s).ends →
    IsVerdict (audit_in s) (lines_of s.transcript) v → Finds s v
finds laws s v session found = record {
  found = found;
  exact = λ short. (
    (λ right. right_only laws s (lines_of s.transcript) found.front found.rest found.entries v session found.parts found.next found.ends right),
    (λ legal. let all = (laws.exact s.policy s.rounds (cut_in s).jobs (cut_in s).ends (lines_of s.transcript) session.order).1 legal in
        not_wrong laws s (lines_of s.transcript) found.front found.rest found.entries all.0 v session short found.parts found.next found.ends all.1.0 all.1.1),
  );
}

-- an audit that began with a session is followed from its first line on
pub started : (s : Session) (a : AuditShape) (text : List ℕ) (place : Place) → a ≡ audit_in s → text ≡ s.transcript → place.at ≡ 0 → place.number ≡ 0
    → HasFollowed (audit_in s) a text place
started s a text place is same at number =
    subst (λ x. HasFollowed x a text place) is (begins a text place (ap (λ (x : AuditShape). x.entries) is) at number)

pub stops_in : (s : Session) (b : AuditShape) (text : List ℕ) (v : Verdict) → text ≡ s.transcript → StopsTo (audit_in s) b text v →
    StopsTo (audit_in s) b s.transcript v
stops_in s b text v same h = subst (λ xs. StopsTo (audit_in s) b xs v) same h

-- where the audit of a session stops, its entries are those of the first lines
pub first_entries : PartIsExact → (s : Session) (b : AuditShape) (n : ℕ) → AreOfSession s.policy s.rounds (cut_in s).jobs (cut_in s).ends
    → (h : StopsAudit (audit_in s) b s.transcript n) → AreFirst s n h.taken.entries
first_entries exact s b n session h = record {
  front = h.front;
  rest = h.rest;
  lines = h.lines;
  count = h.count;
  part = (exact s.policy s.rounds (cut_in s).jobs (cut_in s).ends h.front h.taken.entries session.order).0 h.taken.next;
}

-- and its state is the one after them
pub state_there : (s : Session) (b : AuditShape) (n : ℕ) → (h : StopsAudit (audit_in s) b s.transcript n) → state_now b ≡ state_of s h.taken.entries
state_there s b n h = λ i. state_after (opening_state ((h.taken.opened) i)) ((h.taken.after) i)

-- what was followed, as what stopped
pub as_stopped : (first a : AuditShape) (text : List ℕ) (place : Place) → HasFollowed first a text place → StopsAudit first a text place.number
as_stopped first a text place h = record {
  front = h.front;
  rest = lines_of (drop place.at text);
  lines = h.lines;
  count = h.count;
  taken = h.taken;
}
