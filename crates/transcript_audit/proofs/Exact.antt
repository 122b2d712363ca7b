-- The lines are the texts of entries that come next exactly where they are those of a legal history that answers a part of the
-- jobs, and where there is one entry for each job it fills them.
use Rattle.std.proofs.Common.{◌≡◌, ℕ, zero, suc, ◌<◌, ◌≤◌, List, [], ◌∷◌, ◌++◌, length, take, drop, map, slice_get, Some, append_assoc, append-nil, refl, sym}
use Rattle.std.proofs.Common.{ap, subst, ◌∙◌, arith}
use Rattle.std.proofs.lemmas.List.{length-append, length-map, map-append, take-append-drop, take-append-le, take_all}
use Rattle.wf_names.specs.declared.limits.TheConstants.{LANE_LIMIT}
use Rattle.policy_book.specs.Laws.Shapes.{PolicyShape}
use Rattle.wf_talk.specs.declared.entry.Entry.{Entry}
use Rattle.wf_talk.specs.declared.job.Job.{Job}
use Rattle.wf_board.specs.Laws.Histories.{EachAfter, FillsJobs, IsLegal, IsRightAfter, RestsFrom, batch_end, batch_jobs, batch_start, job_of_entry, lane_jobs}
use Rattle.wf_board.specs.Laws.Histories.{state_after}
use Rattle.wf_board.proofs.HistoryLaws.{after_all, each_later}
use Rattle.wf_board.specs.Laws.States.{State, opening_state}
use Rattle.wire_json.specs.Replies.{entry_text}
use Rattle.line_reader.specs.Laws.{AreInOrder}
use Rattle.wf_desk.proofs.Resuming.{get_behind}
use Rattle.wf_desk.proofs.DocketLaws.{lane_both, lane_own}
use Rattle.wf_desk.specs.Laws.Parts.{FillsPart, lane_answered, lane_asked}
use Rattle.entry_laws.specs.Laws.Transcripts.{texts_of}
use Rattle.transcript_audit.specs.Auditor.{AreNext, AuditShape, ComesNext, IsNextLine, IsTranscript, IsTranscriptPart, audit_of, end_at, next_job}
use Rattle.transcript_audit.specs.Auditor.{present_start}
use Rattle.transcript_audit.specs.Auditor.{state_now, with_entry}
use Rattle.transcript_audit.specs.Laws.{AuditIsExact, PartIsExact}
use Rattle.transcript_audit.specs.Keeping.{IsBatchOf, IsSoundAudit}
use Rattle.transcript_audit.proofs.Batches.{batch_there, end_is, end_read, start_is}
use Rattle.transcript_audit.proofs.Parts.{fills_part, map_rest}
use Rattle.transcript_audit.proofs.Sound.{sound_more, sound_start, whole_at_end}

-- with several more entries
abbrev pub with_all : AuditShape → List Entry → AuditShape
with_all a es = record a { entries = a.entries ++ es }

pub all_sound : (a : AuditShape) (k : ℕ) (lines : List (List ℕ)) (es : List Entry) → IsSoundAudit a k → AreNext a lines es → (n : ℕ) ×
    IsSoundAudit (with_all a es) n
all_sound a k [] [] sound next = (k, subst (λ es. IsSoundAudit (record a { entries = es }) k) (sym (append-nil a.entries)) sound)
all_sound a k (line ∷ lines) (e ∷ es) sound next =
    let more = sound_more a k e sound next.0.next in
    let rest = all_sound (with_entry a e) more.0 lines es more.1 next.1 in
    (rest.0, subst (λ xs. IsSoundAudit (record a { entries = xs }) rest.0) (append_assoc a.entries (e ∷ []) es) rest.1)
all_sound a k [] (e ∷ es) sound next = absurd next
all_sound a k (line ∷ lines) [] sound next = absurd next

-- one more line behind those that were taken
pub next_pushed : (a : AuditShape) (lines : List (List ℕ)) (es : List Entry) (line : List ℕ) (e : Entry) → AreNext a lines es →
    IsNextLine (record a { entries = a.entries ++ es }) line e →
    AreNext a (lines ++ line ∷ []) (es ++ e ∷ [])
next_pushed a [] [] line e next last = (subst (λ xs. IsNextLine (record a { entries = xs }) line e) (append-nil a.entries) last, tt)
next_pushed a (l ∷ ls) (x ∷ xs) line e next last = (
  next.0,
  next_pushed (with_entry a x) ls xs line e next.1
      (subst (λ ys. IsNextLine (record a { entries = ys }) line e) (sym (append_assoc a.entries (x ∷ []) xs)) last),
)
next_pushed a [] (x ∷ xs) line e next last = absurd next
next_pushed a (l ∷ ls) [] line e next last = absurd next

-- the state after one more entry
pub state_more : (a : AuditShape) (e : Entry) → state_now (with_entry a e) ≡ state_after (state_now a) (e ∷ [])
state_more a e = after_all (opening_state a.opening) a.entries (e ∷ [])

all_written : (a : AuditShape) (lines : List (List ℕ)) (es : List Entry) → AreNext a lines es → lines ≡ texts_of (state_now a) es
all_written a [] [] next = refl
all_written a (line ∷ lines) (e ∷ es) next = grind (arith, state_more, (all_written (with_entry a e) lines es next.1))
all_written a [] (e ∷ es) next = absurd next
all_written a (line ∷ lines) [] next = absurd next

transcript_of : (p : PolicyShape) (rounds : ℕ) (jobs : List Job) (ends : List ℕ) (lines : List (List ℕ)) → AreInOrder LANE_LIMIT jobs ends →
    ((es : List Entry) × (AreNext (audit_of p rounds jobs ends) lines es × (length es ≡ length jobs))) → IsTranscript p rounds jobs ends lines
transcript_of p rounds jobs ends lines order found =
    let sound = all_sound (audit_of p rounds jobs ends) 0 lines found.0 (sound_start p rounds jobs ends order) found.1.0 in
    let whole = whole_at_end (with_all (audit_of p rounds jobs ends) found.0) sound.0 sound.1 found.1.1 in
    record {
      entries = found.0;
      legal = whole.legal;
      fills = whole.fills;
      written = all_written (audit_of p rounds jobs ends) lines found.0 found.1.0;
    }

part_of : (p : PolicyShape) (rounds : ℕ) (jobs : List Job) (ends : List ℕ) (lines : List (List ℕ)) (es : List Entry) → AreInOrder LANE_LIMIT jobs ends →
    AreNext (audit_of p rounds jobs ends) lines es → IsTranscriptPart p rounds jobs ends lines es
part_of p rounds jobs ends lines es order next =
    let sound = all_sound (audit_of p rounds jobs ends) 0 lines es (sound_start p rounds jobs ends order) next in
    record {
      legal = sound.1.legal;
      part = fills_part (with_all (audit_of p rounds jobs ends) es) sound.0 sound.1;
      written = all_written (audit_of p rounds jobs ends) lines es next;
    }

-- ---- from a history that answers a part of the jobs

-- a history that fills the jobs answers a part of them
part_of_all : (es : List Entry) (jobs : List Job) (ends : List ℕ) → FillsJobs es jobs ends → FillsPart es jobs ends
part_of_all es jobs ends fills = grind (arith, take_all)

-- what stands in a front of a list stands in the list
get_of_first : {A : Type 0} (n i : ℕ) (xs : List A) (y : A) → slice_get (take n xs) i ≡ Some y → slice_get xs i ≡ Some y
get_of_first zero i xs y got = absurd (cc)
get_of_first (suc n) i [] y got = got
get_of_first (suc n) zero (x ∷ xs) y got = got
get_of_first (suc n) (suc i) (x ∷ xs) y got = get_of_first n i xs y got

-- a part of a list around one that stands in it
part_at : {A : Type 0} (s e : ℕ) (xs : List A) (y : A) (ys : List A) → s ≤ length xs → length xs < e → (rest : List A) ×
    (drop s (take e (xs ++ y ∷ ys)) ≡ drop s xs ++ y ∷ rest)
part_at s zero xs y ys begun short = absurd (omega (arith, short))
part_at zero (suc e) [] y ys begun short = (take e ys, refl)
part_at (suc s) (suc e) [] y ys begun short = absurd (omega (arith, begun))
part_at zero (suc e) (x ∷ xs) y ys begun short = grind (arith, (part_at zero e xs y ys (omega arith) (omega (arith, short))))
part_at (suc s) (suc e) (x ∷ xs) y ys begun short = part_at s e xs y ys (omega (arith, begun)) (omega (arith, short))

-- what is known where an entry stands in a history that answers a part of the jobs
record IsAmong (a : AuditShape) (e : Entry) (post : List Entry) : Type 0 where
  pub order : AreInOrder LANE_LIMIT a.jobs a.batch_ends
  pub legal : IsLegal (opening_state a.opening) a.rounds (a.entries ++ e ∷ post)
  pub part : FillsPart (a.entries ++ e ∷ post) a.jobs a.batch_ends

record StandsIn (a : AuditShape) : Type 0 where
  pub batch : ℕ
  pub known : batch < length a.batch_ends
  pub begun : batch_start a.batch_ends batch ≤ length a.entries
  pub short : length a.entries < batch_end a.batch_ends batch
  pub start : present_start a ≡ batch_start a.batch_ends batch
  pub end : end_at (length a.entries) a.batch_ends ≡ batch_end a.batch_ends batch

stands_in : (a : AuditShape) (e : Entry) (post : List Entry) → IsAmong a e post → StandsIn a
stands_in a e post is =
    let size = length-append a.entries (e ∷ post) in
    let few = is.part.few in
    let found = batch_there a.batch_ends (length a.jobs) (length a.entries) is.order.ends (omega (arith, size, few)) in
    let here : IsBatchOf a.batch_ends (length a.entries) found.0 = found.1.0 in
    record {
      batch = found.0;
      known = found.1.1;
      begun = here.begun;
      short = here.before found.1.1;
      start = start_is a.batch_ends (length a.jobs) (length a.entries) found.0 is.order.ends here;
      end = end_is a.batch_ends (length a.jobs) (length a.entries) found.0 is.order.ends here ∙ end_read a.batch_ends found.0 found.1.1;
    }

-- the entry answers its lane's next job
among_answers : (a : AuditShape) (e : Entry) (post : List Entry) → IsAmong a e post → StandsIn a → next_job a e.lane ≡ Some (job_of_entry e)
among_answers a e post is at =
    let start = batch_start a.batch_ends at.batch in
    let end = batch_end a.batch_ends at.batch in
    let lane = e.lane in
    let job = job_of_entry e in
    let done = map job_of_entry a.entries in
    let size = length-map a.entries job_of_entry in
    let begun = at.begun in
    let short = at.short in
    let part = part_at start end done job (map job_of_entry post) (omega (arith, begun, size)) (omega (arith, short, size)) in
    let served = lane_jobs lane (drop start done) in
    let all = a.entries ++ e ∷ post in
    let asked = lane_asked a.jobs a.batch_ends at.batch lane in
    let answered : lane_answered all a.batch_ends at.batch lane ≡ served ++ job ∷ lane_jobs lane part.0 =
    ap (λ js. lane_jobs lane (drop start (take end js))) (map-append job_of_entry a.entries (e ∷ post))
    ∙ ap (lane_jobs lane) part.1
    ∙ lane_both lane (drop start done) (job ∷ part.0)
    ∙ ap (λ js. served ++ js) (lane_both lane (job ∷ []) part.0 ∙ ap (λ js. js ++ lane_jobs lane part.0) (lane_own lane job refl)) in
    let count : length (lane_jobs lane (map job_of_entry (drop start a.entries))) ≡ length served =
    ap (λ js. length (lane_jobs lane js)) (map_rest job_of_entry start a.entries) in
    let first : slice_get (take (length (lane_answered all a.batch_ends at.batch lane)) asked) (length served) ≡ Some job =
    ap (λ js. slice_get js (length served)) (sym (is.part.fronts at.batch at.known lane) ∙ answered) ∙ get_behind served (lane_jobs lane part.0) job in
    ap (λ s. slice_get (lane_jobs lane (drop s (take (end_at (length a.entries) a.batch_ends) a.jobs)))
    (length (lane_jobs lane (map job_of_entry (drop s a.entries))))) at.start
    ∙ ap (λ n. slice_get (lane_jobs lane (drop start (take n a.jobs))) (length (lane_jobs lane (map job_of_entry (drop start a.entries))))) at.end
    ∙ ap (λ n. slice_get (lane_jobs lane (batch_jobs a.batch_ends at.batch a.jobs)) n) count
    ∙ get_of_first (length (lane_answered all a.batch_ends at.batch lane)) (length served) asked job first

-- it is right after those before it
among_right : (a : AuditShape) (e : Entry) (post : List Entry) → IsAmong a e post → IsRightAfter (opening_state a.opening) a.rounds a.entries e
among_right a e post is = (each_later (IsRightAfter (opening_state a.opening) a.rounds) [] a.entries (e ∷ post) is.legal).0

-- and rests on those of its batch
among_rests : (a : AuditShape) (e : Entry) (post : List Entry) → IsAmong a e post → StandsIn a → RestsFrom (present_start a) a.entries e
among_rests a e post is at =
    let start = batch_start a.batch_ends at.batch in
    let end = batch_end a.batch_ends at.batch in
    let all = a.entries ++ e ∷ post in
    let part = part_at start end a.entries e post at.begun at.short in
    let rests = is.part.rests at.batch at.known in
    let first = subst (λ es. EachAfter (RestsFrom start) es (drop start (take end all))) (take-append-le start a.entries (e ∷ post) at.begun) rests in
    let batch = subst (EachAfter (RestsFrom start) (take start a.entries)) part.1 first in
    let here = (each_later (RestsFrom start) (take start a.entries) (drop start a.entries) (e ∷ part.0) batch).0 in
    subst (λ s. RestsFrom s a.entries e) (sym at.start) (subst (λ es. RestsFrom start es e) (take-append-drop start a.entries) here)

among_next : (a : AuditShape) (e : Entry) (post : List Entry) → IsAmong a e post → ComesNext a e
among_next a e post is = grind (arith, stands_in, among_answers, among_right, among_rests)

among_later : (a : AuditShape) (e : Entry) (post : List Entry) → IsLegal (opening_state a.opening) a.rounds (a.entries ++ e ∷ post) →
    IsLegal (opening_state a.opening) a.rounds ((a.entries ++ e ∷ []) ++ post)
among_later a e post legal = subst (IsLegal (opening_state a.opening) a.rounds) (sym (append_assoc a.entries (e ∷ []) post)) legal

all_next : (a : AuditShape) (post : List Entry) → AreInOrder LANE_LIMIT a.jobs a.batch_ends → IsLegal (opening_state a.opening) a.rounds (a.entries ++ post) →
    FillsPart (a.entries ++ post) a.jobs a.batch_ends → AreNext a (texts_of (state_now a) post) post
all_next a [] order legal part = tt
all_next a (e ∷ post) order legal part =
    let is : IsAmong a e post = record { order = order; legal = legal; part = part } in
    let more = state_more a e in
    let later = all_next (with_entry a e) post order (among_later a e post legal)
    (subst (λ es. FillsPart es a.jobs a.batch_ends) (sym (append_assoc a.entries (e ∷ []) post)) part) in (
      record { next = among_next a e post is; written = sym (ap (λ (s : State). entry_text s.book.policy e) more) },
      subst (λ s. AreNext (with_entry a e) (texts_of s post) post) more later,
    )

entries_of : (p : PolicyShape) (rounds : ℕ) (jobs : List Job) (ends : List ℕ) (lines : List (List ℕ)) → AreInOrder LANE_LIMIT jobs ends →
    IsTranscript p rounds jobs ends lines →
    ((es : List Entry) × (AreNext (audit_of p rounds jobs ends) lines es × (length es ≡ length jobs)))
entries_of p rounds jobs ends lines order is = (
  is.entries,
  (
    subst (λ ls. AreNext (audit_of p rounds jobs ends) ls is.entries) (sym is.written)
        (all_next (audit_of p rounds jobs ends) is.entries order is.legal (part_of_all is.entries jobs ends is.fills)),
    is.fills.whole,
  ),
)

pub audit_is_exact : AuditIsExact
audit_is_exact p rounds jobs ends lines order = (transcript_of p rounds jobs ends lines order, entries_of p rounds jobs ends lines order)

pub part_is_exact : PartIsExact
part_is_exact = grind (arith, part_of, all_next)
