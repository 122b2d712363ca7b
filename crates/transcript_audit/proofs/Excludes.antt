-- A line that has a fault is the text of no entry that comes next.
use Rattle.std.proofs.Common.{◌≡◌, ℕ, zero, suc, ◌-◌, ◌<◌, ◌^◌, inl, inr, Bool, true, nat_eq, List, [], ◌∷◌, ◌++◌, length, take, drop, slice_get}
use Rattle.std.proofs.Common.{slice_index_or, Option, None, Some, refl, sym, ap, subst, ◌∙◌, arith}
use Rattle.std.proofs.lemmas.Grind.{common_steps}
use Rattle.std.proofs.lemmas.List.{append-nil, append_assoc, length-append}
use Rattle.std.proofs.Math.Seq.{get_or-append_seam, take-length}
use Rattle.basics.proofs.Booleans.{bool_cases, eq_is}
use Rattle.wf_names.specs.declared.limits.TheConstants.{LANE_LIMIT, SESSION_LINE_LIMIT}
use Rattle.wf_talk.specs.declared.entry.Entry.{Entry}
use Rattle.wf_talk.specs.declared.job.Job.{Job}
use Rattle.wf_talk.specs.Jobs.{IsNamedAsk}
use Rattle.policy_book.specs.Laws.Shapes.{PolicyShape}
use Rattle.policy_book.specs.Laws.Facts.{IsSoundPolicy}
use Rattle.wf_board.proofs.Keeping.{histories_stay_sound}
use Rattle.wf_board.specs.Laws.Histories.{IsRightAfter, job_of_entry, lane_jobs, state_after}
use Rattle.wf_board.proofs.HistoryLaws.{each_more}
use Rattle.wf_board.specs.Laws.States.{State, opening_state}
use Rattle.wf_board.specs.Laws.Kept.{IsSoundState}
use Rattle.line_reader.specs.Laws.{AddsNamed, AreLinesBelow, AreNamedJobs}
use Rattle.entry_reader.specs.declared.place.Place.{Place}
use Rattle.entry_reader.specs.Named.{HasNames}
use Rattle.entry_reader.specs.Places.{place_of_line}
use Rattle.entry_reader.specs.Laws.Lines.{IsLineOf, entry_at}
use Rattle.entry_reader.proofs.LinesBack.{line_placed, line_reply}
use Rattle.entry_laws.specs.Laws.{EntriesAreLines, IsLastOf, IsOneLine, TextsAreLines}
use Rattle.transcript_audit.specs.declared.fault.AuditKind.{AuditKind}
use Rattle.transcript_audit.specs.declared.fault.AuditKind.TheVariants.{Text, At, Job as WrongJob, Reply as WrongReply, Missing}
use Rattle.transcript_audit.specs.Auditor.{AreNext, AuditShape, ComesNext, HasFault, IsDue, IsNextLine, audit_of, flows_now, next_job, place_told}
use Rattle.transcript_audit.specs.Auditor.{state_now, with_entry}
use Rattle.transcript_audit.specs.Laws.{AreOfSession, FaultsExclude, NextIsOne}
use Rattle.transcript_audit.specs.Keeping.{IsSoundAudit}
use Rattle.transcript_audit.proofs.Batches.{part_none}
use Rattle.transcript_audit.proofs.Sound.{entries_few, sound_more, sound_start}
use Rattle.transcript_audit.proofs.Exact.{all_sound, state_more}
use Rattle.entry_laws.proofs.Names.{step_names}

-- ---- jobs of a session

abbrev pub EachJob : (Job → Type 0) → List Job → Type 0
EachJob P [] = Unit {0}
EachJob P (j ∷ js) = P j × EachJob P js

pub each_first : (P : Job → Type 0) (n : ℕ) (jobs : List Job) → EachJob P jobs → EachJob P (take n jobs)
each_first P zero jobs each = tt
each_first P (suc n) [] each = tt
each_first P (suc n) (j ∷ js) each = (each.0, each_first P n js each.1)

pub each_rest : (P : Job → Type 0) (n : ℕ) (jobs : List Job) → EachJob P jobs → EachJob P (drop n jobs)
each_rest P zero jobs each = each
each_rest P (suc n) [] each = tt
each_rest P (suc n) (j ∷ js) each = each_rest P n js each.1

pub each_lane : (P : Job → Type 0) (lane : ℕ) (jobs : List Job) → EachJob P jobs → EachJob P (lane_jobs lane jobs)
each_lane P lane [] each = tt
each_lane P lane (j ∷ js) each = grind (arith, (each_lane P lane js each.1))

each_got : (P : Job → Type 0) (jobs : List Job) (n : ℕ) (j : Job) → EachJob P jobs → slice_get jobs n ≡ Some j → P j
each_got P [] n j each got = absurd (cc)
each_got P (x ∷ xs) zero j each got = let same : x ≡ j = cc in subst P same each.0
each_got P (x ∷ xs) (suc n) j each got = each_got P xs n j each.1 got

-- what holds of each job holds of a next one
each_next : (P : Job → Type 0) (a : AuditShape) (lane : ℕ) (j : Job) → EachJob P a.jobs → next_job a lane ≡ Some j → P j
each_next P a lane j each next = grind (arith, each_got, each_lane, each_rest, each_first)

named_each : (jobs : List Job) → AreNamedJobs jobs → EachJob (λ j. IsNamedAsk j.ask) jobs
named_each [] named = tt
named_each (j ∷ js) named = (named.0.0, named_each js named.1)

adds_each : (jobs : List Job) → AreNamedJobs jobs → EachJob (λ j. AddsNamed j.ask) jobs
adds_each [] adds = tt
adds_each (j ∷ js) adds = (adds.0.1, adds_each js adds.1)

small_each : (jobs : List Job) → AreLinesBelow SESSION_LINE_LIMIT jobs → EachJob (λ j. j.line < 2 ^ 32) jobs
small_each [] below = tt
small_each (j ∷ js) below = (let h = below.0 in omega (arith, h), small_each js below.1)

-- a lane that has a job is one of the lanes
lane_known : (a : AuditShape) (k lane : ℕ) (j : Job) → IsSoundAudit a k → next_job a lane ≡ Some j → lane < LANE_LIMIT
lane_known a k lane j sound next = grind (arith, bool_cases, common_steps, part_none)

-- ---- a line of an entry that comes next

-- an audit after the first lines of a session
record IsOfSession (a : AuditShape) (k : ℕ) : Type 0 where
  pub session : AreOfSession a.opening a.rounds a.jobs a.batch_ends
  pub sound : IsSoundAudit a k
  pub names : HasNames (state_now a).book.policy

-- the state after the entries of a session is sound
state_sound : (a : AuditShape) (k : ℕ) → IsSoundPolicy a.opening → IsSoundAudit a k → IsSoundState (state_now a)
state_sound a k opening sound =
    subst (λ es. IsSoundState (state_after (opening_state a.opening) es)) (take-length a.entries)
    (histories_stay_sound a.opening a.rounds a.entries opening sound.legal (length a.entries))

-- and its names are names
names_all : (a : AuditShape) (k : ℕ) (lines : List (List ℕ)) (es : List Entry) → AreOfSession a.opening a.rounds a.jobs a.batch_ends → IsSoundAudit a k →
    HasNames (state_now a).book.policy → AreNext a lines es → HasNames (state_now (record a { entries = a.entries ++ es })).book.policy
names_all a k [] [] session sound names next = subst (λ es. HasNames (state_now (record a { entries = es })).book.policy) (sym (append-nil a.entries)) names
names_all a k (line ∷ lines) (e ∷ es) session sound names next =
    let more = sound_more a k e sound next.0.next in
    let adds = each_next (λ j. AddsNamed j.ask) a e.lane (job_of_entry e) (adds_each a.jobs session.named) next.0.next.answers in
    let after : HasNames (state_now (with_entry a e)).book.policy = subst (λ (s : State). HasNames s.book.policy) (sym (state_more a e))
    (step_names (state_now a) e.ask e.reply (state_sound a k session.policy sound) adds names) in
    subst (λ xs. HasNames (state_now (record a { entries = xs })).book.policy) (append_assoc a.entries (e ∷ []) es)
    (names_all (with_entry a e) more.0 lines es session more.1 after next.1)
names_all a k [] (e ∷ es) session sound names next = absurd next
names_all a k (line ∷ lines) [] session sound names next = absurd next

last_of : (a : AuditShape) (k : ℕ) (e : Entry) → IsOfSession a k → ComesNext a e → IsLastOf a.opening a.rounds a.entries e
last_of a k e is next =
    let few = entries_few a k is.sound in
    let rounds = is.session.few_rounds in
    let lane = lane_known a k e.lane (job_of_entry e) is.sound next.answers in
    record {
      policy = is.session.policy;
      steps = is.session.steps;
      legal = each_more (IsRightAfter (opening_state a.opening) a.rounds) [] a.entries e is.sound.legal next.right;
      few_rounds = omega (arith, rounds);
      few_entries = omega (arith, few);
      lane = omega (arith, lane);
      line = each_next (λ j. j.line < 2 ^ 32) a e.lane (job_of_entry e) (small_each a.jobs is.session.order.below) next.answers;
      named = each_next (λ j. IsNamedAsk j.ask) a e.lane (job_of_entry e) (named_each a.jobs is.session.named) next.answers;
    }

-- it is a line of the entry
line_of : EntriesAreLines → (a : AuditShape) (k : ℕ) (line : List ℕ) (e : Entry) → IsOfSession a k → IsNextLine a line e →
    IsLineOf (state_now a).book.policy (flows_now a) line e
line_of law a k line e is next =
    subst (λ text. IsLineOf (state_now a).book.policy (flows_now a) text e) (sym next.written)
    (law a.opening a.rounds a.entries e (last_of a k e is next.next))

abbrev own_place : Entry → Place
own_place e = record { at = e.at; lane = e.lane; line = e.line }

ends_line : (front : List ℕ) → slice_index_or (front ++ 10 ∷ []) (length (front ++ 10 ∷ []) - 1) 0 ≡ 10
ends_line front =
    let size : length (front ++ 10 ∷ []) - 1 ≡ length front = let long = length-append front (10 ∷ []) in omega (arith, long) in
    ap (λ n. slice_index_or (front ++ 10 ∷ []) n 0) size ∙ get_or-append_seam front 10 [] 0

told_by : (line : List ℕ) (b : Bool) (x : Option Place) → nat_eq (slice_index_or line (length line - 1) 0) 10 ≡ true → place_of_line line ≡ x →
    place_told line ≡ x
told_by line b x ends is = rw ends is

-- a line that tells a place names it
pub told_named : (line : List ℕ) (place : Place) → place_told line ≡ Some place → place_of_line line ≡ Some place
told_named line place told = grind arith

pub one_place : (x y : Place) → Some x ≡ Some y → x ≡ y
one_place x y same = cc

one_job : (x y : Job) → Some x ≡ Some y → x ≡ y
one_job x y same = cc

-- it tells the entry's place
told_own : EntriesAreLines → TextsAreLines → (a : AuditShape) (k : ℕ) (line : List ℕ) (e : Entry) → IsOfSession a k → IsNextLine a line e →
    place_told line ≡ Some (own_place e)
told_own law texts a k line e is next =
    let one : IsOneLine line = subst IsOneLine (sym next.written) (texts _ e) in
    let ends : slice_index_or line (length line - 1) 0 ≡ 10 = ap (λ l. slice_index_or l (length l - 1) 0) one.ends ∙ ends_line one.front in
    told_by line true (Some (own_place e)) (eq_is _ 10 ends)
    (line_placed (state_now a).book.policy (flows_now a) line e is.names (line_of law a k line e is next))

-- and no other
own_told : EntriesAreLines → TextsAreLines → (a : AuditShape) (k : ℕ) (line : List ℕ) (e : Entry) (place : Place) → IsOfSession a k → IsNextLine a line e →
    place_told line ≡ Some place →
    place ≡ own_place e
own_told law texts a k line e place is next told = one_place place (own_place e) (sym told ∙ told_own law texts a k line e is next)

-- the job that is due there is the entry's
own_due : (a : AuditShape) (e : Entry) (place : Place) (j : Job) → ComesNext a e → place ≡ own_place e → IsDue a place j → j ≡ job_of_entry e
own_due a e place j next same due = grind (arith, one_job)

due_own : (a : AuditShape) (e : Entry) (place : Place) → ComesNext a e → place ≡ own_place e → IsDue a place (job_of_entry e)
due_own a e place next same = grind arith

excluded : EntriesAreLines → TextsAreLines → (a : AuditShape) (k : ℕ) (line : List ℕ) (kind : AuditKind) (e : Entry) → IsOfSession a k →
    HasFault a line kind → IsNextLine a line e → ⊥
excluded law texts a k line Text e is (inl none) next =
    let told = told_own law texts a k line e is next in
    let no : None ≡ Some (own_place e) = sym none ∙ told in
    cc
excluded law texts a k line Text e is (inr other) next =
    let place = other.0 in
    let j = other.1.0 in
    let same = own_told law texts a k line e place is next other.1.1.0.told in
    let job = own_due a e place j next.next same other.1.1.1.0 in
    other.1.1.1.1 e (sym (ap (λ (x : Job). x.ask) job)) (line_of law a k line e is next)
excluded law texts a k line At e is fault next =
    let same = own_told law texts a k line e fault.0 is next fault.1.0 in
    fault.1.1 (ap (λ (p : Place). p.at) same ∙ next.next.right.0)
excluded law texts a k line WrongJob e is fault next =
    let same = own_told law texts a k line e fault.0 is next fault.1.0.told in
    fault.1.1 (job_of_entry e) (due_own a e fault.0 next.next same)
excluded law texts a k line WrongReply e is fault next =
    let place = fault.0 in
    let j = fault.1.0 in
    let r = fault.1.1.0 in
    let stands = fault.1.1.1.0 in
    let due = fault.1.1.1.1.0 in
    let tells = fault.1.1.1.1.1.0 in
    let same = own_told law texts a k line e place is next stands.told in
    let job = own_due a e place j next.next same due in
    let alone = tells.alone e (sym (ap (λ (x : Job). x.ask) job)) (line_of law a k line e is next) in
    let named : tells.place ≡ place = one_place tells.place place (sym tells.named ∙ told_named line place stands.told) in
    fault.1.1.1.1.1.1 (subst (ComesNext a) (alone ∙ ap (λ p. entry_at p j.ask r) named) next.next)
excluded law texts a k line Missing e is fault next = fault

-- a session is one behind such lines
session_at : (p : PolicyShape) (rounds : ℕ) (jobs : List Job) (ends : List ℕ) (lines : List (List ℕ)) (es : List Entry) → AreOfSession p rounds jobs ends →
    AreNext (audit_of p rounds jobs ends) lines es → (k : ℕ) × IsOfSession (record (audit_of p rounds jobs ends) { entries = es }) k
session_at p rounds jobs ends lines es session next =
    let begun = sound_start p rounds jobs ends session.order in
    let sound = all_sound (audit_of p rounds jobs ends) 0 lines es begun next in
    (sound.0, record { session = session; sound = sound.1; names = names_all (audit_of p rounds jobs ends) 0 lines es session begun session.names next })

pub faults_exclude : EntriesAreLines → TextsAreLines → FaultsExclude
faults_exclude law texts p rounds jobs ends lines es session next line kind e fault is =
    let at = session_at p rounds jobs ends lines es session next in
    excluded law texts (record (audit_of p rounds jobs ends) { entries = es }) at.0 line kind e at.1 fault is

-- ---- one entry

one_next : EntriesAreLines → TextsAreLines → (a : AuditShape) (k : ℕ) (line : List ℕ) (e other : Entry) → IsOfSession a k → IsNextLine a line e →
    IsNextLine a line other → e ≡ other
one_next law texts a k line e other is first second =
    let p = (state_now a).book.policy in
    let place : own_place e ≡ own_place other =
    one_place (own_place e) (own_place other) (sym (told_own law texts a k line e is first) ∙ told_own law texts a k line other is second) in
    let job : job_of_entry e ≡ job_of_entry other =
    one_job (job_of_entry e) (job_of_entry other) (sym first.next.answers ∙ ap (λ (x : Place). next_job a x.lane) place ∙ second.next.answers) in
    let tells = line_reply p (flows_now a) e.ask line (own_place e) e.reply is.names (line_of law a k line e is first) in
    tells.alone e refl (line_of law a k line e is first)
    ∙ sym (tells.alone other (sym (ap (λ (j : Job). j.ask) job)) (line_of law a k line other is second))

pub next_is_one : EntriesAreLines → TextsAreLines → NextIsOne
next_is_one law texts p rounds jobs ends lines es session next line e other first second =
    let at = session_at p rounds jobs ends lines es session next in
    one_next law texts (record (audit_of p rounds jobs ends) { entries = es }) at.0 line e other at.1 first second
