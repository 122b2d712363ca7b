-- How the entries of a batch follow those before.
use Rattle.wf_server.proofs.Common.{◌≡◌, ℕ, zero, suc, ◌+◌, ◌<◌, ◌≤◌, List, [], ◌∷◌, ◌++◌, length, take, Option, Result, Ok, Err, inl, inr, refl, sym, ◌∙◌, ap}
use Rattle.wf_server.proofs.Common.{subst, arith, common_steps, take-append-drop, take_all, append-nil, length-append, length-take-le, get_or_append_left}
use Rattle.wf_server.proofs.Common.{HasPart, more_put, PolicyShape, Entry, Job, opening_state, FillsJobs, batch_start, after_all, DeskShape, IsSoundDesk}
use Rattle.wf_server.proofs.Common.{jobs_told, EndAt, ends_after, RunFault, Told, Setting, transcript_text, KeepsTexts, setting_of, Answered, entries_text}
use Rattle.wf_server.proofs.Common.{told_of, HasAnsweredAll, HasAnsweredPart, HasLoaded, IsBatchAdded, AnswersTo, IsWriteEnding}
use Rattle.std.proofs.Common.{max, drop, OnOk, OnErr}
use Rattle.std.proofs.Common.{IfErr}
use Rattle.std.proofs.lemmas.List.{take-append-le, take-take, length-drop}
use Rattle.std.proofs.Math.Seq.{drop-append_seam, take-append_seam}
use Rattle.wf_outside.specs.Laws.Outside.{with_bytes}
use Rattle.wf_outside.proofs.OutsideLaws.{part_all}
use Rattle.wf_board.specs.Laws.Histories.{state_after}
use Rattle.wf_desk.specs.Desks.{IsDone, with_room}
use Rattle.wf_desk.specs.BatchLaws.{AnswersBatch, AnswersNext}
use Rattle.wf_desk.proofs.BatchLaws.{batch_fills}
use Rattle.wf_desk.proofs.DocketLaws.{batch_done}
use Rattle.wf_desk.specs.Schedules.{HasGrown}
use Rattle.wf_desk.proofs.Ends.{end_more}
use Rattle.run_record.specs.declared.fault.RunFault.TheVariants as fault
use Rattle.wf_server.specs.Sessions.{WritesPart, last_start, text_from}
use Rattle.wf_server.proofs.Names.{transcript_more}
use Rattle.wf_server.specs.Batches.{LoadedTo}

-- ---- ends of batches

-- the end of a batch, if it has a job
pub end_added : (before after : List ℕ) (jobs batch : List Job) → (length batch ≡ 0 → after ≡ before) →
    (0 < length batch → after ≡ before ++ (length jobs + length batch) ∷ [])
    → after ≡ ends_after before (length jobs) batch
end_added before after jobs batch none some = grind (arith, common_steps)

-- the last of more ends begins at the last of those before, or behind what was taken up
last_begins : (m : ℕ) (ends : List ℕ) (x : ℕ) → last_start m (ends ++ x ∷ []) ≡ max m (batch_start ends (length ends))
last_begins m ends x = grind (arith, length-append, get_or_append_left)

-- a batch with a job has an end
pub ends_some : (ends : List ℕ) (n : ℕ) (m : Job) (more : List Job) → ends_after ends n (m ∷ more) ≡ ends ++ (n + length (m ∷ more)) ∷ []
ends_some ends n m more = grind (arith, common_steps)

ends_more : (js more : List Job) (ends : List ℕ) → EndAt ends (length js) → EndAt (ends_after ends (length js) more) (length (js ++ more))
ends_more js [] ends are = rw (append-nil js) are
ends_more js (m ∷ more) ends are =
    let size : length (js ++ (m ∷ more)) ≡ length js + length (m ∷ more) = length-append js (m ∷ more) in
    rw (ends_some ends (length js) m more)
    (subst (EndAt (ends ++ (length js + length (m ∷ more)) ∷ [])) (sym size) (end_more ends (length js) (length js + length (m ∷ more)) are (omega arith)))

no_entries : (new : List Entry) → length new ≡ 0 → new ≡ []
no_entries [] none = refl
no_entries (e ∷ new) none = absurd (omega (arith, none))

fills_more : (es new : List Entry) (js more : List Job) (ends : List ℕ) → AnswersNext es new js more ends
    → FillsJobs (es ++ new) (js ++ more) (ends_after ends (length js) more)
fills_more es new js [] ends next = rw (no_entries new next.answers.whole, append-nil es, append-nil js) next.fills
fills_more es new js (m ∷ more) ends next = rw (ends_some ends (length js) m more) (batch_fills es new js (m ∷ more) ends next)

-- ---- the text

-- the items between two places, and those behind
drop_split : {A : Type 0} (m n : ℕ) (xs : List A) → m ≤ n → drop m xs ≡ drop m (take n xs) ++ drop n xs
drop_split zero n xs within = sym (take-append-drop n xs)
drop_split (suc m) zero xs within = absurd (omega (arith, within))
drop_split (suc m) (suc n) [] within = refl
drop_split (suc m) (suc n) (x ∷ xs) within = drop_split m n xs (omega (arith, within))

take_split : {A : Type 0} (m n : ℕ) (xs : List A) → m ≤ n → take m xs ++ drop m (take n xs) ≡ take n xs
take_split m n xs within = ap (λ ys. ys ++ drop m (take n xs)) (sym (take-take m n xs within)) ∙ take-append-drop m (take n xs)

-- what is written from a place on: up to another one, and from there on
pub text_split : (p : PolicyShape) (m n : ℕ) (es : List Entry) → m ≤ n → text_from p m es ≡ text_from p m (take n es) ++ text_from p n es
text_split p m n es within =
    let start = opening_state p in
    let mid = drop m (take n es) in
    let here : state_after (state_after start (take m es)) mid ≡ state_after start (take n es) =
    sym (after_all start (take m es) mid) ∙ ap (state_after start) (take_split m n es within) in
    let first : take m (take n es) ≡ take m es = take-take m n es within in
    ap (transcript_text (state_after start (take m es))) (drop_split m n es within) ∙ transcript_more (state_after start (take m es)) mid (drop n es)
    ∙ ap (λ s. transcript_text (state_after start (take m es)) mid ++ transcript_text s (drop n es)) here
    ∙ ap (λ xs. transcript_text (state_after start xs) mid ++ text_from p n es) (sym first)

-- all entries written are all of the batches before the last, and all of the last
pub writes_whole : (set : Setting) (held after : Option (List ℕ)) (told : Told) → after ≡ with_bytes held (text_from set.policy set.restored told.entries) →
    WritesPart set held after (last_start set.restored told.batch_ends) told.entries
writes_whole set held after told written =
    let n = last_start set.restored told.batch_ends in
    let front = text_from set.policy set.restored (take n told.entries) in
    let rest = text_from set.policy n told.entries in
    let whole : text_from set.policy set.restored told.entries ≡ front ++ rest = text_split set.policy set.restored n told.entries (omega arith) in
    subst (λ a. HasPart (with_bytes held front) a rest) (sym (written ∙ ap (with_bytes held) whole ∙ sym (more_put held front rest)))
    (part_all (with_bytes held front) rest)

pub setting_grown : (b c : DeskShape) → HasGrown b c → setting_of c ≡ setting_of b
setting_grown b c grown = rw (grown.opening, grown.lanes, grown.rounds, grown.restored) refl

-- the first entries stay
pub begins_grown : (b c : DeskShape) → HasGrown b c → b.restored ≤ length b.entries → take b.restored c.entries ≡ take b.restored b.entries
begins_grown b c grown kept = ap (take b.restored) grown.extends ∙ take-append-le b.restored b.entries grown.more kept

-- the jobs at a desk were answered
pub record HasServedLoaded (held mid : Option (List ℕ)) (l d : DeskShape) (before after : Told) : Type 0 where
  pub loaded : HasLoaded held mid l before
  pub added : IsBatchAdded before l.jobs after
  pub same : after.entries ≡ d.entries
  pub grown : HasGrown l d
  pub sound : IsSoundDesk d
  pub done : IsDone d

first_taken : (held mid : Option (List ℕ)) (l d : DeskShape) (before after : Told) → HasServedLoaded held mid l d before after →
    take l.start d.entries ≡ before.entries
first_taken held mid l d before after h = grind (arith, take-append-le)

the_batch : (held mid : Option (List ℕ)) (l d : DeskShape) (before after : Told) → HasServedLoaded held mid l d before after
    → AnswersBatch before.entries (drop l.start d.entries) l.jobs
the_batch held mid l d before after h =
    subst (λ es. AnswersBatch es (drop l.start d.entries) l.jobs) (first_taken held mid l d before after h)
    (subst (λ n. AnswersBatch (take n d.entries) (drop n d.entries) l.jobs) h.grown.start
    (subst (AnswersBatch (take d.start d.entries) (drop d.start d.entries)) h.grown.jobs (batch_done d h.sound h.done)))

batch_filled : (held mid : Option (List ℕ)) (l d : DeskShape) (before after : Told) → HasServedLoaded held mid l d before after
    → FillsJobs after.entries after.jobs after.batch_ends
batch_filled held mid l d before after h =
    let new = drop l.start d.entries in
    let all : after.entries ≡ before.entries ++ new = h.same ∙ sym (take-append-drop l.start d.entries) ∙
    ap (λ es. es ++ new) (first_taken held mid l d before after h) in
    rw (h.added.jobs, h.added.ends, all)
    (fills_more before.entries new before.jobs l.jobs before.batch_ends
    record { fills = h.loaded.fills; at_end = h.loaded.ends; answers = the_batch held mid l d before after h })

-- what is written of the entries that came
abbrev batch_text : DeskShape → List Entry → List ℕ
batch_text l new = transcript_text (state_after (opening_state l.opening) l.entries) new

-- the entries of the batch begin, or those that were taken up end, where the new ones begin
last_here : (held mid : Option (List ℕ)) (l d : DeskShape) (before after : Told) → HasServedLoaded held mid l d before after → 0 < length l.jobs
    → last_start l.restored after.batch_ends ≡ length l.entries
last_here held mid l d before after h jobs = grind (arith, common_steps, length-take-le, last_begins)

-- a part of the entries that came is a part of the last batch
part_last : (held mid aft : Option (List ℕ)) (l d : DeskShape) (before after : Told) → (h : HasServedLoaded held mid l d before after)
    → HasPart mid aft (batch_text l h.grown.more) → 0 < length h.grown.more →
    WritesPart (setting_of l) held aft (last_start l.restored after.batch_ends) after.entries
part_last held mid aft l d before after h part some =
    let p = l.opening in
    let m = l.restored in
    let new = h.grown.more in
    let here = h.loaded.here in
    let size : length (drop l.start d.entries) ≡ length l.jobs = (the_batch held mid l d before after h).whole in
    let grown : length d.entries ≡ length l.entries + length new = ap length h.grown.extends ∙ length-append l.entries new in
    let left = length-drop l.start d.entries in
    let begins = last_here held mid l d before after h (omega (arith, some, size, grown, left, here)) in
    let all : after.entries ≡ l.entries ++ new = h.same ∙ h.grown.extends in
    let front : take (length l.entries) after.entries ≡ l.entries = ap (take (length l.entries)) all ∙ take-append_seam l.entries new in
    let rest : drop (length l.entries) after.entries ≡ new = ap (drop (length l.entries)) all ∙ drop-append_seam l.entries new in
    subst (λ n. WritesPart (setting_of l) held aft n after.entries) (sym begins)
    (subst (λ es. HasPart (with_bytes held (text_from p m es)) aft
    (transcript_text (state_after (opening_state p) es) (drop (length l.entries) after.entries))) (sym front)
    (subst (λ es. HasPart (with_bytes held (text_from p m l.entries)) aft (transcript_text (state_after (opening_state p) l.entries) es)) (sym rest)
    (subst (λ x. HasPart x aft (batch_text l new)) h.loaded.written part)))

part_answered : (held mid aft : Option (List ℕ)) (l d : DeskShape) (before after : Told) → (h : HasServedLoaded held mid l d before after)
    → HasPart mid aft (batch_text l h.grown.more) → 0 < length h.grown.more → HasAnsweredPart (setting_of d) held aft after
part_answered held mid aft l d before after h part some = record {
  fills = batch_filled held mid l d before after h;
  written = subst (λ (s : Setting). WritesPart s held aft (last_start s.restored after.batch_ends) after.entries) (sym (setting_grown l d h.grown))
      (part_last held mid aft l d before after h part some);
}

-- the entries of one more batch are written behind those before
text_more : (p : PolicyShape) (m : ℕ) (es new : List Entry) → m ≤ length es →
    text_from p m (es ++ new) ≡ text_from p m es ++ transcript_text (state_after (opening_state p) es) new
text_more p m es new within =
    let n = length es in
    let first : take n (es ++ new) ≡ es = take-append_seam es new in
    let rest : drop n (es ++ new) ≡ new = drop-append_seam es new in
    text_split p m n (es ++ new) within ∙ ap (λ xs. text_from p m xs ++ transcript_text (state_after (opening_state p) xs) (drop n (es ++ new))) first
    ∙ ap (λ xs. text_from p m es ++ transcript_text (state_after (opening_state p) es) xs) rest

-- what came of answering the jobs at a desk, by how the entries were written
loaded_to : (held mid aft : Option (List ℕ)) (l d : DeskShape) (before after : Told) (text : List ℕ) (es : List Entry) (result : Result (Unit {0}) RunFault)
    → (h : HasServedLoaded held mid l d before after) → text ≡ batch_text l h.grown.more → es ≡ h.grown.more
    → OnOk result (aft ≡ with_bytes mid text) → HasPart mid aft text → OnErr result (0 < length es) → LoadedTo held aft d after result
loaded_to held mid aft l d before after text es (Ok done) h is new all part some =
    let here = h.loaded.here in
    let kept : l.restored ≤ length l.entries = omega (arith, here) in
    let restored = h.grown.restored in
    let whole : after.entries ≡ l.entries ++ h.grown.more = h.same ∙ h.grown.extends in
    record {
      done = h.done;
      fills = batch_filled held mid l d before after h;
      ends = rw (h.added.jobs, h.added.ends) (ends_more before.jobs l.jobs before.batch_ends h.loaded.ends);
      kept = let size = ap length whole in omega (arith, kept, restored, size, length-append l.entries h.grown.more);
      written =
          all ∙ ap (with_bytes mid) is ∙ ap (λ m. with_bytes m (batch_text l h.grown.more)) h.loaded.written
          ∙ more_put held (text_from l.opening l.restored l.entries) (batch_text l h.grown.more)
          ∙ ap (with_bytes held) (sym (ap (text_from l.opening l.restored) whole ∙ text_more l.opening l.restored l.entries h.grown.more kept)
          ∙ ap (λ (s : Setting). text_from s.policy s.restored after.entries) (sym (setting_grown l d h.grown)));
    }
loaded_to held mid aft l d before after text es (Err fault) h is new all part some =
    part_answered held mid aft l d before after h (subst (HasPart mid aft) is part) (subst (λ xs. 0 < length xs) new some)

-- the jobs that a desk was given stay
pub jobs_grown : (b c : DeskShape) → HasGrown b c → jobs_told c ≡ jobs_told b
jobs_grown b c grown = λ i. grown.earlier i ++ grown.jobs i

-- the entries that a desk had are among those that it has
pub grown_past : (b c : DeskShape) (n : ℕ) (es : List Entry) → HasGrown b c → n ≡ length b.entries → es ≡ c.entries → n ≤ length es
grown_past b c n es grown count same = grind (arith, length-append)

-- where some entries stand behind a place, a desk has some
pub some_behind : (d : DeskShape) (n : ℕ) (es : List Entry) (result : Result (Unit {0}) RunFault) → es ≡ drop n d.entries → OnErr result (0 < length es) →
    OnErr result (0 < length d.entries)
some_behind d n es result behind some = grind (arith, length-drop)

pub added_on : (l d : DeskShape) (before : Told) (a : Answered) → HasGrown l d → IsBatchAdded before l.jobs (told_of l a) →
    IsBatchAdded before l.jobs (told_of d a)
added_on l d before a grown added = record { jobs = jobs_grown l d grown ∙ added.jobs; ends = added.ends }

-- the end of a batch that is not taken is dropped
pub ends_back : (old mid : List ℕ) (end len : ℕ) → (len ≡ 0 → mid ≡ old) → (0 < len → mid ≡ old ++ end ∷ []) → take (length old) mid ≡ old
ends_back old mid end len none some = grind (arith, take_all, take-append_seam)

-- and then the same is told
pub told_back : (old d : DeskShape) (a b : Answered) (spare cases : ℕ) → d ≡ with_room old spare cases → b.batch_ends ≡ a.batch_ends →
    told_of d b ≡ told_of old a
told_back old d a b spare cases is ends = grind arith

-- and where there was no room for the batch
pub answers_none : (held aft : Option (List ℕ)) (old d : DeskShape) (before : Told) (batch : List Job) (after : Told) (result : Result (Unit {0}) RunFault)
    → HasAnsweredAll held aft old before → setting_of d ≡ setting_of old → after ≡ before → result ≡ Err fault.NoMemory →
    AnswersTo held aft before batch d after result
answers_none held aft old d before batch after result answered setting same memory =
    rw (memory, same) (
      inl refl,
      record {
        fills = answered.fills;
        written = subst (λ (s : Setting). WritesPart s held aft (last_start s.restored before.batch_ends) before.entries) (sym setting)
            (writes_whole (setting_of old) held aft before answered.written);
      },
    )

-- the text of the entries of a batch with the names of the policy after it
pub text_on : (old d : DeskShape) (q : PolicyShape) (new : List Entry) → KeepsTexts old → IsSoundDesk d → setting_of d ≡ setting_of old →
    d.entries ≡ old.entries ++ new → q ≡ d.board.policy →
    entries_text q new ≡ transcript_text (state_after (opening_state old.opening) old.entries) new
text_on old d q new texts sound setting entries found = grind arith

-- the jobs at a desk were answered, and the entries that came written
pub loaded_answers : (held mid aft : Option (List ℕ)) (l d : DeskShape) (q : PolicyShape) (before after : Told) (n : ℕ) (es : List Entry)
    (result : Result (Unit {0}) RunFault)
    → HasServedLoaded held mid l d before after → KeepsTexts l → n ≡ length l.entries → es ≡ drop n d.entries → q ≡ d.board.policy
    → OnOk result (aft ≡ with_bytes mid (entries_text q es)) → HasPart mid aft (entries_text q es) → OnErr result (0 < length es) →
    LoadedTo held aft d after result
loaded_answers held mid aft l d q before after n es result h texts count behind found all part some =
    let new : es ≡ h.grown.more =
    behind ∙ ap (λ k. drop k d.entries) count ∙ ap (drop (length l.entries)) h.grown.extends ∙ drop-append_seam l.entries h.grown.more in
    let text = ap (entries_text q) new ∙ text_on l d q h.grown.more texts h.sound (setting_grown l d h.grown) h.grown.extends found in
    loaded_to held mid aft l d before after _ es result h text new all part some

-- a batch was taken to a desk
pub record HasLoadedBatch (old l : DeskShape) (a b : Answered) (batch : List Job) : Type 0 where
  pub setting : setting_of l ≡ setting_of old
  pub entries : l.entries ≡ old.entries
  pub loads : l.jobs ≡ batch
  pub start : l.start ≡ length old.entries
  pub jobs : jobs_told l ≡ jobs_told old ++ batch
  pub ends : b.batch_ends ≡ ends_after a.batch_ends (length (jobs_told old)) batch

loaded_batch : (held mid : Option (List ℕ)) (old l : DeskShape) (a b : Answered) (batch : List Job) → HasLoadedBatch old l a b batch →
    HasAnsweredAll held mid old (told_of old a)
    → HasLoaded held mid l (told_of old a)
loaded_batch held mid old l a b batch h answered = grind (arith, take_all)

-- and its jobs were answered
pub batch_answers : (held mid aft : Option (List ℕ)) (old l d : DeskShape) (a b : Answered) (batch : List Job) (result : Result (Unit {0}) RunFault)
    → HasLoadedBatch old l a b batch → jobs_told d ≡ jobs_told l → HasAnsweredAll held mid old (told_of old a)
    → ((before : Told) (told : Answered) → HasLoaded held mid l before → IsBatchAdded before l.jobs (told_of l told)
    → LoadedTo held aft d (told_of d told) result)
    → IfErr result IsWriteEnding → AnswersTo held aft (told_of old a) batch d (told_of d b) result
batch_answers held mid aft old l d a b batch result h same answered answers ending =
    by_result result (answers (told_of old a) b (loaded_batch held mid old l a b batch h answered)
    (record {
      jobs = h.jobs ∙ ap (λ js. jobs_told old ++ js) (sym h.loads);
      ends = h.ends ∙ ap (ends_after a.batch_ends (length (jobs_told old))) (sym h.loads);
    }))
    ending
  where
    added : IsBatchAdded (told_of old a) batch (told_of d b)
    added = record { jobs = same ∙ h.jobs; ends = h.ends }

    by_result : (r : Result (Unit {0}) RunFault) → LoadedTo held aft d (told_of d b) r → IfErr r IsWriteEnding →
        AnswersTo held aft (told_of old a) batch d (told_of d b) r
    by_result (Ok done) all end = (added, all)
    by_result (Err fault.NoMemory) part end = (inr added, part)
    by_result (Err fault.Write) part end = (added, part)
    by_result (Err other) part end = absurd end
