-- A desk keeps what it is with one more entry, with one more loss, and with another batch.
use Rattle.std.proofs.Common.{◌≡◌, ◌≢◌, ℕ, zero, suc, ◌+◌, ◌<◌, ◌≤◌, inl, inr, max, Bool, true, false, nat_eq, List, [], ◌∷◌, ◌++◌, length, take, drop, get_or}
use Rattle.std.proofs.Common.{set, slice_get, slice_set, slice_index_or, Some, refl, sym, ap, subst, ◌∙◌, arith}
use Rattle.std.proofs.lemmas.Grind.{common_steps}
use Rattle.std.proofs.lemmas.List.{drop-append-le, length-append, get_or-set_same, get_or-set_other, take_more}
use Rattle.std.proofs.lemmas.Option.{get_or_from_slice_get, slice_get_within}
use Rattle.basics.proofs.Booleans.{bool_cases, eq_back, eq_is}
use Rattle.wf_names.specs.declared.limits.TheConstants.{LANE_LIMIT}
use Rattle.wf_talk.specs.declared.entry.Entry.{Entry}
use Rattle.wf_talk.specs.declared.job.Job.{Job}
use Rattle.wf_talk.specs.declared.request.Ask.{Ask}
use Rattle.wf_board.specs.Boards.{BoardShape, state_on}
use Rattle.wf_board.specs.Counting.{counted, counts_for, lane_end}
use Rattle.wf_board.specs.Laws.Histories.{IsRightAfter, IsRightful, RestsFrom, job_of_entry, lane_jobs}
use Rattle.wf_board.proofs.HistoryLaws.{after_more, each_more, edits_within, rests_more, wants_more}
use Rattle.wf_board.specs.Laws.States.{opening_state}
use Rattle.wf_board.specs.Laws.Steps.{state_after_step}
use Rattle.wf_board.proofs.Counted.{count_from_more, count_later, count_past, end_more, end_within}
use Rattle.wf_desk.specs.declared.loss.Loss.{Loss}
use Rattle.wf_desk.specs.Desks.{DeskShape, IsSoundDesk, loss_of, next_job, no_loss, served}
use Rattle.wf_desk.specs.Laws.Commits.{floor_of, with_loss}
use Rattle.wf_desk.specs.Keeping.{IsDesk, IsLanePlace, LossRests, own_start}
use Rattle.wf_desk.specs.Docket.{IsNextPlace}
use Rattle.wf_desk.proofs.DocketLaws.{batch_short, batch_within, front_more, lane_both, lane_own, next_at, served_other, served_own}

-- with one more entry, of which the board is this one, and so much room left
abbrev pub with_entry : DeskShape → Entry → BoardShape → ℕ → DeskShape
with_entry d e b spare = record d { entries = d.entries ++ e ∷ []; board = b; spare = spare; losses = slice_set d.losses e.lane no_loss }

-- ---- losses

pub differs : (m n : ℕ) → nat_eq m n ≡ false → n ≢ m
differs m n other same = let is : nat_eq m n ≡ true = eq_is m n (sym same) in absurd (cc)

set_own : {A : Type 0} (P : A → Type 0) (xs : List A) (i : ℕ) (y d : A) → P y → P d → P (get_or (set xs i y) i d)
set_own P [] i y d here none = none
set_own P (x ∷ xs) zero y d here none = here
set_own P (x ∷ xs) (suc i) y d here none = set_own P xs i y d here none

loss_other : (losses : List Loss) (lane other : ℕ) (x : Loss) → nat_eq lane other ≡ false → loss_of (slice_set losses lane x) other ≡ loss_of losses other
loss_other losses lane other x away = get_or-set_other losses lane other x no_loss (differs lane other away)

no_loss_own : (losses : List Loss) (lane : ℕ) → loss_of (slice_set losses lane no_loss) lane ≡ no_loss
no_loss_own losses lane = set_own (λ l. l ≡ no_loss) losses lane no_loss no_loss refl refl

-- ---- what counts

lane_end_within : (lane : ℕ) (d : DeskShape) → lane_end lane d.entries ≤ length d.entries
lane_end_within lane d = let within = end_within 0 0 (λ e. nat_eq e.lane lane) d.entries (omega arith) in omega (arith, within)

own_within : (d : DeskShape) (lane : ℕ) → d.start ≤ length d.entries → own_start d lane ≤ length d.entries
own_within d lane begun = let within = lane_end_within lane d in omega (arith, within, begun)

floor_within : (d : DeskShape) (lane : ℕ) → d.start ≤ length d.entries → (loss_of d.losses lane).end ≤ length d.entries → floor_of d lane ≤ length d.entries
floor_within d lane begun ends = let within = lane_end_within lane d in omega (arith, within, begun, ends)

-- where a lane's job was not lost, nothing is to be shown
pub fresh_rests : (d : DeskShape) (lane : ℕ) (what : Ask) → loss_of d.losses lane ≡ no_loss → LossRests d lane what
fresh_rests d lane what none = grind (arith, count_later)

end_other : (entries : List Entry) (e : Entry) (lane : ℕ) → nat_eq e.lane lane ≡ false → lane_end lane (entries ++ e ∷ []) ≡ lane_end lane entries
end_other entries e lane other = grind (arith, end_more)

-- another lane's entry adds the same to both sides
other_rests : (d : DeskShape) (e : Entry) (b : BoardShape) (spare lane : ℕ) (what : Ask) → d.start ≤ length d.entries →
    (loss_of d.losses lane).end ≤ length d.entries →
    nat_eq e.lane lane ≡ false → LossRests d lane what → LossRests (with_entry d e b spare) lane what
other_rests d e b spare lane what begun ends other rests = grind (arith, loss_other, end_other, count_from_more, floor_within, own_within)

-- ---- one more entry

next_other : (d : DeskShape) (e : Entry) (b : BoardShape) (spare lane : ℕ) → d.start ≤ length d.entries → nat_eq e.lane lane ≡ false →
    next_job (with_entry d e b spare) lane ≡ next_job d lane
next_other d e b spare lane begun other = ap (λ js. slice_get (lane_jobs lane d.jobs) (length js)) (served_other d.start d.entries e lane begun other)

-- what an entry that is added meets
pub record Grows (d : DeskShape) (places : List ℕ) (e : Entry) (b : BoardShape) (spare place : ℕ) : Type 0 where
  pub next : next_job d e.lane ≡ Some (job_of_entry e)
  pub known : e.lane < LANE_LIMIT
  pub sized : e.lane < length places
  pub right : IsRightAfter (opening_state d.opening) d.rounds d.entries e
  pub rests : RestsFrom d.start d.entries e
  pub want : IsRightful e
  pub state : state_on b ≡ state_after_step (state_on d.board) e.ask e.reply
  pub room : d.spare ≤ spare + 1
  pub cases : d.board.cases.spare ≤ b.cases.spare + 1
  pub moved : IsNextPlace d.jobs e.lane (slice_index_or places e.lane 0 + 1) place

front_grown : (d : DeskShape) (places : List ℕ) (e : Entry) (b : BoardShape) (spare place lane : ℕ) → IsDesk d places → Grows d places e b spare place →
    served (with_entry d e b spare) lane ≡ take (length (served (with_entry d e b spare) lane)) (lane_jobs lane d.jobs)
front_grown d places e b spare place lane is grows = grind (arith, bool_cases, eq_back, served_own, front_more, served_other)

sound_grown : (d : DeskShape) (places : List ℕ) (e : Entry) (b : BoardShape) (spare place : ℕ) → IsDesk d places → Grows d places e b spare place →
    IsSoundDesk (with_entry d e b spare)
sound_grown d places e b spare place is grows = record {
  legal = each_more (IsRightAfter (opening_state d.opening) d.rounds) [] d.entries e is.sound.legal grows.right;
  state = grows.state ∙ ap (λ s. state_after_step s e.ask e.reply) is.sound.state ∙ sym (after_more (opening_state d.opening) d.entries e);
  begun = let begun = is.sound.begun in omega (arith, begun, length-append d.entries (e ∷ []));
  front = λ lane. front_grown d places e b spare place lane is grows;
  rests = rests_more d.start d.entries e is.sound.begun is.sound.rests grows.rests;
  kept = let kept = is.sound.kept in omega (arith, kept, length-append d.entries (e ∷ []));
  wants = grind (arith, drop-append-le, wants_more);
  room = let old = is.sound.room in let cases = grows.cases in omega (arith, old, cases, length-append d.entries (e ∷ []));
}

own_place : (d : DeskShape) (places : List ℕ) (e : Entry) (b : BoardShape) (spare place : ℕ) → IsDesk d places → Grows d places e b spare place →
    IsLanePlace (with_entry d e b spare) e.lane place
own_place d places e b spare place is grows =
    let from = slice_index_or places e.lane 0 in
    let old = is.placed e.lane grows.known in
    let job = job_of_entry e in
    let stands : slice_get d.jobs from ≡ Some job = sym (next_at d e.lane from old) ∙ grows.next in
    let taken : take (from + 1) d.jobs ≡ take from d.jobs ++ job ∷ [] =
    take_more d.jobs from job (slice_get_within d.jobs from job stands) ∙
    ap (λ j. take from d.jobs ++ j ∷ []) (get_or_from_slice_get d.jobs from job job stands) in
    record {
      within = grows.moved.within;
      before = grind (arith, served_own, lane_own, lane_both);
      here = grows.moved.here;
    }

place_grown : (d : DeskShape) (places : List ℕ) (e : Entry) (b : BoardShape) (spare place lane : ℕ) → IsDesk d places → Grows d places e b spare place →
    lane < LANE_LIMIT →
    IsLanePlace (with_entry d e b spare) lane (slice_index_or (slice_set places e.lane place) lane 0)
place_grown d places e b spare place lane is grows known = elim (bool_cases (nat_eq e.lane lane)) [
  | inl own ↦
      let same : e.lane ≡ lane = eq_back e.lane lane own in
      subst (λ n. IsLanePlace (with_entry d e b spare) n (slice_index_or (slice_set places e.lane place) n 0)) same
      (subst (IsLanePlace (with_entry d e b spare) e.lane) (sym (get_or-set_same places e.lane place 0 grows.sized))
      (own_place d places e b spare place is grows))
  | inr other ↦ grind (arith, get_or-set_other, differs, served_other)
]

ends_grown : (d : DeskShape) (places : List ℕ) (e : Entry) (b : BoardShape) (spare lane : ℕ) → IsDesk d places →
    (loss_of (slice_set d.losses e.lane no_loss) lane).end ≤ length (d.entries ++ e ∷ [])
ends_grown d places e b spare lane is = grind (arith, bool_cases, eq_back, no_loss_own, loss_other, length-append)

losses_grown : (d : DeskShape) (places : List ℕ) (e : Entry) (b : BoardShape) (spare lane : ℕ) (j : Job) → IsDesk d places →
    next_job (with_entry d e b spare) lane ≡ Some j →
    LossRests (with_entry d e b spare) lane j.ask
losses_grown d places e b spare lane j is next = elim (bool_cases (nat_eq e.lane lane)) [
  | inl own ↦ grind (arith, eq_back, fresh_rests, no_loss_own)
  | inr other ↦
      other_rests d e b spare lane j.ask is.sound.begun (is.ends lane) other (is.losses lane j (sym (next_other d e b spare lane is.sound.begun other) ∙ next))
]

-- with one more entry
pub desk_more : (d : DeskShape) (places : List ℕ) (e : Entry) (b : BoardShape) (spare place : ℕ) → IsDesk d places → Grows d places e b spare place →
    IsDesk (with_entry d e b spare) (slice_set places e.lane place)
desk_more d places e b spare place is grows =
    let size = length-append d.entries (e ∷ []) in
    record {
      sound = sound_grown d places e b spare place is grows;
      few = is.few;
      of_lanes = is.of_lanes;
      room = let old = is.room in let room = grows.room in omega (arith, old, room, size);
      small = is.small;
      ends = λ lane. ends_grown d places e b spare lane is;
      losses = λ lane j next. losses_grown d places e b spare lane j is next;
      placed = λ lane known. place_grown d places e b spare place lane is grows known;
    }

-- ---- a loss

-- something counts for a lane's next job from its floor on
pub record MayLose (d : DeskShape) (lane : ℕ) (what : Ask) : Type 0 where
  pub next : (j : Job) → next_job d lane ≡ Some j → j.ask ≡ what
  pub some : 1 ≤ counted what (drop (floor_of d lane) d.entries)

abbrev lost_now : DeskShape → ℕ → Loss
lost_now d lane = record { count = (loss_of d.losses lane).count + 1; end = length d.entries }

lost_ends : (d : DeskShape) (places : List ℕ) (lane other : ℕ) → IsDesk d places → (loss_of (with_loss d lane).losses other).end ≤ length d.entries
lost_ends d places lane other is = elim (bool_cases (nat_eq lane other)) [
  | inl own ↦
      let same : lane ≡ other = eq_back lane other own in
      subst (λ n. (loss_of (with_loss d lane).losses n).end ≤ length d.entries) same
      (set_own (λ (l : Loss). l.end ≤ length d.entries) d.losses lane (lost_now d lane) no_loss (omega arith) (omega arith))
  | inr away ↦ grind (arith, loss_other)
]

abbrev rests_by : DeskShape → ℕ → Ask → Loss → Type 0
rests_by d lane what loss = loss.count + counted what (drop (max (own_start d lane) loss.end) d.entries) ≤ counted what (drop (own_start d lane) d.entries)

lost_own : (d : DeskShape) (lane : ℕ) (what : Ask) → 1 ≤ counted what (drop (floor_of d lane) d.entries) → LossRests d lane what →
    LossRests (with_loss d lane) lane what
lost_own d lane what some rests =
    let test : Entry → Bool = λ x. counts_for x what in
    let own = own_start d lane in
    set_own (rests_by d lane what) d.losses lane (lost_now d lane) no_loss
    (let past = count_past test d.entries (max own (length d.entries)) (omega arith) in omega (arith, past, some, rests))
    (let later = count_later test d.entries own (max own 0) (omega arith) in omega (arith, later))

lost_losses : (d : DeskShape) (places : List ℕ) (lane : ℕ) (what : Ask) (other : ℕ) (j : Job) → IsDesk d places → MayLose d lane what →
    next_job d other ≡ Some j →
    LossRests (with_loss d lane) other j.ask
lost_losses d places lane what other j is may next = grind (arith, bool_cases, eq_back, lost_own, loss_other)

-- with one more loss
pub desk_lost : (d : DeskShape) (places : List ℕ) (lane : ℕ) (what : Ask) → IsDesk d places → MayLose d lane what → IsDesk (with_loss d lane) places
desk_lost d places lane what is may = record {
  sound = grind arith;
  few = is.few;
  of_lanes = is.of_lanes;
  room = is.room;
  small = is.small;
  ends = λ other. lost_ends d places lane other is;
  losses = λ other j next. lost_losses d places lane what other j is may next;
  placed = λ other known. let old = is.placed other known in record { within = old.within; before = old.before; here = old.here };
}

-- ---- another batch

-- for each lane the place of its first job, with one more lane
pub places_more : (jobs : List Job) (places : List ℕ) (lane place : ℕ) → lane < length places →
    ((n : ℕ) → n < lane → IsNextPlace jobs n 0 (slice_index_or places n 0)) → IsNextPlace jobs lane 0 place →
    (n : ℕ) → n < lane + 1 → IsNextPlace jobs n 0 (slice_index_or (slice_set places lane place) n 0)
places_more jobs places lane place sized before here n below = grind (arith, bool_cases, eq_back, get_or-set_same, common_steps, get_or-set_other, differs)

-- ---- what the calls of a desk need of it

pub desk_small : (d : DeskShape) (places : List ℕ) → IsDesk d places → length d.entries < 4294967296
desk_small d places is = let within = batch_within d is.sound in let small = is.small in omega (arith, within, small)

pub has_room : (d : DeskShape) (places : List ℕ) (lane : ℕ) (j : Job) → IsDesk d places → next_job d lane ≡ Some j → 0 < d.spare
has_room d places lane j is next = grind (arith, batch_short)

-- there were fewer edits than there can be entries
pub few_edits : (d : DeskShape) (places : List ℕ) (lane : ℕ) (j : Job) → IsDesk d places → next_job d lane ≡ Some j → d.board.edits < 4294967295
few_edits d places lane j is next = grind (arith, batch_short, edits_within)

pub stands_here : (d : DeskShape) (places : List ℕ) (lane : ℕ) (j : Job) → IsDesk d places → lane < d.lanes → next_job d lane ≡ Some j →
    slice_index_or places lane 0 < length d.jobs
stands_here d places lane j is known next = grind (arith, slice_get_within, next_at)

-- the lane of an entry went on to its next job
abbrev pub HasMoved : List Job → List ℕ → List ℕ → ℕ → Type 0
HasMoved jobs places new lane = (place : ℕ) × ((new ≡ slice_set places lane place) × IsNextPlace jobs lane (slice_index_or places lane 0 + 1) place)

-- with the parts that the calls change
abbrev pub with_parts : DeskShape → ℕ → List Entry → BoardShape → ℕ → Loss → DeskShape
with_parts d lane entries b spare loss = record d { entries = entries; board = b; spare = spare; losses = slice_set d.losses lane loss }

pub desk_added : (d : DeskShape) (places new : List ℕ) (e : Entry) (entries : List Entry) (b : BoardShape) (spare : ℕ) (loss : Loss) → IsDesk d places →
    ((place : ℕ) → IsNextPlace d.jobs e.lane (slice_index_or places e.lane 0 + 1) place → Grows d places e b spare place) →
    entries ≡ d.entries ++ e ∷ [] → loss ≡ no_loss → HasMoved d.jobs places new e.lane → IsDesk (with_parts d e.lane entries b spare loss) new
desk_added d places new e entries b spare loss is grows added none moved =
    subst (IsDesk (with_parts d e.lane entries b spare loss)) (sym moved.1.0)
    (subst (λ l. IsDesk (with_parts d e.lane entries b spare l) (slice_set places e.lane moved.0)) (sym none)
    (subst (λ es. IsDesk (with_parts d e.lane es b spare no_loss) (slice_set places e.lane moved.0)) (sym added)
    (desk_more d places e b spare moved.0 is (grows moved.0 moved.1.1))))
