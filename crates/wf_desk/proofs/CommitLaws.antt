-- What is needed of a desk where a task is committed.
use Rattle.std.proofs.Common.{◌≡◌, ℕ, zero, suc, ◌+◌, ◌-◌, get_or, ◌<◌, ◌≤◌, ◌⊎◌, inl, inr, max, Bool, true, false, not, nat_eq, nat_lt, nat_le, List, [], ◌∷◌}
use Rattle.std.proofs.Common.{◌++◌, length, take, drop, slice_set, slice_index_or, Some, refl, sym, ap, subst, ◌∙◌, arith, ◌==◌, if◌then◌else◌}
use Rattle.std.proofs.lemmas.Grind.{common_steps}
use Rattle.std.proofs.lemmas.List.{take_more, length-take-le}
use Rattle.basics.proofs.Booleans.{and_both, bool_cases, eq_is, not_yes, same_by}
use Rattle.wf_names.specs.declared.limits.TheConstants.{LANE_LIMIT}
use Rattle.wf_talk.specs.declared.entry.Entry.{Entry}
use Rattle.wf_talk.specs.declared.job.Job.{Job}
use Rattle.wf_talk.specs.declared.reply.Reply.{Reply}
use Rattle.wf_talk.specs.declared.reply.Reply.TheVariants as reply
use Rattle.wf_talk.specs.declared.request.Ask.{Ask}
use Rattle.wf_board.specs.declared.verdict.Verdict.{Verdict}
use Rattle.wf_board.specs.declared.verdict.Verdict.TheVariants as verdict
use Rattle.wf_board.specs.Boards.{BoardShape, SnapShape, state_on}
use Rattle.wf_board.specs.Counting.{count_of, counted, counted_end, counts_for, lane_end, last_end_from}
use Rattle.wf_board.specs.Decisions.{decision_of, is_view, needs_verdict}
use Rattle.wf_board.specs.Laws.Histories.{IsRightAfter}
use Rattle.wf_board.proofs.HistoryLaws.{again_rests, again_stays, step_rests}
use Rattle.wf_board.specs.Laws.States.{opening_state}
use Rattle.wf_board.specs.Laws.Steps.{IsStep, state_after_step}
use Rattle.wf_board.specs.Verdicts.{IsCertified, IsDecided, IsRight, snap_of}
use Rattle.wf_board.proofs.Counted.{count_later, end_more, end_there}
use Rattle.wf_board.proofs.Fresh.{fresh_right}
use Rattle.wf_board.proofs.Wanting.{decided_rightly}
use Rattle.wf_desk.specs.declared.loss.Loss.{Loss}
use Rattle.wf_desk.specs.declared.task.Task.{Task}
use Rattle.wf_desk.specs.declared.outcome.Outcome.{Outcome}
use Rattle.wf_desk.specs.declared.outcome.Outcome.TheVariants as outcome
use Rattle.wf_desk.specs.Desks.{DeskShape, HasAdded, loss_of, next_job, no_loss}
use Rattle.wf_desk.specs.Laws.Commits.{HasCommittedChecked, IsNext, IsReplyWhere, IsRightFor, IsTask, floor_of, is_fresh, is_fresh_or_change, is_last_round}
use Rattle.wf_desk.specs.Laws.Commits.{is_lost}
use Rattle.wf_desk.specs.Laws.Commits.{job_of_task}
use Rattle.wf_desk.specs.Keeping.{HasCommittedNone, IsDesk, own_start}
use Rattle.wf_desk.specs.Docket.{IsNextPlace, entry_for}
use Rattle.wf_desk.proofs.DeskLaws.{Grows, HasMoved, MayLose, desk_added, desk_lost, with_parts}
use Rattle.wf_desk.proofs.DocketLaws.{next_lane}

-- a verdict that was right stays so where nothing came that counts
pub fresh_verdict : (d : DeskShape) (places : List ℕ) (t : Task) (v : Verdict) → IsDesk d places → is_fresh d t ≡ true → IsRightFor d t v →
    IsRight (state_on d.board).book t.ask v
fresh_verdict d places t v is fresh right =
    let none : counted t.ask (drop t.number d.entries) ≡ 0 = grind (arith, common_steps) in
    subst (λ s. IsRight s.book t.ask v) (sym is.sound.state)
    (fresh_right (opening_state d.opening) d.rounds t.number d.entries t.ask v is.sound.legal none right)

-- ---- where a task is lost

record LostFacts (d : DeskShape) (t : Task) : Type 0 where
  pub positive : 1 ≤ d.rounds
  pub deed : is_view t.ask ≡ false
  pub undecided : needs_verdict (decision_of (state_on d.board).book t.ask) ≡ true
  pub floor : floor_of d t.lane ≤ t.number

lost_facts : (d : DeskShape) (t : Task) → is_lost d t ≡ true → LostFacts d t
lost_facts d t lost = grind (arith, and_both, common_steps, not_yes)

pub may_lose : (d : DeskShape) (t : Task) → IsNext d t → is_fresh d t ≡ false → is_lost d t ≡ true → MayLose d t.lane t.ask
may_lose d t next stale lost = grind (arith, count_later, common_steps)

-- enough counts behind the lane's last entry of the batch
enough_rounds : (d : DeskShape) (places : List ℕ) (t : Task) → IsDesk d places → IsNext d t → MayLose d t.lane t.ask → is_last_round d t.lane ≡ true →
    d.rounds ≤ counted t.ask (drop (own_start d t.lane) d.entries)
enough_rounds d places t is next may last =
    let rests = is.losses t.lane (job_of_task t) next in
    let some = may.some in
    let all : d.rounds ≤ (loss_of d.losses t.lane).count + 1 = grind (arith, common_steps) in
    omega (arith, rests, some, all)

pub again_right : (d : DeskShape) (places : List ℕ) (t : Task) (place : ℕ) → IsDesk d places → IsNext d t → is_fresh d t ≡ false → is_lost d t ≡ true →
    is_last_round d t.lane ≡ true → place + 1 ≡ counted_end t.ask d.entries →
    IsRightAfter (opening_state d.opening) d.rounds d.entries (entry_for (job_of_task t) (length d.entries) (reply.Again d.rounds place))
again_right d places t place is next stale lost last end =
    let facts = lost_facts d t lost in
    let enough = enough_rounds d places t is next (may_lose d t next stale lost) last in
    let later = count_later (λ e. counts_for e t.ask) d.entries (lane_end t.lane d.entries) (own_start d t.lane) (omega arith) in (
      refl,
      inr (
        d.rounds,
        (
          place,
          (
            refl,
            record {
              deed = facts.deed;
              undecided = subst (λ s. needs_verdict (decision_of s.book t.ask) ≡ true) is.sound.state facts.undecided;
              positive = facts.positive;
              all = refl;
              enough = omega (arith, enough, later);
              last = end;
            },
          ),
        ),
      ),
    )

pub again_grows : (d : DeskShape) (places : List ℕ) (t : Task) (place spare next_place : ℕ) → IsDesk d places → IsNext d t → is_fresh d t ≡ false →
    is_lost d t ≡ true →
    is_last_round d t.lane ≡ true → place + 1 ≡ counted_end t.ask d.entries → t.lane < LANE_LIMIT → t.lane < length places → d.spare ≤ spare + 1 →
    IsNextPlace d.jobs t.lane (slice_index_or places t.lane 0 + 1) next_place →
    Grows d places (entry_for (job_of_task t) (length d.entries) (reply.Again d.rounds place)) d.board spare next_place
again_grows d places t place spare next_place is next stale lost last end known sized room moved =
    let e = entry_for (job_of_task t) (length d.entries) (reply.Again d.rounds place) in
    record {
      next = next;
      known = known;
      sized = sized;
      right = again_right d places t place is next stale lost last end;
      rests = again_rests d.start d.entries e d.rounds place refl (enough_rounds d places t is next (may_lose d t next stale lost) last);
      want = (λ short. absurd (cc), refl);
      state = sym (again_stays (state_on d.board) t.ask (reply.Again d.rounds place) d.rounds place refl);
      room = room;
      cases = omega arith;
      moved = moved;
    }

-- ---- where a job is decided

pub step_grows : (d : DeskShape) (places : List ℕ) (j : Job) (v : Verdict) (given : Reply) (b : BoardShape) (spare next_place : ℕ) → IsDesk d places →
    next_job d j.lane ≡ Some j → IsDecided d.board j.ask v given → state_on b ≡ state_after_step (state_on d.board) j.ask given →
    j.lane < LANE_LIMIT → j.lane < length places → d.spare ≤ spare + 1 → d.board.cases.spare ≤ b.cases.spare + 1 →
    IsNextPlace d.jobs j.lane (slice_index_or places j.lane 0 + 1) next_place → Grows d places (entry_for j (length d.entries) given) b spare next_place
step_grows d places j v given b spare next_place is next decided state known sized room cases moved = record {
  next = next;
  known = known;
  sized = sized;
  right = (refl, inl (subst (λ s. IsStep s j.ask given) is.sound.state decided.step));
  rests = step_rests (state_on d.board) d.start d.entries (entry_for j (length d.entries) given) decided.step;
  want = decided_rightly d.board j.ask v given decided;
  state = state;
  room = room;
  cases = cases;
  moved = moved;
}

-- ---- the floor, by the entries since

none_end : (test : Entry → Bool) (m before : ℕ) (entries : List Entry) → count_of test entries ≡ 0 → last_end_from m before test entries ≡ before
none_end test m before [] none = refl
none_end test m before (x ∷ xs) none = elim (bool_cases (test x)) [
  | inl hit ↦ let one = rw hit at none in absurd (omega (arith, one))
  | inr miss ↦ let rest = rw miss at none in rw miss (none_end test (m + 1) before xs (omega (arith, rest)))
]

next_before : (b : Bool) (m before : ℕ) → before ≤ m → (if b then m + 1 else before) ≤ m + 1
next_before b m before known = grind arith

end_up_to : (test : Entry → Bool) (m before n : ℕ) (entries : List Entry) → before ≤ m → count_of test (drop n entries) ≡ 0 →
    last_end_from m before test entries ≤ m + n
end_up_to test m before n [] known none = omega (arith, known)
end_up_to test m before zero (x ∷ xs) known none = let same = none_end test m before (x ∷ xs) none in omega (arith, known, same)
end_up_to test m before (suc n) (x ∷ xs) known none =
    grind (arith, (end_up_to test (m + 1) (if test x then m + 1 else before) n xs (next_before (test x) m before known) none))

end_past : (test : Entry → Bool) (m before n : ℕ) (entries : List Entry) → 1 ≤ count_of test (drop n entries) → m + n + 1 ≤ last_end_from m before test entries
end_past test m before zero entries some = let there = end_there m before test entries some in omega (arith, there)
end_past test m before (suc n) [] some = absurd (omega (arith, some))
end_past test m before (suc n) (x ∷ xs) some = grind (arith, (end_past test (m + 1) (if test x then m + 1 else before) n xs some))

-- a lane's last entry stands before a place exactly where none of the later ones is of the lane
pub lane_end_test : (lane n : ℕ) (entries : List Entry) →
    nat_le (lane_end lane entries) n ≡ not (nat_lt 0 (count_of (λ e. nat_eq e.lane lane) (drop n entries)))
lane_end_test lane n entries = grind (arith, bool_cases, common_steps, end_past, end_up_to)

-- ---- the last entry that counts

-- with one more entry
ended_at : (what : Ask) (entries : List Entry) (p : ℕ) (e : Entry) → p < length entries → e ≡ get_or entries p e →
    counted_end what (take (p + 1) entries) ≡ (if counts_for e what then p + 1 else counted_end what (take p entries))
ended_at what entries p e within is =
    let test : Entry → Bool = λ x. counts_for x what in
    let size : length (take p entries) ≡ p = length-take-le p entries (omega (arith, within)) in
    let place : 0 + length (take p entries) + 1 ≡ p + 1 = omega (arith, size) in
    ap (counted_end what) (take_more entries p e within ∙ ap (λ x. take p entries ++ x ∷ []) (sym is)) ∙ end_more 0 0 test (take p entries) e
    ∙ ap (λ n. if test e then n else counted_end what (take p entries)) place

pub last_here : (what : Ask) (entries : List Entry) (place : ℕ) (e : Entry) → 0 < place → place ≤ length entries → e ≡ get_or entries (place - 1) e →
    counts_for e what ≡ true →
    counted_end what (take place entries) ≡ counted_end what entries → place - 1 + 1 ≡ counted_end what entries
last_here what entries place e some within is hit so_far =
    let next : place - 1 + 1 ≡ place = omega arith in
    let ended = ended_at what entries (place - 1) e (omega (arith, some, within)) is in
    sym (ended ∙ ap (λ b. if b then place - 1 + 1 else counted_end what (take (place - 1) entries)) hit)
    ∙ ap (λ n. counted_end what (take n entries)) next ∙ so_far

pub last_before : (what : Ask) (entries : List Entry) (place : ℕ) (e : Entry) → 0 < place → place ≤ length entries → e ≡ get_or entries (place - 1) e →
    counts_for e what ≡ false →
    counted_end what (take place entries) ≡ counted_end what entries → counted_end what (take (place - 1) entries) ≡ counted_end what entries
last_before what entries place e some within is miss so_far =
    let next : place - 1 + 1 ≡ place = omega arith in
    let ended = ended_at what entries (place - 1) e (omega (arith, some, within)) is in
    sym (ended ∙ ap (λ b. if b then place - 1 + 1 else counted_end what (take (place - 1) entries)) miss)
    ∙ ap (λ n. counted_end what (take n entries)) next ∙ so_far

pub last_nowhere : (what : Ask) (entries : List Entry) (place : ℕ) → place ≤ 0 → 1 ≤ counted what entries →
    counted_end what (take place entries) ≡ counted_end what entries → ⊥
last_nowhere what entries place none some so_far = grind (arith, end_there)

-- ---- a desk with one more entry of its own

pub serve_keeps : (d : DeskShape) (places new : List ℕ) (j : Job) (v : Verdict) (given : Reply) (entries : List Entry) (b : BoardShape) (spare : ℕ)
    (loss : Loss) → IsDesk d places →
    j.lane < d.lanes → j.lane < length places → next_job d j.lane ≡ Some j → IsDecided d.board j.ask v given →
    state_on b ≡ state_after_step (state_on d.board) j.ask given →
    d.board.cases.spare ≤ b.cases.spare + 1 → d.spare ≤ spare + 1 → entries ≡ d.entries ++ entry_for j (length d.entries) given ∷ [] → loss ≡ no_loss →
    HasMoved d.jobs places new j.lane →
    IsDesk (with_parts d j.lane entries b spare loss) new
serve_keeps d places new j v given entries b spare loss is known sized next decided state cases room added none moved =
    let few = is.few in
    desk_added d places new (entry_for j (length d.entries) given) entries b spare loss is
    (λ place goes_on. step_grows d places j v given b spare place is next decided state (omega (arith, few, known)) sized room cases goes_on) added none moved

pub again_keeps : (d : DeskShape) (places new : List ℕ) (t : Task) (j : Job) (place : ℕ) (entries : List Entry) (spare : ℕ) (loss : Loss) →
    IsDesk d places → j ≡ job_of_task t →
    t.lane < d.lanes → j.lane < length places → IsNext d t → is_fresh d t ≡ false → is_lost d t ≡ true → is_last_round d t.lane ≡ true →
    place + 1 ≡ counted_end j.ask d.entries →
    d.spare ≤ spare + 1 → entries ≡ d.entries ++ entry_for j (length d.entries) (reply.Again d.rounds place) ∷ [] → loss ≡ no_loss →
    HasMoved d.jobs places new j.lane →
    IsDesk (with_parts d j.lane entries d.board spare loss) new
again_keeps d places new t j place entries spare loss is same known sized next stale lost last end room added none moved =
    let few = is.few in
    let job = job_of_task t in
    let e = entry_for job (length d.entries) (reply.Again d.rounds place) in
    subst (λ k. IsDesk (with_parts d k.lane entries d.board spare loss) new) (sym same)
    (desk_added d places new e entries d.board spare loss is
    (λ next_place goes_on. again_grows d places t place spare next_place is next stale lost last
    (subst (λ k. place + 1 ≡ counted_end k.ask d.entries) same end) (omega (arith, few, known))
    (subst (λ k. k.lane < length places) same sized) room goes_on)
    (subst (λ k. entries ≡ d.entries ++ entry_for k (length d.entries) (reply.Again d.rounds place) ∷ []) same added) none
    (subst (λ k. HasMoved d.jobs places new k.lane) same moved))

-- something counts where a task is stale
pub stale_counts : (d : DeskShape) (t : Task) (j : Job) → j ≡ job_of_task t → is_fresh d t ≡ false → 1 ≤ counted j.ask d.entries
stale_counts d t j same stale =
    let some : 1 ≤ counted t.ask (drop t.number d.entries) = grind (arith, common_steps) in
    let later = count_later (λ e. counts_for e t.ask) d.entries 0 t.number (omega arith) in
    subst (λ k. 1 ≤ counted k.ask d.entries) (sym same) (omega (arith, some, later))

pub lose_keeps : (d : DeskShape) (places : List ℕ) (t : Task) (end : ℕ) → IsDesk d places → end ≡ length d.entries → IsNext d t → is_fresh d t ≡ false →
    is_lost d t ≡ true →
    IsDesk (record d { losses = slice_set d.losses t.lane (record { count = (loss_of d.losses t.lane).count + 1; end = end }) }) places
lose_keeps d places t end is same next stale lost =
    subst (λ n. IsDesk (record d { losses = slice_set d.losses t.lane (record { count = (loss_of d.losses t.lane).count + 1; end = n }) }) places) (sym same)
    (desk_lost d places t.lane t.ask is (may_lose d t next stale lost))

-- ---- the parts of a task

as_own : (job : Job) (lane : ℕ) → job.lane ≡ lane → job ≡ record { lane = lane; line = job.line; ask = job.ask }
as_own job lane own = λ i. record { lane = own i; line = job.line; ask = job.ask }

pub task_is : (d : DeskShape) (lane : ℕ) (job : Job) (number : ℕ) (snap : SnapShape) → next_job d lane ≡ Some job → number ≡ length d.entries →
    snap ≡ snap_of d.board job.ask snap.cases.spare → (t : Task) →
    Some (record { lane = lane; line = job.line; ask = job.ask; number = number; snap = snap }) ≡ Some t → IsTask d lane t
task_is d lane job number snap next count made t is = grind (arith, next_lane, as_own)

-- the floor, where the batch and the last loss are before a place
pub floor_test : (d : DeskShape) (lane n : ℕ) → max d.start (loss_of d.losses lane).end ≤ n →
    not (nat_lt 0 (count_of (λ e. nat_eq e.lane lane) (drop n d.entries))) ≡ nat_le (floor_of d lane) n
floor_test d lane n before =
    sym (lane_end_test lane n d.entries)
    ∙ same_by (nat_le (lane_end lane d.entries) n) (nat_le (floor_of d lane) n) (λ within. grind (arith, common_steps, before))
    (λ within. grind (arith, common_steps, before))

by_count : (n : ℕ) → not (nat_lt 0 n) ≡ true → (n == 0) ≡ true
by_count n none = grind (arith, bool_cases, common_steps, eq_is)

pub fresh_test : (d : DeskShape) (t : Task) → not (nat_lt 0 (counted t.ask (drop t.number d.entries))) ≡ true → is_fresh d t ≡ true
fresh_test d t none = by_count (counted t.ask (drop t.number d.entries)) none

-- ---- what became of a task

pub added_as : (d e : DeskShape) (j : Job) (place : ℕ) (P Q : Reply → Type 0) → ((given : Reply) → P given → Q given) → HasAdded d e j place P →
    HasAdded d e j place Q
added_as d e j place P Q as_well added = grind arith

-- where its verdict is none that decides
pub checked_none : (d e : DeskShape) (t : Task) (v : Verdict) (out : Outcome) → IsNext d t → ¬ IsCertified (state_on d.board).book t.ask v →
    HasCommittedNone d e t out →
    HasCommittedChecked d e t v out
checked_none d e t v outcome.NotNext next none has = absurd has
checked_none d e t v outcome.Lost next none has = (next, (none, has))
checked_none d e t v (outcome.Recorded place) next none has = (
  next,
  added_as d e (job_of_task t) place (IsReplyWhere (is_fresh_or_change d t) (is_lost d t) d t verdict.Nothing)
      (λ given. (IsCertified (state_on d.board).book t.ask v × IsDecided d.board t.ask v given)
      ⊎ (¬ IsCertified (state_on d.board).book t.ask v × IsReplyWhere (is_fresh_or_change d t) (is_lost d t) d t verdict.Nothing given))
      (λ given is. inr (none, is)) has,
)
