-- What lanes hold stays right while a schedule is gone through.
use Rattle.std.proofs.Common.{◌≡◌, ℕ, zero, suc, ◌+◌, ◌-◌, ◌<◌, ◌≤◌, ◌⊎◌, inr, Bool, true, false, List, [], ◌∷◌, ◌++◌, length, take, drop, map, get_or}
use Rattle.std.proofs.Common.{slice_index_or, slice_set, replicate, Option, None, Some, append_assoc, append-nil, refl, sym, ap, subst, ◌∙◌, arith}
use Rattle.std.proofs.lemmas.List.{drop-append-le, drop-take, length-append, map-append, take-append-le}
use Rattle.std.proofs.lemmas.List.Elements.{filter-append}
use Rattle.std.proofs.Math.Seq.{drop-append_seam, take-length}
use Rattle.wf_names.specs.declared.limits.TheConstants.{LANE_LIMIT}
use Rattle.wf_talk.specs.declared.entry.Entry.{Entry}
use Rattle.wf_talk.specs.declared.job.Job.{Job}
use Rattle.wf_talk.specs.declared.reply.Reply.{Reply}
use Rattle.wf_board.specs.declared.verdict.Verdict.{Verdict}
use Rattle.wf_board.specs.Boards.{SnapShape, book_on, state_on}
use Rattle.wf_board.specs.Laws.Histories.{EachAfter, IsRightAfter, job_of_entry, lane_jobs, state_after}
use Rattle.wf_board.specs.Laws.States.{State, opening_state}
use Rattle.wf_board.specs.Verdicts.{Decides, IsRight}
use Rattle.wf_board.proofs.Snaps.{snaps_suffice}
use Rattle.wf_desk.specs.declared.outcome.Outcome.{Outcome}
use Rattle.wf_desk.specs.declared.outcome.Outcome.TheVariants as outcome
use Rattle.wf_desk.specs.declared.task.Task.{Task}
use Rattle.wf_desk.specs.declared.schedule.Event.{Event}
use Rattle.wf_desk.specs.declared.schedule.Event.TheVariants.{Commit, Serve}
use Rattle.wf_desk.specs.declared.schedule.Mark.{Mark}
use Rattle.wf_desk.specs.declared.schedule.Mark.TheVariants.{NoJob, Served}
use Rattle.wf_desk.specs.declared.schedule.Solved.{Solved}
use Rattle.wf_desk.specs.Desks.{DeskShape, HasAdded, IsSoundDesk, served, state_after_first}
use Rattle.wf_desk.specs.Laws.Commits.{HasCommitted, HasServed, IsTask, with_loss}
use Rattle.wf_desk.specs.Schedules.{AreEventsOf, HasDone, HasDoneAll, HasGoneOn, HasGrown, Standing, held_by, lane_answers}
use Rattle.wf_desk.specs.Schedules.{lane_left, lane_of, mark_of, no_tasks}
use Rattle.wf_desk.specs.Holding.{AreHeld, IsHeld, standing}

-- ---- more entries

-- a desk that is the same but for what it lost
grown_but : (d e : DeskShape) → record e { losses = d.losses } ≡ d → HasGrown d e
grown_but d e same = grind (arith, append-nil)

pub grown_none : (d e : DeskShape) → e ≡ d → HasGrown d e
grown_none d e same = grown_but d e (ap (λ (x : DeskShape). record x { losses = d.losses }) same)

grown_lost : (d e : DeskShape) (lane : ℕ) → e ≡ with_loss d lane → HasGrown d e
grown_lost d e lane same = grown_but d e (ap (λ (x : DeskShape). record x { losses = d.losses }) same)

unfoldable pub grown_added : (d e : DeskShape) (job : Job) (place : ℕ) (Is : Reply → Type 0) → HasAdded d e job place Is → HasGrown d e
grown_added d e job place Is added = grind arith

unfoldable pub grown_then : (d e f : DeskShape) → HasGrown d e → HasGrown e f → HasGrown d f
grown_then d e f first later = grind (arith, append_assoc)

pub grown_committed : (d e : DeskShape) (t : Task) (v : Verdict) (result : Outcome) → HasCommitted d e t v result → HasGrown d e
grown_committed d e t v outcome.NotNext done = grown_none d e done.1
grown_committed d e t v result done = grind (arith, grown_lost, grown_added)

pub grown_served : (d e : DeskShape) (lane : ℕ) (any : Bool) → HasServed d e lane any → HasGrown d e
grown_served d e lane any done = grind (arith, grown_added, grown_none)

-- each lane's further entries are its next jobs
pub goes_on : (d e : DeskShape) → IsSoundDesk d → IsSoundDesk e → HasGrown d e → HasGoneOn d e
goes_on d e before after grown = record { grown = grown; next = next }
  where
    further : (lane : ℕ) → served e lane ≡ served d lane ++ lane_answers grown.more lane
    further lane =
        ap (λ n. lane_jobs lane (map job_of_entry (drop n e.entries))) grown.start
        ∙ ap (λ es. lane_jobs lane (map job_of_entry (drop d.start es))) grown.extends
        ∙ ap (λ es. lane_jobs lane (map job_of_entry es)) (drop-append-le d.start d.entries grown.more before.begun)
        ∙ ap (lane_jobs lane) (map-append job_of_entry (drop d.start d.entries) grown.more)
        ∙ filter-append _ (map job_of_entry (drop d.start d.entries)) (map job_of_entry grown.more)

    next : (lane : ℕ) → lane_answers grown.more lane ≡ take (length (lane_answers grown.more lane)) (lane_left d lane)
    next lane =
        let old = served d lane in
        let new = lane_answers grown.more lane in
        let all = lane_jobs lane d.jobs in
        let whole : old ++ new ≡ take (length old + length new) all =
        sym (further lane) ∙ after.front lane
        ∙ ap (λ js. take (length (served e lane)) (lane_jobs lane js)) grown.jobs
        ∙ ap (λ js. take (length js) all) (further lane)
        ∙ ap (λ n. take n all) (length-append old new) in
        sym (drop-append_seam old new) ∙ ap (drop (length old)) whole ∙ drop-take (length old) (length new) all

-- ---- what lanes hold

state_stays : (d e : DeskShape) (n : ℕ) → HasGrown d e → n ≤ length d.entries → state_after_first e n ≡ state_after_first d n
state_stays d e n grown within = grind (arith, take-append-le)

-- a task that is held stays right
pub held_on : (d e : DeskShape) (lane : ℕ) (x : Solved) → HasGrown d e → IsHeld d lane x → IsHeld e lane x
held_on d e lane x grown held = grind (arith, length-append, state_stays)

pub all_held_on : (d e : DeskShape) (held : List (Option Solved)) → HasGrown d e → AreHeld d held → AreHeld e held
all_held_on d e held grown are lane x is = held_on d e lane x grown (are lane x is)

-- what a lane holds after a change: what was put there, or what it held before
read_put : (held : List (Option Solved)) (lane m : ℕ) (put : Option Solved) (x : Solved) → held_by (slice_set held lane put) m ≡ Some x →
    ((m ≡ lane) × (put ≡ Some x)) ⊎ (held_by held m ≡ Some x)
read_put [] lane m put x is = inr is
read_put (y ∷ ys) lane m put x is = grind (arith, (read_put ys))

unsome : (x y : Solved) → Some x ≡ Some y → x ≡ y
unsome x y h = cc

pub held_put : (d : DeskShape) (held : List (Option Solved)) (lane : ℕ) (x : Solved) → AreHeld d held → IsHeld d lane x →
    AreHeld d (slice_set held lane (Some x))
held_put d held lane x are here = grind (arith, read_put, unsome)

pub held_none : (d : DeskShape) (held : List (Option Solved)) (lane : ℕ) → AreHeld d held → AreHeld d (slice_set held lane None)
held_none d held lane are = grind (arith, read_put)

-- where there are no tasks, none is held
nothing_held : (n lane : ℕ) → held_by (replicate n None) lane ≡ None
nothing_held zero lane = refl
nothing_held (suc n) lane = grind (arith, (nothing_held n))

pub none_held : (d : DeskShape) → AreHeld d no_tasks
none_held d lane x is = let no = sym (nothing_held LANE_LIMIT lane) ∙ is in cc

-- a task that was just taken is held
pub begun_held : (d : DeskShape) (lane : ℕ) (x : Solved) → IsSoundDesk d → IsTask d lane x.task → Decides (book_on x.task.snap) x.task.ask x.verdict →
    IsHeld d lane x
begun_held d lane x sound task decides = record {
  lane = task.lane;
  number = let same = task.number in omega (arith, same);
  right =
      let on_snap = subst (λ (s : SnapShape). IsRight (book_on s) x.task.ask x.verdict) task.snap decides.right in
      let on_board = snaps_suffice d.board x.task.ask x.task.snap.cases.spare x.verdict on_snap in
      let now : state_on d.board ≡ state_after_first d x.task.number =
      sound.state ∙ ap (state_after (opening_state d.opening)) (sym (ap (λ n. take n d.entries) task.number ∙ take-length d.entries)) in
      subst (λ s. IsRight s.book x.task.ask x.verdict) now on_board;
}

-- ---- events

-- the events so far, and one more
pub done_more : (s : Standing) (events : List Event) (marks : List Mark) (e : Event) (m : Mark) (t u : Standing) → HasDoneAll s events marks t →
    HasDone t e m u →
    HasDoneAll s (events ++ e ∷ []) (marks ++ m ∷ []) u
done_more s [] [] e m t u all one = (u, (subst (λ x. HasDone x e m u) all one, refl))
done_more s (x ∷ xs) (y ∷ ys) e m t u all one = (all.0, (all.1.0, done_more all.0 xs ys e m t u all.1.1 one))
done_more s [] (y ∷ ys) e m t u all one = absurd all
done_more s (x ∷ xs) [] e m t u all one = absurd all

-- each event's lane is one of them
pub lane_in : (lanes : ℕ) (events : List Event) (i : ℕ) (e : Event) → AreEventsOf lanes events → i < length events → lane_of (get_or events i e) < lanes
lane_in lanes [] i e are below = absurd (omega (arith, below))
lane_in lanes (x ∷ xs) i e are below = grind (arith, (lane_in lanes xs))

-- ---- places

-- each entry of a legal history has its place
placed_after : (s : State) (rounds : ℕ) (earlier entries : List Entry) (i : ℕ) (d : Entry) → EachAfter (IsRightAfter s rounds) earlier entries →
    i < length entries →
    (slice_index_or entries i d).at ≡ length earlier + i
placed_after s rounds earlier [] i d legal below = absurd (omega (arith, below))
placed_after s rounds earlier (e ∷ es) zero d legal below = let at = legal.0.0 in omega (arith, at)
placed_after s rounds earlier (e ∷ es) (suc i) d legal below =
    grind (arith, length-append, (placed_after s rounds (earlier ++ e ∷ []) es i d legal.1 (omega (arith, below))))

-- the last entry of a desk stands at its end
pub last_placed : (d : DeskShape) (entries : List Entry) (e : Entry) → IsSoundDesk d → entries ≡ d.entries → 0 < length d.entries →
    (slice_index_or entries (length entries - 1) e).at + 1 ≡ length d.entries
last_placed d entries e sound same some =
    let at = placed_after (opening_state d.opening) d.rounds [] d.entries (length d.entries - 1) e sound.legal (omega (arith, some)) in
    let here = ap (λ es. (slice_index_or es (length es - 1) e).at) same in
    omega (arith, at, here, some)

-- what a commit did, by its mark
pub committed_done : (s : Standing) (lane : ℕ) (x : Solved) (result : Outcome) (m : Mark) (t : Standing) → m ≡ mark_of result → held_by s.held lane ≡ Some x →
    HasCommitted s.desk t.desk x.task x.verdict result → t.held ≡ slice_set s.held lane None → HasDone s (Commit lane) m t
committed_done s lane x outcome.NotNext m t is held done none = subst (λ k. HasDone s (Commit lane) k t) (sym is) (x, (held, (done, none)))
committed_done s lane x outcome.Lost m t is held done none = subst (λ k. HasDone s (Commit lane) k t) (sym is) (x, (held, (done, none)))
committed_done s lane x (outcome.Recorded place) m t is held done none = subst (λ k. HasDone s (Commit lane) k t) (sym is) (x, (held, (done, none)))

-- there is an entry where a job was served
pub served_some : (d e : DeskShape) (lane : ℕ) (any : Bool) → any ≡ true → HasServed d e lane any → 0 < length e.entries
served_some d e lane any is done = grind (arith, length-append)

-- what serving a lane did, by its mark
pub served_done : (d e : DeskShape) (held : List (Option Solved)) (lane place : ℕ) (any : Bool) → any ≡ true → HasServed d e lane any →
    place + 1 ≡ length e.entries →
    HasDone (standing d held) (Serve lane) (Served place) (standing e held)
served_done d e held lane place any is done last = grind (arith, length-append)

pub unserved_done : (d e : DeskShape) (held : List (Option Solved)) (lane : ℕ) (any : Bool) → any ≡ false → HasServed d e lane any →
    HasDone (standing d held) (Serve lane) NoJob (standing e held)
unserved_done d e held lane any is done = (subst (HasServed d e lane) is done, refl)
