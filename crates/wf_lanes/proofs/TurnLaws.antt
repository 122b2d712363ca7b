-- How a batch is served by turns.
use Rattle.std.proofs.Common.{◌≡◌, ℕ, ◌+◌, ◌<◌, ◌≤◌, Bool, true, false, [], ◌∷◌, ◌++◌, length, None, refl, sym, ap, subst, arith}
use Rattle.std.proofs.Common.{append_assoc, append-nil, length-append}
use Rattle.std.proofs.lemmas.Bool.Decides.{nat_tests}
use Rattle.basics.proofs.Booleans.{bool_cases}
use Rattle.wf_board.specs.Boards.{state_on}
use Rattle.wf_board.specs.Laws.Histories.{lane_jobs}
use Rattle.wf_board.proofs.HistoryLaws.{once_all, step_once}
use Rattle.wf_desk.specs.Desks.{AreOfLanes, DeskShape, IsDone, IsSoundDesk, next_job}
use Rattle.wf_desk.specs.Laws.Commits.{HasServed}
use Rattle.wf_desk.proofs.DocketLaws.{batch_within, none_of_lanes}
use Rattle.wf_desk.specs.Schedules.{HasGrown}
use Rattle.wf_desk.proofs.Scheduling.{grown_added, grown_then}
use Rattle.wf_lanes.specs.Turns.{HasServedByTurns, HasServedOn, left_at}
use Rattle.wf_lanes.specs.TurnSteps.{HasServedTurn, AreTurnsBefore, IsAtTurn}
use Rattle.wf_lanes.proofs.TurnOrder.{at_first, at_passed, at_served, at_whole}

-- no job was served
pub on_none : (d : DeskShape) → HasServedOn d d
on_none d = record {
  grown = grind (arith, append-nil);
  once = tt;
}

-- more jobs were served
pub on_more : (a b c : DeskShape) → HasServedOn a b → HasServedOn b c → HasServedOn a c
unfolding grown_then
on_more a b c first second = record {
  grown = grown_then a b c first.grown second.grown;
  once = once_all first.grown.more second.grown.more first.once second.once;
}

-- a lane's next job was served, if it had one
pub on_next : (b c : DeskShape) (lane : ℕ) (had : Bool) → HasServed b c lane had → HasServedOn b c
unfolding grown_added
on_next b c lane true (job, (next, more)) = record {
  grown = grown_added b c job _ _ more;
  once = (λ n place. step_once (state_on b.board) job.ask more.entry.reply more.reply.step n place, tt);
}
on_next b c lane false (none, same) = rw same (on_none b)

-- the first lanes had their turn, and where no job was served, none of them has one left
pub record HasTurned (a c : DeskShape) (lanes : ℕ) (had : Bool) : Type 0 where
  pub on : HasServedOn a c
  pub turn : AreTurnsBefore lanes a c on.grown.more
  pub none : had ≡ false → (c ≡ a) × ((k : ℕ) → k < lanes → next_job a k ≡ None)
  pub some : had ≡ true → length a.entries < length c.entries

pub turned_none : (d : DeskShape) → HasTurned d d 0 false
unfolding on_none
turned_none d = record {
  on = on_none d;
  turn = λ earlier turns at. subst (λ es. IsAtTurn es turns 0 d) (sym (append-nil earlier)) at;
  none = λ e. (refl, λ k below. absurd (omega (arith, below)));
  some = λ e. cc;
}

-- with the next lane, which had a job
pub turned_served : (a b c : DeskShape) (lane : ℕ) (had : Bool) → HasTurned a b lane had → HasServed b c lane true → HasTurned a c (lane + 1) true
unfolding on_more on_next grown_then grown_added
turned_served a b c lane had turned served =
    let next = on_next b c lane true served in
    let before = turned.on.grown.extends in
    let more = served.1.1.added in
    record {
      on = on_more a b c turned.on next;
      turn = λ earlier turns at. subst (λ es. IsAtTurn es turns (lane + 1) c) (append_assoc earlier turned.on.grown.more (served.1.1.entry ∷ []))
          (at_served (earlier ++ turned.on.grown.more) turns lane b c (turned.turn earlier turns at) served);
      none = λ e. cc;
      some = λ e. let one = ap length more in let old = ap length before in
          omega (arith, one, old, length-append b.entries (served.1.1.entry ∷ []), length-append a.entries turned.on.grown.more);
    }

-- or had none
pub turned_passed : (a b c : DeskShape) (lane : ℕ) (had : Bool) → HasTurned a b lane had → HasServed b c lane false → HasTurned a c (lane + 1) had
turned_passed a b c lane had turned served = subst (λ d. HasTurned a d (lane + 1) had) (sym served.1) record {
  on = turned.on;
  turn = λ earlier turns at. at_passed (earlier ++ turned.on.grown.more) turns lane b (turned.turn earlier turns at) served.0;
  none = grind (arith, bool_cases, nat_tests);
  some = turned.some;
}

-- the jobs stay those of the lanes
pub of_lanes_on : (b c : DeskShape) → HasGrown b c → AreOfLanes b.lanes b.jobs → AreOfLanes c.lanes c.jobs
of_lanes_on b c grown of_lanes = subst (λ n. AreOfLanes n c.jobs) (sym grown.lanes) (subst (AreOfLanes b.lanes) (sym grown.jobs) of_lanes)

past_next : (d : DeskShape) (lane : ℕ) → lane_jobs lane d.jobs ≡ [] → next_job d lane ≡ None
past_next d lane none = rw none refl

-- the turn of all lanes is a whole one
pub turned_whole : (a c : DeskShape) (lanes : ℕ) (had : Bool) → HasTurned a c lanes had → a.lanes ≤ lanes → AreOfLanes a.lanes a.jobs → HasServedTurn a c
turned_whole a c lanes had turned all of_lanes = record {
  on = turned.on;
  turn = λ earlier turns at. at_whole (earlier ++ turned.on.grown.more) turns lanes c (turned.turn earlier turns at)
      (λ k past. past_next c k (none_of_lanes c.lanes k c.jobs (of_lanes_on a c turned.on.grown of_lanes) (omega (arith, all, past, turned.on.grown.lanes))));
}

-- the whole turns so far
pub record HasServedTurns (a c : DeskShape) : Type 0 where
  pub on : HasServedOn a c
  pub turns : ℕ
  pub at : IsAtTurn on.grown.more turns 0 c

pub turns_none : (d : DeskShape) → HasServedTurns d d
unfolding on_none
turns_none d = record { on = on_none d; turns = 0; at = at_first d }

-- and one more
pub turns_more : (a b c : DeskShape) → HasServedTurns a b → HasServedTurn b c → HasServedTurns a c
unfolding on_more grown_then
turns_more a b c so_far next = record {
  on = on_more a b c so_far.on next.on;
  turns = so_far.turns + 1;
  at = next.turn so_far.on.grown.more so_far.turns so_far.at;
}

-- so the jobs were served by turns
pub turns_end : (a c : DeskShape) → HasServedTurns a c → HasServedByTurns a c
turns_end a c served = record { on = served.on; turns = served.at.order }

-- where no lane had a job, none is left
pub turned_done : (a c : DeskShape) (lanes : ℕ) → HasTurned a c lanes false → a.lanes ≤ lanes → AreOfLanes a.lanes a.jobs → IsDone c
turned_done a c lanes turned all of_lanes = grind (arith, bool_cases, nat_tests, none_of_lanes)

-- where one had, fewer are left
pub turned_less : (a c : DeskShape) (lanes : ℕ) → HasTurned a c lanes true → IsSoundDesk c → left_at c < left_at a
turned_less a c lanes turned sound = grind (arith, batch_within)
