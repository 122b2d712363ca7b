-- What turns at a table come to at the desk.
use Rattle.std.proofs.Common.{◌≡◌, ℕ, ◌+◌, ◌-◌, ◌<◌, ◌⊎◌, inl, true, false, List, [], ◌∷◌, ◌++◌, length, map, None, Some, IfSome, refl, sym, ap, subst}
use Rattle.std.proofs.Common.{◌∙◌, arith, append_assoc}
use Rattle.std.specs.List.{Contains}
use Rattle.std.proofs.lemmas.List.{map-append}
use mathlib.Core.Logic.{dite}
use native.Mathlib.Decide.{ℕ_discrete}
use Rattle.turn_table.specs.Table.{GrowsByOne, Quiet, StartsWith}
use Rattle.turn_table.specs.Lanes.{LaneShape, TableId, first_lane, joined_lane, next_lane}
use Rattle.wf_talk.specs.declared.entry.Entry.{Entry}
use Rattle.wf_talk.specs.declared.job.Job.{Job}
use Rattle.wf_talk.specs.declared.reply.Reply.{Reply}
use Rattle.wf_board.specs.declared.verdict.Verdict.{Verdict}
use Rattle.wf_board.specs.Boards.{book_on}
use Rattle.wf_board.specs.Verdicts.{Decides}
use Rattle.wf_desk.specs.declared.outcome.Outcome.{Outcome}
use Rattle.wf_desk.specs.declared.outcome.Outcome.TheVariants as outcome
use Rattle.wf_desk.specs.declared.tabled.Fixed.{Fixed}
use Rattle.wf_desk.specs.declared.task.Task.{Task}
use Rattle.wf_desk.specs.Desks.{DeskShape, HasAdded, next_job, served}
use Rattle.wf_desk.specs.Laws.Commits.{job_of_task, HasCommitted, HasPlanned, HasServed, IsRightFor, IsTask}
use Rattle.wf_desk.proofs.DocketLaws as docket
use Rattle.wf_desk.specs.Schedules.{HasGrown}
use Rattle.wf_desk.specs.Tabled.{fixed_of, tagged, tagged_of}
use Rattle.wf_desk.proofs.Scheduling.{begun_held, grown_committed, held_on}
use Rattle.wf_lanes.specs.declared.worker.Begun.{Begun}
use Rattle.wf_lanes.specs.declared.worker.Begun.TheVariants as begun
use Rattle.wf_lanes.specs.Workers.{BeginsTurn, HasBegunAt, HasNoJobLeft, HasJoined, HasMadeAll, HasRoom, HasSeenDesk, HasTurned, IsBegun, IsFirst, IsIdle}

-- ---- entries without their lanes

untagged : (es : List Entry) → map (λ (p : ℕ × Entry). p.1) (tagged es) ≡ es
untagged [] = refl
untagged (e ∷ es) = ap (λ l. e ∷ l) (untagged es)

-- where the pairs of entries begin with those of others, so do the entries
pub untag : (xs ys : List Entry) → StartsWith (tagged xs) (tagged ys) → StartsWith xs ys
untag xs ys begins = (
  map (λ (p : ℕ × Entry). p.1) begins.0,
  sym (untagged xs) ∙ ap (map (λ (p : ℕ × Entry). p.1)) begins.1 ∙ map-append (λ (p : ℕ × Entry). p.1) (tagged ys) begins.0
      ∙ ap (λ l. l ++ map (λ (p : ℕ × Entry). p.1) begins.0) (untagged ys),
)

-- ---- a desk that is taken later

unsome : (x y : Fixed) → Some x ≡ Some y → x ≡ y
unsome x y h = cc

pub grown_seen : (s : LaneShape Fixed Entry) (d e : DeskShape) → HasSeenDesk s d → Some (fixed_of e) ≡ s.fixed → StartsWith (tagged_of e) s.seen → HasGrown d e
grown_seen s d e seen fixed later =
    let same : fixed_of e ≡ fixed_of d = unsome _ _ (fixed ∙ sym seen.fixed) in
    let more = untag e.entries d.entries (subst (StartsWith (tagged_of e)) (sym seen.list) later) in
    record {
      more = more.0;
      extends = more.1;
      opening = ap (λ (f : Fixed). f.opening) same;
      lanes = ap (λ (f : Fixed). f.lanes) same;
      rounds = ap (λ (f : Fixed). f.rounds) same;
      earlier = ap (λ (f : Fixed). f.earlier) same;
      jobs = ap (λ (f : Fixed). f.jobs) same;
      start = ap (λ (f : Fixed). f.start) same;
      restored = ap (λ (f : Fixed). f.restored) same;
    }

-- a verdict on the task that a lane began last is right at any desk that it takes next
pub begun_right : (s : LaneShape Fixed Entry) (lane : ℕ) (t : Task) (v : Verdict) (e : DeskShape) → IsBegun s lane t → Decides (book_on t.snap) t.ask v →
    Some (fixed_of e) ≡ s.fixed → StartsWith (tagged_of e) s.seen → IsRightFor e t v
begun_right s lane t v e (d, (seen, (task, sound))) decides fixed later =
    (held_on d e lane (record { task = t; verdict = v }) (grown_seen s d e seen fixed later)
    (begun_held d lane (record { task = t; verdict = v }) sound task decides)).right

pub quiet_starts : {I : Type 0} (P : ℕ → Type 0) (xs ys : List (ℕ × I)) → Quiet P xs ys → StartsWith xs ys
quiet_starts P xs ys quiet = (quiet.0, quiet.1)

-- ---- what a turn appends

grows_same : (n : ℕ) (d e : DeskShape) → e ≡ d → GrowsByOne n (tagged_of e) (tagged_of d)
grows_same n d e same = inl (ap tagged_of same)

grows_added : (n : ℕ) (d e : DeskShape) (job : Job) (place : ℕ) (Is : Reply → Type 0) → job.lane ≡ n → HasAdded d e job place Is →
    GrowsByOne n (tagged_of e) (tagged_of d)
grows_added n d e job place Is own added = grind (arith, map-append)

grows_served : (d e : DeskShape) (lane : ℕ) → HasServed d e lane true → GrowsByOne lane (tagged_of e) (tagged_of d)
grows_served d e lane (job, (next, added)) =
    grows_added lane d e job _ _ (docket.next_lane lane (length (served d lane)) d.jobs job next) added

grows_planned : (d e : DeskShape) (lane : ℕ) → HasPlanned d e lane → GrowsByOne lane (tagged_of e) (tagged_of d)
grows_planned d e lane (job, (next, (plan, added))) =
    grows_added lane d e job _ _ (docket.next_lane lane (length (served d lane)) d.jobs job next) added

pub grows_begun : (d e : DeskShape) (lane : ℕ) (result : Begun) → HasBegunAt d e lane result → GrowsByOne lane (tagged_of e) (tagged_of d)
grows_begun d e lane (begun.Task t) done = grows_same lane d e done.1.1.1
grows_begun d e lane begun.Served done = grows_served d e lane done.1
grows_begun d e lane begun.Planned done = grows_planned d e lane done.1
grows_begun d e lane begun.Lacking done = grows_served d e lane done.1
grows_begun d e lane begun.Ended done = grows_same lane d e done.1

pub grows_committed : (d e : DeskShape) (lane : ℕ) (t : Task) (v : Verdict) (result : Outcome) → t.lane ≡ lane → HasCommitted d e t v result
    → GrowsByOne lane (tagged_of e) (tagged_of d)
grows_committed d e lane t v outcome.NotNext own done = grows_same lane d e done.1
grows_committed d e lane t v outcome.Lost own done = inl (ap tagged_of done.1.1.1.1)
grows_committed d e lane t v (outcome.Recorded place) own done = grows_added lane d e (job_of_task t) place _ own done.1

-- ---- what no turn changes

fixed_grown : (d e : DeskShape) → HasGrown d e → fixed_of e ≡ fixed_of d
fixed_grown d e grown = rw (grown.opening, grown.lanes, grown.rounds, grown.earlier, grown.jobs, grown.start, grown.restored) refl

pub fixed_committed : (d e : DeskShape) (t : Task) (v : Verdict) (result : Outcome) → HasCommitted d e t v result → fixed_of e ≡ fixed_of d
fixed_committed d e t v result done = fixed_grown d e (grown_committed d e t v result done)

pub fixed_begun : (d e : DeskShape) (lane : ℕ) (result : Begun) → HasBegunAt d e lane result → fixed_of e ≡ fixed_of d
fixed_begun d e lane result done = grind arith

-- ---- a turn

abbrev pub taken : LaneShape Fixed Entry → DeskShape → LaneShape Fixed Entry
taken s d = record s { out = true; seen = tagged_of d }

abbrev pub given : LaneShape Fixed Entry → DeskShape → List (ℕ × Entry) → LaneShape Fixed Entry
given s e own = record s { out = false; seen = tagged_of e; own = own }

pub has_turned : (s t u : LaneShape Fixed Entry) (d e : DeskShape) (own : List (ℕ × Entry)) (P : ℕ → Type 0) → Some (fixed_of d) ≡ s.fixed →
    Quiet P (tagged_of d) s.seen →
    t ≡ taken s d → fixed_of e ≡ fixed_of d → u ≡ given t e own → HasTurned s u d e
has_turned s t u d e own P fixed quiet take same give = grind arith

-- a lane has no desk in hand after it
pub idle_after : (table : TableId) (s t u : LaneShape Fixed Entry) (d e : DeskShape) (own : List (ℕ × Entry)) (n : ℕ) → IsIdle table s n → t ≡ taken s d →
    u ≡ given t e own → IsIdle table u n
idle_after table s t u d e own n idle take give =
    let whole : u ≡ given (taken s d) e own = give ∙ ap (λ x. given x e own) take in
    record {
      table = ap (λ (x : LaneShape Fixed Entry). x.table) whole ∙ idle.table;
      number = ap (λ (x : LaneShape Fixed Entry). x.number) whole ∙ idle.number;
      out = ap (λ (x : LaneShape Fixed Entry). x.out) whole;
      known = (idle.known.0, (ap (λ (x : LaneShape Fixed Entry). x.fixed) whole ∙ idle.known.1.0, idle.known.1.1));
    }

-- what `give` asks of the lane that took a desk
pub may_give : (s t : LaneShape Fixed Entry) (d e : DeskShape) (n : ℕ) → s.number ≡ Some n → t ≡ taken s d → GrowsByOne n (tagged_of e) (tagged_of d) →
    IfSome t.number (λ k. GrowsByOne k (tagged_of e) t.seen)
may_give s t d e n number take grows = grind arith

-- ---- turn after turn

pub begun_task : (s u : LaneShape Fixed Entry) (m n : ℕ) (t : Task) → BeginsTurn s u n (begun.Task t) → m ≡ n → IsBegun u m t
begun_task s u m n t (d, (e, (turned, (needed, (task, (sound, same)))))) is =
    (d, (subst (HasSeenDesk u) same turned.seen, (subst (λ k. IsTask d k t) (sym is) task, sound)))

pub begun_ended : (s u : LaneShape Fixed Entry) (m n : ℕ) → BeginsTurn s u n begun.Ended → m ≡ n → HasNoJobLeft u m
begun_ended s u m n (d, (e, (turned, (none, same)))) is = (d, (subst (HasSeenDesk u) same turned.seen, subst (λ k. next_job d k ≡ None) (sym is) none))

-- ---- lanes made and joined

-- a first lane makes a lane
pub first_made : (table : TableId) (s t : LaneShape Fixed Entry) → IsFirst table s → t ≡ record s { made = s.made + 1 } → IsFirst table t
first_made table s t first made = grind arith

pub room_made : (s t : LaneShape Fixed Entry) (next count : ℕ) → HasRoom s next count → 0 < count → t ≡ record s { made = s.made + 1 } →
    HasRoom t (next + 1) (count - 1)
room_made s t next count room some made =
    let all : next + 1 + (count - 1) ≡ next + count = omega (arith, some) in
    record {
      made = ap (λ (x : LaneShape Fixed Entry). x.made) made ∙ ap (λ n. n + 1) room.made;
      table = let lanes = ap (λ (x : LaneShape Fixed Entry). x.lanes) made in let enough = room.table in omega (arith, all, lanes, enough);
      desk = (
        room.desk.0,
        (ap (λ (x : LaneShape Fixed Entry). x.fixed) made ∙ room.desk.1.0, (let enough = room.desk.1.1 in omega (arith, all, enough))),
      );
    }

pub idle_made : (table : TableId) (s w : LaneShape Fixed Entry) (next count : ℕ) → IsFirst table s → HasRoom s next count → 0 < count → w ≡ next_lane s →
    IsIdle table w next
idle_made table s w next count first room some is = record {
  table = ap (λ (x : LaneShape Fixed Entry). x.table) is ∙ first.table;
  number = ap (λ (x : LaneShape Fixed Entry). x.number) is ∙ ap Some room.made;
  out = ap (λ (x : LaneShape Fixed Entry). x.out) is;
  known = (
    room.desk.0,
    (ap (λ (x : LaneShape Fixed Entry). x.fixed) is ∙ room.desk.1.0, (let enough = room.desk.1.1 in omega (arith, enough, some))),
  );
}

starts_then : (xs ys zs : List (ℕ × Entry)) → StartsWith ys xs → StartsWith zs ys → StartsWith zs xs
starts_then xs ys zs first second = (first.0 ++ second.0, second.1 ∙ ap (λ l. l ++ second.0) first.1 ∙ append_assoc xs first.0 second.0)

pub one_joined : (table : TableId) (s t u v from : LaneShape Fixed Entry) (next count : ℕ) → 0 < count → t ≡ record s { made = s.made + 1 } →
    HasJoined t u (next + 1) (count - 1) → IsIdle table from next → v ≡ joined_lane u from → StartsWith v.seen u.seen →
    ((n : ℕ) → (from.number ≡ Some n) ⊎ Contains from.joined n → Contains v.joined n) → ((n : ℕ) → Contains u.joined n → Contains v.joined n) →
    HasJoined s v next count
one_joined table s t u v from next count some made later idle is begins counted kept = record {
  fixed = ap (λ (x : LaneShape Fixed Entry). x.fixed) is ∙ later.fixed ∙ ap (λ (x : LaneShape Fixed Entry). x.fixed) made;
  made = let two = ap (λ (x : LaneShape Fixed Entry). x.made) is in let one = later.made in omega (arith, one, two, some);
  those = λ n low high. dite (ℕ_discrete n next)
      (λ e. counted n (inl (idle.number ∙ ap Some (sym e))))
      (λ ne. kept n (later.those n (omega (arith, low, ne)) (omega (arith, high, some))));
  earlier = λ n has. kept n (later.earlier n (subst (λ xs. Contains xs n) (sym (ap (λ (x : LaneShape Fixed Entry). x.joined) made)) has));
  seen = starts_then s.seen u.seen v.seen (subst (StartsWith u.seen) (ap (λ (x : LaneShape Fixed Entry). x.seen) made) later.seen) begins;
}

-- ---- the whole table

pub first_room : (table : TableId) (s : LaneShape Fixed Entry) (d : DeskShape) (lanes : ℕ) → s ≡ first_lane table (fixed_of d) (tagged_of d) lanes →
    lanes ≡ d.lanes → HasRoom s 0 lanes
first_room table s d lanes is same = record {
  made = ap (λ (x : LaneShape Fixed Entry). x.made) is;
  table = let all = ap (λ (x : LaneShape Fixed Entry). x.lanes) is in omega (arith, all);
  desk = (fixed_of d, (ap (λ (x : LaneShape Fixed Entry). x.fixed) is, (omega (arith, same))));
}

pub whole_made : (table : TableId) (s t : LaneShape Fixed Entry) (d : DeskShape) (lanes : ℕ) → s ≡ first_lane table (fixed_of d) (tagged_of d) lanes →
    lanes ≡ d.lanes → HasJoined s t 0 lanes → HasMadeAll t
whole_made table s t d lanes is same joined =
    let made = joined.made in (fixed_of d, (joined.fixed ∙ ap (λ (x : LaneShape Fixed Entry). x.fixed) is, omega (arith, made, same)))

pub closed_grown : (table : TableId) (s t : LaneShape Fixed Entry) (d e : DeskShape) (lanes : ℕ) → s ≡ first_lane table (fixed_of d) (tagged_of d) lanes →
    HasJoined s t 0 lanes →
    Some (fixed_of e) ≡ t.fixed → tagged_of e ≡ t.seen → HasGrown d e
closed_grown table s t d e lanes is joined fixed list =
    grown_seen s d e
    (record { fixed = sym (ap (λ (x : LaneShape Fixed Entry). x.fixed) is); list = sym (ap (λ (x : LaneShape Fixed Entry). x.seen) is) })
    (fixed ∙ joined.fixed)
    (subst (λ l. StartsWith l s.seen) (sym list) joined.seen)
