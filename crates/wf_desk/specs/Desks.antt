-- The desk: one history, the state after it, and the jobs of a batch.
use Rattle.std.specs.Prelude.{◌≡◌, ℕ, ◌+◌, ◌-◌, ◌≤◌, List, [], ◌∷◌, ◌++◌, length, take, drop, map}
use Rattle.std.specs.Prelude.{replicate, slice_get, slice_index_or, slice_set, Option, None}
use Rattle.std.specs.Prelude.{OnErr, OnOk, Result}
use Rattle.std.specs.declared.alloc.AllocError.{AllocError}
use Rattle.wf_names.specs.declared.limits.TheConstants.{LANE_LIMIT}
use Rattle.policy_book.specs.Laws.Shapes.{PolicyShape}
use Rattle.wf_talk.specs.declared.entry.Entry.{Entry}
use Rattle.wf_talk.specs.declared.job.Job.{Job}
use Rattle.wf_talk.specs.declared.reply.Reply.{Reply}
use Rattle.wf_talk.specs.declared.reply.Reply.TheVariants.{NoMemory}
pub use Rattle.wf_talk.specs.Jobs.{AreOfLanes}
use Rattle.wf_board.specs.Boards.{BoardShape, state_on}
use Rattle.wf_board.specs.Laws.States.{State, opening_state}
use Rattle.wf_board.specs.Laws.Histories.{AreRightful, EachAfter, IsLegal, RestsFrom, job_of_entry}
use Rattle.wf_board.specs.Laws.Histories.{lane_jobs, state_after}
use Rattle.wf_desk.specs.declared.loss.Loss.{Loss}

-- the policy at the beginning, how many lanes there are, after how many lost rounds a request is
-- answered again, the board, the entries so far with the room that is left for more, the jobs of
-- the batches before, the jobs of the batch, how many entries there were when they came, how many
-- it began with, taken up from an earlier session, and for each lane how its next job was lost
pub record DeskShape : Type 0 where
  pub opening : PolicyShape
  pub lanes : ℕ
  pub rounds : ℕ
  pub board : BoardShape
  pub entries : List Entry
  pub spare : ℕ
  pub earlier : List Job
  pub jobs : List Job
  pub start : ℕ
  pub restored : ℕ
  pub losses : List Loss

-- the state after the first n entries
abbrev pub state_after_first : DeskShape → ℕ → State
state_after_first d n = state_after (opening_state d.opening) (take n d.entries)

-- all jobs that it was given, in order
abbrev pub jobs_told : DeskShape → List Job
jobs_told d = d.earlier ++ d.jobs

-- a lane's jobs that the entries from a place on answer
abbrev pub served_jobs : ℕ → List Entry → ℕ → List Job
served_jobs start entries lane = lane_jobs lane (map job_of_entry (drop start entries))

-- a lane's jobs of the batch that are answered
abbrev pub served : DeskShape → ℕ → List Job
served d lane = served_jobs d.start d.entries lane

-- how many jobs a lane has left
abbrev pub left_of : DeskShape → ℕ → ℕ
left_of d lane = length (lane_jobs lane d.jobs) - length (served d lane)

-- a lane's next job, if it has one left
abbrev pub next_job : DeskShape → ℕ → Option Job
next_job d lane = slice_get (lane_jobs lane d.jobs) (length (served d lane))

-- no lane has a job left
abbrev pub IsDone : DeskShape → Type 0
IsDone d = (lane : ℕ) → next_job d lane ≡ None

-- what the type of a desk keeps: the entries are a legal history, and the board shows the state
-- after it; each lane's entries of the batch answer its first jobs, in order; what is answered
-- again rests on entries of the batch; of the entries that were not taken up, only an opening, a
-- claim, an edit or a view over the open cases is answered with want of memory, and none shows a
-- tree that is too large; and there is room for a case for each job that is left
pub record IsSoundDesk (d : DeskShape) : Type 0 where
  pub legal : IsLegal (opening_state d.opening) d.rounds d.entries
  pub state : state_on d.board ≡ state_after (opening_state d.opening) d.entries
  pub begun : d.start ≤ length d.entries
  pub front : (lane : ℕ) → served d lane ≡ take (length (served d lane)) (lane_jobs lane d.jobs)
  pub rests : EachAfter (RestsFrom d.start) (take d.start d.entries) (drop d.start d.entries)
  pub kept : d.restored ≤ length d.entries
  pub wants : AreRightful (drop d.restored d.entries)
  pub room : d.start + length d.jobs ≤ length d.entries + d.board.cases.spare

-- a lane's next job was not lost so far
abbrev pub no_loss : Loss
no_loss = record { count = 0; end = 0 }

-- how a lane's next job was lost
abbrev pub loss_of : List Loss → ℕ → Loss
loss_of losses lane = slice_index_or losses lane no_loss

-- with room for `spare` more entries in the journal, and for `cases` more cases in their table
abbrev pub with_room : DeskShape → ℕ → ℕ → DeskShape
with_room d spare cases = record d
    { spare = spare; board = record d.board { cases = record d.board.cases { spare = cases } } }

-- there is room for n more entries, and for n more cases
pub record HasRoomFor (n : ℕ) (d : DeskShape) : Type 0 where
  pub entries : n ≤ d.spare
  pub cases : n ≤ d.board.cases.spare

-- the first n entries aside, those of a batch answer its first jobs lane by lane, and what is
-- answered again rests on them
pub record AnswersPart (entries : List Entry) (n : ℕ) (jobs : List Job) : Type 0 where
  pub begun : n ≤ length entries
  pub front : (lane : ℕ) → served_jobs n entries lane ≡ take
      (length (served_jobs n entries lane)) (lane_jobs lane jobs)
  pub rests : EachAfter (RestsFrom n) (take n entries) (drop n entries)

-- with the jobs of a batch, whose entries begin at a place, behind all that were given before
abbrev pub with_batch_from : DeskShape → List Job → ℕ → DeskShape
with_batch_from d jobs n = record d {
  earlier = jobs_told d;
  jobs = jobs;
  start = n;
  losses = replicate LANE_LIMIT no_loss;
}

-- the jobs of a batch whose entries begin at a place are taken, with room for as many entries and
-- cases; without memory nothing but the room changes; and there is no less room than before
pub record HasTakenBatch (before after : DeskShape) (jobs : List Job) (from : ℕ)
    (result : Result (Unit {0}) AllocError) : Type 0 where
  pub loaded : OnOk result (after
      ≡ with_room (with_batch_from before jobs from) after.spare after.board.cases.spare)
  pub unchanged : OnErr result (after ≡ with_room before after.spare after.board.cases.spare)
  pub kept : before.spare ≤ after.spare
  pub room : before.board.cases.spare ≤ after.board.cases.spare
  pub whole : OnOk result (HasRoomFor (length jobs) after)

-- a desk before its first job, with these entries, the board after them, and room for `spare` more
abbrev pub desk_with : PolicyShape → ℕ → ℕ → BoardShape → List Entry → ℕ → DeskShape
desk_with p lanes rounds board entries spare = record {
  opening = p;
  lanes = lanes;
  rounds = rounds;
  board = board;
  entries = entries;
  spare = spare;
  earlier = [];
  jobs = [];
  start = length entries;
  restored = length entries;
  losses = replicate LANE_LIMIT no_loss;
}

-- there is one more entry, at this place: it answers a job with such a reply, and the job's lane
-- goes on to its next; want of memory leaves the board as it was
pub record HasAdded (before after : DeskShape) (job : Job) (place : ℕ) (Is : Reply → Type 0) :
    Type 0 where
  pub entry : Entry
  pub last : place ≡ length before.entries
  pub stands : entry.at ≡ place
  pub answers : job_of_entry entry ≡ job
  pub reply : Is entry.reply
  pub lacking : entry.reply ≡ NoMemory → after.board ≡ before.board
  pub added : after.entries ≡ before.entries ++ entry ∷ []
  pub opening : after.opening ≡ before.opening
  pub lanes : after.lanes ≡ before.lanes
  pub rounds : after.rounds ≡ before.rounds
  pub earlier : after.earlier ≡ before.earlier
  pub jobs : after.jobs ≡ before.jobs
  pub start : after.start ≡ before.start
  pub restored : after.restored ≡ before.restored
  pub losses : after.losses ≡ slice_set before.losses job.lane no_loss
