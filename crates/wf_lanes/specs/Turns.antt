-- What became of a desk whose jobs were served by turns.
use Rattle.std.specs.Prelude.{ℕ, ◌+◌, ◌-◌, ◌≤◌, nat_eq, List, [], length, count_by}
use Rattle.wf_talk.specs.declared.entry.Entry.{Entry}
use Rattle.wf_board.specs.Laws.Histories.{AreAnsweredOnce, EachAfter}
use Rattle.wf_desk.specs.Desks.{DeskShape}
use Rattle.wf_desk.specs.Schedules.{HasGrown}

-- jobs of a desk were served: their entries stand behind those before, and none of them is answered
-- again
pub record HasServedOn (before after : DeskShape) : Type 0 where
  pub grown : HasGrown before after
  pub once : AreAnsweredOnce grown.more

-- how many turns a lane has had: how many of these entries are its
abbrev pub turns_of : ℕ → List Entry → ℕ
turns_of lane entries = count_by (λ e. nat_eq e.lane lane) entries

-- an entry comes in its lane's turn after the earlier ones: no lane is more than one turn ahead of
-- it, and no later lane is ahead at all
pub record IsInTurn (earlier : List Entry) (e : Entry) : Type 0 where
  pub ahead : (lane : ℕ) → turns_of lane earlier ≤ turns_of e.lane earlier + 1
  pub later : (lane : ℕ) → e.lane ≤ lane → turns_of lane earlier ≤ turns_of e.lane earlier

-- each of these entries does: the first of each lane come in the order of the lanes, then the
-- second of each, and so on
abbrev pub AreByTurns : List Entry → Type 0
AreByTurns entries = EachAfter IsInTurn [] entries

-- jobs of a desk were served by turns
pub record HasServedByTurns (before after : DeskShape) : Type 0 where
  pub on : HasServedOn before after
  pub turns : AreByTurns on.grown.more

-- how many jobs of the batch have no entry yet
abbrev pub left_at : DeskShape → ℕ
left_at d = d.start + length d.jobs - length d.entries
