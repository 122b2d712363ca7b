-- The law of turns.
use Rattle.std.specs.Prelude.{◌≡◌, ℕ, List, map}
use Rattle.wf_talk.specs.declared.entry.Entry.{Entry}
use Rattle.wf_board.specs.Laws.Histories.{job_of_entry, lane_jobs}
use Rattle.wf_lanes.specs.Turns.{AreByTurns}

-- entries that come by turns answer jobs in one order: where each lane's jobs are the same, all are
abbrev pub HaveTurnsOneOrder : Type 0
HaveTurnsOneOrder =
    (xs ys : List Entry) → AreByTurns xs → AreByTurns ys
    → ((lane : ℕ) → lane_jobs lane (map job_of_entry xs) ≡ lane_jobs lane (map job_of_entry ys))
    → map job_of_entry xs ≡ map job_of_entry ys
