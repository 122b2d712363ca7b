-- A desk at a turn table: what no turn changes of it, and what turns append.
use Rattle.std.specs.Prelude.{ℕ, List, map}
use Rattle.wf_talk.specs.declared.entry.Entry.{Entry}
use Rattle.wf_desk.specs.declared.tabled.Fixed.{Fixed}
use Rattle.wf_desk.specs.Desks.{DeskShape}

-- what no turn changes: the policy at the beginning, the lanes, the rounds, the jobs of the batches
-- before and of the batch, how many entries there were when they came, and how many were taken up
abbrev pub fixed_of : DeskShape → Fixed
fixed_of d = record {
  opening = d.opening;
  lanes = d.lanes;
  rounds = d.rounds;
  earlier = d.earlier;
  jobs = d.jobs;
  start = d.start;
  restored = d.restored;
}

-- each entry with its lane
abbrev pub tagged : List Entry → List (ℕ × Entry)
tagged entries = map (λ e. (e.lane, e)) entries

-- what turns append: entries, each with its lane
abbrev pub tagged_of : DeskShape → List (ℕ × Entry)
tagged_of d = tagged d.entries
