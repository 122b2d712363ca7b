-- Names in the jobs behind what was cut before.
use Rattle.std.specs.Prelude.{ℕ, Bool, List}
use Rattle.line_reader.specs.Jobs.{Cut, jobs_from}
use Rattle.line_reader.specs.Laws.{AreNamedJobs}

-- whatever is read behind what was cut before, the jobs' names have a name's form, where those of
-- the jobs before have
abbrev pub JobsStayNamed : Type 0
JobsStayNamed = (c : Cut) (bytes : List ℕ) (ended : Bool) → AreNamedJobs c.jobs →
    AreNamedJobs (jobs_from c bytes ended).jobs
