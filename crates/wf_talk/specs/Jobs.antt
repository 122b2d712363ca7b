-- What the jobs of a session meet.
use Rattle.std.specs.Prelude.{ℕ, ◌<◌, List, [], ◌∷◌, IsTrue}
use Rattle.wf_names.specs.Names.{is_name}
use Rattle.wf_talk.specs.declared.job.Job.{Job}
use Rattle.wf_talk.specs.declared.request.Ask.{Ask}
use Rattle.wf_talk.specs.declared.request.Ask.TheVariants as ask
use Rattle.wf_talk.specs.declared.request.Bad.{Bad}
use Rattle.wf_talk.specs.declared.request.Bad.TheVariants as bad

-- each job is of one of the lanes
abbrev pub AreOfLanes : ℕ → List Job → Type 0
AreOfLanes lanes [] = Unit {0}
AreOfLanes lanes (job ∷ jobs) = (job.lane < lanes) × AreOfLanes lanes jobs

-- the key that a bad line lacks has the form of a name
abbrev pub IsNamedBad : Bad → Type 0
IsNamedBad (bad.Key key) = IsTrue (is_name key)
IsNamedBad b = Unit {0}

abbrev pub IsNamedAsk : Ask → Type 0
IsNamedAsk (ask.Bad b) = IsNamedBad b
IsNamedAsk (ask.Request request) = Unit {0}
