-- What is written for the parts of an entry, with the names of users, roles and steps.
use Rattle.std.specs.Prelude.{ℕ, List, [], ◌∷◌, codes, map, slice_index_or}
use Rattle.serde_json.specs.Data.{Data, string, array, object, no_members, member}
use Rattle.serde_json.specs.View.{items_of}
use Rattle.wf_names.specs.declared.states.StepState.{StepState}
use Rattle.wf_names.specs.declared.states.StepState.TheVariants.{Free, Held, Finished}
use Rattle.wf_names.specs.declared.states.Phase.{Phase}
use Rattle.wf_names.specs.declared.states.Phase.TheVariants.{Live, Done, Withdrawn}
use Rattle.wf_talk.specs.declared.request.Bad.{Bad}
use Rattle.wf_talk.specs.declared.request.Bad.TheVariants as bad
use Rattle.policy_book.specs.Laws.Shapes.{PolicyShape}
use Rattle.policy_book.specs.Policies.{flow_at}

-- a word, as text
abbrev pub word : List ℕ → Data
word w = string w

-- an object with one key
abbrev pub single : List ℕ → Data → Data
single key d = object (member key d no_members)

-- the name with a number, as text
abbrev pub named : List (List ℕ) → ℕ → Data
named names n = string (slice_index_or names n [])

-- a user's name
abbrev pub user_data : PolicyShape → ℕ → Data
user_data p u = named p.roster.users u

-- the name of a step of a workflow
abbrev pub step_data : PolicyShape → ℕ → ℕ → Data
step_data p f s = named (flow_at p f).flow.steps s

-- the names with some numbers, in order
abbrev pub names_data : List (List ℕ) → List ℕ → Data
names_data names ns = array (items_of (map (named names) ns))

-- the names of a plan's users, in the order of the steps
abbrev pub plan_data : List (List ℕ) → List ℕ → Data
plan_data users plan = names_data users plan

-- where a step stands
abbrev pub state_data : PolicyShape → StepState → Data
state_data p Free = word (codes "free")
state_data p (Held u) = single (codes "held") (user_data p u)
state_data p (Finished u) = single (codes "finished") (user_data p u)

-- where a step stands, as a view shows it
abbrev pub seen_data : PolicyShape → StepState → Data
seen_data p Free = array (items_of (word (codes "free") ∷ []))
seen_data p (Held u) = array (items_of (word (codes "held") ∷ user_data p u ∷ []))
seen_data p (Finished u) = array (items_of (word (codes "finished") ∷ user_data p u ∷ []))

-- where a case stands
abbrev pub phase_data : Phase → Data
phase_data Live = word (codes "open")
phase_data Done = word (codes "done")
phase_data Withdrawn = word (codes "withdrawn")

-- why a line is no request
abbrev pub bad_data : Bad → Data
bad_data bad.Syntax = word (codes "syntax")
bad_data bad.Object = word (codes "object")
bad_data bad.Do = word (codes "do")
bad_data bad.Lane = word (codes "lane")
bad_data (bad.Key key) = single (codes "key") (string key)
bad_data bad.Extra = word (codes "extra")
