-- What is written for an entry, with its reply.
use Rattle.std.specs.Prelude.{ℕ, List, [], ◌∷◌, ◌++◌, codes, map}
use Rattle.serde_json.specs.Data.{Data, boolean, number, unsigned, array, object, no_members}
use Rattle.serde_json.specs.Data.{member}
use Rattle.serde_json.specs.View.{items_of}
use Rattle.serde_json.specs.Written.{compact_text}
use Rattle.refutation_tree.specs.Laws.Views.{shape_of}
use Rattle.wf_talk.specs.declared.entry.Entry.{Entry}
use Rattle.wf_talk.specs.declared.reply.Reply.{Reply}
use Rattle.wf_talk.specs.declared.reply.Reply.TheVariants as reply
use Rattle.wf_talk.specs.declared.reply.Face.{Face}
use Rattle.wf_talk.specs.declared.reply.WorkItem.{WorkItem}
use Rattle.wf_talk.specs.declared.reply.Denial.{Denial}
use Rattle.wf_talk.specs.declared.reply.Denial.TheVariants as denial
use Rattle.wf_talk.specs.declared.edit.Missing.{Missing}
use Rattle.wf_talk.specs.declared.edit.Missing.TheVariants.{Flow, Step, Relation, User, Role}
use Rattle.policy_book.specs.Laws.Shapes.{PolicyShape}
use Rattle.wire_json.specs.Entries.{word, single, named, names_data, user_data, step_data}
use Rattle.wire_json.specs.Entries.{plan_data, state_data, seen_data, phase_data, bad_data}
use Rattle.wire_json.specs.Trees.{tree_data}

-- of which kind nothing has the name that an edit gives
abbrev pub missing_data : Missing → Data
missing_data Flow = word (codes "flow")
missing_data Step = word (codes "step")
missing_data Relation = word (codes "relation")
missing_data User = word (codes "user")
missing_data Role = word (codes "role")

-- the case that an edit would strand, with the tree
abbrev pub strands_data : ℕ → Data → Data
strands_data c tree =
    object (member (codes "case") (number (unsigned c)) (member (codes "tree") tree no_members))

-- why a request was denied
abbrev pub denial_data : PolicyShape → Denial → Data
denial_data p denial.NoFlow = word (codes "no_flow")
denial_data p denial.Retired = word (codes "retired")
denial_data p denial.Full = word (codes "full")
denial_data p (denial.Unsatisfiable f tree) =
    single (codes "unsatisfiable") (tree_data p f (shape_of tree))
denial_data p denial.NoCase = word (codes "no_case")
denial_data p denial.Closed = word (codes "closed")
denial_data p denial.NoStep = word (codes "no_step")
denial_data p denial.NoUser = word (codes "no_user")
denial_data p (denial.Taken u) = single (codes "taken") (user_data p u)
denial_data p (denial.Order f s) = single (codes "order") (step_data p f s)
denial_data p (denial.Role roles) = single (codes "role") (names_data p.roster.roles roles)
denial_data p (denial.Rule k) = single (codes "rule") (number (unsigned k))
denial_data p (denial.Stranded f tree) = single (codes "stranded") (tree_data p f (shape_of tree))
denial_data p (denial.NotHeld state) = single (codes "not_held") (state_data p state)
denial_data p denial.NotAdmin = word (codes "not_admin")
denial_data p (denial.Unknown what) = single (codes "unknown") (missing_data what)
denial_data p denial.Fixed = word (codes "fixed")
denial_data p denial.Already = word (codes "already")
denial_data p denial.Absent = word (codes "absent")
denial_data p denial.LastAdmin = word (codes "last_admin")
denial_data p (denial.Strands c f tree) =
    single (codes "strands") (strands_data c (tree_data p f (shape_of tree)))

-- the case and the plan of an opened case
abbrev pub opened_data : PolicyShape → ℕ → List ℕ → Data
opened_data p c plan =
    object (member (codes "case") (number (unsigned c))
    (member (codes "plan") (plan_data p.roster.users plan) no_members))

-- what is to be seen of a case
abbrev pub face_data : PolicyShape → Face → Data
face_data p face = object
    (member (codes "flow") (named p.flow_names face.flow)
    (member (codes "phase") (phase_data face.phase)
    (member (codes "steps") (array (items_of (map (seen_data p) face.states))) no_members)))

-- in how many rounds no decision was made, and the entry at which the last one was lost
abbrev pub again_data : ℕ → ℕ → Data
again_data rounds at =
    object (member (codes "at") (number (unsigned at))
    (member (codes "rounds") (number (unsigned rounds)) no_members))

-- a step of a work list, with the number of its case before it
abbrev pub work_data : PolicyShape → WorkItem → Data
work_data p i = array (items_of (number (unsigned i.case) ∷ step_data p i.flow i.step ∷ []))

-- the numbers of cases, in order
abbrev pub cases_data : List ℕ → Data
cases_data cases = array (items_of (map (λ c. number (unsigned c)) cases))

-- a reply
abbrev pub reply_data : PolicyShape → Reply → Data
reply_data p (reply.Granted plan) =
    single (codes "granted") (single (codes "plan") (plan_data p.roster.users plan))
reply_data p (reply.Finished done) =
    single (codes "finished") (single (codes "done") (boolean done))
reply_data p reply.Returned = word (codes "returned")
reply_data p reply.Released = word (codes "released")
reply_data p (reply.Opened c plan) = single (codes "opened") (opened_data p c plan)
reply_data p reply.Withdrawn = word (codes "withdrawn")
reply_data p (reply.Edited n) =
    single (codes "edited") (single (codes "number") (number (unsigned n)))
reply_data p (reply.Shown face) = single (codes "view") (face_data p face)
reply_data p (reply.Work items) =
    single (codes "worklist") (array (items_of (map (work_data p) items)))
reply_data p (reply.WhatIf cases) = single (codes "what_if") (cases_data cases)
reply_data p (reply.Denied d) = single (codes "denied") (denial_data p d)
reply_data p (reply.Again rounds at) = single (codes "again") (again_data rounds at)
reply_data p reply.NoMemory = word (codes "no_memory")
reply_data p (reply.Bad b) = single (codes "bad") (bad_data b)

-- an entry: its place, its lane, its line and the reply
abbrev pub entry_data : PolicyShape → Entry → Data
entry_data p e = object
    (member (codes "at") (number (unsigned e.at))
    (member (codes "lane") (number (unsigned e.lane))
    (member (codes "line") (number (unsigned e.line))
    (member (codes "reply") (reply_data p e.reply) no_members))))

-- the text of an entry: JSON without blanks, and LF
unfoldable pub entry_text : PolicyShape → Entry → List ℕ
entry_text p e = compact_text (entry_data p e) ++ 10 ∷ []
