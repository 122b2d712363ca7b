-- Replies whose numbers stand for something: users, roles and workflows of the policy, cases, and
-- steps and trees of the workflow that is concerned.
use Rattle.std.specs.Prelude.{◌≡◌, ℕ, ◌<◌, ◌≤◌, ◌^◌, List, length, Option, Some, IsTrue}
use Rattle.std.specs.List.{All}
use Rattle.wf_names.specs.Names.{is_name}
use Rattle.wf_names.specs.declared.limits.TheConstants.{STEP_LIMIT, CASE_NUMBER_LIMIT}
use Rattle.wf_names.specs.declared.states.StepState.{StepState}
use Rattle.wf_names.specs.declared.states.StepState.TheVariants.{Free, Held, Finished}
use Rattle.refutation_tree.specs.Tree.{Shape, Kids, holder, rule, node, no_kids, tree_kid}
use Rattle.refutation_tree.specs.Tree.{twin_kid}
use Rattle.refutation_tree.specs.Laws.Views.{shape_of}
use Rattle.wf_talk.specs.declared.request.Bad.{Bad}
use Rattle.wf_talk.specs.declared.request.Bad.TheVariants as bad
use Rattle.wf_talk.specs.declared.reply.Face.{Face}
use Rattle.wf_talk.specs.declared.reply.WorkItem.{WorkItem}
use Rattle.wf_talk.specs.declared.reply.Reply.{Reply}
use Rattle.wf_talk.specs.declared.reply.Reply.TheVariants as reply
use Rattle.wf_talk.specs.declared.reply.Denial.{Denial}
use Rattle.wf_talk.specs.declared.reply.Denial.TheVariants as denial
use Rattle.policy_book.specs.Laws.Shapes.{PolicyShape}
use Rattle.policy_book.specs.Policies.{flow_at}

-- a user, a role and a workflow of the policy, and a step of a workflow
abbrev pub IsUser : PolicyShape → ℕ → Type 0
IsUser p u = u < length p.roster.users

abbrev pub IsRole : PolicyShape → ℕ → Type 0
IsRole p r = r < length p.roster.roles

abbrev pub IsFlowNumber : PolicyShape → ℕ → Type 0
IsFlowNumber p f = f < length p.flow_names

abbrev pub IsStepOf : PolicyShape → ℕ → ℕ → Type 0
IsStepOf p f s = s < length (flow_at p f).flow.steps

-- the numbers that rules and cases may have
abbrev pub IsRule : ℕ → Type 0
IsRule k = k < 2 ^ 8

abbrev pub IsCase : ℕ → Type 0
IsCase c = c ≤ CASE_NUMBER_LIMIT

-- users of the policy, at most as many as a workflow may have steps
abbrev pub IsPlan : PolicyShape → List ℕ → Type 0
IsPlan p plan = (length plan ≤ STEP_LIMIT) × All (IsUser p) plan

abbrev mutual
  -- a tree over users of the policy and steps of a workflow
  pub IsTree : PolicyShape → ℕ → Shape → Type 0
  IsTree p f (holder s) = IsStepOf p f s
  IsTree p f (rule k) = IsRule k
  IsTree p f (node s kids) = IsStepOf p f s × AreKids p f kids

  pub AreKids : PolicyShape → ℕ → Kids → Type 0
  AreKids p f no_kids = Unit {0}
  AreKids p f (tree_kid u t kids) = IsUser p u × IsTree p f t × AreKids p f kids
  AreKids p f (twin_kid u v kids) = IsUser p u × IsUser p v × AreKids p f kids

-- a state of a step
abbrev pub IsState : PolicyShape → StepState → Type 0
IsState p Free = Unit {0}
IsState p (Held u) = IsUser p u
IsState p (Finished u) = IsUser p u

-- what is seen of a case: at most as many states as a workflow may have steps
abbrev pub IsFace : PolicyShape → Face → Type 0
IsFace p face = IsFlowNumber p face.flow × (length face.states ≤ STEP_LIMIT) ×
    All (IsState p) face.states

-- why a line is no request: a key has a name's form
abbrev pub IsBad : Bad → Type 0
IsBad bad.Syntax = Unit {0}
IsBad bad.Object = Unit {0}
IsBad bad.Do = Unit {0}
IsBad bad.Lane = Unit {0}
IsBad (bad.Key key) = IsTrue (is_name key)
IsBad bad.Extra = Unit {0}

-- the workflow that is concerned is the workflow `f`, which the policy has
abbrev pub IsConcerned : PolicyShape → Option ℕ → ℕ → Type 0
IsConcerned p concerned f = (concerned ≡ Some f) × IsFlowNumber p f

-- a denial: its step and its tree are of the workflow that is concerned; where an edit strands a
-- case, of the case's
abbrev pub IsDenial : PolicyShape → (ℕ → Option ℕ) → Option ℕ → Denial → Type 0
IsDenial p flows concerned denial.NoFlow = Unit {0}
IsDenial p flows concerned denial.Retired = Unit {0}
IsDenial p flows concerned denial.Full = Unit {0}
IsDenial p flows concerned (denial.Unsatisfiable f tree) = IsConcerned p concerned f ×
    IsTree p f (shape_of tree)
IsDenial p flows concerned denial.NoCase = Unit {0}
IsDenial p flows concerned denial.Closed = Unit {0}
IsDenial p flows concerned denial.NoStep = Unit {0}
IsDenial p flows concerned denial.NoUser = Unit {0}
IsDenial p flows concerned (denial.Taken u) = IsUser p u
IsDenial p flows concerned (denial.Order f s) = IsConcerned p concerned f × IsStepOf p f s
IsDenial p flows concerned (denial.Role roles) = All (IsRole p) roles
IsDenial p flows concerned (denial.Rule k) = IsRule k
IsDenial p flows concerned (denial.Stranded f tree) = IsConcerned p concerned f ×
    IsTree p f (shape_of tree)
IsDenial p flows concerned (denial.NotHeld state) = IsState p state
IsDenial p flows concerned denial.NotAdmin = Unit {0}
IsDenial p flows concerned (denial.Unknown what) = Unit {0}
IsDenial p flows concerned denial.Fixed = Unit {0}
IsDenial p flows concerned denial.Already = Unit {0}
IsDenial p flows concerned denial.Absent = Unit {0}
IsDenial p flows concerned denial.LastAdmin = Unit {0}
IsDenial p flows concerned (denial.Strands c f tree) =
    IsCase c × IsConcerned p (flows c) f × IsTree p f (shape_of tree)

-- a step of a work list: its workflow is that of the case
abbrev pub IsWorkItem : PolicyShape → (ℕ → Option ℕ) → WorkItem → Type 0
IsWorkItem p flows i = IsCase i.case × IsConcerned p (flows i.case) i.flow ×
    IsStepOf p i.flow i.step

-- a reply
abbrev pub IsReply : PolicyShape → (ℕ → Option ℕ) → Option ℕ → Reply → Type 0
IsReply p flows concerned (reply.Granted plan) = IsPlan p plan
IsReply p flows concerned (reply.Finished done) = Unit {0}
IsReply p flows concerned reply.Returned = Unit {0}
IsReply p flows concerned reply.Released = Unit {0}
IsReply p flows concerned (reply.Opened c plan) = IsCase c × IsPlan p plan
IsReply p flows concerned reply.Withdrawn = Unit {0}
IsReply p flows concerned (reply.Edited n) = n < 2 ^ 32
IsReply p flows concerned (reply.Shown face) = IsFace p face
IsReply p flows concerned (reply.Work items) = All (IsWorkItem p flows) items
IsReply p flows concerned (reply.WhatIf cases) = All IsCase cases
IsReply p flows concerned (reply.Denied d) = IsDenial p flows concerned d
IsReply p flows concerned (reply.Again rounds number) = (rounds < 2 ^ 8) × (number < 2 ^ 32)
IsReply p flows concerned reply.NoMemory = Unit {0}
IsReply p flows concerned (reply.Bad b) = IsBad b
