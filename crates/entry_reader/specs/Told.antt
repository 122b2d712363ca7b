-- Inside: what the values of replies and entries read as.
use Rattle.std.specs.Prelude.{ℕ, ◌+◌, ◌^◌, nat_lt, List, [], ◌∷◌, length, codes, Bool, Option, None}
use Rattle.std.specs.Prelude.{Some, option_map, option_and_then, if◌then◌else◌}
use Rattle.serde_json.specs.Data.{Data}
use Rattle.serde_json.specs.Find.{get, as_bool, as_str, as_array}
use Rattle.wf_names.specs.declared.limits.TheConstants.{CASE_NUMBER_LIMIT}
use Rattle.wf_names.specs.declared.states.StepState.{StepState}
use Rattle.wf_names.specs.declared.states.Phase.{Phase}
use Rattle.wf_names.specs.declared.states.Phase.TheVariants.{Live, Done, Withdrawn}
use Rattle.refutation_tree.specs.Tree.{Shape, holder, rule, node}
use Rattle.refutation_tree.specs.declared.tree.Tree.{Tree}
use Rattle.refutation_tree.specs.declared.tree.Tree.TheVariants as tree
use Rattle.wf_talk.specs.declared.edit.Missing.{Missing}
use Rattle.wf_talk.specs.declared.edit.Missing.TheVariants as missing
use Rattle.wf_talk.specs.declared.entry.Entry.{Entry}
use Rattle.wf_talk.specs.declared.request.Ask.{Ask}
use Rattle.wf_talk.specs.declared.request.Bad.{Bad}
use Rattle.wf_talk.specs.declared.request.Bad.TheVariants as bad
use Rattle.wf_talk.specs.declared.reply.Face.{Face}
use Rattle.wf_talk.specs.declared.reply.WorkItem.{WorkItem}
use Rattle.wf_talk.specs.declared.reply.Reply.{Reply}
use Rattle.wf_talk.specs.declared.reply.Reply.TheVariants as reply
use Rattle.wf_talk.specs.declared.reply.Denial.{Denial}
use Rattle.wf_talk.specs.declared.reply.Denial.TheVariants as denial
use Rattle.policy_book.specs.Laws.Shapes.{PolicyShape}
use Rattle.wire_json.specs.Values.{value_of}
use Rattle.entry_reader.specs.declared.kind.ReplyKind.{ReplyKind}
use Rattle.entry_reader.specs.declared.kind.ReplyKind.TheVariants as told
use Rattle.entry_reader.specs.declared.kind.DenialKind.{DenialKind}
use Rattle.entry_reader.specs.declared.kind.DenialKind.TheVariants as why
use Rattle.entry_reader.specs.Places.{number_below, place_read}
use Rattle.entry_reader.specs.Laws.Lines.{concerned, entry_at}
use Rattle.entry_reader.specs.Values.{row_read, or_next, only_member, at_key, below, name_read}
use Rattle.entry_reader.specs.Values.{number_read, user_read, step_read, each_read, few_read}
use Rattle.entry_reader.specs.Values.{pair_parts, tree_in}
use Rattle.entry_reader.specs.Values.{state_read, seen_read}

-- ---- words

abbrev pub phases : List (List ℕ × Phase)
phases = (codes "open", Live) ∷ (codes "done", Done) ∷ (codes "withdrawn", Withdrawn) ∷ []

abbrev pub bad_words : List (List ℕ × Bad)
bad_words =
    (codes "syntax", bad.Syntax) ∷ (codes "object", bad.Object) ∷ (
      codes "do",
      bad.Do,
    ) ∷ (codes "lane", bad.Lane)
    ∷ (codes "extra", bad.Extra) ∷ []

abbrev pub missing_words : List (List ℕ × Missing)
missing_words =
    (codes "flow", missing.Flow) ∷ (codes "step", missing.Step) ∷ (
      codes "relation",
      missing.Relation,
    )
    ∷ (codes "user", missing.User) ∷ (codes "role", missing.Role) ∷ []

-- the denials that are a word alone
abbrev pub denial_words : List (List ℕ × Denial)
denial_words =
    (codes "no_flow", denial.NoFlow) ∷ (codes "retired", denial.Retired) ∷ (
      codes "full",
      denial.Full,
    )
    ∷ (codes "no_case", denial.NoCase) ∷ (codes "closed", denial.Closed) ∷ (
      codes "no_step",
      denial.NoStep,
    )
    ∷ (codes "no_user", denial.NoUser) ∷ (codes "not_admin", denial.NotAdmin) ∷ (
      codes "fixed",
      denial.Fixed,
    )
    ∷ (codes "already", denial.Already) ∷ (codes "absent", denial.Absent) ∷ (
      codes "last_admin",
      denial.LastAdmin,
    ) ∷ []

-- the keys of the denials that tell more
abbrev pub denial_kinds : List (List ℕ × DenialKind)
denial_kinds =
    (codes "unsatisfiable", why.Unsatisfiable) ∷ (codes "taken", why.Taken) ∷ (
      codes "order",
      why.Order,
    )
    ∷ (codes "role", why.Role) ∷ (codes "rule", why.Rule) ∷ (codes "stranded", why.Stranded)
    ∷ (codes "not_held", why.NotHeld) ∷ (codes "unknown", why.Unknown) ∷ (
      codes "strands",
      why.Strands,
    ) ∷ []

-- the replies that are a word alone
abbrev pub reply_words : List (List ℕ × Reply)
reply_words =
    (codes "returned", reply.Returned) ∷ (
      codes "released",
      reply.Released,
    ) ∷ (codes "withdrawn", reply.Withdrawn)
    ∷ (codes "no_memory", reply.NoMemory) ∷ []

-- the keys of the replies that tell more
abbrev pub reply_kinds : List (List ℕ × ReplyKind)
reply_kinds =
    (codes "granted", told.Granted) ∷ (codes "finished", told.Finished) ∷ (
      codes "opened",
      told.Opened,
    )
    ∷ (codes "edited", told.Edited) ∷ (codes "view", told.Shown) ∷ (codes "worklist", told.Work)
    ∷ (codes "what_if", told.WhatIf) ∷ (codes "denied", told.Denied) ∷ (
      codes "again",
      told.Again,
    ) ∷ (codes "bad", told.Bad) ∷ []

-- ---- denials

-- the tree that pure data is
abbrev pub tree_from : Shape → Tree
tree_from (holder s) = tree.Holder s
tree_from (rule k) = tree.Rule k
tree_from (node s kids) = tree.Step s kids

-- a workflow of the policy
abbrev pub flow_within : PolicyShape → Option ℕ → Option ℕ
flow_within p f = option_and_then (λ n. if nat_lt n (length p.flow_names) then Some n else None) f

-- a workflow of the policy, with the tree over it, or with a step of it
abbrev pub tree_by : PolicyShape → Option ℕ → Data → Option (ℕ × Tree)
tree_by p f d =
    option_and_then (λ n. option_map (λ t. (n, tree_from t)) (tree_in p n d)) (flow_within p f)

abbrev pub step_by : PolicyShape → Option ℕ → Data → Option (ℕ × ℕ)
step_by p f d = option_and_then (λ n. option_map (λ s. (n, s)) (step_read p n d)) (flow_within p f)

abbrev pub case_read : Data → Option ℕ
case_read d = number_below (CASE_NUMBER_LIMIT + 1) (codes "case") d

-- a case with the tree over its workflow
abbrev pub strands_read : PolicyShape → (ℕ → Option ℕ) → Data → Option Denial
strands_read p flows d =
    option_and_then (λ c. option_and_then (λ x. option_map (λ t. denial.Strands c t.0 t.1)
    (tree_by p (flows c) x)) (get (codes "tree") d)) (case_read d)

abbrev pub missing_read : Data → Option Missing
missing_read d = option_and_then (row_read missing_words) (as_str d)

abbrev pub roles_read : PolicyShape → Data → Option (List ℕ)
roles_read p d = option_and_then (each_read (number_read p.roster.roles)) (as_array d)

-- a denial by its kind, where reading it takes no memory
abbrev pub short_denial : PolicyShape → Option ℕ → DenialKind → Data → Option Denial
short_denial p f why.Unsatisfiable d = None
short_denial p f why.Taken d = option_map denial.Taken (user_read p d)
short_denial p f why.Order d = option_map (λ s. denial.Order s.0 s.1) (step_by p f d)
short_denial p f why.Role d = None
short_denial p f why.Rule d = option_map denial.Rule (below 256 d)
short_denial p f why.Stranded d = None
short_denial p f why.NotHeld d = option_map denial.NotHeld (state_read p d)
short_denial p f why.Unknown d = option_map denial.Unknown (missing_read d)
short_denial p f why.Strands d = None

-- a denial by its kind
abbrev pub denial_by : PolicyShape → (ℕ → Option ℕ) → Option ℕ → DenialKind → Data → Option Denial
denial_by p flows f why.Unsatisfiable d =
    option_map (λ t. denial.Unsatisfiable t.0 t.1) (tree_by p f d)
denial_by p flows f why.Taken d = short_denial p f why.Taken d
denial_by p flows f why.Order d = short_denial p f why.Order d
denial_by p flows f why.Role d = option_map denial.Role (roles_read p d)
denial_by p flows f why.Rule d = short_denial p f why.Rule d
denial_by p flows f why.Stranded d = option_map (λ t. denial.Stranded t.0 t.1) (tree_by p f d)
denial_by p flows f why.NotHeld d = short_denial p f why.NotHeld d
denial_by p flows f why.Unknown d = short_denial p f why.Unknown d
denial_by p flows f why.Strands d = strands_read p flows d

unfoldable pub denial_read : PolicyShape → (ℕ → Option ℕ) → Option ℕ → Data → Option Denial
denial_read p flows f d =
    or_next (option_and_then (row_read denial_words) (as_str d))
    (option_and_then (λ m. option_and_then (λ kind. denial_by p flows f kind m.1)
    (row_read denial_kinds m.0)) (only_member d))

-- ---- replies

abbrev pub plan_read : PolicyShape → Data → Option (List ℕ)
plan_read p d = at_key (few_read (user_read p)) (codes "plan") d

abbrev pub opened_read : PolicyShape → Data → Option Reply
opened_read p d = option_and_then (λ c. option_map (reply.Opened c) (plan_read p d)) (case_read d)

abbrev pub states_read : PolicyShape → Data → Option (List StepState)
states_read p d = at_key (few_read (seen_read p)) (codes "steps") d

abbrev pub phase_read : Data → Option Phase
phase_read d = at_key (λ x. option_and_then (row_read phases) (as_str x)) (codes "phase") d

abbrev pub flow_read : PolicyShape → Data → Option ℕ
flow_read p d = at_key (number_read p.flow_names) (codes "flow") d

abbrev pub face_read : PolicyShape → Data → Option Face
face_read p d =
    option_and_then (λ f.
    option_and_then (λ phase.
    option_map (λ states. record { flow = f; phase = phase; states = states })
    (states_read p d))
    (phase_read d))
    (flow_read p d)

-- the number of a case
abbrev pub number_of_case : Data → Option ℕ
number_of_case d = below (CASE_NUMBER_LIMIT + 1) d

-- the number of a case, and a step of its workflow
abbrev pub item_read : PolicyShape → (ℕ → Option ℕ) → Data → Option WorkItem
item_read p flows d =
    option_and_then (λ m.
    option_and_then (λ c.
    option_map (λ s. record { case = c; flow = s.0; step = s.1 })
    (step_by p (flows c) m.1))
    (number_of_case m.0))
    (pair_parts d)

abbrev pub work_read : PolicyShape → (ℕ → Option ℕ) → Data → Option (List WorkItem)
work_read p flows d = option_and_then (each_read (item_read p flows)) (as_array d)

abbrev pub cases_read : Data → Option (List ℕ)
cases_read d = option_and_then (each_read number_of_case) (as_array d)

abbrev pub again_read : Data → Option Reply
again_read d =
    option_and_then (λ number. option_map (λ rounds. reply.Again rounds number)
    (number_below 256 (codes "rounds") d))
    (number_below (2 ^ 32) (codes "at") d)

abbrev pub key_read : Data → Option (List ℕ)
key_read d = at_key name_read (codes "key") d

abbrev pub bad_read : Data → Option Bad
bad_read d =
    or_next (option_and_then (row_read bad_words) (as_str d)) (option_map bad.Key (key_read d))

abbrev pub done_read : Data → Option Bool
done_read d = at_key as_bool (codes "done") d

-- a reply by its kind, where reading it takes no memory
abbrev pub short_reply : ReplyKind → Data → Option Reply
short_reply told.Granted d = None
short_reply told.Finished d = option_map reply.Finished (done_read d)
short_reply told.Opened d = None
short_reply told.Edited d = option_map reply.Edited (number_below (2 ^ 32) (codes "number") d)
short_reply told.Shown d = None
short_reply told.Work d = None
short_reply told.WhatIf d = None
short_reply told.Denied d = None
short_reply told.Again d = again_read d
short_reply told.Bad d = option_map reply.Bad (bad_read d)

-- a reply by its kind
abbrev pub reply_by : PolicyShape → (ℕ → Option ℕ) → Option ℕ → ReplyKind → Data → Option Reply
reply_by p flows f told.Granted d = option_map reply.Granted (plan_read p d)
reply_by p flows f told.Finished d = short_reply told.Finished d
reply_by p flows f told.Opened d = opened_read p d
reply_by p flows f told.Edited d = short_reply told.Edited d
reply_by p flows f told.Shown d = option_map reply.Shown (face_read p d)
reply_by p flows f told.Work d = option_map reply.Work (work_read p flows d)
reply_by p flows f told.WhatIf d = option_map reply.WhatIf (cases_read d)
reply_by p flows f told.Denied d = option_map reply.Denied (denial_read p flows f d)
reply_by p flows f told.Again d = short_reply told.Again d
reply_by p flows f told.Bad d = short_reply told.Bad d

unfoldable pub reply_read : PolicyShape → (ℕ → Option ℕ) → Option ℕ → Data → Option Reply
reply_read p flows f d =
    or_next (option_and_then (row_read reply_words) (as_str d))
    (option_and_then (λ m. option_and_then (λ kind. reply_by p flows f kind m.1)
    (row_read reply_kinds m.0)) (only_member d))

-- ---- entries

-- the entry for an ask that a value tells
unfoldable pub entry_read : PolicyShape → (ℕ → Option ℕ) → Ask → Data → Option Entry
entry_read p flows a d =
    option_and_then (λ place. option_map (entry_at place a)
    (at_key (reply_read p flows (concerned p flows a)) (codes "reply") d)) (place_read d)

unfoldable pub entry_of_line : PolicyShape → (ℕ → Option ℕ) → Ask → List ℕ → Option Entry
entry_of_line p flows a text = option_and_then (entry_read p flows a) (value_of text)
