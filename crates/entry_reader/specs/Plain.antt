-- Inside: replies that are guessed. Their numbers stand for something, and they nest no deeper than
-- JSON is read.
use Rattle.std.specs.Prelude.{ℕ, ◌+◌, ◌*◌, ◌≤◌, Option}
use Rattle.serde_json.specs.Data.{depth, items_depth}
use Rattle.serde_json.specs.View.{items_of}
use Rattle.refutation_tree.specs.Tree.{Shape, Kids, no_kids}
use Rattle.refutation_tree.specs.Laws.Views.{kid_onto}
use Rattle.refutation_tree.specs.declared.tree.Kid.{Kid}
use Rattle.wf_talk.specs.declared.reply.Reply.{Reply}
use Rattle.wf_talk.specs.declared.reply.Reply.TheVariants as reply
use Rattle.wf_talk.specs.declared.reply.Denial.{Denial}
use Rattle.policy_book.specs.Laws.Shapes.{PolicyShape}
use Rattle.wire_json.specs.Trees.{tree_data, branches_data}
use Rattle.wire_json.specs.Replies.{denial_data}
use Rattle.entry_reader.specs.Laws.Within.{IsUser, IsCase, IsPlan, IsTree, AreKids, IsDenial}

-- a tree over a workflow with at most `height` nodes one below the other, by how deep its text
-- nests
abbrev pub IsLow : PolicyShape → ℕ → ℕ → Shape → Type 0
IsLow p f height t = IsTree p f t × (depth (tree_data p f t) ≤ 3 * height + 1)

-- branches with such trees
abbrev pub AreLow : PolicyShape → ℕ → ℕ → Kids → Type 0
AreLow p f height kids =
    AreKids p f kids × (items_depth (items_of (branches_data p f kids)) ≤ 3 * height + 2)

-- what stands in such a branch, whoever its user
abbrev pub IsLowKid : PolicyShape → ℕ → ℕ → Kid → Type 0
IsLowKid p f height kid = (u : ℕ) → IsUser p u → AreLow p f height (kid_onto kid u no_kids)

-- a denial that nests less deep than the entry around it may
abbrev pub IsPlainDenial : PolicyShape → (ℕ → Option ℕ) → Option ℕ → Denial → Type 0
IsPlainDenial p flows concerned d =
    IsDenial p flows concerned d × (depth (denial_data p d) ≤ 120)

-- a reply of a word, or with a plan of users of the policy
abbrev pub IsPlainReply : PolicyShape → Reply → Type 0
IsPlainReply p (reply.Granted plan) = IsPlan p plan
IsPlainReply p (reply.Finished done) = Unit {0}
IsPlainReply p reply.Returned = Unit {0}
IsPlainReply p reply.Released = Unit {0}
IsPlainReply p (reply.Opened c plan) = IsCase c × IsPlan p plan
IsPlainReply p reply.Withdrawn = Unit {0}
IsPlainReply p given = ⊥

-- such a reply, or a denial
abbrev pub IsGuessed : PolicyShape → (ℕ → Option ℕ) → Option ℕ → Reply → Type 0
IsGuessed p flows concerned (reply.Denied d) = IsPlainDenial p flows concerned d
IsGuessed p flows concerned given = IsPlainReply p given
