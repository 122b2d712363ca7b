-- What is written for entries is plain: without floats, its keys in order, its texts UTF-8.
use Rattle.std.proofs.Common.{ℕ, suc, ◌<◌, ◌≤◌, ◌^◌, List, [], ◌∷◌, length, refl, arith, IsUtf8}
use Rattle.std.specs.Prelude.{codes, map, Option}
use Rattle.std.specs.List.{All}
use Rattle.json.proofs.Printed.Utf8.{IsUtf8-are_ascii}
use Rattle.serde_json.specs.Data.{Data, number, unsigned, string, array}
use Rattle.serde_json.specs.View.{items_of}
use Rattle.wf_names.proofs.NameForms.{name_utf8}
use Rattle.wf_names.specs.declared.states.StepState.{StepState}
use Rattle.wf_names.specs.declared.states.StepState.TheVariants.{Free, Held, Finished}
use Rattle.wf_names.specs.declared.states.Phase.{Phase}
use Rattle.wf_names.specs.declared.states.Phase.TheVariants.{Live, Done, Withdrawn}
use Rattle.refutation_tree.specs.Tree.{Shape, Kids, holder, rule, node, no_kids, tree_kid, twin_kid}
use Rattle.refutation_tree.specs.Laws.Views.{shape_of}
use Rattle.wf_talk.specs.declared.edit.Missing.{Missing}
use Rattle.wf_talk.specs.declared.edit.Missing.TheVariants as missing
use Rattle.wf_talk.specs.declared.entry.Entry.{Entry}
use Rattle.wf_talk.specs.declared.request.Bad.{Bad}
use Rattle.wf_talk.specs.declared.request.Bad.TheVariants as bad
use Rattle.wf_talk.specs.declared.reply.Face.{Face}
use Rattle.wf_talk.specs.declared.reply.WorkItem.{WorkItem}
use Rattle.wf_talk.specs.declared.reply.Reply.{Reply}
use Rattle.wf_talk.specs.declared.reply.Reply.TheVariants as reply
use Rattle.wf_talk.specs.declared.reply.Denial.{Denial}
use Rattle.wf_talk.specs.declared.reply.Denial.TheVariants as denial
use Rattle.policy_book.specs.Laws.Shapes.{PolicyShape}
use Rattle.policy_book.specs.Policies.{flow_at}
use Rattle.wire_json.specs.Entries.{single, named, names_data, user_data, step_data, plan_data, state_data, seen_data, phase_data, bad_data}
use Rattle.wire_json.specs.Trees.{tree_data, branches_data}
use Rattle.wire_json.specs.Replies.{missing_data, strands_data, denial_data, opened_data, face_data, again_data, work_data, cases_data, reply_data, entry_data}
use Rattle.wf_names.specs.Table.{AreNames}
use Rattle.entry_reader.specs.Named.{HasNames}
use Rattle.entry_reader.specs.Laws.Within.{IsPlan, IsTree, AreKids, IsState, IsFace, IsBad, IsCase, IsDenial, IsWorkItem, IsReply}
use Rattle.entry_reader.specs.Laws.Lines.{concerned}
use Rattle.entry_reader.proofs.NamesBack.{named_utf8}
use Rattle.entry_reader.proofs.ReadBack.{IsPlain, ArePlain}

-- ---- objects and lists

plain_single : (k : List ℕ) (d : Data) → IsUtf8 k → IsPlain d → IsPlain (single k d)
plain_single k d key h = (refl, (key, h, tt))

pub all_more : {X : Type 0} (P : X → Type 0) (x : X) (xs : List X) → All P (x ∷ xs) → All P xs
all_more P x xs h k d lt = h (suc k) d (omega (arith, lt))

pub all_first : {X : Type 0} (P : X → Type 0) (x : X) (xs : List X) → All P (x ∷ xs) → P x
all_first P x xs h = h 0 x (omega arith)

plain_names : (names : List (List ℕ)) (ns : List ℕ) → AreNames names → All (λ n. n < length names) ns → ArePlain (items_of (map (named names) ns))
plain_names names [] k h = tt
plain_names names (n ∷ ns) k h = grind (arith, named_utf8, all_first, all_more, (plain_names names ns k (all_more (λ m. m < length names) n ns h)))

-- ---- numbers

small : (n : ℕ) → n < 2 ^ 8 → n < 2 ^ 64
small n h = omega (arith, h)

middle : (n : ℕ) → n < 2 ^ 32 → n < 2 ^ 64
middle n h = omega (arith, h)

case_small : (c : ℕ) → c ≤ 65535 → c < 2 ^ 64
case_small c h = omega (arith, h)

-- ---- trees

mutual
  plain_tree : (p : PolicyShape) (f : ℕ) (t : Shape) → HasNames p → IsTree p f t → IsPlain (tree_data p f t)
  plain_tree p f (holder s) k h =
      plain_single (codes "holder") (step_data p f s) (IsUtf8-are_ascii _ refl) (named_utf8 (flow_at p f).flow.steps s (k.steps f) h)
  plain_tree p f (rule n) k h = plain_single (codes "rule") (number (unsigned n)) (IsUtf8-are_ascii _ refl) (small n h)
  plain_tree p f (node s kids) k h =
      (refl, (IsUtf8-are_ascii _ refl, named_utf8 (flow_at p f).flow.steps s (k.steps f) h.0, (IsUtf8-are_ascii _ refl, plain_kids p f kids k h.1, tt)))

  plain_kids : (p : PolicyShape) (f : ℕ) (kids : Kids) → HasNames p → AreKids p f kids → ArePlain (items_of (branches_data p f kids))
  plain_kids p f no_kids k h = tt
  plain_kids p f (tree_kid u t kids) k h = ((named_utf8 p.roster.users u k.users h.0, (plain_tree p f t k h.1, tt)), plain_kids p f kids k h.2)
  plain_kids p f (twin_kid u v kids) k h = (
    (
      named_utf8 p.roster.users u k.users h.0,
      (plain_single (codes "twin") (user_data p v) (IsUtf8-are_ascii _ refl) (named_utf8 p.roster.users v k.users h.1), tt),
    ),
    plain_kids p f kids k h.2,
  )

-- ---- states

plain_state : (p : PolicyShape) (s : StepState) → HasNames p → IsState p s → IsPlain (state_data p s)
plain_state p Free k h = IsUtf8-are_ascii _ refl
plain_state p (Held u) k h = plain_single (codes "held") (user_data p u) (IsUtf8-are_ascii _ refl) (named_utf8 p.roster.users u k.users h)
plain_state p (Finished u) k h = plain_single (codes "finished") (user_data p u) (IsUtf8-are_ascii _ refl) (named_utf8 p.roster.users u k.users h)

plain_seen : (p : PolicyShape) (s : StepState) → HasNames p → IsState p s → IsPlain (seen_data p s)
plain_seen p Free k h = (IsUtf8-are_ascii _ refl, tt)
plain_seen p (Held u) k h = (IsUtf8-are_ascii _ refl, (named_utf8 p.roster.users u k.users h, tt))
plain_seen p (Finished u) k h = (IsUtf8-are_ascii _ refl, (named_utf8 p.roster.users u k.users h, tt))

plain_states : (p : PolicyShape) (states : List StepState) → HasNames p → All (IsState p) states → ArePlain (items_of (map (seen_data p) states))
plain_states p [] k h = tt
plain_states p (s ∷ states) k h = (plain_seen p s k (all_first (IsState p) s states h), plain_states p states k (all_more (IsState p) s states h))

plain_phase : (phase : Phase) → IsPlain (phase_data phase)
plain_phase Live = IsUtf8-are_ascii _ refl
plain_phase Done = IsUtf8-are_ascii _ refl
plain_phase Withdrawn = IsUtf8-are_ascii _ refl

plain_face : (p : PolicyShape) (face : Face) → HasNames p → IsFace p face → IsPlain (face_data p face)
plain_face p face k h = (
  refl,
  (
    IsUtf8-are_ascii _ refl,
    named_utf8 p.flow_names face.flow k.flow_names h.0,
    (IsUtf8-are_ascii _ refl, plain_phase face.phase, (IsUtf8-are_ascii _ refl, plain_states p face.states k h.2, tt)),
  ),
)

-- ---- denials

plain_missing : (what : Missing) → IsPlain (missing_data what)
plain_missing missing.Flow = IsUtf8-are_ascii _ refl
plain_missing missing.Step = IsUtf8-are_ascii _ refl
plain_missing missing.Relation = IsUtf8-are_ascii _ refl
plain_missing missing.User = IsUtf8-are_ascii _ refl
plain_missing missing.Role = IsUtf8-are_ascii _ refl

plain_denial : (p : PolicyShape) (flows : ℕ → Option ℕ) (f : Option ℕ) (d : Denial) → HasNames p → IsDenial p flows f d → IsPlain (denial_data p d)
plain_denial p flows f denial.NoFlow k h = IsUtf8-are_ascii _ refl
plain_denial p flows f denial.Retired k h = IsUtf8-are_ascii _ refl
plain_denial p flows f denial.Full k h = IsUtf8-are_ascii _ refl
plain_denial p flows f (denial.Unsatisfiable g t) k h =
    plain_single (codes "unsatisfiable") (tree_data p g (shape_of t)) (IsUtf8-are_ascii _ refl) (plain_tree p g (shape_of t) k h.1)
plain_denial p flows f denial.NoCase k h = IsUtf8-are_ascii _ refl
plain_denial p flows f denial.Closed k h = IsUtf8-are_ascii _ refl
plain_denial p flows f denial.NoStep k h = IsUtf8-are_ascii _ refl
plain_denial p flows f denial.NoUser k h = IsUtf8-are_ascii _ refl
plain_denial p flows f (denial.Taken u) k h = plain_single (codes "taken") (user_data p u) (IsUtf8-are_ascii _ refl) (named_utf8 p.roster.users u k.users h)
plain_denial p flows f (denial.Order g s) k h =
    plain_single (codes "order") (step_data p g s) (IsUtf8-are_ascii _ refl) (named_utf8 (flow_at p g).flow.steps s (k.steps g) h.1)
plain_denial p flows f (denial.Role roles) k h =
    plain_single (codes "role") (names_data p.roster.roles roles) (IsUtf8-are_ascii _ refl) (plain_names p.roster.roles roles k.roles h)
plain_denial p flows f (denial.Rule n) k h = plain_single (codes "rule") (number (unsigned n)) (IsUtf8-are_ascii _ refl) (small n h)
plain_denial p flows f (denial.Stranded g t) k h =
    plain_single (codes "stranded") (tree_data p g (shape_of t)) (IsUtf8-are_ascii _ refl) (plain_tree p g (shape_of t) k h.1)
plain_denial p flows f (denial.NotHeld s) k h = plain_single (codes "not_held") (state_data p s) (IsUtf8-are_ascii _ refl) (plain_state p s k h)
plain_denial p flows f denial.NotAdmin k h = IsUtf8-are_ascii _ refl
plain_denial p flows f (denial.Unknown what) k h = plain_single (codes "unknown") (missing_data what) (IsUtf8-are_ascii _ refl) (plain_missing what)
plain_denial p flows f denial.Fixed k h = IsUtf8-are_ascii _ refl
plain_denial p flows f denial.Already k h = IsUtf8-are_ascii _ refl
plain_denial p flows f denial.Absent k h = IsUtf8-are_ascii _ refl
plain_denial p flows f denial.LastAdmin k h = IsUtf8-are_ascii _ refl
plain_denial p flows f (denial.Strands c g t) k h =
    plain_single (codes "strands") (strands_data c (tree_data p g (shape_of t))) (IsUtf8-are_ascii _ refl)
    (refl, (IsUtf8-are_ascii _ refl, case_small c h.0, (IsUtf8-are_ascii _ refl, plain_tree p g (shape_of t) k h.2, tt)))

-- ---- lists of views

plain_items : (p : PolicyShape) (flows : ℕ → Option ℕ) (items : List WorkItem) → HasNames p → All (IsWorkItem p flows) items → ArePlain
    (items_of (map (work_data p) items))
plain_items p flows [] k h = tt
plain_items p flows (i ∷ items) k h =
    grind (arith, all_first, case_small, named_utf8, all_more, (plain_items p flows items k (all_more (IsWorkItem p flows) i items h)))

plain_cases : (cases : List ℕ) → All IsCase cases → ArePlain (items_of (map (λ c. number (unsigned c)) cases))
plain_cases [] h = tt
plain_cases (c ∷ cases) h = (case_small c (all_first IsCase c cases h), plain_cases cases (all_more IsCase c cases h))

-- ---- replies and entries

plain_bad : (b : Bad) → IsBad b → IsPlain (bad_data b)
plain_bad bad.Syntax h = IsUtf8-are_ascii _ refl
plain_bad bad.Object h = IsUtf8-are_ascii _ refl
plain_bad bad.Do h = IsUtf8-are_ascii _ refl
plain_bad bad.Lane h = IsUtf8-are_ascii _ refl
plain_bad (bad.Key key) h = plain_single (codes "key") (string key) (IsUtf8-are_ascii _ refl) (name_utf8 key h)
plain_bad bad.Extra h = IsUtf8-are_ascii _ refl

plain_plan : (p : PolicyShape) (plan : List ℕ) → HasNames p → IsPlan p plan → IsPlain (plan_data p.roster.users plan)
plain_plan p plan k h = plain_names p.roster.users plan k.users h.1

plain_reply : (p : PolicyShape) (flows : ℕ → Option ℕ) (f : Option ℕ) (r : Reply) → HasNames p → IsReply p flows f r → IsPlain (reply_data p r)
plain_reply p flows f (reply.Granted plan) k h =
    plain_single (codes "granted") (single (codes "plan") (plan_data p.roster.users plan)) (IsUtf8-are_ascii _ refl)
    (plain_single (codes "plan") (plan_data p.roster.users plan) (IsUtf8-are_ascii _ refl) (plain_plan p plan k h))
plain_reply p flows f (reply.Finished done) k h = (refl, (IsUtf8-are_ascii _ refl, (refl, (IsUtf8-are_ascii _ refl, tt, tt)), tt))
plain_reply p flows f reply.Returned k h = IsUtf8-are_ascii _ refl
plain_reply p flows f reply.Released k h = IsUtf8-are_ascii _ refl
plain_reply p flows f (reply.Opened c plan) k h =
    plain_single (codes "opened") (opened_data p c plan) (IsUtf8-are_ascii _ refl)
    (refl, (IsUtf8-are_ascii _ refl, case_small c h.0, (IsUtf8-are_ascii _ refl, plain_plan p plan k h.1, tt)))
plain_reply p flows f reply.Withdrawn k h = IsUtf8-are_ascii _ refl
plain_reply p flows f (reply.Edited n) k h =
    plain_single (codes "edited") (single (codes "number") (number (unsigned n))) (IsUtf8-are_ascii _ refl)
    (plain_single (codes "number") (number (unsigned n)) (IsUtf8-are_ascii _ refl) (middle n h))
plain_reply p flows f (reply.Shown face) k h = plain_single (codes "view") (face_data p face) (IsUtf8-are_ascii _ refl) (plain_face p face k h)
plain_reply p flows f (reply.Work items) k h =
    plain_single (codes "worklist") (array (items_of (map (work_data p) items))) (IsUtf8-are_ascii _ refl) (plain_items p flows items k h)
plain_reply p flows f (reply.WhatIf cases) k h = plain_single (codes "what_if") (cases_data cases) (IsUtf8-are_ascii _ refl) (plain_cases cases h)
plain_reply p flows f (reply.Denied d) k h = plain_single (codes "denied") (denial_data p d) (IsUtf8-are_ascii _ refl) (plain_denial p flows f d k h)
plain_reply p flows f (reply.Again rounds n) k h =
    plain_single (codes "again") (again_data rounds n) (IsUtf8-are_ascii _ refl)
    (refl, (IsUtf8-are_ascii _ refl, middle n h.1, (IsUtf8-are_ascii _ refl, small rounds h.0, tt)))
plain_reply p flows f reply.NoMemory k h = IsUtf8-are_ascii _ refl
plain_reply p flows f (reply.Bad b) k h = plain_single (codes "bad") (bad_data b) (IsUtf8-are_ascii _ refl) (plain_bad b h)

-- the numbers of an entry fit, and its reply is one
pub record Fits (p : PolicyShape) (flows : ℕ → Option ℕ) (e : Entry) : Type 0 where
  pub place : e.at < 2 ^ 32
  pub lane : e.lane < 2 ^ 8
  pub line : e.line < 2 ^ 32
  pub reply : IsReply p flows (concerned p flows e.ask) e.reply

pub plain_entry : (p : PolicyShape) (flows : ℕ → Option ℕ) (e : Entry) → HasNames p → Fits p flows e → IsPlain (entry_data p e)
plain_entry p flows e k h = (
  refl,
  (
    IsUtf8-are_ascii _ refl,
    middle e.at h.place,
    (
      IsUtf8-are_ascii _ refl,
      small e.lane h.lane,
      (IsUtf8-are_ascii _ refl, middle e.line h.line, (IsUtf8-are_ascii _ refl, plain_reply p flows (concerned p flows e.ask) e.reply k h.reply, tt)),
    ),
  ),
)
