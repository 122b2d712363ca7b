-- Replies are read as they were written.
use Rattle.std.proofs.Common.{◌≡◌, ℕ, ◌<◌, ◌≤◌, List, [], ◌∷◌, length, refl, ap, ◌∙◌, arith, lt-ltb, le-leb, true}
use Rattle.std.specs.Prelude.{map, Option, Some, option_map, option_and_then, nat_lt}
use Rattle.std.specs.List.{All}
use Rattle.serde_json.specs.Data.{number, unsigned}
use Rattle.serde_json.specs.View.{items_of}
use Rattle.wf_names.specs.declared.limits.TheConstants.{STEP_LIMIT, CASE_NUMBER_LIMIT}
use Rattle.wf_names.specs.declared.states.StepState.{StepState}
use Rattle.wf_names.specs.declared.states.Phase.{Phase}
use Rattle.refutation_tree.specs.Laws.Views.{shape_of}
use Rattle.refutation_tree.specs.declared.tree.Tree.{Tree}
use Rattle.wf_talk.specs.declared.edit.Missing.{Missing}
use Rattle.wf_talk.specs.declared.request.Bad.{Bad}
use Rattle.wf_talk.specs.declared.reply.Face.{Face}
use Rattle.wf_talk.specs.declared.reply.WorkItem.{WorkItem}
use Rattle.wf_talk.specs.declared.reply.Reply.{Reply}
use Rattle.wf_talk.specs.declared.reply.Denial.{Denial}
use Rattle.wf_talk.specs.declared.reply.Denial.TheVariants as denial
use Rattle.policy_book.specs.Laws.Shapes.{PolicyShape}
use Rattle.policy_book.specs.Policies.{flow_at}
use Rattle.wire_json.specs.Entries.{named, step_data, plan_data, state_data, seen_data, bad_data}
use Rattle.wire_json.specs.Trees.{tree_data}
use Rattle.wire_json.specs.Replies.{missing_data, strands_data, denial_data, face_data, work_data, reply_data}
use Rattle.wf_names.specs.Table.{AreNames}
use Rattle.entry_reader.specs.Named.{HasNames}
use Rattle.entry_reader.specs.Laws.Within.{IsPlan, IsTree, IsState, IsFace, IsBad, IsCase, IsConcerned, IsDenial, IsWorkItem, IsReply}
use Rattle.entry_reader.specs.Values.{each_read, few, few_read, number_read, user_read, seen_read, state_read, tree_in}
use Rattle.entry_reader.specs.Told.{tree_from, flow_within, tree_by, step_by, strands_read, missing_read, denial_read, states_read, phase_read, flow_read}
use Rattle.entry_reader.specs.Told.{face_read}
use Rattle.entry_reader.specs.Told.{number_of_case, item_read, bad_read, reply_read}
use Rattle.entry_reader.proofs.NamesBack.{numbered_named}
use Rattle.entry_reader.proofs.PlainReplies.{all_first, all_more}
use Rattle.entry_reader.proofs.TreesBack.{below_back, user_back, step_back, tree_back}

-- ---- lists

names_back : (names : List (List ℕ)) (ns : List ℕ) → AreNames names → All (λ n. n < length names) ns → each_read
    (number_read names) (items_of (map (named names) ns)) ≡ Some ns
names_back names [] k h = refl
names_back names (n ∷ ns) k h = grind (arith, numbered_named, all_first, all_more, (names_back names ns k (all_more (λ m. m < length names) n ns h)))

few_back : {X : Type 0} (xs : List X) → length xs ≤ STEP_LIMIT → few xs ≡ Some xs
few_back xs h = rw (le-leb (length xs) STEP_LIMIT h) refl

plan_back : (p : PolicyShape) (plan : List ℕ) → HasNames p → IsPlan p plan → few_read (user_read p) (plan_data p.roster.users plan) ≡ Some plan
plan_back p plan k h = ap (option_and_then few) (names_back p.roster.users plan k.users h.1) ∙ few_back plan h.0

-- ---- states

state_back : (p : PolicyShape) (s : StepState) → HasNames p → IsState p s → state_read p (state_data p s) ≡ Some s
state_back p s k h = grind (arith, user_back)

seen_back : (p : PolicyShape) (s : StepState) → HasNames p → IsState p s → seen_read p (seen_data p s) ≡ Some s
seen_back p s k h = grind (arith, user_back)

states_back : (p : PolicyShape) (states : List StepState) → HasNames p → All (IsState p) states → each_read
    (seen_read p) (items_of (map (seen_data p) states)) ≡ Some states
states_back p [] k h = refl
states_back p (s ∷ states) k h = grind (arith, seen_back, all_first, all_more, (states_back p states k (all_more (IsState p) s states h)))

phase_back : (p : PolicyShape) (face : Face) (phase : Phase) → face.phase ≡ phase → phase_read (face_data p face) ≡ Some phase
phase_back p face phase e = grind arith

face_back : (p : PolicyShape) (face : Face) → HasNames p → IsFace p face → face_read p (face_data p face) ≡ Some face
face_back p face k h =
    let flow : flow_read p (face_data p face) ≡ Some face.flow = numbered_named p.flow_names face.flow k.flow_names h.0 in
    let phase : phase_read (face_data p face) ≡ Some face.phase = phase_back p face face.phase refl in
    let states : states_read p (face_data p face) ≡ Some face.states = ap (option_and_then few) (states_back p face.states k h.2) ∙ few_back face.states h.1 in
    rw (flow, phase, states) refl

-- ---- denials

tree_again : (t : Tree) → tree_from (shape_of t) ≡ t
tree_again t = grind arith

flow_back : (p : PolicyShape) (o : Option ℕ) (f : ℕ) → IsConcerned p o f → flow_within p o ≡ Some f
flow_back p o f h = ap (flow_within p) h.0 ∙ rw (lt-ltb f (length p.flow_names) h.1) refl

tree_by_back : (p : PolicyShape) (o : Option ℕ) (f : ℕ) (t : Tree) → HasNames p → IsConcerned p o f → IsTree p f (shape_of t) →
    tree_by p o (tree_data p f (shape_of t)) ≡ Some (f, t)
tree_by_back p o f t k c h =
    ap (option_and_then (λ n. option_map (λ x. (n, tree_from x)) (tree_in p n (tree_data p f (shape_of t))))) (flow_back p o f c)
    ∙ ap (option_map (λ x. (f, tree_from x))) (tree_back p f (shape_of t) k h) ∙ ap (λ x. Some (f, x)) (tree_again t)

step_by_back : (p : PolicyShape) (o : Option ℕ) (f s : ℕ) → HasNames p → IsConcerned p o f → s < length (flow_at p f).flow.steps →
    step_by p o (step_data p f s) ≡ Some (f, s)
step_by_back p o f s k c h = grind (arith, step_back)

case_back : (c : ℕ) → c ≤ 65535 → nat_lt c 65536 ≡ true
case_back c h = lt-ltb c 65536 (omega (arith, h))

strands_back : (p : PolicyShape) (flows : ℕ → Option ℕ) (c f : ℕ) (t : Tree) → HasNames p → c ≤ CASE_NUMBER_LIMIT → IsConcerned p (flows c) f →
    IsTree p f (shape_of t)
    → strands_read p flows (strands_data c (tree_data p f (shape_of t))) ≡ Some (denial.Strands c f t)
strands_back p flows c f t k few_cases concerns h = grind (arith, case_back, tree_by_back)

missing_back : (what : Missing) → missing_read (missing_data what) ≡ Some what
missing_back what = grind arith

denial_back : (p : PolicyShape) (flows : ℕ → Option ℕ) (f : Option ℕ) (d : Denial) → HasNames p → IsDenial p flows f d → denial_read
    p flows f (denial_data p d) ≡ Some d
unfolding denial_read
denial_back p flows f d k h = grind (arith, tree_by_back, user_back, step_by_back, names_back, below_back, state_back, missing_back, strands_back)

-- ---- lists of views

item_back : (p : PolicyShape) (flows : ℕ → Option ℕ) (i : WorkItem) → HasNames p → IsWorkItem p flows i → item_read p flows (work_data p i) ≡ Some i
item_back p flows i k h = grind (arith, case_back, step_by_back)

items_back : (p : PolicyShape) (flows : ℕ → Option ℕ) (items : List WorkItem) → HasNames p → All (IsWorkItem p flows) items
    → each_read (item_read p flows) (items_of (map (work_data p) items)) ≡ Some items
items_back p flows [] k h = refl
items_back p flows (i ∷ items) k h = grind (arith, item_back, all_first, all_more, (items_back p flows items k (all_more (IsWorkItem p flows) i items h)))

number_back : (c : ℕ) → c ≤ CASE_NUMBER_LIMIT → number_of_case (number (unsigned c)) ≡ Some c
number_back c h = rw (case_back c h) refl

cases_back : (cases : List ℕ) → All IsCase cases → each_read number_of_case (items_of (map (λ c. number (unsigned c)) cases)) ≡ Some cases
cases_back [] h = refl
cases_back (c ∷ cases) h = grind (arith, number_back, all_first, all_more, (cases_back cases (all_more IsCase c cases h)))

-- ---- replies

bad_back : (b : Bad) → IsBad b → bad_read (bad_data b) ≡ Some b
bad_back b h = grind arith

pub reply_back : (p : PolicyShape) (flows : ℕ → Option ℕ) (f : Option ℕ) (r : Reply) → HasNames p → IsReply p flows f r → reply_read
    p flows f (reply_data p r) ≡ Some r
unfolding reply_read
reply_back p flows f r k h = grind (arith, plan_back, case_back, lt-ltb, face_back, items_back, cases_back, denial_back, bad_back)
