-- What is written of what a policy has is the same with the names of a later policy that keeps those of the other.
use Rattle.wf_server.proofs.Common.{◌≡◌, ℕ, List, [], ◌∷◌, length, map, Bool, Option, refl, ap, ◌∙◌, codes, arith, get_or_append_left, array, object}
use Rattle.wf_server.proofs.Common.{no_members, items_of, shape_of, PolicyShape, Face, Denial, KeepsNames, tree_data, strands_data}
use Rattle.std.specs.List.{All}
use Rattle.serde_json.specs.Data.{member}
use Rattle.wf_names.specs.declared.states.StepState.{StepState}
use Rattle.refutation_tree.specs.Tree.{Shape, Kids, holder, rule, node, no_kids, tree_kid, twin_kid}
use Rattle.policy_book.specs.Laws.Plans.{Problem, IsValidPlan}
use Rattle.wf_talk.specs.declared.reply.Denial.TheVariants as denial
use Rattle.wf_talk.specs.declared.reply.WorkItem.{WorkItem}
use Rattle.wf_board.proofs.Below.{AllBelow, planned_below}
use Rattle.wire_json.specs.Entries.{named, names_data, phase_data, plan_data, seen_data, single, state_data, step_data, user_data}
use Rattle.wire_json.specs.Trees.{branches_data, node_data}
use Rattle.wire_json.specs.Replies.{denial_data, face_data, work_data}
use Rattle.entry_reader.specs.Laws.Within.{AreKids, IsDenial, IsState, IsTree, IsUser}
use Rattle.entry_reader.proofs.PlainReplies.{all_first, all_more}

-- ---- users

pub user_same : (p q : PolicyShape) (u : ℕ) → KeepsNames p q → IsUser p u → user_data q u ≡ user_data p u
user_same p q u keeps known = grind (arith, get_or_append_left)

users_same : (p q : PolicyShape) (us : List ℕ) → KeepsNames p q → AllBelow (length p.roster.users) us
    → map (named q.roster.users) us ≡ map (named p.roster.users) us
users_same p q [] keeps known = refl
users_same p q (u ∷ us) keeps known = grind (arith, user_same, (users_same p q us keeps known.1))

-- ---- plans

pub plan_same : (p q : PolicyShape) (pr : Problem) (assigned : List (Option ℕ)) (finished : List Bool) (plan : List ℕ) → KeepsNames p q
    → pr.users ≡ length p.roster.users → IsValidPlan pr assigned finished plan → plan_data q.roster.users plan ≡ plan_data p.roster.users plan
plan_same p q pr assigned finished plan keeps within valid = grind (arith, users_same, planned_below)

-- ---- steps

pub step_same : (p q : PolicyShape) (f s : ℕ) → KeepsNames p q → step_data q f s ≡ step_data p f s
step_same p q f s keeps = ap (λ names. named names s) (keeps.steps f)

state_same : (p q : PolicyShape) (x : StepState) → KeepsNames p q → IsState p x → state_data q x ≡ state_data p x
state_same p q x keeps of = grind (arith, user_same)

seen_same : (p q : PolicyShape) (x : StepState) → KeepsNames p q → IsState p x → seen_data q x ≡ seen_data p x
seen_same p q x keeps of = grind (arith, user_same)

states_same : (p q : PolicyShape) (states : List StepState) → KeepsNames p q → All (IsState p) states → map (seen_data q) states ≡ map (seen_data p) states
states_same p q [] keeps of = refl
states_same p q (x ∷ xs) keeps of = grind (arith, seen_same, all_first, all_more, (states_same p q xs keeps (all_more (IsState p) x xs of)))

pub face_same : (p q : PolicyShape) (face : Face) → KeepsNames p q → All (IsState p) face.states → face_data q face ≡ face_data p face
face_same p q face keeps of =
    ap (λ names. object (member (codes "flow") (named names face.flow)
    (member (codes "phase") (phase_data face.phase) (member (codes "steps") (array (items_of (map (seen_data q) face.states))) no_members)))) keeps.flow_names
    ∙ ap (λ ds. object (member (codes "flow") (named p.flow_names face.flow)
    (member (codes "phase") (phase_data face.phase) (member (codes "steps") (array (items_of ds)) no_members)))) (states_same p q face.states keeps of)

pub work_same : (p q : PolicyShape) (items : List WorkItem) → KeepsNames p q → map (work_data q) items ≡ map (work_data p) items
work_same p q [] keeps = refl
work_same p q (i ∷ is) keeps = grind (arith, (work_same p q is keeps))

-- ---- trees

mutual
  pub tree_same : (p q : PolicyShape) (f : ℕ) (t : Shape) → KeepsNames p q → IsTree p f t → tree_data q f t ≡ tree_data p f t
  tree_same p q f (holder s) keeps of = ap (single (codes "holder")) (step_same p q f s keeps)
  tree_same p q f (rule k) keeps of = refl
  tree_same p q f (node s kids) keeps of =
      ap (λ d. object (member (codes "step") d (member (codes "users") (array (items_of (branches_data q f kids))) no_members))) (step_same p q f s keeps)
      ∙ ap (λ ds. node_data p f s (array (items_of ds))) (kids_same p q f kids keeps of.1)

  kids_same : (p q : PolicyShape) (f : ℕ) (kids : Kids) → KeepsNames p q → AreKids p f kids → branches_data q f kids ≡ branches_data p f kids
  kids_same p q f no_kids keeps of = refl
  kids_same p q f (tree_kid u t kids) keeps of =
      ap (λ d. array (items_of (d ∷ tree_data q f t ∷ [])) ∷ branches_data q f kids) (user_same p q u keeps of.0)
      ∙ ap (λ d. array (items_of (user_data p u ∷ d ∷ [])) ∷ branches_data q f kids) (tree_same p q f t keeps of.1)
      ∙ ap (λ ds. array (items_of (user_data p u ∷ tree_data p f t ∷ [])) ∷ ds) (kids_same p q f kids keeps of.2)
  kids_same p q f (twin_kid u v kids) keeps of =
      ap (λ d. array (items_of (d ∷ single (codes "twin") (user_data q v) ∷ [])) ∷ branches_data q f kids) (user_same p q u keeps of.0)
      ∙ ap (λ d. array (items_of (user_data p u ∷ single (codes "twin") d ∷ [])) ∷ branches_data q f kids) (user_same p q v keeps of.1)
      ∙ ap (λ ds. array (items_of (user_data p u ∷ single (codes "twin") (user_data p v) ∷ [])) ∷ ds) (kids_same p q f kids keeps of.2)

-- ---- denials

pub denial_same : (p q : PolicyShape) (flows : ℕ → Option ℕ) (o : Option ℕ) (d : Denial) → KeepsNames p q → IsDenial p flows o d
    → denial_data q d ≡ denial_data p d
denial_same p q flows o (denial.Unsatisfiable f tree) keeps of = ap (single (codes "unsatisfiable")) (tree_same p q f (shape_of tree) keeps of.1)
denial_same p q flows o (denial.Taken u) keeps of = ap (single (codes "taken")) (user_same p q u keeps of)
denial_same p q flows o (denial.Order f s) keeps of = ap (single (codes "order")) (step_same p q f s keeps)
denial_same p q flows o (denial.Role roles) keeps of = ap (λ names. single (codes "role") (names_data names roles)) keeps.roles
denial_same p q flows o (denial.Stranded f tree) keeps of = ap (single (codes "stranded")) (tree_same p q f (shape_of tree) keeps of.1)
denial_same p q flows o (denial.NotHeld x) keeps of = ap (single (codes "not_held")) (state_same p q x keeps of)
denial_same p q flows o (denial.Strands n f tree) keeps of =
    ap (λ d. single (codes "strands") (strands_data n d)) (tree_same p q f (shape_of tree) keeps of.2)
denial_same p q flows o d keeps of = refl
