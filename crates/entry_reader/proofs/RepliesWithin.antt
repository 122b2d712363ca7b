-- What is read as a reply stands for something.
use Rattle.std.proofs.Common.{◌≡◌, ℕ, ◌+◌, ◌<◌, ◌≤◌, ◌^◌, List, [], ◌∷◌, length, refl, sym, subst, arith}
use Rattle.std.proofs.Common.{Bool, inl, inr, ◌⊎◌}
use Rattle.std.specs.Prelude.{codes, Option, Some, None, option_map, option_and_then, nat_le, nat_eq, if◌then◌else◌}
use Rattle.std.specs.List.{All, find}
use Rattle.std.specs.Cmp.Lexicographic.{pointwise}
use Rattle.serde_json.specs.Data.{Data, Items, no_items, item}
use Rattle.serde_json.specs.Find.{get, as_str, as_array}
use Rattle.wf_names.specs.declared.limits.TheConstants.{STEP_LIMIT, CASE_NUMBER_LIMIT}
use Rattle.wf_names.specs.declared.states.StepState.{StepState}
use Rattle.wf_names.specs.declared.states.StepState.TheVariants.{Finished}
use Rattle.refutation_tree.specs.Tree.{Shape}
use Rattle.refutation_tree.specs.Laws.Views.{shape_of}
use Rattle.refutation_tree.specs.declared.tree.Tree.{Tree}
use Rattle.wf_talk.specs.declared.request.Bad.{Bad}
use Rattle.wf_talk.specs.declared.reply.Face.{Face}
use Rattle.wf_talk.specs.declared.reply.WorkItem.{WorkItem}
use Rattle.wf_talk.specs.declared.reply.Reply.{Reply}
use Rattle.wf_talk.specs.declared.reply.Reply.TheVariants as reply
use Rattle.wf_talk.specs.declared.reply.Denial.{Denial}
use Rattle.policy_book.specs.Laws.Shapes.{PolicyShape}
use Rattle.policy_book.specs.Policies.{flow_at}
use Rattle.entry_reader.specs.declared.kind.ReplyKind.{ReplyKind}
use Rattle.entry_reader.specs.declared.kind.ReplyKind.TheVariants as told
use Rattle.entry_reader.specs.declared.kind.DenialKind.{DenialKind}
use Rattle.entry_reader.specs.Places.{number_below}
use Rattle.entry_reader.specs.Laws.Within.{IsUser, IsRole, IsPlan, IsTree, IsState, IsFace, IsBad, IsCase, IsConcerned, IsDenial, IsWorkItem, IsReply}
use Rattle.entry_reader.specs.Values.{row_read, or_next, only_member, below, number_read, each_read, few, few_read, user_read}
use Rattle.entry_reader.specs.Values.{state_read, seen_at, seen_read, tree_in}
use Rattle.entry_reader.specs.Told.{denial_words, denial_kinds, reply_words, reply_kinds, tree_from, flow_within, tree_by, step_by, case_read}
use Rattle.entry_reader.specs.Told.{strands_read, roles_read, denial_by, denial_read, plan_read, opened_read, states_read, phase_read, flow_read}
use Rattle.entry_reader.specs.Told.{face_read}
use Rattle.entry_reader.specs.Told.{number_of_case, item_read, work_read, cases_read, again_read, bad_read, done_read, reply_by, reply_read}
use Rattle.entry_reader.proofs.Readings.{and_then_some, map_some, none_some, some_same}
use Rattle.entry_reader.proofs.NamesBack.{numbered_is}
use Rattle.entry_reader.proofs.TreesBack.{below_is, tree_is}

-- ---- choices and rows

either_read : {X : Type 0} (a b : Option X) (x : X) → or_next a b ≡ Some x → (a ≡ Some x) ⊎ (b ≡ Some x)
either_read a b x e = grind arith

-- what holds of each row's value
abbrev pub AllRows : {X : Type 0} → (X → Type 0) → List (List ℕ × X) → Type 0
AllRows P [] = Unit {0}
AllRows P (r ∷ rows) = P r.1 × AllRows P rows

row_here : {X : Type 0} (P : X → Type 0) (r : List ℕ × X) (rest : Option (List ℕ × X)) (b : Bool) (x : X) → P r.1 → (option_map (λ q. q.1) rest ≡ Some x → P x)
    → option_map (λ q. q.1) (if b then Some r else rest) ≡ Some x → P x
row_here P r rest b x here later e = grind arith

pub row_holds : {X : Type 0} (P : X → Type 0) (rows : List (List ℕ × X)) (w : List ℕ) (x : X) → AllRows P rows → row_read rows w ≡ Some x → P x
row_holds P [] w x all e = absurd (none_some x e)
row_holds P (r ∷ rows) w x all e = row_here P r (find (λ q. pointwise nat_eq w q.0) rows) (pointwise nat_eq w r.0) x all.0 (row_holds P rows w x all.1) e

-- ---- lists

all_cons : {X : Type 0} (P : X → Type 0) (x : X) (xs : List X) → P x → All P xs → All P (x ∷ xs)
all_cons P x xs here rest = grind arith

all_nil : {X : Type 0} (P : X → Type 0) → All P []
all_nil P k d lt = absurd (omega (arith, lt))

each_holds : {X : Type 0} (P : X → Type 0) (read : Data → Option X) (ds : Items) (xs : List X) → ((d : Data) (x : X) → read d ≡ Some x → P x) → each_read
    read ds ≡ Some xs → All P xs
each_holds P read no_items xs h e = subst (All P) (some_same [] xs e) (all_nil P)
each_holds P read (item d ds) xs h e =
    let r = and_then_some (read d) (λ x. option_map (λ ys. x ∷ ys) (each_read read ds)) xs e in
    let q = map_some (each_read read ds) (λ ys. r.found ∷ ys) xs r.then_ in
    subst (All P) q.same (all_cons P r.found q.found (h d r.found r.there) (each_holds P read ds q.found h q.there))

-- a short list, each item of which is something
pub record AreFew {X : Type 0} (P : X → Type 0) (xs : List X) : Type 0 where
  pub short : length xs ≤ STEP_LIMIT
  pub all : All P xs

if_few : {X : Type 0} (b : Bool) (xs ys : List X) → nat_le (length xs) STEP_LIMIT ≡ b → (if b then Some xs else None) ≡ Some ys → (xs ≡ ys) ×
    (length xs ≤ STEP_LIMIT)
if_few b xs ys h e = grind arith

few_hold : {X : Type 0} (P : X → Type 0) (read : Data → Option X) (d : Data) (xs : List X) → ((d : Data) (x : X) → read d ≡ Some x → P x) → few_read
    read d ≡ Some xs → AreFew P xs
few_hold P read d xs h e =
    let r = and_then_some (option_and_then (each_read read) (as_array d)) few xs e in
    let q = and_then_some (as_array d) (each_read read) r.found r.there in
    let short = if_few (nat_le (length r.found) STEP_LIMIT) r.found xs refl r.then_ in
    record {
      short = subst (λ ys. length ys ≤ STEP_LIMIT) short.0 short.1;
      all = subst (All P) short.0 (each_holds P read q.found r.found h q.then_);
    }

-- ---- parts

user_within : (p : PolicyShape) (d : Data) (u : ℕ) → user_read p d ≡ Some u → IsUser p u
user_within p d u e = (numbered_is p.roster.users d u e).within

pub number_within : (bound : ℕ) (key : List ℕ) (d : Data) (n : ℕ) → number_below bound key d ≡ Some n → n < bound
number_within bound key d n e = grind arith

case_within : (d : Data) (c : ℕ) → case_read d ≡ Some c → c ≤ CASE_NUMBER_LIMIT
case_within d c e = omega (arith, number_within (CASE_NUMBER_LIMIT + 1) (codes "case") d c e)

plan_within : (p : PolicyShape) (d : Data) (plan : List ℕ) → plan_read p d ≡ Some plan → IsPlan p plan
plan_within p d plan e =
    let r = and_then_some (get (codes "plan") d) (few_read (user_read p)) plan e in
    let h = few_hold (IsUser p) (user_read p) r.found plan (user_within p) r.then_ in
    (h.short, h.all)

state_within : (p : PolicyShape) (d : Data) (s : StepState) → state_read p d ≡ Some s → IsState p s
state_within p d s e = grind arith

seen_at_within : (p : PolicyShape) (ds : Items) (s : StepState) → seen_at p ds ≡ Some s → IsState p s
seen_at_within p ds s e = grind arith

seen_within : (p : PolicyShape) (d : Data) (s : StepState) → seen_read p d ≡ Some s → IsState p s
seen_within p d s e = let r = and_then_some (as_array d) (seen_at p) s e in seen_at_within p r.found s r.then_

face_within : (p : PolicyShape) (d : Data) (face : Face) → face_read p d ≡ Some face → IsFace p face
face_within p d face e =
    let r = and_then_some (flow_read p d)
    (λ f. option_and_then (λ phase. option_map (λ states. record { flow = f; phase = phase; states = states }) (states_read p d)) (phase_read d)) face e in
    let q = and_then_some (phase_read d) (λ phase. option_map (λ states. record { flow = r.found; phase = phase; states = states }) (states_read p d)) face
    r.then_ in
    let m = map_some (states_read p d) (λ states. record { flow = r.found; phase = q.found; states = states }) face q.then_ in
    let flow = and_then_some (get (codes "flow") d) (number_read p.flow_names) r.found r.there in
    let states = and_then_some (get (codes "steps") d) (few_read (seen_read p)) m.found m.there in
    let h = few_hold (IsState p) (seen_read p) states.found m.found (seen_within p) states.then_ in
    subst (IsFace p) m.same ((numbered_is p.flow_names flow.found r.found flow.then_).within, h.short, h.all)

flow_is : (p : PolicyShape) (o : Option ℕ) (f : ℕ) → flow_within p o ≡ Some f → IsConcerned p o f
flow_is p o f e = grind arith

shape_again : (t : Shape) → shape_of (tree_from t) ≡ t
shape_again t = grind arith

-- a tree over the workflow that is concerned
abbrev OfFlow : PolicyShape → Option ℕ → ℕ × Tree → Type 0
OfFlow p o t = IsConcerned p o t.0 × IsTree p t.0 (shape_of t.1)

tree_by_within : (p : PolicyShape) (o : Option ℕ) (d : Data) (t : ℕ × Tree) → tree_by p o d ≡ Some t → OfFlow p o t
tree_by_within p o d t e =
    let r = and_then_some (flow_within p o) (λ n. option_map (λ x. (n, tree_from x)) (tree_in p n d)) t e in
    let q = map_some (tree_in p r.found d) (λ x. (r.found, tree_from x)) t r.then_ in
    let h = tree_is p r.found d q.found q.there in
    subst (OfFlow p o) q.same (flow_is p o r.found r.there, subst (IsTree p r.found) (sym (shape_again q.found)) h.tree)

abbrev StepOfFlow : PolicyShape → Option ℕ → ℕ × ℕ → Type 0
StepOfFlow p o s = IsConcerned p o s.0 × (s.1 < length (flow_at p s.0).flow.steps)

step_by_within : (p : PolicyShape) (o : Option ℕ) (d : Data) (s : ℕ × ℕ) → step_by p o d ≡ Some s → StepOfFlow p o s
step_by_within p o d s e = grind arith

strands_within : (p : PolicyShape) (flows : ℕ → Option ℕ) (o : Option ℕ) (d : Data) (x : Denial) → strands_read p flows d ≡ Some x → IsDenial p flows o x
strands_within p flows o d x e = grind (arith, and_then_some, map_some, tree_by_within, case_within)

roles_within : (p : PolicyShape) (d : Data) (roles : List ℕ) → roles_read p d ≡ Some roles → All (IsRole p) roles
roles_within p d roles e =
    let r = and_then_some (as_array d) (each_read (number_read p.roster.roles)) roles e in
    each_holds (IsRole p) (number_read p.roster.roles) r.found roles (λ x n h. (numbered_is p.roster.roles x n h).within) r.then_

denial_by_within : (p : PolicyShape) (flows : ℕ → Option ℕ) (o : Option ℕ) (kind : DenialKind) (d : Data) (x : Denial) →
    denial_by p flows o kind d ≡ Some x → IsDenial p flows o x
denial_by_within p flows o kind d x e =
    grind (arith, map_some, tree_by_within, user_within, step_by_within, roles_within, below_is, state_within, strands_within)

denial_within : (p : PolicyShape) (flows : ℕ → Option ℕ) (o : Option ℕ) (d : Data) (x : Denial) → denial_read p flows o d ≡ Some x → IsDenial p flows o x
unfolding denial_read
denial_within p flows o d x e = elim (either_read (option_and_then (row_read denial_words) (as_str d)) _ x e) [
  | inl h ↦
      let r = and_then_some (as_str d) (row_read denial_words) x h in
      row_holds (IsDenial p flows o) denial_words r.found x (tt, (tt, (tt, (tt, (tt, (tt, (tt, (tt, (tt, (tt, (tt, (tt, tt)))))))))))) r.then_
  | inr h ↦
      let r = and_then_some (only_member d) (λ m. option_and_then (λ kind. denial_by p flows o kind m.1) (row_read denial_kinds m.0)) x h in
      let q = and_then_some (row_read denial_kinds r.found.0) (λ kind. denial_by p flows o kind r.found.1) x r.then_ in
      denial_by_within p flows o q.found r.found.1 x q.then_
]

-- ---- lists of views

number_of_case_within : (d : Data) (c : ℕ) → number_of_case d ≡ Some c → IsCase c
number_of_case_within d c e = omega (arith, (below_is (CASE_NUMBER_LIMIT + 1) d c e).below)

item_within : (p : PolicyShape) (flows : ℕ → Option ℕ) (d : Data) (i : WorkItem) → item_read p flows d ≡ Some i → IsWorkItem p flows i
item_within p flows d i e = grind arith

work_within : (p : PolicyShape) (flows : ℕ → Option ℕ) (d : Data) (items : List WorkItem) → work_read p flows d ≡ Some items → All (IsWorkItem p flows) items
work_within p flows d items e =
    let r = and_then_some (as_array d) (each_read (item_read p flows)) items e in
    each_holds (IsWorkItem p flows) (item_read p flows) r.found items (item_within p flows) r.then_

cases_within : (d : Data) (cases : List ℕ) → cases_read d ≡ Some cases → All IsCase cases
cases_within d cases e =
    let r = and_then_some (as_array d) (each_read number_of_case) cases e in
    each_holds IsCase number_of_case r.found cases number_of_case_within r.then_

-- ---- replies

bad_within : (d : Data) (b : Bad) → bad_read d ≡ Some b → IsBad b
bad_within d b e = grind arith

again_within : (p : PolicyShape) (flows : ℕ → Option ℕ) (o : Option ℕ) (d : Data) (x : Reply) → again_read d ≡ Some x → IsReply p flows o x
again_within p flows o d x e = grind arith

opened_within : (p : PolicyShape) (flows : ℕ → Option ℕ) (o : Option ℕ) (d : Data) (x : Reply) → opened_read p d ≡ Some x → IsReply p flows o x
opened_within p flows o d x e = grind (arith, and_then_some, map_some, case_within, plan_within)

reply_by_within : (p : PolicyShape) (flows : ℕ → Option ℕ) (o : Option ℕ) (kind : ReplyKind) (d : Data) (x : Reply) → reply_by p flows o kind d ≡ Some x →
    IsReply p flows o x
reply_by_within p flows o told.Granted d x e = let r = map_some (plan_read p d) reply.Granted x e in
    subst (IsReply p flows o) r.same (plan_within p d r.found r.there)
reply_by_within p flows o told.Finished d x e = let r = map_some (done_read d) reply.Finished x e in subst (IsReply p flows o) r.same tt
reply_by_within p flows o told.Opened d x e = opened_within p flows o d x e
reply_by_within p flows o told.Edited d x e =
    let r = map_some (number_below (2 ^ 32) (codes "number") d) reply.Edited x e in
    subst (IsReply p flows o) r.same (number_within (2 ^ 32) (codes "number") d r.found r.there)
reply_by_within p flows o told.Shown d x e = let r = map_some (face_read p d) reply.Shown x e in
    subst (IsReply p flows o) r.same (face_within p d r.found r.there)
reply_by_within p flows o told.Work d x e = let r = map_some (work_read p flows d) reply.Work x e in
    subst (IsReply p flows o) r.same (work_within p flows d r.found r.there)
reply_by_within p flows o told.WhatIf d x e = let r = map_some (cases_read d) reply.WhatIf x e in
    subst (IsReply p flows o) r.same (cases_within d r.found r.there)
reply_by_within p flows o told.Denied d x e =
    let r = map_some (denial_read p flows o d) reply.Denied x e in subst (IsReply p flows o) r.same (denial_within p flows o d r.found r.there)
reply_by_within p flows o told.Again d x e = again_within p flows o d x e
reply_by_within p flows o told.Bad d x e = let r = map_some (bad_read d) reply.Bad x e in subst (IsReply p flows o) r.same (bad_within d r.found r.there)

pub reply_within : (p : PolicyShape) (flows : ℕ → Option ℕ) (o : Option ℕ) (d : Data) (x : Reply) → reply_read p flows o d ≡ Some x → IsReply p flows o x
unfolding reply_read
reply_within p flows o d x e = elim (either_read (option_and_then (row_read reply_words) (as_str d)) _ x e) [
  | inl h ↦ let r = and_then_some (as_str d) (row_read reply_words) x h in
      row_holds (IsReply p flows o) reply_words r.found x (tt, (tt, (tt, (tt, tt)))) r.then_
  | inr h ↦
      let r = and_then_some (only_member d) (λ m. option_and_then (λ kind. reply_by p flows o kind m.1) (row_read reply_kinds m.0)) x h in
      let q = and_then_some (row_read reply_kinds r.found.0) (λ kind. reply_by p flows o kind r.found.1) x r.then_ in
      reply_by_within p flows o q.found r.found.1 x q.then_
]
