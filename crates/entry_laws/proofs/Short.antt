-- The text of a reply that denies by no tree is short.
use Rattle.entry_laws.proofs.Common.{◌≡◌, ℕ, ◌+◌, ◌*◌, ◌<◌, ◌≤◌, ◌^◌, Bool, false, true, List, [], ◌∷◌, ◌++◌, length, map, Option, arith, codes, All}
use Rattle.entry_laws.proofs.Common.{length-decimal-le, length-append, Data, array, no_members, string, unsigned, items_of, comma_if, compact_text, items_text}
use Rattle.entry_laws.proofs.Common.{members_text, CASE_NUMBER_LIMIT, OPEN_CASE_LIMIT, ROLE_LIMIT, STEP_LIMIT, AreNames, StepState, Free, Held, Finished, Phase}
use Rattle.entry_laws.proofs.Common.{PolicyShape, flow_at, Missing, Bad, Face, WorkItem, Reply, Denial, bad_data, phase_data, seen_data, state_data}
use Rattle.entry_laws.proofs.Common.{denial_data, reply_data, work_data, HasNames, IsBad, IsCase, IsDenial, IsReply, IsWorkItem}
use Rattle.std.proofs.lemmas.List.Elements.{All-head, All-tail}
use Rattle.json.specs.Print.{escape_byte, quoted}
use Rattle.serde_json.specs.Data.{member, number}
use Rattle.wf_talk.specs.declared.request.Bad.TheVariants as bad
use Rattle.wf_talk.specs.declared.reply.Reply.TheVariants as reply
use Rattle.wf_talk.specs.declared.reply.Denial.TheVariants as denial
use Rattle.wire_json.specs.Entries.{named, names_data, single, step_data, user_data, word}
use Rattle.wire_json.specs.Replies.{again_data, cases_data, face_data, missing_data, opened_data}
use Rattle.wire_json.proofs.Lengths.{named_short, quoted_short}
use Rattle.entry_reader.specs.Laws.Within.{IsFace}

-- ---- what a reply lists

-- no more than there can be
abbrev pub HasFewRoles : Denial → Type 0
HasFewRoles (denial.Role roles) = length roles ≤ ROLE_LIMIT
HasFewRoles d = Unit {0}

abbrev pub ListsFew : Reply → Type 0
ListsFew (reply.Work items) = length items ≤ OPEN_CASE_LIMIT * STEP_LIMIT
ListsFew (reply.WhatIf cases) = length cases ≤ OPEN_CASE_LIMIT
ListsFew (reply.Denied d) = HasFewRoles d
ListsFew given = Unit {0}

-- ---- values

members_long : (later : Bool) (key : List ℕ) (d : Data) (text : List ℕ) →
    length (comma_if later ++ (quoted key ++ (58 ∷ (compact_text d ++ text)))) ≤ 2 + (length (quoted key) + (length (compact_text d) + length text))
members_long later key d text = grind (arith, length-append)

items_long : (later : Bool) (d : Data) (text : List ℕ) → length (comma_if later ++ (compact_text d ++ text)) ≤ 1 + (length (compact_text d) + length text)
items_long later d text = grind (arith, length-append)

single_long : (key : List ℕ) (d : Data) → length (compact_text (single key d)) ≤ 4 + (length (quoted key) + length (compact_text d))
single_long key d = omega (arith, members_long false key d (125 ∷ []))

number_short : (n : ℕ) → n < 2 ^ 32 → length (compact_text (number (unsigned n))) ≤ 10
number_short n small = length-decimal-le 10 n (omega arith) (omega (arith, small)) (omega (arith, small))

case_short : (n : ℕ) → n ≤ CASE_NUMBER_LIMIT → length (compact_text (number (unsigned n))) ≤ 5
case_short n small = length-decimal-le 5 n (omega arith) (omega (arith, small)) (omega (arith, small))

-- ---- lists

names_short : (names : List (List ℕ)) (ns : List ℕ) (later : Bool) → AreNames names →
    length (items_text later (items_of (map (named names) ns))) ≤ 43 * length ns + 1
names_short names [] later known = omega arith
names_short names (n ∷ ns) later known =
    let rest = items_text true (items_of (map (named names) ns)) in
    omega (arith, items_long later (named names n) rest, named_short names n known, names_short names ns true known)

list_short : (names : List (List ℕ)) (ns : List ℕ) → AreNames names → length (compact_text (names_data names ns)) ≤ 43 * length ns + 2
list_short names ns known = omega (arith, names_short names ns false known)

cases_short : (cases : List ℕ) (later : Bool) → All IsCase cases →
    length (items_text later (items_of (map (λ c. number (unsigned c)) cases))) ≤ 6 * length cases + 1
cases_short [] later known = omega arith
cases_short (c ∷ cases) later known =
    let rest = items_text true (items_of (map (λ n. number (unsigned n)) cases)) in
    omega (
      arith,
      items_long later (number (unsigned c)) rest,
      case_short c (All-head IsCase c cases known),
      cases_short cases true (All-tail IsCase c cases known),
    )

work_short : (p : PolicyShape) (flows : ℕ → Option ℕ) (i : WorkItem) → HasNames p → IsWorkItem p flows i → length (compact_text (work_data p i)) ≤ 51
work_short p flows i names is =
    let step = step_data p i.flow i.step in
    let inner = items_long true step (93 ∷ []) in
    let outer = items_long false (number (unsigned i.case)) (items_text true (items_of (step ∷ []))) in
    omega (arith, inner, outer, case_short i.case is.0, named_short (flow_at p i.flow).flow.steps i.step (names.steps i.flow))

works_short : (p : PolicyShape) (flows : ℕ → Option ℕ) (items : List WorkItem) (later : Bool) → HasNames p → All (IsWorkItem p flows) items →
    length (items_text later (items_of (map (work_data p) items))) ≤ 52 * length items + 1
works_short p flows [] later names known = omega arith
works_short p flows (i ∷ items) later names known =
    let rest = items_text true (items_of (map (work_data p) items)) in
    omega (
      arith,
      items_long later (work_data p i) rest,
      work_short p flows i names (All-head (IsWorkItem p flows) i items known),
      works_short p flows items true names (All-tail (IsWorkItem p flows) i items known),
    )

-- ---- where steps stand

user_short : (p : PolicyShape) (u : ℕ) → HasNames p → length (compact_text (user_data p u)) ≤ 42
user_short p u names = named_short p.roster.users u names.users

state_short : (p : PolicyShape) (x : StepState) → HasNames p → length (compact_text (state_data p x)) ≤ 60
unfolding escape_byte
state_short p Free names = omega arith
state_short p (Held u) names = omega (arith, single_long (codes "held") (user_data p u), user_short p u names)
state_short p (Finished u) names = omega (arith, single_long (codes "finished") (user_data p u), user_short p u names)

-- a state beside its user
pair_short : (w : List ℕ) (d : Data) → length (compact_text (array (items_of (word w ∷ d ∷ [])))) ≤ 4 + (length (quoted w) + length (compact_text d))
pair_short w d = omega (arith, items_long false (word w) (items_text true (items_of (d ∷ []))), items_long true d (93 ∷ []))

seen_short : (p : PolicyShape) (x : StepState) → HasNames p → length (compact_text (seen_data p x)) ≤ 60
unfolding escape_byte
seen_short p Free names = omega arith
seen_short p (Held u) names = omega (arith, pair_short (codes "held") (user_data p u), user_short p u names)
seen_short p (Finished u) names = omega (arith, pair_short (codes "finished") (user_data p u), user_short p u names)

states_short : (p : PolicyShape) (states : List StepState) (later : Bool) → HasNames p →
    length (items_text later (items_of (map (seen_data p) states))) ≤ 61 * length states + 1
states_short p [] later names = omega arith
states_short p (x ∷ xs) later names = grind (arith, items_long, seen_short, (states_short p xs true names))

phase_short : (phase : Phase) → length (compact_text (phase_data phase)) ≤ 20
unfolding escape_byte
phase_short phase = grind arith

face_short : (p : PolicyShape) (face : Face) → HasNames p → IsFace p face → length (compact_text (face_data p face)) ≤ 1700
unfolding escape_byte
face_short p face names is =
    let steps = array (items_of (map (seen_data p) face.states)) in
    let third = members_text true (member (codes "steps") steps no_members) in
    let second = members_text true (member (codes "phase") (phase_data face.phase) (member (codes "steps") steps no_members)) in
    let few = is.1 in
    omega (
      arith,
      few,
      members_long false (codes "flow") (named p.flow_names face.flow) second,
      members_long true (codes "phase") (phase_data face.phase) third,
      members_long true (codes "steps") steps (125 ∷ []),
      named_short p.flow_names face.flow names.flow_names,
      phase_short face.phase,
      states_short p face.states false names,
    )

-- ---- denials

missing_short : (what : Missing) → length (compact_text (missing_data what)) ≤ 20
unfolding escape_byte
missing_short what = grind arith

-- a denial by no tree
abbrev pub has_tree : Denial → Bool
has_tree (denial.Unsatisfiable f tree) = true
has_tree (denial.Stranded f tree) = true
has_tree (denial.Strands n f tree) = true
has_tree d = false

denial_short : (p : PolicyShape) (flows : ℕ → Option ℕ) (o : Option ℕ) (d : Denial) → HasNames p → IsDenial p flows o d → HasFewRoles d → has_tree d ≡ false →
    length (compact_text (denial_data p d)) ≤ 2900
unfolding escape_byte
denial_short p flows o (denial.Unsatisfiable f tree) names is few none = cc
denial_short p flows o (denial.Taken u) names is few none = omega (arith, single_long (codes "taken") (user_data p u), user_short p u names)
denial_short p flows o (denial.Order f s) names is few none =
    omega (arith, single_long (codes "order") (step_data p f s), named_short (flow_at p f).flow.steps s (names.steps f))
denial_short p flows o (denial.Role roles) names is few none =
    omega (arith, few, single_long (codes "role") (names_data p.roster.roles roles), list_short p.roster.roles roles names.roles)
denial_short p flows o (denial.Rule k) names is few none =
    omega (arith, single_long (codes "rule") (number (unsigned k)), number_short k (omega (arith, is)))
denial_short p flows o (denial.Stranded f tree) names is few none = cc
denial_short p flows o (denial.NotHeld state) names is few none = omega (arith, single_long (codes "not_held") (state_data p state), state_short p state names)
denial_short p flows o (denial.Unknown what) names is few none = omega (arith, single_long (codes "unknown") (missing_data what), missing_short what)
denial_short p flows o (denial.Strands n f tree) names is few none = cc
denial_short p flows o d names is few none = omega arith

bad_short : (b : Bad) → IsBad b → length (compact_text (bad_data b)) ≤ 60
unfolding escape_byte
bad_short (bad.Key key) is = omega (arith, single_long (codes "key") (string key), quoted_short key is)
bad_short b is = omega arith

-- ---- replies

opened_short : (p : PolicyShape) (n : ℕ) (plan : List ℕ) → HasNames p → n ≤ CASE_NUMBER_LIMIT → length plan ≤ STEP_LIMIT →
    length (compact_text (opened_data p n plan)) ≤ 1200
unfolding escape_byte
opened_short p n plan names known few =
    let users = names_data p.roster.users plan in
    omega (
      arith,
      few,
      members_long false (codes "case") (number (unsigned n)) (members_text true (member (codes "plan") users no_members)),
      members_long true (codes "plan") users (125 ∷ []),
      case_short n known,
      list_short p.roster.users plan names.users,
    )

again_short : (rounds at : ℕ) → rounds < 2 ^ 8 → at < 2 ^ 32 → length (compact_text (again_data rounds at)) ≤ 60
unfolding escape_byte
again_short rounds at few small =
    let last = member (codes "rounds") (number (unsigned rounds)) no_members in
    omega (
      arith,
      members_long false (codes "at") (number (unsigned at)) (members_text true last),
      members_long true (codes "rounds") (number (unsigned rounds)) (125 ∷ []),
      number_short at small,
      number_short rounds (omega (arith, few)),
    )

-- a reply that denies by no tree
abbrev pub shows_tree : Reply → Bool
shows_tree (reply.Denied d) = has_tree d
shows_tree given = false

pub reply_short : (p : PolicyShape) (flows : ℕ → Option ℕ) (o : Option ℕ) (given : Reply) → HasNames p → IsReply p flows o given → ListsFew given →
    shows_tree given ≡ false →
    length (compact_text (reply_data p given)) ≤ 1300000
unfolding escape_byte
reply_short p flows o (reply.Granted plan) names is few none =
    let users = names_data p.roster.users plan in
    let short = is.0 in
    omega (
      arith,
      short,
      single_long (codes "granted") (single (codes "plan") users),
      single_long (codes "plan") users,
      list_short p.roster.users plan names.users,
    )
reply_short p flows o (reply.Opened n plan) names is few none =
    omega (arith, single_long (codes "opened") (opened_data p n plan), opened_short p n plan names is.0 is.1.0)
reply_short p flows o (reply.Edited n) names is few none =
    let inner = single (codes "number") (number (unsigned n)) in
    omega (arith, single_long (codes "edited") inner, single_long (codes "number") (number (unsigned n)), number_short n is)
reply_short p flows o (reply.Shown face) names is few none = omega (arith, single_long (codes "view") (face_data p face), face_short p face names is)
reply_short p flows o (reply.Work items) names is few none =
    omega (arith, few, single_long (codes "worklist") (array (items_of (map (work_data p) items))), works_short p flows items false names is)
reply_short p flows o (reply.WhatIf cases) names is few none = omega (arith, few, single_long (codes "what_if") (cases_data cases), cases_short cases false is)
reply_short p flows o (reply.Denied d) names is few none =
    omega (arith, single_long (codes "denied") (denial_data p d), denial_short p flows o d names is few none)
reply_short p flows o (reply.Again rounds at) names is few none =
    omega (arith, single_long (codes "again") (again_data rounds at), again_short rounds at is.0 is.1)
reply_short p flows o (reply.Finished true) names is few none = omega arith
reply_short p flows o (reply.Finished false) names is few none = omega arith
reply_short p flows o (reply.Bad b) names is few none = omega (arith, single_long (codes "bad") (bad_data b), bad_short b is)
reply_short p flows o answer names is few none = omega arith
