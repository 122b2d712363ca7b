-- Who has which step of a case, and how that changes with a step's state.
use Rattle.std.proofs.Common.{◌≡◌, ◌≤◌, ℕ, zero, suc, ◌<◌, true, false, List, [], ◌∷◌, ◌++◌, length, map, replicate, slice_index_or, slice_set, get_or}
use Rattle.std.proofs.Common.{None, Some, refl, sym, ap, ◌∙◌, arith}
use Rattle.std.proofs.lemmas.List.{map-set, set-append_left, length-set, take-replicate}
use Rattle.std.proofs.Math.Seq.{map-set_same}
use Rattle.std.proofs.Math.ListN.{get_or-map}
use Rattle.wf_names.specs.declared.limits.TheConstants.{STEP_LIMIT}
use Rattle.wf_names.specs.declared.states.StepState.{StepState}
use Rattle.wf_names.specs.declared.states.StepState.TheVariants.{Free, Held}
use Rattle.wf_names.specs.States.{is_held, is_finished, user_of}
use Rattle.constraint_forms.specs.Assign.{is_member, no_steps, no_users, user_at}
use Rattle.wf_names.specs.Padded.{padded, padded-take}
use Rattle.wf_names.proofs.PaddedLists.{all_blank}
use Rattle.case_record.specs.Steps.{all_steps}
use Rattle.case_record.specs.Cases.{CaseShape, as_finished, assigned_of, finished_case, finished_of, fresh_case, state_at, with_state}
use Rattle.case_record.proofs.Changes.{held_within}

-- a list of one value has it everywhere
pub blank_at : {X : Type 0} (n k : ℕ) (d : X) → get_or (replicate n d) k d ≡ d
blank_at zero k d = refl
blank_at (suc n) zero d = refl
blank_at (suc n) (suc k) d = blank_at n k d

filled_at : {X : Type 0} (xs : List X) (n k : ℕ) (d : X) → get_or (xs ++ replicate n d) k d ≡ get_or xs k d
filled_at [] n k d = blank_at n k d
filled_at (x ∷ xs) n zero d = refl
filled_at (x ∷ xs) n (suc k) d = filled_at xs n k d

all_steps-at : (states : List StepState) (s : ℕ) → slice_index_or (all_steps states) s Free ≡ slice_index_or states s Free
unfolding padded
all_steps-at states s = filled_at states _ s Free

all_steps-set : (states : List StepState) (s : ℕ) (x : StepState) → s < length states → all_steps (slice_set states s x) ≡ slice_set (all_steps states) s x
unfolding padded
all_steps-set states s x h = grind (arith, length-set, set-append_left)

-- the user of a step
pub assigned_of-at : (c : CaseShape) (s : ℕ) → user_at (assigned_of c) s ≡ user_of (state_at c s)
assigned_of-at c s = get_or-map user_of (all_steps c.states) s Free ∙ ap user_of (all_steps-at c.states s)

-- whether a step is finished
pub finished_of-at : (c : CaseShape) (s : ℕ) → is_member (finished_of c) s ≡ is_finished (state_at c s)
finished_of-at c s = get_or-map is_finished (all_steps c.states) s Free ∙ ap is_finished (all_steps-at c.states s)

-- a step changes whose it is
pub assigned_of-set : (c : CaseShape) (s : ℕ) (x : StepState) → s < length c.states → assigned_of (with_state c s x) ≡ slice_set (assigned_of c) s (user_of x)
assigned_of-set c s x h = ap (map user_of) (all_steps-set c.states s x h) ∙ map-set user_of (all_steps c.states) s x

-- a step changes and keeps its user
pub assigned_of-same : (c : CaseShape) (s : ℕ) (x : StepState) → s < length c.states → user_of x ≡ user_of (state_at c s) →
    assigned_of (with_state c s x) ≡ assigned_of c
assigned_of-same c s x h same = grind (arith, all_steps-set, map-set_same, all_steps-at)

pub finished_of-set : (c : CaseShape) (s : ℕ) (x : StepState) → s < length c.states →
    finished_of (with_state c s x) ≡ slice_set (finished_of c) s (is_finished x)
finished_of-set c s x h = ap (map is_finished) (all_steps-set c.states s x h) ∙ map-set is_finished (all_steps c.states) s x

pub finished_of-same : (c : CaseShape) (s : ℕ) (x : StepState) → s < length c.states → is_finished x ≡ is_finished (state_at c s) →
    finished_of (with_state c s x) ≡ finished_of c
finished_of-same c s x h same = grind (arith, all_steps-set, map-set_same, all_steps-at)

held_unfinished : (x : StepState) → is_held x ≡ true → false ≡ is_finished x
held_unfinished x h = grind arith

keeps_user : (x : StepState) → user_of (as_finished x) ≡ user_of x
keeps_user x = grind arith

held_finishes : (x : StepState) → is_held x ≡ true → is_finished (as_finished x) ≡ true
held_finishes x h = grind arith

-- a claim gives a free step to a user, and finishes nothing
pub assigned_of-hold : (c : CaseShape) (s u : ℕ) → s < length c.states → assigned_of (with_state c s (Held u)) ≡ slice_set (assigned_of c) s (Some u)
assigned_of-hold c s u h = assigned_of-set c s (Held u) h

pub finished_of-hold : (c : CaseShape) (s u : ℕ) → s < length c.states → state_at c s ≡ Free → finished_of (with_state c s (Held u)) ≡ finished_of c
finished_of-hold c s u h free = finished_of-same c s (Held u) h (ap is_finished (sym free))

-- a release takes a held step from its holder, and finishes nothing
pub assigned_of-release : (c : CaseShape) (s : ℕ) → is_held (state_at c s) ≡ true → assigned_of (with_state c s Free) ≡ slice_set (assigned_of c) s None
assigned_of-release c s held = assigned_of-set c s Free (held_within c.states s held)

pub finished_of-release : (c : CaseShape) (s : ℕ) → is_held (state_at c s) ≡ true → finished_of (with_state c s Free) ≡ finished_of c
finished_of-release c s held = finished_of-same c s Free (held_within c.states s held) (held_unfinished _ held)

-- a finish changes no user, and finishes the step
pub assigned_of-finish : (c : CaseShape) (s : ℕ) → is_held (state_at c s) ≡ true → assigned_of (finished_case c s) ≡ assigned_of c
assigned_of-finish c s held = assigned_of-same c s (as_finished (state_at c s)) (held_within c.states s held) (keeps_user (state_at c s))

pub finished_of-finish : (c : CaseShape) (s : ℕ) → is_held (state_at c s) ≡ true → finished_of (finished_case c s) ≡ slice_set (finished_of c) s true
finished_of-finish c s held = grind (arith, finished_of-set, held_within, held_finishes)

all_steps-free : (n : ℕ) → n ≤ STEP_LIMIT → all_steps (replicate n Free) ≡ replicate STEP_LIMIT Free
all_steps-free n h =
    ap all_steps (sym (take-replicate n STEP_LIMIT Free h)) ∙ padded-take STEP_LIMIT Free (replicate STEP_LIMIT Free) n (all_blank STEP_LIMIT Free n h)

map_blank : {X Y : Type 0} (f : X → Y) (n : ℕ) (x : X) → map f (replicate n x) ≡ replicate n (f x)
map_blank f zero x = refl
map_blank f (suc n) x = ap (λ ys. f x ∷ ys) (map_blank f n x)

-- in a fresh case no step is anybody's, and none is finished
pub assigned_of-fresh : (flow n : ℕ) → n ≤ STEP_LIMIT → assigned_of (fresh_case flow n) ≡ no_users
unfolding no_users
assigned_of-fresh flow n h = ap (map user_of) (all_steps-free n h) ∙ map_blank user_of STEP_LIMIT Free

pub finished_of-fresh : (flow n : ℕ) → n ≤ STEP_LIMIT → finished_of (fresh_case flow n) ≡ no_steps
unfolding no_steps
finished_of-fresh flow n h = ap (map is_finished) (all_steps-free n h) ∙ map_blank is_finished STEP_LIMIT Free
