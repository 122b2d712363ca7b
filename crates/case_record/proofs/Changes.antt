-- How the cells of a case change.
use Rattle.std.proofs.Common.{◌≡◌, ℕ, zero, suc, ◌+◌, ◌<◌, true, List, [], ◌∷◌, ◌++◌, length, map, take, drop, slice_index_or, slice_set, get_or, refl, sym, ap}
use Rattle.std.proofs.Common.{subst, ◌∙◌, arith}
use Rattle.std.proofs.Math.Seq.{take-set-lt}
use Rattle.std.proofs.lemmas.List.{get_or_default, get_or-take}
use Rattle.wf_names.specs.declared.limits.TheConstants.{STEP_LIMIT}
use Rattle.wf_names.specs.declared.states.StepState.{StepState}
use Rattle.wf_names.specs.declared.states.StepState.TheVariants.{Free}
use Rattle.wf_names.specs.States.{is_held}
use Rattle.wf_names.specs.Padded.{IsPadded, length-taken}
use Rattle.case_record.specs.Cases.{as_finished}

-- a step that is held is one of the case's
pub held_within : (states : List StepState) (s : ℕ) → is_held (slice_index_or states s Free) ≡ true → s < length states
held_within [] s h = cc
held_within (x ∷ xs) zero h = omega arith
held_within (x ∷ xs) (suc s) h = omega (arith, held_within xs s h)

-- a change of one of the case's steps is a change of its cell
pub kept_changed : (cells : List StepState) (steps s : ℕ) (x : StepState) → s < length (take steps cells) → IsPadded STEP_LIMIT Free cells steps →
    take steps (slice_set cells s x) ≡ slice_set (take steps cells) s x
kept_changed cells steps s x h kept = take-set-lt steps cells s x (subst (λ n. s < n) (length-taken STEP_LIMIT Free cells steps kept) h)

-- one more of a list's values written over another list
pub next_written :
    {X Y : Type 0} (f : X → Y) (xs : List X) (ys : List Y) (k : ℕ) (d : X) → k < length xs → length xs ≡ length ys →
    slice_set (map f (take k xs) ++ drop k ys) k (f (slice_index_or xs k d)) ≡ map f (take (suc k) xs) ++ drop (suc k) ys
next_written f [] ys k d h same = absurd (omega arith)
next_written f (x ∷ xs) [] k d h same = absurd (omega arith)
next_written f (x ∷ xs) (y ∷ ys) zero d h same = refl
next_written f (x ∷ xs) (y ∷ ys) (suc k) d h same = ap (λ zs. f x ∷ zs) (next_written f xs ys k d (omega arith) (omega arith))

-- one more where the other list has the value already
pub next_there :
    {X Y : Type 0} (f : X → Y) (xs : List X) (ys : List Y) (k : ℕ) (d : X) (e : Y) → k < length xs → length xs ≡ length ys →
    get_or ys k e ≡ f (slice_index_or xs k d) →
    map f (take k xs) ++ drop k ys ≡ map f (take (suc k) xs) ++ drop (suc k) ys
next_there f [] ys k d e h same is = absurd (omega arith)
next_there f (x ∷ xs) [] k d e h same is = absurd (omega arith)
next_there f (x ∷ xs) (y ∷ ys) zero d e h same is = ap (λ z. z ∷ ys) is
next_there f (x ∷ xs) (y ∷ ys) (suc k) d e h same is = ap (λ zs. f x ∷ zs) (next_there f xs ys k d e (omega arith) (omega arith) is)

-- how the loops write the next value
pub written_more :
    {X Y : Type 0} (f : X → Y) (xs : List X) (blank before after : List Y) (k s : ℕ) (x : X) (y : Y) →
    k < length xs → length blank ≡ length xs → s ≡ k → x ≡ get_or xs k x → y ≡ f x →
    before ≡ map f (take k xs) ++ drop k blank → after ≡ slice_set before s y →
    after ≡ map f (take (k + 1) xs) ++ drop (k + 1) blank
written_more f xs blank before after k s x y h same at there is so_far set = grind (arith, next_written)

pub there_more :
    {X Y : Type 0} (f : X → Y) (xs : List X) (blank before after : List Y) (k : ℕ) (x : X) (e : Y) →
    k < length xs → length blank ≡ length xs → x ≡ get_or xs k x → get_or blank k e ≡ f x →
    before ≡ map f (take k xs) ++ drop k blank → after ≡ before →
    after ≡ map f (take (k + 1) xs) ++ drop (k + 1) blank
there_more f xs blank before after k x e h same there is so_far kept = grind (arith, next_there)

-- a case's steps with one of them finished
pub kept_finished :
    (cells : List StepState) (steps s : ℕ) (x y : StepState) → s < length (take steps cells) → IsPadded STEP_LIMIT Free cells steps →
    x ≡ get_or cells s x → y ≡ as_finished (get_or cells s x) →
    take steps (slice_set cells s y) ≡ slice_set (take steps cells) s (as_finished (slice_index_or (take steps cells) s Free))
kept_finished cells steps s x y h kept there is =
    let within : s < steps = subst (λ n. s < n) (length-taken STEP_LIMIT Free cells steps kept) h in
    let whole : s < length cells = omega (arith, within, kept.fits, kept.whole) in
    let read : get_or cells s x ≡ get_or (take steps cells) s Free = get_or_default cells s x Free whole ∙ sym (get_or-take steps cells s Free within) in
    kept_changed cells steps s y h kept ∙ (λ i. slice_set (take steps cells) s ((is ∙ ap as_finished read) i))
