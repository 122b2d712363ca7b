-- Plans are told apart by their cells and lengths.
use Rattle.std.proofs.Common.{◌≡◌, ℕ, Bool, ◌&&◌, nat_eq, List, length, take, sym, ap, ◌∙◌}
use Rattle.wf_names.specs.declared.limits.TheConstants.{STEP_LIMIT}
use Rattle.wf_names.specs.Padded.{padded, IsPadded, padded-take, length-taken}
use Rattle.basics.proofs.Booleans.{and_swap}

pub same_plans :
    (cells cells' : List ℕ) (len len' : ℕ) (a b : List ℕ) (eq : List ℕ → List ℕ → Bool) (r s : Bool) →
    IsPadded STEP_LIMIT 0 cells len → IsPadded STEP_LIMIT 0 cells' len' → take len cells ≡ a → take len' cells' ≡ b →
    r ≡ nat_eq len len' → s ≡ (r && eq cells cells') →
    s ≡ (eq (padded STEP_LIMIT 0 a) (padded STEP_LIMIT 0 b) && nat_eq (length a) (length b))
same_plans cells cells' len len' a b eq r s h h' e e' same all =
    let c : cells ≡ padded STEP_LIMIT 0 a = sym (padded-take STEP_LIMIT 0 cells len h) ∙ ap (padded STEP_LIMIT 0) e in
    let c' : cells' ≡ padded STEP_LIMIT 0 b = sym (padded-take STEP_LIMIT 0 cells' len' h') ∙ ap (padded STEP_LIMIT 0) e' in
    let n : len ≡ length a = sym (length-taken STEP_LIMIT 0 cells len h) ∙ ap length e in
    let n' : len' ≡ length b = sym (length-taken STEP_LIMIT 0 cells' len' h') ∙ ap length e' in
    all ∙ (λ i. same i && eq (c i) (c' i)) ∙ (λ i. nat_eq (n i) (n' i) && eq (padded STEP_LIMIT 0 a) (padded STEP_LIMIT 0 b)) ∙
    and_swap (nat_eq (length a) (length b)) (eq (padded STEP_LIMIT 0 a) (padded STEP_LIMIT 0 b))
