-- How texts that are put one after the other add up.
use Rattle.std.proofs.Common.{◌≡◌, ℕ, ◌+◌, ◌<◌, List, [], ◌∷◌, ◌++◌, length, take, drop, get_or, Option, sym, ap, subst, ◌∙◌, arith}
use Rattle.std.specs.List.{AllZip, flat_map}
use Rattle.std.proofs.lemmas.Grind.{flat_map-append}
use Rattle.std.proofs.lemmas.List.{take-append-drop, append-nil, drop_more, take_more}
use Rattle.wf_outside.specs.Laws.Outside.{with_bytes, HasPart}
use Rattle.wf_outside.proofs.OutsideLaws.{more_put, part_first, part_second}

-- the text of one more item is put
pub put_more : {X : Type 0} (text : X → List ℕ) (held mid after : Option (List ℕ)) (xs : List X) (i : ℕ) (x : X) → i < length xs → x ≡ get_or xs i x
    → mid ≡ with_bytes held (flat_map text (take i xs)) → after ≡ with_bytes mid (text x) → after ≡ with_bytes held (flat_map text (take (i + 1) xs))
put_more text held mid after xs i x within is so_far now =
    let front = flat_map text (take i xs) in
    now ∙ ap (λ m. with_bytes m (text x)) so_far ∙ more_put held front (text x)
    ∙ ap (with_bytes held) (ap (λ t. front ++ t) (sym (append-nil (text x))) ∙ sym (flat_map-append text (take i xs) (x ∷ [])) ∙
    ap (flat_map text) (ap (λ y. take i xs ++ y ∷ []) is ∙ sym (take_more xs i x within)))

-- or only a part of it
pub put_part : {X : Type 0} (text : X → List ℕ) (held mid after : Option (List ℕ)) (xs : List X) (i : ℕ) (x : X) → i < length xs → x ≡ get_or xs i x
    → mid ≡ with_bytes held (flat_map text (take i xs)) → HasPart mid after (text x) → HasPart held after (flat_map text xs)
put_part text held mid after xs i x within is so_far part =
    let front = flat_map text (take i xs) in
    let rest = flat_map text (drop (i + 1) xs) in
    let split : xs ≡ take i xs ++ (x ∷ drop (i + 1) xs) =
    sym (take-append-drop i xs) ∙ ap (λ d. take i xs ++ d) (drop_more xs i x within ∙ ap (λ y. y ∷ drop (i + 1) xs) (sym is)) in
    let whole : flat_map text xs ≡ front ++ (text x ++ rest) = ap (flat_map text) split ∙ flat_map-append text (take i xs) (x ∷ drop (i + 1) xs) in
    subst (HasPart held after) (sym whole)
    (part_second held after front (text x ++ rest)
    (part_first (with_bytes held front) after (text x) rest (subst (λ m. HasPart m after (text x)) so_far part)))

-- items that have the texts of others, one by one, have the same text together
pub texts_same : {X Y : Type 0} (one : X → List ℕ) (other : Y → List ℕ) (xs : List X) (ys : List Y) → AllZip (λ x y. other y ≡ one x) xs ys →
    flat_map other ys ≡ flat_map one xs
texts_same one other [] ys each = grind arith
texts_same one other (x ∷ xs) [] each = absurd each
texts_same one other (x ∷ xs) (y ∷ ys) each = grind (arith, (texts_same one other xs ys each.1))
