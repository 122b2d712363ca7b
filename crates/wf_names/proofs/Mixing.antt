-- Lists of words mixed place by place, several places at a time and then one by one.
use Rattle.std.proofs.Common.{◌≡◌, ℕ, ◌+◌, ◌*◌, ◌<◌, ◌≤◌, List, length, get_or, slice_index, slice_set, bit_and, bit_xor, sym, ap, ◌∙◌, arith}
use Rattle.std.proofs.Common.{length-set, get_or-set_same, get_or-set_other}
use Rattle.std.proofs.lemmas.Bool.{cases_eq, cases_lt}
use Rattle.std.specs.Simd.Lanes.{zip2, chunk, put_chunk}
use Rattle.std.proofs.lemmas.Simd.{length-zip2, length-chunk, get_or-chunk, get_or-zip2, get_or-put_chunk_below, get_or-put_chunk_at, get_or-put_chunk_above}
use Rattle.std.proofs.lemmas.Grind.{same_number_lists}
use Rattle.wf_names.specs.Words.{minus, IsMixedUpTo, IsMixedFrom}

-- a vector stored at a place, each of whose lanes is mixed
stored_mixed : (f : ℕ → ℕ → ℕ) (at : ℕ) (old by ys : List ℕ) → length ys ≡ 8 → at + 8 ≤ length old
    → ((i : ℕ) → i < 8 → get_or ys i 0 ≡ f (slice_index old (at + i)) (slice_index by (at + i)))
    → IsMixedFrom f at old by (put_chunk at old ys)
stored_mixed f at old by ys eight room lanes = grind (arith, get_or-put_chunk_below, get_or-put_chunk_at, get_or-put_chunk_above)

pub vector_mixed : (f : ℕ → ℕ → ℕ) (at : ℕ) (old by : List ℕ) → length old ≡ length by → at + 8 ≤ length by
    → IsMixedFrom f at old by (put_chunk at old (zip2 f (chunk at 8 old) (chunk at 8 by)))
vector_mixed f at old by same room =
    let room' : at + 8 ≤ length old = omega (arith, same, room) in
    let own = length-chunk at 8 old room' in
    let other = length-chunk at 8 by room in
    stored_mixed f at old by _ (length-zip2 f _ _ (own ∙ sym other) ∙ own) room'
    (λ i h.
    get_or-zip2 f _ _ i 0 0 0 (omega (arith, h, own)) (omega (arith, h, other))
    ∙ ap (λ a. f a (get_or (chunk at 8 by) i 0)) (get_or-chunk at 8 old i 0 h)
    ∙ ap (λ b. f (get_or old (at + i) 0) b) (get_or-chunk at 8 by i 0 h))

pub vector_struck : (at : ℕ) (old by : List ℕ) → length old ≡ length by → at + 8 ≤ length by
    → IsMixedFrom minus at old by (put_chunk at old (zip2 bit_xor (chunk at 8 old) (zip2 bit_and (chunk at 8 old) (chunk at 8 by))))
vector_struck at old by same room =
    let room' : at + 8 ≤ length old = omega (arith, same, room) in
    let own = length-chunk at 8 old room' in
    let other = length-chunk at 8 by room in
    let both = length-zip2 bit_and (chunk at 8 old) (chunk at 8 by) (own ∙ sym other) ∙ own in
    stored_mixed minus at old by _ (length-zip2 bit_xor _ _ (own ∙ sym both) ∙ own) room'
    (λ i h.
    get_or-zip2 bit_xor _ _ i 0 0 0 (omega (arith, h, own)) (omega (arith, h, both))
    ∙ ap (λ b. bit_xor (get_or (chunk at 8 old) i 0) b) (get_or-zip2 bit_and _ _ i 0 0 0 (omega (arith, h, own)) (omega (arith, h, other)))
    ∙ ap (λ a. minus a (get_or (chunk at 8 by) i 0)) (get_or-chunk at 8 old i 0 h)
    ∙ ap (λ b. minus (get_or old (at + i) 0) b) (get_or-chunk at 8 by i 0 h))

pub mixed_all : (f : ℕ → ℕ → ℕ) (n : ℕ) (old by new : List ℕ) → length old ≡ length by → n ≡ length old
    → IsMixedUpTo f n old by new → new ≡ zip2 f old by
mixed_all f n old by new same whole m = grind (arith, same_number_lists, length-zip2, get_or-zip2)

-- eight words more
pub mixed_on : (f : ℕ → ℕ → ℕ) (lane : ℕ) (old by into new : List ℕ) → length new ≡ length into
    → IsMixedUpTo f (lane * 8) old by into → IsMixedFrom f (lane * 8) into by new → IsMixedUpTo f ((lane + 1) * 8) old by new
mixed_on f lane old by into new same m n = grind (arith, cases_lt)

-- one word more
pub mixed_next : (f : ℕ → ℕ → ℕ) (n : ℕ) (old by into : List ℕ) → n < length into → IsMixedUpTo f n old by into
    → IsMixedUpTo f (n + 1) old by (slice_set into n (f (slice_index into n) (slice_index by n)))
mixed_next f n old by into within m = grind (arith, length-set, cases_eq, get_or-set_same, get_or-set_other)

pub ruleset mixing = (mixed_on, mixed_next, mixed_all)
