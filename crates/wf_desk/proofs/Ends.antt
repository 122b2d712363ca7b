-- One more end of a batch.
use Rattle.std.proofs.Common.{◌≡◌, ℕ, zero, suc, ◌<◌, ◌≤◌, List, [], ◌∷◌, ◌++◌, length, ap, ◌∙◌, arith}
use Rattle.std.proofs.lemmas.List.{length-append}
use Rattle.std.proofs.Math.Seq.{get_or-append_seam}
use Rattle.wf_board.specs.Laws.Histories.{batch_end, batch_start}
use Rattle.wf_desk.specs.BatchLaws.{EndAt}

ends_last : (ends : List ℕ) (x : ℕ) → batch_start (ends ++ x ∷ []) (length (ends ++ x ∷ [])) ≡ x
ends_last ends x =
    let one_more : length (ends ++ x ∷ []) ≡ suc (length ends) = omega (arith, length-append ends (x ∷ [])) in
    ap (batch_start (ends ++ x ∷ [])) one_more ∙ get_or-append_seam ends x [] 0

end_within : (ends : List ℕ) (x k n : ℕ) → ((k : ℕ) → k < length ends → batch_end ends k ≤ n) → x ≤ n → k < length (ends ++ x ∷ []) →
    batch_end (ends ++ x ∷ []) k ≤ n
end_within [] x k n within last lt = grind arith
end_within (e ∷ ends) x zero n within last lt = within zero (omega arith)
end_within (e ∷ ends) x (suc k) n within last lt = end_within ends x k n (λ i below. within (suc i) (omega (arith, below))) last (omega (arith, lt))

pub end_more : (ends : List ℕ) (n x : ℕ) → EndAt ends n → n ≤ x → EndAt (ends ++ x ∷ []) x
end_more ends n x are more = grind (arith, end_within, ends_last)
