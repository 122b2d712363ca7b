-- The line of a workflow that is retired.
use Rattle.std.proofs.Common.{◌≡◌, ℕ, zero, suc, true, Some, slice_get, List, [], ◌∷◌, ◌++◌, if◌then◌else◌, append_assoc, ap, sym, subst, ◌∙◌, codes}
use Rattle.policy_book.specs.Laws.Shapes.{PolicyShape}
use Rattle.policy_book.specs.Policies.{flow_at}
use Rattle.policy_reader.specs.Documents.{name_at}
use Rattle.case_story.specs.Printed.{retired_line}

pub remark_line : (p : PolicyShape) (f : ℕ) (old one two three name : List ℕ) → (flow_at p f).retired ≡ true → one ≡ old ++ codes "# workflow " →
    two ≡ one ++ name
    → three ≡ two ++ codes " is retired, which a policy file cannot say\n" → name ≡ name_at p.flow_names f → three ≡ old ++ retired_line p f
remark_line p f old one two three name is first second third named =
    let last = codes " is retired, which a policy file cannot say\n" in
    let all : three ≡ old ++ ((codes "# workflow " ++ name_at p.flow_names f) ++ last) =
    third ∙ ap (λ xs. xs ++ last) (second ∙ ap (λ xs. xs ++ name) first ∙ ap (λ n. (old ++ codes "# workflow ") ++ n) named ∙
    append_assoc old (codes "# workflow ") (name_at p.flow_names f))
    ∙ append_assoc old (codes "# workflow " ++ name_at p.flow_names f) last in
    subst (λ b. three ≡ old ++ (if b then (codes "# workflow " ++ name_at p.flow_names f) ++ last else [])) (sym is) all

-- the name with a number
pub named_at : (names : List (List ℕ)) (n : ℕ) (name : List ℕ) → slice_get names n ≡ Some name → name ≡ name_at names n
named_at [] n name is = cc
named_at (x ∷ xs) zero name is = cc
named_at (x ∷ xs) (suc n) name is = named_at xs n name is
