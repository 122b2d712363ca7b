-- The texts of branches, one after the other.
use Rattle.std.proofs.Common.{◌≡◌, ℕ, ◌+◌, ◌<◌, ◌≤◌, List, [], ◌∷◌, ◌++◌, length, drop, get_or, Bool, true, refl, sym, ap, ◌∙◌}
use Rattle.std.proofs.lemmas.List.{drop_more}
use Rattle.serde_json.specs.View.{items_of}
use Rattle.serde_json.specs.Written.{comma_if, compact_text, items_text}
use Rattle.refutation_tree.specs.Laws.Views.{kids_of_items}
use Rattle.refutation_tree.specs.declared.tree.Branch.{Branch}
use Rattle.policy_book.specs.Laws.Shapes.{PolicyShape}
use Rattle.wire_json.specs.Trees.{branch_data, branches_data}
use Rattle.wire_json.proofs.Branches.{first_branch}
use Rattle.wire_json.proofs.Texts.{all_dropped, one_more}

-- the text of branches, with a comma before them where others stand before
abbrev branches_text : PolicyShape → ℕ → Bool → List Branch → List ℕ
branches_text p f later bs = items_text later (items_of (branches_data p f (kids_of_items bs)))

pub branch_text_added : (p : PolicyShape) (f : ℕ) (bs : List Branch) (i : ℕ) (b : Branch) (old new whole : List ℕ) (later : Bool) → i < length bs
    → b ≡ get_or bs i b → new ≡ old ++ (comma_if later ++ compact_text (branch_data p f b)) → old ++ branches_text p f later (drop i bs) ≡ whole
    → new ++ branches_text p f true (drop (i + 1) bs) ≡ whole
branch_text_added p f bs i b old new whole later within is e here =
    let rest = kids_of_items (drop (i + 1) bs) in
    let next : drop i bs ≡ b ∷ drop (i + 1) bs = drop_more bs i b within ∙ ap (λ x. x ∷ drop (i + 1) bs) (sym is) in
    one_more old new later (branch_data p f b) (items_of (branches_data p f rest)) e
    ∙ ap (λ ds. old ++ items_text later (items_of ds)) (sym (first_branch p f b.user b.kid (branch_data p f b) rest refl))
    ∙ ap (λ ys. old ++ branches_text p f later ys) (sym next)
    ∙ here

pub branch_texts_ended : (p : PolicyShape) (f : ℕ) (bs : List Branch) (i : ℕ) (old new whole : List ℕ) (later : Bool) → length bs ≤ i → new ≡ old ++ 93 ∷ []
    → old ++ branches_text p f later (drop i bs) ≡ whole → new ≡ whole
branch_texts_ended p f bs i old new whole later end e here = e ∙ ap (λ ys. old ++ branches_text p f later ys) (sym (all_dropped bs i end)) ∙ here
