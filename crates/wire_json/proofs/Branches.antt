-- The values of branches, one after the other.
use Rattle.std.proofs.Common.{◌≡◌, ℕ, ◌+◌, ◌<◌, ◌≤◌, List, [], ◌∷◌, ◌++◌, length, drop, get_or, append-nil, refl, ap, Result, IfOk, arith}
use Rattle.std.specs.Prelude.{map}
use Rattle.std.proofs.lemmas.List.{drop_more}
use Rattle.serde_json.specs.declared.value.Value.{Value}
use Rattle.serde_json.specs.Data.{Data, array}
use Rattle.serde_json.specs.View.{view, items_of}
use Rattle.refutation_tree.specs.Tree.{Kids}
use Rattle.refutation_tree.specs.Laws.Views.{branch_onto, kid_onto, kids_of_items}
use Rattle.refutation_tree.specs.declared.tree.Branch.{Branch}
use Rattle.refutation_tree.specs.declared.tree.Kid.{Kid}
use Rattle.policy_book.specs.Laws.Shapes.{PolicyShape}
use Rattle.wire_json.specs.Entries.{user_data}
use Rattle.wire_json.specs.Trees.{branches_data, kid_data}
use Rattle.wire_json.proofs.Texts.{all_dropped}

-- one more value, and others behind it
pub one_more : (vs : List Value) (v : Value) (rest : List Data) → map view (vs ++ v ∷ []) ++ rest ≡ map view vs ++ view v ∷ rest
one_more [] v rest = refl
one_more (w ∷ vs) v rest = ap (λ ds. view w ∷ ds) (one_more vs v rest)

-- a branch before the others
pub first_branch : (p : PolicyShape) (f u : ℕ) (k : Kid) (d : Data) (rest : Kids) → d ≡ array (items_of (user_data p u ∷ kid_data p f k ∷ []))
    → branches_data p f (kid_onto k u rest) ≡ d ∷ branches_data p f rest
first_branch p f u k d rest is = grind arith

pub if_ok : {E : Type 0} (P Q : Value → Type 0) (r : Result Value E) → ((v : Value) → P v → Q v) → IfOk r P → IfOk r Q
if_ok P Q r more here = grind arith

pub branch_added : (p : PolicyShape) (f : ℕ) (bs : List Branch) (i : ℕ) (b : Branch) (old new : List Value) (v : Value) (whole : List Data) →
    i < length bs → b ≡ get_or bs i b
    → ((rest : Kids) → branches_data p f (branch_onto b rest) ≡ view v ∷ branches_data p f rest) → new ≡ old ++ v ∷ []
    → map view old ++ branches_data p f (kids_of_items (drop i bs)) ≡ whole → map view new ++ branches_data p f (kids_of_items (drop (i + 1) bs)) ≡ whole
branch_added p f bs i b old new v whole within is here e before = grind (arith, drop_more, one_more)

pub branches_ended : (p : PolicyShape) (f : ℕ) (bs : List Branch) (i : ℕ) (vs : List Value) (whole : List Data) → length bs ≤ i
    → map view vs ++ branches_data p f (kids_of_items (drop i bs)) ≡ whole → map view vs ≡ whole
branches_ended p f bs i vs whole end here = grind (arith, append-nil, all_dropped)
