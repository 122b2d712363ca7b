-- Trees read by their parts, which nest less deep than the whole.
use Rattle.std.proofs.Common.{◌≡◌, ℕ, List, Bool, refl, sym, ap, ◌∙◌, arith}
use Rattle.std.specs.Prelude.{Option, Some, None, option_map, option_and_then}
use Rattle.serde_json.specs.Data.{Data, null, boolean, number, string, array, object, Items, no_items, item, no_members, member}
use Rattle.refutation_tree.specs.Tree.{Shape, Kids, no_kids, tree_kid, twin_kid, joined}
use Rattle.refutation_tree.specs.Laws.Views.{branch_onto}
use Rattle.refutation_tree.specs.declared.tree.Branch.{Branch}
use Rattle.refutation_tree.proofs.ShapeLaws.{kid_onto-joined, joined-assoc, joined-none}
use Rattle.policy_book.specs.Laws.Shapes.{PolicyShape}
use Rattle.entry_reader.specs.Values.{are_node_keys, tree_in, kids_in, kid_in, with_kid, node_parts, node_read, lone_leaf, pair_parts, user_read, twin_read}

-- a tree of a node's parts, or a leaf
abbrev pub of_parts : PolicyShape → ℕ → Data → Option (Data × Data) → Option Shape
of_parts p f d (Some n) = node_read p f n.0 n.1
of_parts p f d None = lone_leaf p f d

two_members : (p : PolicyShape) (f : ℕ) (k l : List ℕ) (d e : Data) (b : Bool) → are_node_keys k l ≡ b
    → tree_in p f (object (member k d (member l e no_members))) ≡ of_parts p f (object (member k d (member l e no_members)))
    (node_parts (object (member k d (member l e no_members))))
two_members p f k l d e b h = grind arith

pub tree_by_parts : (p : PolicyShape) (f : ℕ) (d : Data) → tree_in p f d ≡ of_parts p f d (node_parts d)
tree_by_parts p f null = refl
tree_by_parts p f (boolean b) = refl
tree_by_parts p f (number n) = refl
tree_by_parts p f (string s) = refl
tree_by_parts p f (array ds) = refl
tree_by_parts p f (object no_members) = refl
tree_by_parts p f (object (member k d no_members)) = refl
tree_by_parts p f (object (member k d (member l e no_members))) = two_members p f k l d e (are_node_keys k l) refl
tree_by_parts p f (object (member k d (member l e (member m g ms)))) = refl

pub tree_of_node : (p : PolicyShape) (f : ℕ) (d s u : Data) → Some (s, u) ≡ node_parts d → tree_in p f d ≡ node_read p f s u
tree_of_node p f d s u e = tree_by_parts p f d ∙ ap (of_parts p f d) (sym e)

pub tree_of_leaf : (p : PolicyShape) (f : ℕ) (d : Data) → None ≡ node_parts d → tree_in p f d ≡ lone_leaf p f d
tree_of_leaf p f d e = tree_by_parts p f d ∙ ap (of_parts p f d) (sym e)

-- a branch of its parts
abbrev pub kid_of_parts : PolicyShape → ℕ → Option Kids → Option (Data × Data) → Option Kids
kid_of_parts p f rest (Some b) = option_and_then (λ u. with_kid u (twin_read p b.1) (tree_in p f b.1) rest) (user_read p b.0)
kid_of_parts p f rest None = None

pub kid_by_parts : (p : PolicyShape) (f : ℕ) (d : Data) (rest : Option Kids) → kid_in p f d rest ≡ kid_of_parts p f rest (pair_parts d)
kid_by_parts p f null rest = refl
kid_by_parts p f (boolean b) rest = refl
kid_by_parts p f (number n) rest = refl
kid_by_parts p f (string s) rest = refl
kid_by_parts p f (array no_items) rest = refl
kid_by_parts p f (array (item d no_items)) rest = refl
kid_by_parts p f (array (item d (item e no_items))) rest = refl
kid_by_parts p f (array (item d (item e (item g ds)))) rest = refl
kid_by_parts p f (object ms) rest = refl

pub branch_twin : (p : PolicyShape) (f : ℕ) (d s x : Data) (u v : ℕ) (rest : Option Kids) → Some (s, x) ≡ pair_parts d → Some u ≡ user_read p s →
    Some v ≡ twin_read p x
    → kid_in p f d rest ≡ option_map (twin_kid u v) rest
branch_twin p f d s x u v rest e user twin = grind arith

pub branch_tree : (p : PolicyShape) (f : ℕ) (d s x : Data) (u : ℕ) (t : Shape) (rest : Option Kids) → Some (s, x) ≡ pair_parts d → Some u ≡ user_read p s →
    None ≡ twin_read p x → tree_in p f x ≡ Some t
    → kid_in p f d rest ≡ option_map (tree_kid u t) rest
branch_tree p f d s x u t rest e user twin tree = grind (arith, kid_by_parts)

pub branch_bad : (p : PolicyShape) (f : ℕ) (d s x : Data) (u : ℕ) (rest : Option Kids) → Some (s, x) ≡ pair_parts d → Some u ≡ user_read p s → None ≡ twin_read
    p x → tree_in p f x ≡ None
    → kid_in p f d rest ≡ None
branch_bad p f d s x u rest e user twin tree = grind (arith, kid_by_parts)

-- ---- branches one after the other

with_next : (so_far : Kids) (b : Branch) (o : Option Kids) →
    option_map (joined so_far) (option_map (branch_onto b) o) ≡ option_map (joined (joined so_far (branch_onto b no_kids))) o
with_next so_far b o = grind (arith, kid_onto-joined, joined-assoc)

pub kids_more : (p : PolicyShape) (f : ℕ) (whole : Option Kids) (so_far new : Kids) (b : Branch) (d : Data) (ds : Items)
    → whole ≡ option_map (joined so_far) (kids_in p f (item d ds)) → kid_in p f d (kids_in p f ds) ≡ option_map (branch_onto b) (kids_in p f ds)
    → new ≡ joined so_far (branch_onto b no_kids) → whole ≡ option_map (joined new) (kids_in p f ds)
kids_more p f whole so_far new b d ds e here is = grind (arith, with_next)

pub kids_end : (whole : Option Kids) (so_far : Kids) → whole ≡ option_map (joined so_far) (Some no_kids) → whole ≡ Some so_far
kids_end whole so_far e = e ∙ ap Some (joined-none so_far)

pub kids_start : (o : Option Kids) → o ≡ option_map (joined no_kids) o
kids_start o = grind arith
