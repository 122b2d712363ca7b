-- Trees are read as they were written, and what is read as a tree is what is written for it.
use Rattle.std.proofs.Common.{◌≡◌, ℕ, ◌<◌, List, Bool, true, false, refl, sym, ap, ap₂, ◌∙◌, subst, lt-ltb, arith}
use Rattle.std.specs.Prelude.{Option, Some, None, option_map, option_and_then, codes, nat_eq, if◌then◌else◌}
use Rattle.std.specs.Cmp.Lexicographic.{pointwise, bytes_decides}
use Rattle.std.proofs.lemmas.Bool.{and_parts}
use Rattle.serde_json.specs.Data.{Data, unsigned, null, boolean, number, string, array, object, Items, no_items, item, Members, no_members}
use Rattle.serde_json.specs.Data.{member}
use Rattle.serde_json.specs.View.{items_of}
use Rattle.refutation_tree.specs.Tree.{Shape, Kids, holder, rule, node, no_kids, tree_kid, twin_kid}
use Rattle.policy_book.specs.Laws.Shapes.{PolicyShape}
use Rattle.policy_book.specs.Policies.{flow_at}
use Rattle.wire_json.specs.Entries.{single, user_data, step_data}
use Rattle.wire_json.specs.Trees.{tree_data, branches_data}
use Rattle.entry_reader.specs.Named.{HasNames}
use Rattle.entry_reader.specs.Laws.Within.{IsUser, IsStepOf, IsTree, AreKids}
use Rattle.entry_reader.specs.Values.{below, user_read, step_read, twin_read, with_kid, are_node_keys, tree_in, tree_at, kids_of, kids_in, kid_in, kid_at}
use Rattle.entry_reader.proofs.Readings.{and_then_some, map_some, none_some, some_same}
use Rattle.entry_reader.proofs.NamesBack.{numbered_named, IsNumbered, numbered_is}

-- ---- as they were written

pub below_back : (bound n : ℕ) → n < bound → below bound (number (unsigned n)) ≡ Some n
below_back bound n h = rw (lt-ltb n bound h) refl

pub user_back : (p : PolicyShape) (u : ℕ) → HasNames p → IsUser p u → user_read p (user_data p u) ≡ Some u
user_back p u k h = numbered_named p.roster.users u k.users h

pub step_back : (p : PolicyShape) (f s : ℕ) → HasNames p → IsStepOf p f s → step_read p f (step_data p f s) ≡ Some s
step_back p f s k h = numbered_named (flow_at p f).flow.steps s (k.steps f) h

no_twin : (p : PolicyShape) (f : ℕ) (t : Shape) → twin_read p (tree_data p f t) ≡ None
no_twin p f (holder s) = refl
no_twin p f t = grind arith

mutual
  pub tree_back : (p : PolicyShape) (f : ℕ) (t : Shape) → HasNames p → IsTree p f t → tree_in p f (tree_data p f t) ≡ Some t
  tree_back p f (holder s) k h = ap (option_map holder) (step_back p f s k h)
  tree_back p f (rule n) k h = ap (option_map rule) (below_back 256 n h)
  tree_back p f (node s kids) k h =
      ap (option_and_then (λ s. option_map (node s) (kids_in p f (items_of (branches_data p f kids))))) (step_back p f s k h.0)
      ∙ ap (option_map (node s)) (kids_back p f kids k h.1)

  kids_back : (p : PolicyShape) (f : ℕ) (kids : Kids) → HasNames p → AreKids p f kids → kids_in p f (items_of (branches_data p f kids)) ≡ Some kids
  kids_back p f no_kids k h = refl
  kids_back p f (tree_kid u t kids) k h =
      let rest = kids_in p f (items_of (branches_data p f kids)) in
      let d = tree_data p f t in
      ap (option_and_then (λ n. with_kid n (twin_read p d) (tree_in p f d) rest)) (user_back p u k h.0)
      ∙ ap (λ o. with_kid u o (tree_in p f d) rest) (no_twin p f t)
      ∙ ap (λ o. with_kid u None o rest) (tree_back p f t k h.1)
      ∙ ap (option_map (tree_kid u t)) (kids_back p f kids k h.2)
  kids_back p f (twin_kid u v kids) k h =
      let rest = kids_in p f (items_of (branches_data p f kids)) in
      let d = single (codes "twin") (user_data p v) in
      ap (option_and_then (λ n. with_kid n (twin_read p d) (tree_in p f d) rest)) (user_back p u k h.0)
      ∙ ap (λ o. with_kid u o (tree_in p f d) rest) (user_back p v k h.1)
      ∙ ap (option_map (twin_kid u v)) (kids_back p f kids k h.2)

-- ---- and nothing else is read

pub record IsBelow (bound : ℕ) (d : Data) (n : ℕ) : Type 0 where
  pub below : n < bound
  pub written : number (unsigned n) ≡ d

pub below_is : (bound : ℕ) (d : Data) (n : ℕ) → below bound d ≡ Some n → IsBelow bound d n
below_is bound d n e = grind arith

pub record IsTreeOf (p : PolicyShape) (f : ℕ) (d : Data) (t : Shape) : Type 0 where
  pub tree : IsTree p f t
  pub written : tree_data p f t ≡ d

key_is : (k w : List ℕ) → pointwise nat_eq k w ≡ true → k ≡ w
key_is k w h = (bytes_decides k w).0 h

holder_leaf : (p : PolicyShape) (f : ℕ) (k : List ℕ) (d : Data) (t : Shape) → pointwise nat_eq k (codes "holder") ≡ true →
    option_map holder (step_read p f d) ≡ Some t → IsTreeOf p f (object (member k d no_members)) t
holder_leaf p f k d t key e =
    let r = map_some (step_read p f d) holder t e in
    let s = numbered_is (flow_at p f).flow.steps d r.found r.there in
    record {
      tree = subst (λ (x : Shape). IsTree p f x) r.same s.within;
      written = ap (tree_data p f) (sym r.same) ∙ ap₂ (λ w x. object (member w x no_members)) (sym (key_is k (codes "holder") key)) s.written;
    }

rule_leaf : (p : PolicyShape) (f : ℕ) (k : List ℕ) (d : Data) (t : Shape) → pointwise nat_eq k (codes "rule") ≡ true →
    option_map rule (below 256 d) ≡ Some t → IsTreeOf p f (object (member k d no_members)) t
rule_leaf p f k d t key e =
    let r = map_some (below 256 d) rule t e in
    let n = below_is 256 d r.found r.there in
    record {
      tree = subst (λ (x : Shape). IsTree p f x) r.same n.below;
      written = ap (tree_data p f) (sym r.same) ∙ ap₂ (λ w x. object (member w x no_members)) (sym (key_is k (codes "rule") key)) n.written;
    }

rule_or_none : (p : PolicyShape) (f : ℕ) (k : List ℕ) (d : Data) (t : Shape) (b : Bool) → pointwise nat_eq k (codes "rule") ≡ b →
    (if b then option_map rule (below 256 d) else None) ≡ Some t → IsTreeOf p f (object (member k d no_members)) t
rule_or_none p f k d t true h e = rule_leaf p f k d t h e
rule_or_none p f k d t false h e = absurd (none_some t e)

leaf_is : (p : PolicyShape) (f : ℕ) (k : List ℕ) (d : Data) (t : Shape) (b : Bool) → pointwise nat_eq k (codes "holder") ≡ b
    → (if b then option_map holder (step_read p f d) else if pointwise nat_eq k (codes "rule") then option_map rule (below 256 d) else None) ≡ Some t
    → IsTreeOf p f (object (member k d no_members)) t
leaf_is p f k d t true h e = holder_leaf p f k d t h e
leaf_is p f k d t false h e = rule_or_none p f k d t (pointwise nat_eq k (codes "rule")) refl e

pub record AreKidsOf (p : PolicyShape) (f : ℕ) (d : Data) (kids : Kids) : Type 0 where
  pub inside : AreKids p f kids
  pub written : array (items_of (branches_data p f kids)) ≡ d

pub record AreKidsIn (p : PolicyShape) (f : ℕ) (ds : Items) (kids : Kids) : Type 0 where
  pub inside : AreKids p f kids
  pub written : items_of (branches_data p f kids) ≡ ds

node_of : (p : PolicyShape) (f : ℕ) (k l : List ℕ) (d e : Data) (t : Shape) (b : Bool) → are_node_keys k l ≡ b →
    ((kids : Kids) → kids_of p f e ≡ Some kids → AreKidsOf p f e kids)
    → (if b then option_and_then (λ s. option_map (node s) (kids_of p f e)) (step_read p f d) else None) ≡ Some t →
    IsTreeOf p f (object (member k d (member l e no_members))) t
node_of p f k l d e t true h kids_are g =
    let r = and_then_some (step_read p f d) (λ s. option_map (node s) (kids_of p f e)) t g in
    let s = numbered_is (flow_at p f).flow.steps d r.found r.there in
    let q = map_some (kids_of p f e) (node r.found) t r.then_ in
    let kids = kids_are q.found q.there in
    let keys = and_parts (pointwise nat_eq k (codes "step")) (pointwise nat_eq l (codes "users")) h in
    let first : codes "step" ≡ k = sym (key_is k (codes "step") keys.0) in
    let second : codes "users" ≡ l = sym (key_is l (codes "users") keys.1) in
    record {
      tree = subst (λ (x : Shape). IsTree p f x) q.same (s.within, kids.inside);
      written = grind arith;
    }
node_of p f k l d e t false h kids_are g = absurd (none_some t g)

-- a branch with its twin, or with its tree
twin_key : (p : PolicyShape) (k : List ℕ) (d : Data) (v : ℕ) (b : Bool) → pointwise nat_eq k (codes "twin") ≡ b → (if b then user_read p d else None) ≡ Some v
    → IsUser p v × (single (codes "twin") (user_data p v) ≡ object (member k d no_members))
twin_key p k d v true h e =
    let u = numbered_is p.roster.users d v e in
    (u.within, ap₂ (λ w x. object (member w x no_members)) (sym (key_is k (codes "twin") h)) u.written)
twin_key p k d v false h e = absurd (none_some v e)

twin_is : (p : PolicyShape) (x : Data) (v : ℕ) → twin_read p x ≡ Some v → IsUser p v × (single (codes "twin") (user_data p v) ≡ x)
twin_is p x v e = grind (arith, none_some, twin_key)

kid_is : (p : PolicyShape) (f u : ℕ) (d x : Data) (ds : Items) (o : Option ℕ) (kids : Kids) → twin_read p x ≡ o → IsNumbered p.roster.users d u
    → ((t : Shape) → tree_in p f x ≡ Some t → IsTreeOf p f x t) → ((k : Kids) → kids_in p f ds ≡ Some k → AreKidsIn p f ds k)
    → with_kid u o (tree_in p f x) (kids_in p f ds) ≡ Some kids → AreKidsIn p f (item (array (item d (item x no_items))) ds) kids
kid_is p f u d x ds (Some v) kids twin user tree rest e =
    let r = map_some (kids_in p f ds) (twin_kid u v) kids e in
    let more = rest r.found r.there in
    let other = twin_is p x v twin in
    record {
      inside = subst (λ (k : Kids). AreKids p f k) r.same (user.within, other.0, more.inside);
      written = grind arith;
    }
kid_is p f u d x ds None kids twin user tree rest e =
    let q = and_then_some (tree_in p f x) (λ t. option_map (tree_kid u t) (kids_in p f ds)) kids e in
    let below = tree q.found q.there in
    let r = map_some (kids_in p f ds) (tree_kid u q.found) kids q.then_ in
    let more = rest r.found r.there in
    record {
      inside = subst (λ (k : Kids). AreKids p f k) r.same (user.within, below.tree, more.inside);
      written = grind arith;
    }

mutual
  pub tree_is : (p : PolicyShape) (f : ℕ) (d : Data) (t : Shape) → tree_in p f d ≡ Some t → IsTreeOf p f d t
  tree_is p f null t e = absurd (none_some t e)
  tree_is p f (boolean b) t e = absurd (none_some t e)
  tree_is p f (number n) t e = absurd (none_some t e)
  tree_is p f (string s) t e = absurd (none_some t e)
  tree_is p f (array ds) t e = absurd (none_some t e)
  tree_is p f (object ms) t e = tree_at_is p f ms t e

  tree_at_is : (p : PolicyShape) (f : ℕ) (ms : Members) (t : Shape) → tree_at p f ms ≡ Some t → IsTreeOf p f (object ms) t
  tree_at_is p f no_members t e = absurd (none_some t e)
  tree_at_is p f (member k d no_members) t e = leaf_is p f k d t (pointwise nat_eq k (codes "holder")) refl e
  tree_at_is p f (member k d (member l x no_members)) t e = node_of p f k l d x t (are_node_keys k l) refl (kids_of_is p f x) e
  tree_at_is p f (member k d (member l x (member m g ms))) t e = absurd (none_some t e)

  kids_of_is : (p : PolicyShape) (f : ℕ) (d : Data) (kids : Kids) → kids_of p f d ≡ Some kids → AreKidsOf p f d kids
  kids_of_is p f null kids e = absurd (none_some kids e)
  kids_of_is p f (boolean b) kids e = absurd (none_some kids e)
  kids_of_is p f (number n) kids e = absurd (none_some kids e)
  kids_of_is p f (string s) kids e = absurd (none_some kids e)
  kids_of_is p f (array ds) kids e = let r = kids_in_is p f ds kids e in record { inside = r.inside; written = ap array r.written }
  kids_of_is p f (object ms) kids e = absurd (none_some kids e)

  kids_in_is : (p : PolicyShape) (f : ℕ) (ds : Items) (kids : Kids) → kids_in p f ds ≡ Some kids → AreKidsIn p f ds kids
  kids_in_is p f no_items kids e =
      let same : no_kids ≡ kids = some_same no_kids kids e in
      record { inside = subst (λ (k : Kids). AreKids p f k) same tt; written = ap (λ k. items_of (branches_data p f k)) (sym same) }
  kids_in_is p f (item d ds) kids e = kid_in_is p f d ds kids (kids_in_is p f ds) e

  kid_in_is : (p : PolicyShape) (f : ℕ) (d : Data) (ds : Items) (kids : Kids) → ((k : Kids) → kids_in p f ds ≡ Some k → AreKidsIn p f ds k)
      → kid_in p f d (kids_in p f ds) ≡ Some kids → AreKidsIn p f (item d ds) kids
  kid_in_is p f null ds kids rest e = absurd (none_some kids e)
  kid_in_is p f (boolean b) ds kids rest e = absurd (none_some kids e)
  kid_in_is p f (number n) ds kids rest e = absurd (none_some kids e)
  kid_in_is p f (string s) ds kids rest e = absurd (none_some kids e)
  kid_in_is p f (array xs) ds kids rest e = kid_at_is p f xs ds kids rest e
  kid_in_is p f (object ms) ds kids rest e = absurd (none_some kids e)

  kid_at_is : (p : PolicyShape) (f : ℕ) (xs ds : Items) (kids : Kids) → ((k : Kids) → kids_in p f ds ≡ Some k → AreKidsIn p f ds k)
      → kid_at p f xs (kids_in p f ds) ≡ Some kids → AreKidsIn p f (item (array xs) ds) kids
  kid_at_is p f no_items ds kids rest e = absurd (none_some kids e)
  kid_at_is p f (item d no_items) ds kids rest e = absurd (none_some kids e)
  kid_at_is p f (item d (item x no_items)) ds kids rest e =
      let r = and_then_some (user_read p d) (λ u. with_kid u (twin_read p x) (tree_in p f x) (kids_in p f ds)) kids e in
      kid_is p f r.found d x ds (twin_read p x) kids refl (numbered_is p.roster.users d r.found r.there) (tree_is p f x) rest r.then_
  kid_at_is p f (item d (item x (item g xs))) ds kids rest e = absurd (none_some kids e)
