-- How long the texts of trees are.
use Rattle.std.proofs.Common.{◌≡◌, ℕ, zero, suc, ◌+◌, ◌*◌, ◌<◌, ◌≤◌, ◌^◌, List, [], ◌∷◌, ◌++◌, length, Bool, true, false, refl, ap, ◌∙◌, ◌⊎◌, inl, inr, arith}
use Rattle.std.proofs.Common.{Some, slice_get}
use Rattle.std.specs.Prelude.{codes, decimal, slice_index_or}
use Rattle.std.proofs.lemmas.Fmt.{length-decimal-le}
use Rattle.std.proofs.lemmas.Grind.{common_steps}
use Rattle.std.proofs.lemmas.List.{length-append}
use Rattle.json.specs.Print.{escape_byte, quoted}
use Rattle.serde_json.specs.Data.{array}
use Rattle.serde_json.specs.View.{items_of}
use Rattle.serde_json.specs.Written.{comma_if, compact_text, items_text}
use Rattle.wf_names.specs.Names.{is_name}
use Rattle.wf_names.specs.Table.{AreNames}
use Rattle.refutation_tree.specs.Tree.{Shape, Kids, holder, rule, node, no_kids, tree_kid, twin_kid, nodes_of, nodes_of_kids}
use Rattle.policy_book.specs.Laws.Shapes.{PolicyShape}
use Rattle.policy_book.specs.Policies.{flow_at}
use Rattle.wire_json.specs.Entries.{named, single, step_data, user_data}
use Rattle.wire_json.specs.Laws.Lengths.{HasSmallRules, HaveSmallRules, TreeTextsAreShort}
use Rattle.wire_json.specs.Trees.{branches_data, tree_data}
use Rattle.wire_json.proofs.Texts.{name_stays}

-- ---- lists

pub around : (a x b : List ℕ) → length (a ++ (x ++ b)) ≡ length a + (length x + length b)
around a x b = length-append a (x ++ b) ∙ ap (λ n. length a + n) (length-append x b)

-- a text between what opens an object and what closes it
pub framed : (front text : List ℕ) → length (front ++ (text ++ codes "}")) ≡ suc (length front) + length text
framed front text = grind (arith, around)

-- two texts there, with what parts them
pub framed_two : (front between a b : List ℕ) →
    length (front ++ (a ++ (between ++ (b ++ codes "}")))) ≡ suc (length front + length between) + (length a + length b)
framed_two front between a b = omega (arith, around front a (between ++ (b ++ codes "}")), framed between b)

-- ---- names

name_short : (s : List ℕ) → is_name s ≡ true → length s ≤ 40
unfolding is_name
name_short s h = grind (arith, common_steps)

pub quoted_short : (s : List ℕ) → is_name s ≡ true → length (quoted s) ≤ 42
quoted_short s h = grind (arith, length-append, name_stays, name_short)

-- a number stands for a name, or for the empty text
there_or_not : (names : List (List ℕ)) (n : ℕ) → (slice_index_or names n [] ≡ []) ⊎ (slice_get names n ≡ Some (slice_index_or names n []))
there_or_not [] n = inl refl
there_or_not (x ∷ xs) zero = inr refl
there_or_not (x ∷ xs) (suc n) = there_or_not xs n

pub named_short : (names : List (List ℕ)) (n : ℕ) → AreNames names → length (compact_text (named names n)) ≤ 42
named_short names n known = grind (arith, there_or_not, quoted_short)

-- ---- leaves

holder_short : (p : PolicyShape) (f s : ℕ) → AreNames (flow_at p f).flow.steps → length (compact_text (tree_data p f (holder s))) ≤ 62
unfolding escape_byte
holder_short p f s steps =
    let parts : length (compact_text (tree_data p f (holder s))) ≡ 11 + length (compact_text (step_data p f s)) =
    framed (codes "{\"holder\":") (compact_text (step_data p f s)) in
    omega (arith, parts, named_short (flow_at p f).flow.steps s steps)

rule_short : (p : PolicyShape) (f k : ℕ) → k < 2 ^ 8 → length (compact_text (tree_data p f (rule k))) ≤ 62
unfolding escape_byte
rule_short p f k small =
    let parts : length (compact_text (tree_data p f (rule k))) ≡ 9 + length (decimal k) = framed (codes "{\"rule\":") (decimal k) in
    omega (arith, parts, length-decimal-le 3 k (omega arith) (omega (arith, small)) (omega (arith, small)))

twin_short : (p : PolicyShape) (v : ℕ) → AreNames p.roster.users → length (compact_text (single (codes "twin") (user_data p v))) ≤ 51
unfolding escape_byte
twin_short p v users =
    let parts : length (compact_text (single (codes "twin") (user_data p v))) ≡ 9 + length (compact_text (user_data p v)) =
    framed (codes "{\"twin\":") (compact_text (user_data p v)) in
    omega (arith, parts, named_short p.roster.users v users)

-- ---- nodes

comma_short : (later : Bool) → length (comma_if later) ≤ 1
comma_short later = grind arith

-- a branch before others
branch_long : (later : Bool) (user kid rest : List ℕ) →
    length (comma_if later ++ ((91 ∷ (user ++ (44 ∷ (kid ++ 93 ∷ [])))) ++ rest)) ≤ 4 + (length user + (length kid + length rest))
branch_long later user kid rest = grind (arith, around, length-append, comma_short)

mutual
  unfolding escape_byte

  tree_short : (p : PolicyShape) (f : ℕ) → AreNames p.roster.users → AreNames (flow_at p f).flow.steps → (t : Shape) → HasSmallRules t →
      length (compact_text (tree_data p f t)) + 46 ≤ 108 * nodes_of t
  tree_short p f users steps (holder s) small = omega (arith, holder_short p f s steps)
  tree_short p f users steps (rule k) small = omega (arith, rule_short p f k small)
  tree_short p f users steps (node s kids) small =
      let parts : length (compact_text (tree_data p f (node s kids))) ≡
      18 + (length (compact_text (step_data p f s)) + length (compact_text (array (items_of (branches_data p f kids))))) =
      framed_two (codes "{\"step\":") (codes ",\"users\":") (compact_text (step_data p f s)) (compact_text (array (items_of (branches_data p f kids)))) in
      let whole : length (compact_text (array (items_of (branches_data p f kids)))) ≡ suc (length (items_text false (items_of (branches_data p f kids)))) =
      refl in
      omega (arith, parts, whole, named_short (flow_at p f).flow.steps s steps, kids_short p f users steps kids small false)

  kids_short : (p : PolicyShape) (f : ℕ) → AreNames p.roster.users → AreNames (flow_at p f).flow.steps → (kids : Kids) → HaveSmallRules kids →
      (later : Bool) → length (items_text later (items_of (branches_data p f kids))) ≤ 108 * nodes_of_kids kids + 1
  kids_short p f users steps no_kids small later = omega arith
  kids_short p f users steps (tree_kid u t kids) small later =
      omega (
        arith,
        branch_long later (compact_text (user_data p u)) (compact_text (tree_data p f t)) (items_text true (items_of (branches_data p f kids))),
        named_short p.roster.users u users,
        tree_short p f users steps t small.0,
        kids_short p f users steps kids small.1 true,
      )
  kids_short p f users steps (twin_kid u v kids) small later =
      omega (
        arith,
        branch_long later (compact_text (user_data p u)) (compact_text (single (codes "twin") (user_data p v))) (items_text true
            (items_of (branches_data p f kids))),
        named_short p.roster.users u users,
        twin_short p v users,
        kids_short p f users steps kids small true,
      )

pub tree_texts_are_short : TreeTextsAreShort
tree_texts_are_short p f t users steps small = tree_short p f users steps t small
