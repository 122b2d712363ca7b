-- The text of an entry that denies by a tree fits into a line.
use Rattle.entry_laws.proofs.Common.{◌≡◌, ℕ, ◌+◌, ◌≤◌, false, true, List, [], ◌∷◌, ◌++◌, length, Option, refl, arith, codes, length-decimal-le, length-append}
use Rattle.entry_laws.proofs.Common.{Data, compact_text, CASE_NUMBER_LIMIT, TRANSCRIPT_LINE_LIMIT, Tree, Shape, Kids, holder, rule, no_kids, tree_kid, twin_kid}
use Rattle.entry_laws.proofs.Common.{shape_of, PolicyShape, Entry, Reply, shows_large, reply_data, tree_data, IsEntry, AreKids, IsReply, IsTree, is_by_tree}
use Rattle.std.specs.Prelude.{decimal}
use Rattle.basics.proofs.Booleans.{lt_back_no}
use Rattle.json.specs.Print.{escape_byte}
use Rattle.refutation_tree.specs.Tree.{node, nodes_of}
use Rattle.wf_talk.specs.declared.reply.Reply.TheVariants as reply
use Rattle.wf_talk.specs.declared.reply.Denial.TheVariants as denial
use Rattle.wf_board.specs.declared.limits.TheConstants.{TREE_LIMIT}
use Rattle.wf_board.specs.Limits.{is_large}
use Rattle.wire_json.specs.Entries.{single}
use Rattle.wire_json.specs.Laws.Lengths.{HasSmallRules, HaveSmallRules}
use Rattle.wire_json.specs.Replies.{entry_text, strands_data}
use Rattle.wire_json.proofs.Lengths.{around, framed, framed_two, tree_texts_are_short}
use Rattle.entry_laws.specs.Laws.{HasNameForms, TreesFitLines}

-- ---- a tree

mutual
  small_rules : (p : PolicyShape) (f : ℕ) (t : Shape) → IsTree p f t → HasSmallRules t
  small_rules p f (holder s) is = tt
  small_rules p f (rule k) is = is
  small_rules p f (node s kids) is = small_rules_of p f kids is.1

  small_rules_of : (p : PolicyShape) (f : ℕ) (kids : Kids) → AreKids p f kids → HaveSmallRules kids
  small_rules_of p f no_kids is = tt
  small_rules_of p f (tree_kid u t kids) is = (small_rules p f t is.1, small_rules_of p f kids is.2)
  small_rules_of p f (twin_kid u v kids) is = small_rules_of p f kids is.2

-- a tree that is not too large
tree_long : (p : PolicyShape) (f : ℕ) (tree : Tree) → HasNameForms p → IsTree p f (shape_of tree) → is_large tree ≡ false →
    length (compact_text (tree_data p f (shape_of tree))) ≤ 16200000
tree_long p f tree names is small =
    let few : nodes_of (shape_of tree) ≤ TREE_LIMIT = lt_back_no TREE_LIMIT (nodes_of (shape_of tree)) small in
    omega (arith, few, tree_texts_are_short p f (shape_of tree) names.users (names.steps f) (small_rules p f (shape_of tree) is))

-- ---- a denial by it

denied_long : (d : Data) → length (compact_text (single (codes "denied") d)) ≡ 11 + length (compact_text d)
unfolding escape_byte
denied_long d = framed (codes "{\"denied\":") (compact_text d)

unsatisfiable_long : (d : Data) → length (compact_text (single (codes "unsatisfiable") d)) ≡ 18 + length (compact_text d)
unfolding escape_byte
unsatisfiable_long d = framed (codes "{\"unsatisfiable\":") (compact_text d)

stranded_long : (d : Data) → length (compact_text (single (codes "stranded") d)) ≡ 13 + length (compact_text d)
unfolding escape_byte
stranded_long d = framed (codes "{\"stranded\":") (compact_text d)

strands_long : (d : Data) → length (compact_text (single (codes "strands") d)) ≡ 12 + length (compact_text d)
unfolding escape_byte
strands_long d = framed (codes "{\"strands\":") (compact_text d)

-- the case beside the tree
beside_long : (n : ℕ) (d : Data) → n ≤ CASE_NUMBER_LIMIT → length (compact_text (strands_data n d)) ≤ 22 + length (compact_text d)
unfolding escape_byte
beside_long n d known =
    let parts : length (compact_text (strands_data n d)) ≡ 17 + (length (decimal n) + length (compact_text d)) =
    framed_two (codes "{\"case\":") (codes ",\"tree\":") (decimal n) (compact_text d) in
    omega (arith, parts, length-decimal-le 5 n (omega arith) (omega (arith, known)) (omega (arith, known)))

-- a reply that denies by a tree
reply_long : (p : PolicyShape) (flows : ℕ → Option ℕ) (o : Option ℕ) (given : Reply) → HasNameForms p → IsReply p flows o given →
    is_by_tree given ≡ true → shows_large given ≡ false →
    length (compact_text (reply_data p given)) ≤ 16200100
reply_long p flows o (reply.Denied (denial.Unsatisfiable f tree)) names is by_tree small =
    let text = tree_data p f (shape_of tree) in
    omega (arith, denied_long (single (codes "unsatisfiable") text), unsatisfiable_long text, tree_long p f tree names is.1 small)
reply_long p flows o (reply.Denied (denial.Stranded f tree)) names is by_tree small =
    let text = tree_data p f (shape_of tree) in
    omega (arith, denied_long (single (codes "stranded") text), stranded_long text, tree_long p f tree names is.1 small)
reply_long p flows o (reply.Denied (denial.Strands n f tree)) names is by_tree small =
    let text = tree_data p f (shape_of tree) in
    let denied = denied_long (single (codes "strands") (strands_data n text)) in
    omega (arith, denied, strands_long (strands_data n text), beside_long n text is.0, tree_long p f tree names is.2 small)
reply_long p flows o given names is by_tree small = let apart : false ≡ true = by_tree in cc

-- ---- an entry

-- what stands beside the reply
entry_long : (at lane line given : List ℕ) →
    length (codes "{\"at\":" ++ (at ++ (codes ",\"lane\":" ++ (lane ++ (codes ",\"line\":" ++ (line ++ (codes ",\"reply\":" ++ (given ++ codes "}"))))))))
    ≡ 32 + (length at + (length lane + (length line + length given)))
entry_long at lane line given =
    let one = around (codes "{\"at\":") at (codes ",\"lane\":" ++ (lane ++ (codes ",\"line\":" ++ (line ++ (codes ",\"reply\":" ++ (given ++ codes "}")))))) in
    let two = around (codes ",\"lane\":") lane (codes ",\"line\":" ++ (line ++ (codes ",\"reply\":" ++ (given ++ codes "}")))) in
    let three = around (codes ",\"line\":") line (codes ",\"reply\":" ++ (given ++ codes "}")) in
    let four = framed (codes ",\"reply\":") given in
    let a : length (codes "{\"at\":") ≡ 6 = refl in
    let b : length (codes ",\"lane\":") ≡ 8 = refl in
    let c : length (codes ",\"line\":") ≡ 8 = refl in
    let d : length (codes ",\"reply\":") ≡ 9 = refl in
    omega (arith, one, two, three, four, a, b, c, d)

-- an entry whose reply is no longer than one with a tree is no longer than a line of an audit
pub entry_fits : (p : PolicyShape) (flows : ℕ → Option ℕ) (e : Entry) → IsEntry p flows e → length (compact_text (reply_data p e.reply)) ≤ 16200100 →
    length (entry_text p e) ≤ TRANSCRIPT_LINE_LIMIT + 1
unfolding entry_text escape_byte
entry_fits p flows e is short =
    let given = compact_text (reply_data p e.reply) in
    let rest = codes ",\"line\":" ++ (decimal e.line ++ (codes ",\"reply\":" ++ (given ++ codes "}"))) in
    let text = codes "{\"at\":" ++ (decimal e.at ++ (codes ",\"lane\":" ++ (decimal e.lane ++ rest))) in
    let place = is.place in
    let lane = is.lane in
    let line = is.line in
    let whole : length (entry_text p e) ≡ length text + 1 = length-append text (10 ∷ []) in
    omega (
      arith,
      whole,
      short,
      entry_long (decimal e.at) (decimal e.lane) (decimal e.line) given,
      length-decimal-le 10 e.at (omega arith) (omega (arith, place)) (omega (arith, place)),
      length-decimal-le 3 e.lane (omega arith) (omega (arith, lane)) (omega (arith, lane)),
      length-decimal-le 10 e.line (omega arith) (omega (arith, line)) (omega (arith, line)),
    )

pub trees_fit_lines : TreesFitLines
trees_fit_lines p flows e names is by_tree small = entry_fits p flows e is (reply_long p flows _ e.reply names is.reply by_tree small)
