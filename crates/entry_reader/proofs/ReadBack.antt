-- What is written in a line is read back: JSON without blanks and without floats, and a line end.
use Rattle.std.proofs.Common.{◌≡◌, ℕ, suc, ◌<◌, ◌≤◌, ◌^◌, max, Bool, true, false, ◌&&◌, List, [], ◌∷◌, ◌++◌, Some, refl, sym, ap, ap₂, ◌∙◌, arith, append-nil}
use Rattle.std.proofs.Common.{IsUtf8}
use Rattle.std.specs.Prelude.{⊤, None, option_map, option_and_then, ◌==◌, length, if◌then◌else◌}
use Rattle.std.specs.Str.Lossy.{utf8_valid_len}
use Rattle.std.specs.Ordering.{nat_cmp, match_ordering}
use Rattle.std.specs.declared.cmp.Ordering.{Ordering}
use Rattle.std.specs.Cmp.Lexicographic.{slice_cmp}
use Rattle.std.proofs.lemmas.Bool.{and_parts}
use Rattle.std.proofs.lemmas.Fmt.{IsAscii-decimal}
use Rattle.std.proofs.lemmas.Str.{IsUtf8-append, IsUtf8-nil, IsUtf8-from_ascii}
use Rattle.json.specs.Lex.{tokens}
use Rattle.json.specs.Json as json
use Rattle.json.specs.Tree as tree
use Rattle.json.specs.Tree.{json_tokens, HasNumbers, ItemsHaveNumbers, MembersHaveNumbers}
use Rattle.json.proofs.Printed.Decimals.{IsNumber-decimal}
use Rattle.json.proofs.Printed.Trees.{value-json_tokens, ArePrintable-json_tokens}
use Rattle.json.proofs.Nesting.{value-depth}
use Rattle.json.proofs.Found.{one_reading}
use Rattle.json.proofs.Printed.Utf8.{IsUtf8-quoted, IsUtf8-are_ascii, IsUtf8-boolean}
use Rattle.serde_json.specs.Data.{Num, unsigned, negative, float, Data, null, boolean, number, string, array, object, Items, no_items, item, Members}
use Rattle.serde_json.specs.Data.{no_members, member, put, depth, items_depth, members_depth}
use Rattle.serde_json.specs.Read.{read, of_json, of_items, of_members, max_depth}
use Rattle.serde_json.specs.Written.{outline, items_outline, members_outline, comma_if, compact_text, items_text, members_text}
use Rattle.serde_json.proofs.Numbers.{number_of-decimal}
use Rattle.serde_json.proofs.Texts.{print-outline}
use Rattle.wire_json.specs.Values.{value_of}
use Rattle.wire_json.proofs.Values.{value_of_utf8}
use Rattle.entry_reader.proofs.Ended.{line_end, tokens_of_line}
use Rattle.entry_reader.proofs.Readings.{and_then_some, some_same}

-- a key is greater than each key of some members
abbrev goes_last : List ℕ → Members → Bool
goes_last k no_members = true
goes_last k (member l e ms) = match_ordering (slice_cmp nat_cmp k l) false false (goes_last k ms)

-- members before others
abbrev before : Members → Members → Members
before no_members rest = rest
before (member k d ms) rest = member k d (before ms rest)

-- the keys ascend, behind some members
abbrev ascend : Members → Members → Bool
ascend found no_members = true
ascend found (member k d ms) = goes_last k found && ascend (before found (member k d no_members)) ms

abbrev IsUnsigned : Num → Type 0
IsUnsigned (unsigned n) = n < 2 ^ 64
IsUnsigned (negative z) = ⊥
IsUnsigned (float x) = ⊥

-- values as lines have them
abbrev mutual
  pub IsPlain : Data → Type 0
  IsPlain null = ⊤
  IsPlain (boolean b) = ⊤
  IsPlain (number n) = IsUnsigned n
  IsPlain (string s) = IsUtf8 s
  IsPlain (array ds) = ArePlain ds
  IsPlain (object ms) = (ascend no_members ms ≡ true) × HasPlain ms

  pub ArePlain : Items → Type 0
  ArePlain no_items = ⊤
  ArePlain (item d ds) = IsPlain d × ArePlain ds

  pub HasPlain : Members → Type 0
  HasPlain no_members = ⊤
  HasPlain (member k d ms) = IsUtf8 k × IsPlain d × HasPlain ms

-- ---- the members go in one after another

put_by : (o : Ordering) (k l : List ℕ) (d e : Data) (ms : Members) → match_ordering o false false (goes_last k ms) ≡ true →
    (goes_last k ms ≡ true → put k d ms ≡ before ms (member k d no_members))
    → match_ordering o (member k d (member l e ms)) (member l d ms) (member l e (put k d ms)) ≡ member l e (before ms (member k d no_members))
put_by o k l d e ms h rest = grind arith

put_last : (k : List ℕ) (d : Data) (ms : Members) → goes_last k ms ≡ true → put k d ms ≡ before ms (member k d no_members)
put_last k d no_members h = refl
put_last k d (member l e ms) h = put_by (slice_cmp nat_cmp k l) k l d e ms h (put_last k d ms)

before_none : (ms : Members) → before ms no_members ≡ ms
before_none no_members = refl
before_none (member k d ms) = ap (member k d) (before_none ms)

before_before : (ms ns rest : Members) → before (before ms ns) rest ≡ before ms (before ns rest)
before_before no_members ns rest = refl
before_before (member k d ms) ns rest = ap (member k d) (before_before ms ns rest)

-- ---- the value of the outline

mutual
  back : (d : Data) → IsPlain d → of_json (outline d) ≡ Some d
  back null h = refl
  back (boolean b) h = refl
  back (number (unsigned n)) h = ap (option_map number) (number_of-decimal n h)
  back (number (negative z)) h = absurd h
  back (number (float x)) h = absurd h
  back (string s) h = refl
  back (array ds) h = ap (option_map array) (items_back ds h)
  back (object ms) h = ap (option_map object) (members_back ms no_members h.1 h.0)

  items_back : (ds : Items) → ArePlain ds → of_items (items_outline ds) ≡ Some ds
  items_back no_items h = refl
  items_back (item d ds) h =
      ap (option_and_then (λ x. option_map (item x) (of_items (items_outline ds)))) (back d h.0) ∙ ap (option_map (item d)) (items_back ds h.1)

  members_back : (ms found : Members) → HasPlain ms → ascend found ms ≡ true → of_members (members_outline ms) found ≡ Some (before found ms)
  members_back no_members found h up = ap Some (sym (before_none found))
  members_back (member k d ms) found h up =
      let parts = and_parts (goes_last k found) _ up in
      let last = before found (member k d no_members) in
      ap (option_and_then (λ x. of_members (members_outline ms) (put k x found))) (back d h.1) ∙
      ap (of_members (members_outline ms)) (put_last k d found parts.0)
      ∙ members_back ms last h.2 parts.1 ∙ ap Some (before_before found (member k d no_members) ms)

-- ---- what is printed of it

mutual
  numbers : (d : Data) → IsPlain d → HasNumbers (outline d)
  numbers null h = tt
  numbers (boolean b) h = tt
  numbers (number (unsigned n)) h = IsNumber-decimal n h
  numbers (number (negative z)) h = absurd h
  numbers (number (float x)) h = absurd h
  numbers (string s) h = tt
  numbers (array ds) h = items_numbers ds h
  numbers (object ms) h = members_numbers ms h.1

  items_numbers : (ds : Items) → ArePlain ds → ItemsHaveNumbers (items_outline ds)
  items_numbers no_items h = tt
  items_numbers (item d ds) h = (numbers d h.0, items_numbers ds h.1)

  members_numbers : (ms : Members) → HasPlain ms → MembersHaveNumbers (members_outline ms)
  members_numbers no_members h = tt
  members_numbers (member k d ms) h = (numbers d h.1, members_numbers ms h.2)

mutual
  depths : (d : Data) → tree.depth (outline d) ≡ depth d
  depths null = refl
  depths (boolean b) = refl
  depths (number n) = refl
  depths (string s) = refl
  depths (array ds) = ap suc (items_depths ds)
  depths (object ms) = ap suc (members_depths ms)

  items_depths : (ds : Items) → tree.items_depth (items_outline ds) ≡ items_depth ds
  items_depths no_items = refl
  items_depths (item d ds) = ap₂ max (depths d) (items_depths ds)

  members_depths : (ms : Members) → tree.members_depth (members_outline ms) ≡ members_depth ms
  members_depths no_members = refl
  members_depths (member k d ms) = ap₂ max (depths d) (members_depths ms)

-- ---- it is UTF-8

comma_utf8 : (later : Bool) → IsUtf8 (comma_if later)
comma_utf8 true = IsUtf8-are_ascii (44 ∷ []) refl
comma_utf8 false = IsUtf8-nil

after_byte : (b : ℕ) (xs : List ℕ) → IsUtf8 (b ∷ []) → IsUtf8 xs → IsUtf8 (b ∷ xs)
after_byte b xs h k = IsUtf8-append (b ∷ []) xs h k

mutual
  text_utf8 : (d : Data) → IsPlain d → IsUtf8 (compact_text d)
  text_utf8 null h = IsUtf8-are_ascii _ refl
  text_utf8 (boolean b) h = IsUtf8-boolean b
  text_utf8 (number (unsigned n)) h = IsUtf8-from_ascii _ (IsAscii-decimal n h)
  text_utf8 (number (negative z)) h = absurd h
  text_utf8 (number (float x)) h = absurd h
  text_utf8 (string s) h = IsUtf8-quoted s h
  text_utf8 (array ds) h = after_byte 91 _ (IsUtf8-are_ascii _ refl) (items_utf8 false ds h)
  text_utf8 (object ms) h = after_byte 123 _ (IsUtf8-are_ascii _ refl) (members_utf8 false ms h.1)

  items_utf8 : (later : Bool) (ds : Items) → ArePlain ds → IsUtf8 (items_text later ds)
  items_utf8 later no_items h = IsUtf8-are_ascii _ refl
  items_utf8 later (item d ds) h = IsUtf8-append _ _ (comma_utf8 later) (IsUtf8-append _ _ (text_utf8 d h.0) (items_utf8 true ds h.1))

  members_utf8 : (later : Bool) (ms : Members) → HasPlain ms → IsUtf8 (members_text later ms)
  members_utf8 later no_members h = IsUtf8-are_ascii _ refl
  members_utf8 later (member k d ms) h =
      IsUtf8-append _ _ (comma_utf8 later) (IsUtf8-append _ _ (IsUtf8-quoted k h.0)
      (after_byte 58 _ (IsUtf8-are_ascii _ refl) (IsUtf8-append _ _ (text_utf8 d h.1) (members_utf8 true ms h.2))))

-- ---- the line

line_tokens : (d : Data) → IsPlain d → tokens (compact_text d ++ line_end) ≡ json_tokens (outline d)
line_tokens d h =
    ap (λ text. tokens (text ++ line_end)) (sym (print-outline d))
    ∙ tokens_of_line (json_tokens (outline d)) (ArePrintable-json_tokens (outline d) (numbers d h))

line_read : (d : Data) → IsPlain d → depth d ≤ max_depth → read (compact_text d ++ line_end) ≡ Some d
line_read d h shallow =
    ap (λ ts. option_and_then of_json (option_and_then (λ p. json.if_last p.0 p.1) (json.value max_depth ts)))
    (line_tokens d h ∙ sym (append-nil (json_tokens (outline d))))
    ∙ ap (λ o. option_and_then of_json (option_and_then (λ p. json.if_last p.0 p.1) o)) (value-json_tokens (outline d) max_depth [] (omega (arith, depths d)))
    ∙ back d h

pub line_back : (d : Data) → IsPlain d → depth d ≤ max_depth → value_of (compact_text d ++ line_end) ≡ Some d
line_back d h shallow =
    value_of_utf8 (compact_text d ++ line_end) (compact_text d ++ line_end) d refl
    (IsUtf8-append _ _ (text_utf8 d h) (IsUtf8-are_ascii line_end refl)) (line_read d h shallow)

-- ---- what is read nests no deeper than JSON is read

if_read : (b : Bool) (text : List ℕ) (d : Data) → (if b then read text else None) ≡ Some d → read text ≡ Some d
if_read b text d e = grind arith

value_read : (text : List ℕ) (d : Data) → value_of text ≡ Some d → read text ≡ Some d
unfolding value_of
value_read text d e = if_read (utf8_valid_len text == length text) text d e

pub shallow : (d found : Data) → IsPlain d → value_of (compact_text d ++ line_end) ≡ Some found → depth d ≤ max_depth
shallow d found h e =
    let ts = json_tokens (outline d) in
    let value_at = ap (λ us. option_and_then of_json (option_and_then (λ p. json.if_last p.0 p.1) (json.value max_depth us))) (sym (line_tokens d h)) ∙
    value_read (compact_text d ++ line_end) found e in
    let r = and_then_some (option_and_then (λ p. json.if_last p.0 p.1) (json.value max_depth ts)) of_json found value_at in
    let q = and_then_some (json.value max_depth ts) (λ p. json.if_last p.0 p.1) r.found r.there in
    let whole : json.value (tree.depth (outline d)) ts ≡ Some (outline d, []) =
    ap (json.value (tree.depth (outline d))) (sym (append-nil ts)) ∙ value-json_tokens (outline d) (tree.depth (outline d)) [] (omega arith) in
    let same : q.found ≡ (outline d, []) =
    some_same q.found (outline d, []) (one_reading max_depth (tree.depth (outline d)) ts q.found (outline d, []) q.there whole) in
    omega (arith, value-depth max_depth ts q.found.1 q.found.0 q.there, ap (λ p. tree.depth p.0) same, depths d)
