-- Text that is added in parts.
use Rattle.std.proofs.Common.{◌≡◌, ℕ, zero, suc, ◌+◌, ◌<◌, ◌≤◌, List, [], ◌∷◌, ◌++◌, length, drop, get_or, map, Bool, true, refl, sym, ap, ◌∙◌, arith}
use Rattle.std.proofs.Common.{append_assoc}
use Rattle.std.specs.List.{list_all}
use Rattle.std.proofs.lemmas.List.{drop_more}
use Rattle.std.proofs.lemmas.Grind.{common_steps}
use Rattle.json.specs.Print.{escape_byte, escape}
use Rattle.serde_json.specs.Data.{Data, Items, item}
use Rattle.serde_json.specs.View.{items_of}
use Rattle.serde_json.specs.Written.{comma_if, compact_text, items_text}
use Rattle.wf_names.specs.Names.{is_name_byte, is_name}

pub added_2 : (x0 x1 x2 a b : List ℕ) → x1 ≡ x0 ++ a → x2 ≡ x1 ++ b → x2 ≡ x0 ++ (a ++ b)
added_2 x0 x1 x2 a b e1 e2 = e2 ∙ ap (λ x. x ++ b) e1 ∙ append_assoc x0 a b

pub added_3 : (x0 x1 x2 x3 a b c : List ℕ) → x1 ≡ x0 ++ a → x2 ≡ x1 ++ b → x3 ≡ x2 ++ c → x3 ≡ x0 ++ (a ++ (b ++ c))
added_3 x0 x1 x2 x3 a b c e1 e2 e3 = added_2 x0 x1 x3 a (b ++ c) e1 (added_2 x1 x2 x3 b c e2 e3)

pub added_5 : (x0 x1 x2 x3 x4 x5 a b c d e : List ℕ) → x1 ≡ x0 ++ a → x2 ≡ x1 ++ b → x3 ≡ x2 ++ c → x4 ≡ x3 ++ d → x5 ≡ x4 ++ e →
    x5 ≡ x0 ++ (a ++ (b ++ (c ++ (d ++ e))))
added_5 x0 x1 x2 x3 x4 x5 a b c d e e1 e2 e3 e4 e5 = added_3 x0 x1 x2 x5 a b (c ++ (d ++ e)) e1 e2 (added_3 x2 x3 x4 x5 c d e e3 e4 e5)

-- ---- objects within objects, whose braces are added at once

pub added_in_two : (x0 x1 x2 x3 a b : List ℕ) → x1 ≡ x0 ++ a → x2 ≡ x1 ++ b → x3 ≡ x2 ++ 125 ∷ 125 ∷ [] → x3 ≡ x0 ++ (a ++ ((b ++ 125 ∷ []) ++ 125 ∷ []))
added_in_two x0 x1 x2 x3 a b e1 e2 e3 = added_3 x0 x1 x2 x3 a b _ e1 e2 e3 ∙ ap (λ x. x0 ++ (a ++ x)) (sym (append_assoc b (125 ∷ []) (125 ∷ [])))

pub one_number_added_in_two : (x0 x1 x2 a n : List ℕ) → x1 ≡ x0 ++ (a ++ n) → x2 ≡ x1 ++ 125 ∷ 125 ∷ [] → x2 ≡ x0 ++ (a ++ ((n ++ 125 ∷ []) ++ 125 ∷ []))
one_number_added_in_two x0 x1 x2 a n e1 e2 = rw (e2, e1) (simp append_assoc)

pub number_added_in_two : (x0 x1 x2 x3 x4 a n b d : List ℕ) → x1 ≡ x0 ++ (a ++ n) → x2 ≡ x1 ++ b → x3 ≡ x2 ++ d → x4 ≡ x3 ++ 125 ∷ 125 ∷ []
    → x4 ≡ x0 ++ (a ++ ((n ++ (b ++ (d ++ 125 ∷ []))) ++ 125 ∷ []))
number_added_in_two x0 x1 x2 x3 x4 a n b d e1 e2 e3 e4 = rw (e4, e3, e2, e1) (simp append_assoc)

pub numbers_added_in_two : (x0 x1 x2 x3 a n b m : List ℕ) → x1 ≡ x0 ++ (a ++ n) → x2 ≡ x1 ++ (b ++ m) → x3 ≡ x2 ++ 125 ∷ 125 ∷ [] →
    x3 ≡ x0 ++ (a ++ ((n ++ (b ++ (m ++ 125 ∷ []))) ++ 125 ∷ []))
numbers_added_in_two x0 x1 x2 x3 a n b m e1 e2 e3 = rw (e3, e2, e1) (simp append_assoc)

pub face_added_in : (x0 x1 x2 x3 x4 x5 x6 a b c d e : List ℕ) → x1 ≡ x0 ++ a → x2 ≡ x1 ++ b → x3 ≡ x2 ++ c → x4 ≡ x3 ++ d → x5 ≡ x4 ++ e
    → x6 ≡ x5 ++ 125 ∷ [] → x6 ≡ x0 ++ (a ++ ((b ++ (c ++ (d ++ e))) ++ 125 ∷ []))
face_added_in x0 x1 x2 x3 x4 x5 x6 a b c d e e1 e2 e3 e4 e5 e6 = rw (e6, e5, e4, e3, e2, e1) (simp append_assoc)

-- one more item behind a text, and the others behind it
pub one_more : (old new : List ℕ) (later : Bool) (d : Data) (rest : Items) → new ≡ old ++ (comma_if later ++ compact_text d) →
    new ++ items_text true rest ≡ old ++ items_text later (item d rest)
one_more old new later d rest e = grind (arith, append_assoc)

-- ---- the items of a list, one by one

pub items_begun : (old out items : List ℕ) → out ≡ old ++ 91 ∷ [] → out ++ items ≡ old ++ 91 ∷ items
items_begun old out items e = ap (λ x. x ++ items) e ∙ append_assoc old (91 ∷ []) items

pub item_added : {A : Type 0} (data_of : A → Data) (xs : List A) (i : ℕ) (x : A) (old new whole : List ℕ) (later : Bool) → i < length xs → x ≡ get_or xs i x
    → new ≡ old ++ (comma_if later ++ compact_text (data_of x)) → old ++ items_text later (items_of (map data_of (drop i xs))) ≡ whole
    → new ++ items_text true (items_of (map data_of (drop (i + 1) xs))) ≡ whole
item_added data_of xs i x old new whole later within is e here = grind (arith, drop_more, one_more)

pub all_dropped : {A : Type 0} (xs : List A) (i : ℕ) → length xs ≤ i → drop i xs ≡ []
all_dropped [] zero h = refl
all_dropped [] (suc i) h = refl
all_dropped (x ∷ xs) zero h = absurd (omega (arith, h))
all_dropped (x ∷ xs) (suc i) h = all_dropped xs i (omega (arith, h))

pub items_ended : {A : Type 0} (data_of : A → Data) (xs : List A) (i : ℕ) (old new whole : List ℕ) (later : Bool) → length xs ≤ i → new ≡ old ++ 93 ∷ []
    → old ++ items_text later (items_of (map data_of (drop i xs))) ≡ whole → new ≡ whole
items_ended data_of xs i old new whole later end e here = grind (arith, all_dropped)

-- nothing in a name is escaped
byte_stays : (b : ℕ) → is_name_byte b ≡ true → escape_byte b ≡ b ∷ []
unfolding escape_byte
byte_stays b h = grind (arith, common_steps)

bytes_stay : (bs : List ℕ) → list_all is_name_byte bs ≡ true → escape bs ≡ bs
bytes_stay [] h = refl
bytes_stay (b ∷ bs) h = grind (arith, common_steps, byte_stays, bytes_stay bs)

pub name_stays : (name : List ℕ) → is_name name ≡ true → escape name ≡ name
unfolding is_name
name_stays name h = bytes_stay name (grind (arith, common_steps))
