-- Objects that are read part by part.
use Rattle.std.proofs.Common.{◌≡◌, ◌≢◌, ℕ, ◌-◌, ◌<◌, ◌≤◌, List, [], ◌∷◌, length, Bool, true, false, Option, Some, None, option_map, option_and_then, Ordering}
use Rattle.std.proofs.Common.{Less}
use Rattle.std.proofs.Common.{Equal, Greater, is_eq, bytes_eq, nat_cmp, nat_eq, true≢false, refl, sym, ap, ◌∙◌, arith}
use Rattle.std.specs.Prelude.{zero, suc, drop, slice_index_or, ◌&&◌, fold, if◌then◌else◌}
use Rattle.std.specs.List.{list_any}
use Rattle.std.specs.Cmp.Lexicographic.{pointwise, slice_cmp}
use Rattle.std.specs.Ordering.{match_ordering}
use Rattle.std.proofs.lemmas.Map.Text.{is_eq-slice_cmp}
use Rattle.std.proofs.lemmas.Slice.Eq.{bytes_eq-Decides}
use Rattle.json.specs.Token.{Token}
use Rattle.json.specs.Json as json
use Rattle.json.specs.Json.{Parse, parse_map, read_key, members, value}
use Rattle.json.proofs.Grammar.{members_end, members_no_key, members_more, value-begin_object}
use Rattle.serde_json.specs.Data.{Data, Members, no_members, member, object, put}
use Rattle.serde_json.specs.Find.{get_member}
use Rattle.serde_json.specs.Read.{of_json, of_members, converted}
use Rattle.serde_json.proofs.Views.{get_member-put, get_member-put_other}
use Rattle.wire_json.specs.declared.flat.Part.{Part}
use Rattle.wire_json.specs.Requests.{has_only}
use Rattle.wire_json.specs.Objects.{worth_data, put_part, members_of}
use Rattle.wire_json.specs.Flats.{whole, members_behind}

found : {B : Type 0} (r s : List Token) (x : Option B) (b : B) → option_map {U = B × List Token} (λ y. (y, r)) x ≡ Some (b, s) → (r ≡ s) × (x ≡ Some b)
found r s x b e = grind arith

converted_some : {A B : Type 0} (f : A → Option B) (o : Option (A × List Token)) (b : B) (r : List Token) → converted f o ≡ Some (b, r) →
    (a : A) × (o ≡ Some (a, r)) × (f a ≡ Some b)
converted_some f o b r e = grind arith

refused : {B : Type 0} (r : List Token) (x : Option B) → option_map {U = B × List Token} (λ y. (y, r)) x ≡ None → x ≡ None
refused r x e = grind arith

twice_mapped : {A B : Type 0} (g : A → B) (r : List Token) (x : Option A) → option_map (λ b. (b, r)) (option_map g x) ≡ parse_map g (option_map (λ a. (a, r)) x)
twice_mapped g r x = grind arith

converted-object : (o : Option (json.Members × List Token))
    → converted of_json (parse_map json.object o) ≡ parse_map object (converted (λ ms. of_members ms no_members) o)
converted-object o = grind (arith, twice_mapped)

-- ---- the members of an object, one at a time

with_member : (k : List ℕ) (j : json.Json) (d : Data) (old : Members) → of_json j ≡ Some d → (o : Option (json.Members × List Token))
    → converted (λ ms. of_members ms old) (parse_map (json.member k j) o) ≡ converted (λ ms. of_members ms (put k d old)) o
with_member k j d old e o = grind arith

without_member : (k : List ℕ) (j : json.Json) (old : Members) → of_json j ≡ None → (o : Option (json.Members × List Token))
    → converted (λ ms. of_members ms old) (parse_map (json.member k j) o) ≡ None
without_member k j old e o = grind arith

module _ (p : Parse json.Json) (old : Members) where
  pub member_read : (n : ℕ) (k : List ℕ) (ts s r : List Token) (d : Data) → 0 < n → read_key ts ≡ Some (Some k, s) → converted of_json (p s) ≡ Some (d, r)
      → converted (λ ms. of_members ms old) (members p n ts) ≡ converted (λ ms. of_members ms (put k d old)) (members p (n - 1) r)
  member_read n k ts s r d some key e =
      let j = converted_some of_json (p s) d r e in
      ap (converted (λ ms. of_members ms old)) (members_more p n k ts s r j.0 some key j.1) ∙ with_member k j.0 d old j.2 _

  no_member : (k : List ℕ) (more : Parse json.Members) (o : Option (json.Json × List Token)) → converted of_json o ≡ None
      → converted (λ ms. of_members ms old) (option_and_then (λ q. parse_map (json.member k q.0) (more q.1)) o) ≡ None
  no_member k more None e = refl
  no_member k more (Some q) e = without_member k q.0 old (refused q.1 (of_json q.0) e) (more q.1)

  pub member_refused : (n : ℕ) (k : List ℕ) (ts s : List Token) → read_key ts ≡ Some (Some k, s) → converted of_json (p s) ≡ None →
      converted (λ ms. of_members ms old) (members p n ts) ≡ None
  unfolding members
  member_refused zero k ts s key e = refl
  member_refused (suc n) k ts s key e = rw key (no_member k (members p n) (p s) e)

  pub key_refused : (n : ℕ) (ts : List Token) → read_key ts ≡ None → converted (λ ms. of_members ms old) (members p n ts) ≡ None
  key_refused n ts e = ap (converted (λ ms. of_members ms old)) (members_no_key p n ts e)

  pub members_over : (n : ℕ) (ts r : List Token) → length ts ≤ n → read_key ts ≡ Some (None, r)
      → converted (λ ms. of_members ms old) (members p n ts) ≡ Some (old, r)
  members_over n ts r enough e = ap (converted (λ ms. of_members ms old)) (members_end p n ts r enough e)

-- ---- the whole of a text

pub whole_read : (o : Option (json.Json × List Token)) (d : Data) → converted of_json o ≡ Some (d, []) → whole o ≡ Some d
whole_read o d e = let j = converted_some of_json o d [] e in ap whole j.1 ∙ j.2

-- more follows a value
pub more_follows : (o : Option (json.Json × List Token)) (d : Data) (r : List Token) → converted of_json o ≡ Some (d, r) → r ≢ [] → whole o ≡ None
more_follows o d r e some = grind arith

whole_refused : (o : Option (json.Json × List Token)) → converted of_json o ≡ None → whole o ≡ None
whole_refused o e = grind arith

begun : (after : List Token) → converted of_json (value 127 (Token.begin_object ∷ after)) ≡ parse_map object (members_behind after)
begun after = ap (converted of_json) (value-begin_object 127 after (omega arith)) ∙ converted-object (members (value 126) (length after) after)

-- the value of a text is the object that its parts make
pub object_read : (after : List Token) (ms : Members) → members_behind after ≡ Some (ms, []) → whole (value 127 (Token.begin_object ∷ after)) ≡ Some (object ms)
object_read after ms e = whole_read (value 127 (Token.begin_object ∷ after)) (object ms) (begun after ∙ ap (parse_map object) e)

pub object_refused : (after : List Token) → members_behind after ≡ None → whole (value 127 (Token.begin_object ∷ after)) ≡ None
object_refused after e = whole_refused (value 127 (Token.begin_object ∷ after)) (begun after ∙ ap (parse_map object) e)

pub object_and_more : (after r : List Token) (ms : Members) → members_behind after ≡ Some (ms, r) → r ≢ [] →
    whole (value 127 (Token.begin_object ∷ after)) ≡ None
object_and_more after r ms e some =
    more_follows (value 127 (Token.begin_object ∷ after)) (object ms) r (begun after ∙ ap (parse_map object) e) some

-- a text that was passed over, and one that was not
pub not_skipped : (o : Option (json.Json × List Token)) → option_map (λ p. p.1) o ≡ None → whole o ≡ None
not_skipped o e = grind arith

pub skipped_more : (o : Option (json.Json × List Token)) (r : List Token) → option_map (λ p. p.1) o ≡ Some r → r ≢ [] → whole o ≡ None
skipped_more o r e some = grind arith

-- ---- what stands at a key

abbrev pub last_at : List ℕ → Option Data → List Part → Option Data
last_at key found [] = found
last_at key found (p ∷ ps) = last_at key (if pointwise nat_eq p.key.now key then Some (worth_data p.worth) else found) ps

put_at : (key k : List ℕ) (d : Data) (ms : Members) (b : Bool) → bytes_eq k key ≡ b → (if b then Some d else get_member key ms) ≡ get_member key (put k d ms)
put_at key k d ms b e = grind (arith, bytes_eq-Decides, get_member-put, get_member-put_other, true≢false)

last_found : (key : List ℕ) (ps : List Part) (ms : Members) → last_at key (get_member key ms) ps ≡ get_member key (fold put_part ms ps)
last_found key [] ms = refl
last_found key (p ∷ ps) ms = ap (λ f. last_at key f ps) (put_at key p.key.now (worth_data p.worth) ms _ refl) ∙ last_found key ps (put_part ms p)

pub found_at : (key : List ℕ) (ps : List Part) → last_at key None ps ≡ get_member key (members_of ps)
found_at key ps = last_found key ps no_members

-- ---- which keys there are

abbrev pub each_is_among : List (List ℕ) → List Part → Bool
each_is_among keys [] = true
each_is_among keys (p ∷ ps) = list_any (pointwise nat_eq p.key.now) keys && each_is_among keys ps

-- a part whose key is none of them
pub out_at : (keys : List (List ℕ)) (ps : List Part) (i : ℕ) (d : Part) → i < length ps →
    list_any (pointwise nat_eq (slice_index_or ps i d).key.now) keys ≡ false → each_is_among keys (drop i ps) ≡ false
out_at keys [] i d h e = absurd (omega (arith, h))
out_at keys (p ∷ ps) i d h e = grind (arith, (out_at keys ps))

turned : (a b c : Bool) → (a && (b && c)) ≡ (b && (a && c))
turned a b c = grind arith

twice : (a b : Bool) → (a && b) ≡ (a && (a && b))
twice a b = grind arith

regrouped : (a b c : Bool) → ((a && b) && c) ≡ (b && (a && c))
regrouped a b c = grind arith

and_true : (a : Bool) → a ≡ (a && true)
and_true a = grind arith

module _ (keys : List (List ℕ)) where
  abbrev among : List ℕ → Bool
  among key = list_any (pointwise nat_eq key) keys

  put_over : (o : Ordering) (k l : List ℕ) (d e : Data) (ms : Members) → slice_cmp nat_cmp k l ≡ o → has_only keys (put k d ms) ≡ (among k && has_only keys ms)
      → has_only keys (match_ordering o (member k d (member l e ms)) (member l d ms) (member l e (put k d ms))) ≡ (among k && (among l && has_only keys ms))
  put_over Less k l d e ms is later = refl
  put_over Equal k l d e ms is later =
      let same : k ≡ l = (bytes_eq-Decides k l).0 (sym (is_eq-slice_cmp k l) ∙ ap is_eq is) in
      twice (among l) (has_only keys ms) ∙ ap (λ x. among x && (among l && has_only keys ms)) (sym same)
  put_over Greater k l d e ms is later = ap (λ x. among l && x) later ∙ turned (among l) (among k) (has_only keys ms)

  has_only-put : (k : List ℕ) (d : Data) (ms : Members) → has_only keys (put k d ms) ≡ (among k && has_only keys ms)
  has_only-put k d no_members = refl
  has_only-put k d (member l e ms) = put_over _ k l d e ms refl (has_only-put k d ms)

  among_from : (ps : List Part) (ms : Members) → (each_is_among keys ps && has_only keys ms) ≡ has_only keys (fold put_part ms ps)
  among_from [] ms = refl
  among_from (p ∷ ps) ms = grind (arith, regrouped, has_only-put, (among_from ps))

  pub only_among : (ps : List Part) → each_is_among keys ps ≡ has_only keys (members_of ps)
  only_among ps = and_true (each_is_among keys ps) ∙ among_from ps no_members
