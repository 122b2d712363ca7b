-- Names are read as the numbers that they were written for.
use Rattle.std.proofs.Common.{◌≡◌, ℕ, ◌<◌, List, [], length, true, sym, ap, ◌∙◌, IsUtf8, arith}
use Rattle.std.specs.Prelude.{Some, slice_get, slice_index_or, nat_eq}
use Rattle.std.specs.Cmp.Lexicographic.{pointwise, bytes_decides}
use Rattle.std.proofs.lemmas.Option.{slice_get-get_or}
use Rattle.std.proofs.lemmas.List.Quantifiers.{position-Some}
use Rattle.serde_json.specs.Data.{Data, string}
use Rattle.wf_names.specs.Names.{is_name}
use Rattle.wf_names.specs.Table.{place_of}
use Rattle.wf_names.proofs.NameForms.{name_utf8}
use Rattle.wire_json.specs.Entries.{named}
use Rattle.wf_names.specs.Table.{AreNames}
use Rattle.entry_reader.specs.Values.{name_read, number_read}
use Rattle.entry_reader.proofs.Readings.{and_then_some}

-- the name with a number of a table
there : (names : List (List ℕ)) (n : ℕ) → n < length names → slice_get names n ≡ Some (slice_index_or names n [])
there names n h = slice_get-get_or names n [] h

form_of : (names : List (List ℕ)) (n : ℕ) → AreNames names → n < length names → is_name (slice_index_or names n []) ≡ true
form_of names n k h = k.form n (slice_index_or names n []) (there names n h)

pub named_utf8 : (names : List (List ℕ)) (n : ℕ) → AreNames names → n < length names → IsUtf8 (slice_index_or names n [])
named_utf8 names n k h = name_utf8 (slice_index_or names n []) (form_of names n k h)

pub numbered_named : (names : List (List ℕ)) (n : ℕ) → AreNames names → n < length names → number_read names (named names n) ≡ Some n
numbered_named names n k h = rw (form_of names n k h) (k.alone n (slice_index_or names n []) (there names n h))

-- what is read as a name is a text of a name's form
pub record IsNameText (d : Data) (text : List ℕ) : Type 0 where
  pub is : d ≡ string text
  pub form : is_name text ≡ true

pub name_text : (d : Data) (text : List ℕ) → name_read d ≡ Some text → IsNameText d text
name_text d text e = grind arith

-- what is read as a number is the name with that number
pub record IsNumbered (names : List (List ℕ)) (d : Data) (n : ℕ) : Type 0 where
  pub within : n < length names
  pub written : named names n ≡ d

pub numbered_is : (names : List (List ℕ)) (d : Data) (n : ℕ) → number_read names d ≡ Some n → IsNumbered names d n
numbered_is names d n e =
    let r = and_then_some (name_read d) (place_of names) n e in
    let at_place = position-Some (pointwise nat_eq r.found) names n [] r.then_ in
    let same : r.found ≡ slice_index_or names n [] = (bytes_decides r.found (slice_index_or names n [])).0 at_place.1 in
    record { within = at_place.0; written = ap string (sym same) ∙ sym (name_text d r.found r.there).is }
