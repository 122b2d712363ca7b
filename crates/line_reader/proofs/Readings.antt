-- What holds of each reading of a request holds of the reading of a word.
use Rattle.std.proofs.Common.{arith}
use Rattle.std.specs.Prelude.{◌≡◌, ℕ, Bool, List, Option, Some, None, option_map, option_and_then, Ok, if◌then◌else◌}
use Rattle.std.specs.Option.{option_or}
use Rattle.basics.specs.Laws.Reading.{or_fault}
use Rattle.wf_talk.specs.declared.edit.Edit.{Edit}
use Rattle.wf_talk.specs.declared.request.Request.{Request}
use Rattle.wf_talk.specs.declared.request.Bad.TheVariants.{Do}
use Rattle.wire_json.specs.Requests.{Row, Reading, rows, edits, row_of, asked_by, change_by, what_if_in, reading_of}

-- where something is read, it is so
abbrev Each : (Reading → Type 0) → Option Reading → Type 0
Each is_so None = Unit {0}
Each is_so (Some read) = is_so read

mapped : {A : Type 0} (is_so : Reading → Type 0) (by_row : Row A → Reading) (found : Option (Row A)) → ((r : Row A) → found ≡ Some r → is_so (by_row r)) →
    Each is_so (option_map by_row found)
mapped is_so by_row found h = grind arith

or_else : (is_so : Reading → Type 0) (first second : Option Reading) → Each is_so first → Each is_so second → Each is_so (option_or first second)
or_else is_so first second h g = grind arith

if_so : (is_so : Reading → Type 0) (b : Bool) (read : Reading) (others : Option Reading) → is_so read → Each is_so others →
    Each is_so (if b then Some read else others)
if_so is_so b read others h g = grind arith

-- what each reading of a request is: that of a request by its row, of an edit by its row, and of what an edit would strand
pub record AreAll (is_so : Reading → Type 0) : Type 0 where
  pub asked : (word : List ℕ) (r : Row Request) → row_of rows word ≡ Some r → is_so (asked_by r)
  pub changed : (word : List ℕ) (r : Row Edit) → row_of edits word ≡ Some r → is_so (change_by r)
  pub what_if : is_so what_if_in

each_word : (is_so : Reading → Type 0) → AreAll is_so → (word : List ℕ) → Each is_so (reading_of word)
each_word is_so all word =
    if_so is_so _ _ _ all.what_if (or_else is_so _ _ (mapped is_so asked_by _ (all.asked word)) (mapped is_so change_by _ (all.changed word)))

found_so : (is_so : Reading → Type 0) (o : Option Reading) (read : Reading) → Each is_so o → or_fault o Do ≡ Ok read → is_so read
found_so is_so o read h e = grind arith

pub read_so : (is_so : Reading → Type 0) → AreAll is_so → (o : Option (List ℕ)) (read : Reading) → or_fault (option_and_then reading_of o) Do ≡ Ok read →
    is_so read
read_so is_so all None read e = cc
read_so is_so all (Some word) read e = found_so is_so (reading_of word) read (each_word is_so all word) e
