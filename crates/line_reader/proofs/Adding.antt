-- The user whom an edit of an input adds has a name of a name's form.
use Rattle.std.proofs.Common.{arith}
use Rattle.std.specs.Prelude.{◌≡◌, ℕ, Bool, true, List, [], ◌∷◌, Option, Some, None, is_some, unwrap_or, codes}
use Rattle.std.specs.Prelude.{option_and_then, Result, Ok, Err, IsTrue, if◌then◌else◌}
use Rattle.serde_json.specs.Data.{Data, Members}
use Rattle.serde_json.specs.Find.{as_object}
use Rattle.basics.specs.Laws.Reading.{◌>>=◌, or_fault, check, each}
use Rattle.wf_names.specs.Names.{is_name}
use Rattle.wf_talk.specs.declared.edit.Edit.{Edit}
use Rattle.wf_talk.specs.declared.request.Request.{Request}
use Rattle.wf_talk.specs.declared.request.Ask.TheVariants as ask
use Rattle.wf_talk.specs.declared.request.Bad.{Bad}
use Rattle.wf_talk.specs.declared.request.Bad.TheVariants.{Syntax, Object, Do, Lane, Key}
use Rattle.wire_json.specs.declared.request.Asked.{Asked}
use Rattle.wire_json.specs.Values.{value_of}
use Rattle.wire_json.specs.Requests.{Row, Reading, rows, edits, by, user, the_name, text_at, lane_at, has_form, request_by}
use Rattle.wire_json.specs.Requests.{what_if_in, reading_of, request_in, asked, asked_of}
use Rattle.line_reader.specs.Laws.{AddsNamed, IsNamedEdit}
use Rattle.line_reader.proofs.Readings.{AreAll, read_so}

-- ---- rows

-- each of the keys that are asked for has its form
abbrev HaveForm : Data → List (List ℕ) → Type 0
HaveForm d keys = each (λ (_ : Unit {0}) key. check (has_form d key) (Key key)) tt keys ≡ Ok tt

-- what is read of a request adds no user, but one with a name
abbrev IsPlainRow : Row Request → Type 0
IsPlainRow r = (d : Data) → AddsNamed (ask.Request (r.is d))

abbrev IsEditRow : Row Edit → Type 0
IsEditRow r = (d : Data) → HaveForm d (by ∷ r.keys) → IsNamedEdit (r.is d)

abbrev EachRow : {A : Type 0} → (Row A → Type 0) → List (Row A) → Type 0
EachRow P [] = Unit {0}
EachRow P (r ∷ rs) = P r × EachRow P rs

form_named : (o : Option (List ℕ)) → is_some (option_and_then (λ (text : List ℕ). if is_name text then Some text else None) o) ≡ true →
    IsTrue (is_name (unwrap_or (option_and_then (λ (text : List ℕ). if is_name text then Some text else None) o) []))
form_named o is = grind arith

first_form : (b : Bool) (key : List ℕ) (next : Result (Unit {0}) Bad) → (check b (Key key) >>= (λ (_ : Unit {0}). next)) ≡ Ok tt → (b ≡ true) × (next ≡ Ok tt)
first_form b key next is = grind arith

user_row : (d : Data) → HaveForm d (by ∷ user ∷ []) → IsTrue (is_name (the_name user d))
user_row d is = grind (arith, form_named, first_form)

rows_plain : EachRow IsPlainRow rows
rows_plain = ((λ d. tt), ((λ d. tt), ((λ d. tt), ((λ d. tt), ((λ d. tt), ((λ d. tt), ((λ d. tt), ((λ d. tt), tt))))))))

edits_named : EachRow IsEditRow edits
edits_named = (user_row, ((λ d is. tt), ((λ d is. tt), ((λ d is. tt), ((λ d is. tt), ((λ d is. tt), ((λ d is. tt), ((λ d is. tt), ((λ d is. tt), tt)))))))))

-- ---- what is read for a word

abbrev IsAdding : Result Request Bad → Type 0
IsAdding (Ok request) = AddsNamed (ask.Request request)
IsAdding (Err b) = Unit {0}

abbrev ReadsAdding : Reading → Type 0
ReadsAdding read = (d : Data) (ms : Members) → IsAdding (read d ms)

by_adding : (others keys : List (List ℕ)) (is : Data → Request) → ((d : Data) → HaveForm d keys → AddsNamed (ask.Request (is d))) →
    ReadsAdding (request_by others keys is)
unfolding request_by
by_adding others keys is adds = grind arith

what_if_adding : ReadsAdding what_if_in
unfolding what_if_in
what_if_adding = grind (arith, by_adding)

all_adding : AreAll ReadsAdding
all_adding = grind (arith, by_adding, rows_plain, edits_named, what_if_adding)

-- ---- a line

then_adding : {A : Type 0} (r : Result A Bad) (next : A → Result Asked Bad) → ((a : A) → r ≡ Ok a → AddsNamed (asked (next a)).ask) →
    AddsNamed (asked (r >>= next)).ask
then_adding r next rest = grind arith

abbrev with_lane : ℕ → Result Request Bad → Result Asked Bad
with_lane lane asks = asks >>= (λ request. Ok (record { lane = lane; ask = ask.Request request }))

lane_adding : (lane : ℕ) (r : Result Request Bad) → IsAdding r → AddsNamed (asked (with_lane lane r)).ask
lane_adding lane r is = grind arith

in_adding : (lanes : ℕ) (d : Data) → AddsNamed (asked (request_in lanes d)).ask
unfolding request_in
in_adding lanes d =
    then_adding (or_fault (as_object d) Object) (λ ms. or_fault (option_and_then reading_of (text_at (codes "do") d)) Do >>=
    (λ read. or_fault (lane_at lanes d) Lane >>= (λ lane. with_lane lane (read d ms)))) (λ ms is_ms.
    then_adding (or_fault (option_and_then reading_of (text_at (codes "do") d)) Do)
    (λ read. or_fault (lane_at lanes d) Lane >>= (λ lane. with_lane lane (read d ms))) (λ read is_read.
    then_adding (or_fault (lane_at lanes d) Lane) (λ lane. with_lane lane (read d ms)) (λ lane is_lane.
    lane_adding lane (read d ms) (read_so ReadsAdding all_adding (text_at (codes "do") d) read is_read d ms))))

pub line_adding : (lanes : ℕ) (line : List ℕ) → AddsNamed (asked_of lanes line).ask
unfolding asked_of
line_adding lanes line = then_adding (or_fault (value_of line) Syntax) (request_in lanes) (λ d is. in_adding lanes d)
