-- What a line asks, and which lane serves it.
use Rattle.std.specs.Prelude.{ℕ, nat_le, nat_lt, nat_eq, Bool, true, ◌&&◌, List, [], ◌∷◌, ◌++◌}
use Rattle.std.specs.Prelude.{codes, Option, Some, None, is_some, unwrap_or, option_map}
use Rattle.std.specs.Prelude.{option_and_then, Result, Ok, Err, if◌then◌else◌}
use Rattle.std.specs.List.{list_any, find}
use Rattle.std.specs.Option.{option_or}
use Rattle.std.specs.Cmp.Lexicographic.{pointwise}
use Rattle.serde_json.specs.Data.{Data, Members, no_members, member}
use Rattle.serde_json.specs.Find.{get, as_str, as_object, as_number, as_u64}
use Rattle.basics.specs.Laws.Reading.{◌>>=◌, or_fault, check, each}
use Rattle.wf_names.specs.declared.limits.TheConstants.{CASE_NUMBER_LIMIT}
use Rattle.wf_names.specs.Names.{is_name}
use Rattle.wf_talk.specs.declared.request.Request.{Request}
use Rattle.wf_talk.specs.declared.request.Request.TheVariants.{OpenCase, Claim, Finish, GiveBack}
use Rattle.wf_talk.specs.declared.request.Request.TheVariants.{Release, Withdraw, Change, Show}
use Rattle.wf_talk.specs.declared.request.Request.TheVariants.{Worklist, WhatIf}
use Rattle.wf_talk.specs.declared.edit.Edit.{Edit}
use Rattle.wf_talk.specs.declared.edit.Edit.TheVariants as edit
use Rattle.wf_talk.specs.declared.request.Bad.{Bad}
use Rattle.wf_talk.specs.declared.request.Bad.TheVariants.{Syntax, Object, Do, Lane, Key, Extra}
use Rattle.wf_talk.specs.declared.request.Ask.TheVariants as ask
use Rattle.wire_json.specs.declared.request.Asked.{Asked}
use Rattle.wire_json.specs.Values.{value_of}

-- the unsigned whole number at a key
abbrev pub number_at : List ℕ → Data → Option ℕ
number_at key d = option_and_then as_u64 (option_and_then as_number (get key d))

-- the text at a key
abbrev pub text_at : List ℕ → Data → Option (List ℕ)
text_at key d = option_and_then as_str (get key d)

-- the name at a key: a text of a name's form
abbrev pub name_at_key : List ℕ → Data → Option (List ℕ)
name_at_key key d =
    option_and_then (λ text. if is_name text then Some text else None) (text_at key d)

-- the number of a case, at the key case
abbrev pub read_case : Data → Option ℕ
read_case d = option_and_then (λ n. if nat_le n CASE_NUMBER_LIMIT then Some n else None)
    (number_at (codes "case") d)

-- what a request needs at a key is there: the number of a case, or a name at any other key
abbrev pub has_form : Data → List ℕ → Bool
has_form d key = if pointwise nat_eq key (codes "case") then is_some (read_case d) else is_some
    (name_at_key key d)

-- a request or an edit: its word, its further keys in the order in which they are checked, and what
-- it is where each of them has its form
pub record Row (A : Type 0) : Type 0 where
  pub word : List ℕ
  pub keys : List (List ℕ)
  pub is : Data → A

abbrev pub row : {A : Type 0} → List ℕ → List (List ℕ) → (Data → A) → Row A
row word keys is = record { word = word; keys = keys; is = is }

abbrev pub the_case : Data → ℕ
the_case d = unwrap_or (read_case d) 0

abbrev pub the_name : List ℕ → Data → List ℕ
the_name key d = unwrap_or (name_at_key key d) []

abbrev pub case : List ℕ
case = codes "case"

abbrev pub step : List ℕ
step = codes "step"

abbrev pub user : List ℕ
user = codes "user"

abbrev pub flow : List ℕ
flow = codes "flow"

abbrev pub by : List ℕ
by = codes "by"

abbrev pub role : List ℕ
role = codes "role"

abbrev pub first : List ℕ
first = codes "first"

abbrev pub relation : List ℕ
relation = codes "relation"

abbrev pub second : List ℕ
second = codes "second"

-- an edit over two users and a relation, and one over a workflow, a role and a step
abbrev pub of_pair : (List ℕ → List ℕ → List ℕ → Edit) → Data → Edit
of_pair e d = e (the_name first d) (the_name relation d) (the_name second d)

abbrev pub of_permit : (List ℕ → List ℕ → List ℕ → Edit) → Data → Edit
of_permit e d = e (the_name flow d) (the_name role d) (the_name step d)

-- the requests that are served, but for those of edits
abbrev pub rows : List (Row Request)
rows =
    row (codes "open") (flow ∷ []) (λ d. OpenCase (the_name flow d))
    ∷ row (codes "claim") (case ∷ step ∷ user ∷ [])
    (λ d. Claim (the_case d) (the_name step d) (the_name user d))
    ∷ row (codes "finish") (case ∷ step ∷ user ∷ [])
    (λ d. Finish (the_case d) (the_name step d) (the_name user d))
    ∷ row (codes "give_back") (case ∷ step ∷ user ∷ [])
    (λ d. GiveBack (the_case d) (the_name step d) (the_name user d))
    ∷ row (codes "release") (by ∷ case ∷ step ∷ [])
    (λ d. Release (the_name by d) (the_case d) (the_name step d))
    ∷ row (codes "withdraw") (by ∷ case ∷ []) (λ d. Withdraw (the_name by d) (the_case d))
    ∷ row (codes "view") (case ∷ []) (λ d. Show (the_case d))
    ∷ row (codes "worklist") (user ∷ []) (λ d. Worklist (the_name user d))
    ∷ []

-- the edits, with their keys besides by
abbrev pub edits : List (Row Edit)
edits =
    row (codes "add_user") (user ∷ []) (λ d. edit.AddUser (the_name user d))
    ∷ row (codes "leave") (user ∷ []) (λ d. edit.Leave (the_name user d))
    ∷ row (codes "enrol") (role ∷ user ∷ []) (λ d. edit.Enrol (the_name role d) (the_name user d))
    ∷ row (codes "dismiss") (role ∷ user ∷ [])
    (λ d. edit.Dismiss (the_name role d) (the_name user d))
    ∷ row (codes "relate") (first ∷ relation ∷ second ∷ []) (of_pair edit.Relate)
    ∷ row (codes "unrelate") (first ∷ relation ∷ second ∷ []) (of_pair edit.Unrelate)
    ∷ row (codes "permit") (flow ∷ role ∷ step ∷ []) (of_permit edit.Permit)
    ∷ row (codes "forbid") (flow ∷ role ∷ step ∷ []) (of_permit edit.Forbid)
    ∷ row (codes "retire") (flow ∷ []) (λ d. edit.Retire (the_name flow d))
    ∷ []

-- the row of a word
abbrev pub row_of : {A : Type 0} → List (Row A) → List ℕ → Option (Row A)
row_of rs word = find (λ r. pointwise nat_eq word r.word) rs

-- the lane at the key lane, which is below their number; the first one where there is no such key
abbrev pub lane_at : ℕ → Data → Option ℕ
lane_at lanes d =
    if is_some (get (codes "lane") d) then option_and_then
    (λ n. if nat_lt n lanes then Some n else None) (number_at (codes "lane") d)
    else Some 0

-- each key of an object is one of these
abbrev pub has_only : List (List ℕ) → Members → Bool
has_only keys no_members = true
has_only keys (member key d ms) = list_any (pointwise nat_eq key) keys && has_only keys ms

-- a request: the further keys in their order, and then no key but these and some others
unfoldable pub request_by : List (List ℕ) → List (List ℕ) → (Data → Request) → Data → Members →
    Result Request Bad
request_by others keys is d ms = do
  _ ← each (λ _ key. check (has_form d key) (Key key)) tt keys
  _ ← check (has_only (others ++ keys) ms) Extra
  Ok (is d)

-- what is read where the word at the key do is known
abbrev pub Reading : Type 0
Reading = Data → Members → Result Request Bad

-- a request by its row
abbrev pub asked_by : Row Request → Reading
asked_by r = request_by (codes "do" ∷ codes "lane" ∷ []) r.keys r.is

-- an edit by its row, which is to be made
abbrev pub change_by : Row Edit → Reading
change_by r = request_by (codes "do" ∷ codes "lane" ∷ []) (by ∷ r.keys)
    (λ d. Change (the_name by d) (r.is d))

-- an edit by its row, of which is asked what it would strand
abbrev pub what_if_by : Row Edit → Reading
what_if_by r = request_by (codes "do" ∷ codes "lane" ∷ codes "edit" ∷ []) (by ∷ r.keys)
    (λ d. WhatIf (the_name by d) (r.is d))

-- what an edit would strand: the word of an edit at the key edit, and then the edit by its row
unfoldable pub what_if_in : Reading
what_if_in d ms = do
  r ← or_fault (option_and_then (row_of edits) (text_at (codes "edit") d)) (Key (codes "edit"))
  what_if_by r d ms

-- what is read for a word at the key do
abbrev pub reading_of : List ℕ → Option Reading
reading_of word =
    if pointwise nat_eq word (codes "what_if") then Some what_if_in
    else option_or (option_map asked_by (row_of rows word))
    (option_map change_by (row_of edits word))

-- a value that is a request of a lane; the faults in the order in which they are checked
unfoldable pub request_in : ℕ → Data → Result Asked Bad
request_in lanes d = do
  ms ← or_fault (as_object d) Object
  read ← or_fault (option_and_then reading_of (text_at (codes "do") d)) Do
  lane ← or_fault (lane_at lanes d) Lane
  request ← read d ms
  Ok (record { lane = lane; ask = ask.Request request })

-- a bad line is of the first lane
abbrev pub asked : Result Asked Bad → Asked
asked (Ok a) = a
asked (Err bad) = record { lane = 0; ask = ask.Bad bad }

-- what a line asks, and of which of the lanes
unfoldable pub asked_of : ℕ → List ℕ → Asked
asked_of lanes line = asked (or_fault (value_of line) Syntax >>= request_in lanes)
