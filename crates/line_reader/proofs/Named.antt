-- The key that a bad line lacks has the form of a name.
use Rattle.std.proofs.Common.{refl, subst, arith}
use Rattle.std.specs.Prelude.{◌≡◌, ℕ, ◌+◌, nat_lt, nat_le, Bool, true, ◌&&◌, List, [], ◌∷◌, ◌++◌, length, Option, Some, None, codes}
use Rattle.std.specs.Prelude.{nat_eq, option_and_then, Result, Ok, Err, if◌then◌else◌}
use Rattle.std.specs.List.{list_all, find}
use Rattle.std.specs.Cmp.Lexicographic.{pointwise}
use Rattle.serde_json.specs.Data.{Data, Members}
use Rattle.serde_json.specs.Find.{as_object}
use Rattle.basics.specs.Laws.Reading.{◌>>=◌, or_fault, check, each}
use Rattle.wf_names.specs.Names.{is_name}
use Rattle.wf_names.specs.declared.limits.TheConstants.{BATCH_LINE_LIMIT}
use Rattle.wf_talk.specs.declared.job.Job.{Job}
use Rattle.wf_talk.specs.declared.edit.Edit.{Edit}
use Rattle.wf_talk.specs.declared.request.Request.{Request}
use Rattle.wf_talk.specs.declared.request.Request.TheVariants.{Change, WhatIf}
use Rattle.wf_talk.specs.declared.request.Ask.TheVariants as ask
use Rattle.wf_talk.specs.declared.request.Bad.{Bad}
use Rattle.wf_talk.specs.declared.request.Bad.TheVariants.{Object, Do, Lane, Key}
use Rattle.wire_json.specs.declared.request.Asked.{Asked}
use Rattle.wire_json.specs.Requests.{Row, Reading, rows, edits, row_of, by, the_name, text_at, lane_at, has_form, request_by, asked_by, change_by}
use Rattle.wire_json.specs.Requests.{what_if_by, what_if_in, reading_of, request_in, asked, asked_of}
use Rattle.line_reader.specs.Jobs.{Cut, start, job_of, end_batch, end_full_batch, end_line, step, cut_all, flush}
use Rattle.line_reader.specs.Jobs.{jobs_from}
use Rattle.wf_talk.specs.Jobs.{IsNamedAsk, IsNamedBad}
use Rattle.line_reader.specs.Laws.{AddsNamed, AreNamedJobs, JobsAreNamed}
use Rattle.line_reader.specs.Laws.Naming.{JobsStayNamed}
use Rattle.line_reader.proofs.Adding.{line_adding}
use Rattle.line_reader.proofs.Readings.{AreAll, read_so}

-- ---- requests

abbrev IsNamed : {A : Type 0} → Result A Bad → Type 0
IsNamed (Ok a) = Unit {0}
IsNamed (Err b) = IsNamedBad b

and_second : (a b : Bool) → (a && b) ≡ true → b ≡ true
and_second a b h = grind arith

then_named : {A B : Type 0} (r : Result A Bad) (next : A → Result B Bad) → IsNamed r → ((a : A) → r ≡ Ok a → IsNamed (next a)) → IsNamed (r >>= next)
then_named r next h rest = grind arith

or_named : {A : Type 0} (o : Option A) (b : Bad) → IsNamedBad b → IsNamed (or_fault o b)
or_named o b h = grind arith

keys_named : (d : Data) (keys : List (List ℕ)) → list_all is_name keys ≡ true → IsNamed (each (λ (_ : Unit {0}) key. check (has_form d key) (Key key)) tt keys)
keys_named d [] h = tt
keys_named d (key ∷ keys) h = grind (arith, (keys_named d keys))

-- what is read for a word: a fault of it that is of a key is of one with the form of a name
abbrev ReadsNamed : Reading → Type 0
ReadsNamed read = (d : Data) (ms : Members) → IsNamed (read d ms)

by_named : (others keys : List (List ℕ)) (is : Data → Request) → list_all is_name keys ≡ true → ReadsNamed (request_by others keys is)
unfolding request_by
by_named others keys is h = grind (arith, keys_named)

-- each request and each edit has keys that are names
abbrev has_names : {A : Type 0} → Row A → Bool
has_names r = list_all is_name r.keys

rows_named : list_all has_names rows ≡ true
unfolding is_name
rows_named = refl

edits_named : list_all has_names edits ≡ true
unfolding is_name
edits_named = refl

by_is_name : is_name by ≡ true
unfolding is_name
by_is_name = refl

edit_is_name : is_name (codes "edit") ≡ true
unfolding is_name
edit_is_name = refl

find_named : {A : Type 0} (p : Row A → Bool) (rs : List (Row A)) (r : Row A) → list_all has_names rs ≡ true → find p rs ≡ Some r → has_names r ≡ true
find_named p [] r h e = cc
find_named p (x ∷ xs) r h e = grind (arith, (find_named p xs r (and_second (has_names x) (list_all has_names xs) h)))

with_by : (r : Row Edit) → has_names r ≡ true → list_all is_name (by ∷ r.keys) ≡ true
with_by r h = rw (by_is_name, h) refl

-- ---- what is read for a word

asked_named : (r : Row Request) → has_names r ≡ true → ReadsNamed (asked_by r)
asked_named r h = by_named (codes "do" ∷ codes "lane" ∷ []) r.keys r.is h

change_named : (r : Row Edit) → has_names r ≡ true → ReadsNamed (change_by r)
change_named r h = by_named (codes "do" ∷ codes "lane" ∷ []) (by ∷ r.keys) (λ d. Change (the_name by d) (r.is d)) (with_by r h)

what_if_named : ReadsNamed what_if_in
unfolding what_if_in
what_if_named d ms =
    then_named (or_fault (option_and_then (row_of edits) (text_at (codes "edit") d)) (Key (codes "edit"))) (λ r. what_if_by r d ms)
    (or_named (option_and_then (row_of edits) (text_at (codes "edit") d)) (Key (codes "edit")) edit_is_name)
    (λ r is_r. by_named (codes "do" ∷ codes "lane" ∷ codes "edit" ∷ []) (by ∷ r.keys) (λ d. WhatIf (the_name by d) (r.is d))
    (with_by r (named_edit (text_at (codes "edit") d) r is_r)) d ms)
  where
    of_word : (found : Option (Row Edit)) (r : Row Edit) → ((x : Row Edit) → found ≡ Some x → has_names x ≡ true) →
        or_fault found (Key (codes "edit")) ≡ Ok r → has_names r ≡ true
    of_word None r h e = cc
    of_word (Some x) r h e = let same : x ≡ r = cc in subst (λ y. has_names y ≡ true) same (h x refl)

    named_edit : (o : Option (List ℕ)) (r : Row Edit) → or_fault (option_and_then (row_of edits) o) (Key (codes "edit")) ≡ Ok r → has_names r ≡ true
    named_edit None r e = cc
    named_edit (Some word) r e = of_word (row_of edits word) r (λ x is. find_named (λ y. pointwise nat_eq word y.word) edits x edits_named is) e

all_named : AreAll ReadsNamed
all_named = grind (arith, asked_named, find_named, rows_named, change_named, edits_named, what_if_named)

then_asked : {A : Type 0} (r : Result A Bad) (next : A → Result Asked Bad) → IsNamed r → ((a : A) → r ≡ Ok a → IsNamedAsk (asked (next a)).ask)
    → IsNamedAsk (asked (r >>= next)).ask
then_asked r next h rest = grind arith

abbrev with_lane : ℕ → Result Request Bad → Result Asked Bad
with_lane lane asks = asks >>= (λ request. Ok (record { lane = lane; ask = ask.Request request }))

abbrev with_reading : ℕ → Data → Members → Reading → Result Asked Bad
with_reading lanes d ms read = or_fault (lane_at lanes d) Lane >>= (λ lane. with_lane lane (read d ms))

in_named : (lanes : ℕ) (d : Data) → IsNamedAsk (asked (request_in lanes d)).ask
unfolding request_in
in_named lanes d =
    then_asked (or_fault (as_object d) Object)
    (λ ms. or_fault (option_and_then reading_of (text_at (codes "do") d)) Do >>= (λ read. with_reading lanes d ms read))
    (or_named (as_object d) Object tt) (λ ms is_ms.
    then_asked (or_fault (option_and_then reading_of (text_at (codes "do") d)) Do) (λ read. with_reading lanes d ms read)
    (or_named (option_and_then reading_of (text_at (codes "do") d)) Do tt) (λ read is_read.
    then_asked (or_fault (lane_at lanes d) Lane) (λ lane. with_lane lane (read d ms)) (or_named (lane_at lanes d) Lane tt) (λ lane is_lane.
    then_asked (read d ms) (λ request. Ok (record { lane = lane; ask = ask.Request request }))
    (read_so ReadsNamed all_named (text_at (codes "do") d) read is_read d ms) (λ request is_request. tt))))

line_named : (lanes : ℕ) (line : List ℕ) → IsNamedAsk (asked_of lanes line).ask
unfolding asked_of
line_named lanes line = grind (arith, then_asked, or_named, in_named)

-- ---- jobs

named_push : (jobs : List Job) (job : Job) → AreNamedJobs jobs → IsNamedAsk job.ask × AddsNamed job.ask → AreNamedJobs (jobs ++ job ∷ [])
named_push [] job all h = (h, tt)
named_push (j ∷ js) job all h = (all.0, named_push js job all.1 h)

named_if : (b : Bool) (c d : Cut) → AreNamedJobs c.jobs → AreNamedJobs d.jobs → AreNamedJobs (if b then c else d).jobs
named_if b c d first second = grind arith

named_end : (c : Cut) → AreNamedJobs c.jobs → AreNamedJobs (end_batch c).jobs
unfolding end_batch
named_end c h = named_if (nat_lt c.from (length c.jobs)) (record c { from = length c.jobs; ends = c.ends ++ length c.jobs ∷ [] }) c h h

named_full : (c : Cut) → AreNamedJobs c.jobs → AreNamedJobs (end_full_batch c).jobs
unfolding end_full_batch
named_full c h = named_if (nat_le (c.from + BATCH_LINE_LIMIT) (length c.jobs)) (end_batch c) c (named_end c h) h

named_job : (c : Cut) (line : List ℕ) → AreNamedJobs c.jobs → AreNamedJobs (c.jobs ++ job_of c.lanes c.number line ∷ [])
named_job c line h = named_push c.jobs (job_of c.lanes c.number line) h (line_named c.lanes line, line_adding c.lanes line)

named_line : (c : Cut) → AreNamedJobs c.jobs → AreNamedJobs (end_line c).jobs
unfolding end_line
named_line c h = grind (arith, named_if, named_end, named_full, named_job)

named_step : (c : Cut) (b : ℕ) → AreNamedJobs c.jobs → AreNamedJobs (step c b).jobs
unfolding step
named_step c b h = grind (arith, named_if, named_line)

named_all : (c : Cut) (bytes : List ℕ) → AreNamedJobs c.jobs → AreNamedJobs (cut_all c bytes).jobs
named_all c [] h = h
named_all c (b ∷ bs) h = named_all (step c b) bs (named_step c b h)

named_flush : (c : Cut) (ended : Bool) → AreNamedJobs c.jobs → AreNamedJobs (flush ended c).jobs
unfolding flush
named_flush c ended h = grind (arith, named_if, named_job)

pub jobs_stay_named : JobsStayNamed
unfolding jobs_from
jobs_stay_named c bytes ended h = named_end (flush ended (cut_all c bytes)) (named_flush (cut_all c bytes) ended (named_all c bytes h))

pub jobs_are_named : (lanes : ℕ) → JobsAreNamed lanes
jobs_are_named lanes bytes ended = jobs_stay_named (start lanes) bytes ended tt
