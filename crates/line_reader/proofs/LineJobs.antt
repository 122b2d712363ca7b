-- The jobs of an input are those of its lines.
use Rattle.std.proofs.Common.{◌⊎◌, inl, inr, None, Some, refl, sym, ap, subst, ◌∙◌, arith}
use Rattle.std.specs.Prelude.{◌≡◌, ℕ, ◌+◌, ◌==◌, ◌<◌, ◌≤◌, Bool, true, false, not, ◌&&◌, List, [], ◌∷◌, ◌++◌, length, is_some, if◌then◌else◌}
use Rattle.std.proofs.lemmas.Grind.{common_steps}
use Rattle.basics.proofs.Booleans.{bool_cases}
use Rattle.std.proofs.lemmas.List.{append_assoc, append-nil, length-append}
use Rattle.std.proofs.Math.Seq.{take-append_seam}
use Rattle.wf_names.specs.declared.limits.TheConstants.{LINE_LIMIT, SESSION_LINE_LIMIT}
use Rattle.line_reader.specs.Reader.{has_end, line_length, lines_of}
use Rattle.line_reader.proofs.FirstLines.{goes_on, lines_first, open_line}
use Rattle.line_reader.specs.declared.stop.Stop.{Stop}
use Rattle.line_reader.specs.declared.stop.Stop.TheVariants.{LineTooLong, TooManyLines}
use Rattle.line_reader.specs.Jobs.{Cut, start_from, without_cr, end_batch, end_full_batch, end_line, step, cut_all, flush, jobs_from}
use Rattle.line_reader.proofs.CutLaws.{stopped}
use Rattle.line_reader.proofs.Batches.{HasRuns, batches_are, runs_all, runs_start}
use Rattle.line_reader.specs.Lines.{AreJobsOfLines, AreWithin, IsWithinLimits, JobsAreOfLines, MeetsLimit, StopsAt, job_at, jobs_of_lines, text_of}

-- ---- a line without its LF

-- with an LF behind it, it is the first line
line_before : (l : List ℕ) (b : ℕ) (more : List ℕ) → has_end l ≡ false → (b == 10) ≡ true → lines_of (l ++ b ∷ more) ≡ (l ++ b ∷ []) ∷ lines_of more
line_before [] b more none lf = rw lf refl
line_before (x ∷ xs) b more none lf = grind (arith, common_steps, line_before xs b more)

-- alone it is the one line
one_line : (x : ℕ) (xs : List ℕ) → has_end (x ∷ xs) ≡ false → lines_of (x ∷ xs) ≡ (x ∷ xs) ∷ []
one_line x [] none = grind (arith, common_steps)
one_line x (y ∷ ys) none = grind (arith, common_steps, one_line y ys)

ends_with : (l : List ℕ) (b : ℕ) → has_end l ≡ false → (b == 10) ≡ true → has_end (l ++ b ∷ []) ≡ true
ends_with l b none lf = (goes_on l (b ∷ []) none).ended ∙ (rw lf refl)

goes_with : (l : List ℕ) (b : ℕ) → has_end l ≡ false → (b == 10) ≡ false → has_end (l ++ b ∷ []) ≡ false
goes_with l b none other = (goes_on l (b ∷ []) none).ended ∙ (rw other refl)

length_with : (l : List ℕ) (b : ℕ) → has_end l ≡ false → (b == 10) ≡ true → line_length (l ++ b ∷ []) ≡ length l
length_with l b none lf = grind (arith, common_steps, (goes_on l (b ∷ []) none).counted)

length_alone : (l : List ℕ) → has_end l ≡ false → line_length l ≡ length l
length_alone l none = (open_line l none).counted

-- its text
text_with : (l : List ℕ) (b : ℕ) (e : Bool) → has_end l ≡ false → (b == 10) ≡ true → text_of e (l ++ b ∷ []) ≡ without_cr l
text_with l b e none lf = grind (arith, ends_with, length_with, take-append_seam)

-- ---- lines one behind the other

some_lines : (l : List ℕ) (b : ℕ) → 0 < length (lines_of (l ++ b ∷ []))
some_lines l b = grind (arith, length-append, lines_first)

within_more : (xs ys : List (List ℕ)) → AreWithin xs → AreWithin ys → AreWithin (xs ++ ys)
within_more [] ys some more = more
within_more (x ∷ xs) ys some more = (some.0, within_more xs ys some.1 more)

within_last : (xs : List (List ℕ)) (y : List ℕ) → AreWithin (xs ++ y ∷ []) → line_length y ≤ LINE_LIMIT
within_last [] y all = all.0
within_last (x ∷ xs) y all = within_last xs y all.1

jobs_more : (lanes : ℕ) (e : Bool) (n : ℕ) (xs ys : List (List ℕ)) →
    jobs_of_lines lanes e n (xs ++ ys) ≡ jobs_of_lines lanes e n xs ++ jobs_of_lines lanes e (n + length xs) ys
jobs_more lanes e n [] ys = ap (λ k. jobs_of_lines lanes e k ys) (omega arith)
jobs_more lanes e n (x ∷ xs) ys = grind (arith, append_assoc, (jobs_more lanes e (n + 1) xs ys))

-- ---- how far the cutting is

-- these bytes are cut, and no limit is met: some lines have ended, and behind them stands the open line
record HasCut (lanes first : ℕ) (front : List ℕ) (c : Cut) : Type 0 where
  pub lines : List (List ℕ)
  pub cut : (more : List ℕ) → lines_of (front ++ more) ≡ lines ++ lines_of (c.line ++ more)
  pub stop : c.stop ≡ None
  pub same : c.lanes ≡ lanes
  pub number : c.number ≡ first + length lines
  pub going : has_end c.line ≡ false
  pub short : AreWithin lines
  pub size : length c.line ≤ LINE_LIMIT
  pub few : c.number ≤ SESSION_LINE_LIMIT
  pub within : 0 < length c.line → c.number < SESSION_LINE_LIMIT
  pub jobs : (e : Bool) → c.jobs ≡ jobs_of_lines lanes e first lines

has_start : (lanes first : ℕ) → first ≤ SESSION_LINE_LIMIT → HasCut lanes first [] (start_from lanes first)
has_start lanes first few = grind arith

-- what the end of a line leaves
record HasEndedLine (c d : Cut) : Type 0 where
  pub number : d.number ≡ c.number + 1
  pub line : d.line ≡ []
  pub stop : d.stop ≡ c.stop
  pub lanes : d.lanes ≡ c.lanes
  pub jobs : d.jobs ≡ c.jobs ++ job_at c.lanes c.number (without_cr c.line)

line_ended : (c : Cut) → HasEndedLine c (end_line c)
unfolding end_line end_full_batch end_batch
line_ended c = grind (arith, common_steps, append-nil)

-- a byte in front of more
byte_first : (front : List ℕ) (b : ℕ) (more : List ℕ) → (front ++ b ∷ []) ++ more ≡ front ++ b ∷ more
byte_first front b more = append_assoc front (b ∷ []) more

has_line : (lanes first : ℕ) (front : List ℕ) (c : Cut) (b : ℕ) → HasCut lanes first front c → c.number < SESSION_LINE_LIMIT → (b == 10) ≡ true →
    HasCut lanes first (front ++ b ∷ []) (end_line c)
has_line lanes first front c b h below lf =
    grind (arith, line_ended, length-append, length_with, byte_first, line_before, append_assoc, within_more, text_with, append-nil, jobs_more)

has_byte : (lanes first : ℕ) (front : List ℕ) (c : Cut) (b : ℕ) → HasCut lanes first front c → c.number < SESSION_LINE_LIMIT → length c.line < LINE_LIMIT →
    (b == 10) ≡ false →
    HasCut lanes first (front ++ b ∷ []) (record c { line = c.line ++ b ∷ [] })
has_byte lanes first front c b h below room other = grind (arith, length-append, byte_first, goes_with)

-- ---- one byte

-- with the next byte the cutting goes on, or a limit is met
abbrev StepsOn : ℕ → ℕ → List ℕ → Cut → ℕ → Cut → Type 0
StepsOn lanes first front c b d =
    HasCut lanes first (front ++ b ∷ []) d ⊎ ((stop : Stop) × ((d ≡ record c { stop = Some stop }) × MeetsLimit first (front ++ b ∷ []) stop))

step_ended : (c : Cut) (b : ℕ) → c.stop ≡ None → c.number < SESSION_LINE_LIMIT → (b == 10) ≡ true → step c b ≡ end_line c
unfolding step
step_ended c b going below lf = grind (arith, common_steps)

step_byte : (c : Cut) (b : ℕ) → c.stop ≡ None → c.number < SESSION_LINE_LIMIT → (b == 10) ≡ false → length c.line < LINE_LIMIT →
    step c b ≡ record c { line = c.line ++ b ∷ [] }
unfolding step
step_byte c b going below other room = grind (arith, common_steps)

step_long : (c : Cut) (b : ℕ) → c.stop ≡ None → c.number < SESSION_LINE_LIMIT → (b == 10) ≡ false → LINE_LIMIT ≤ length c.line →
    step c b ≡ record c { stop = Some (LineTooLong c.number) }
unfolding step
step_long c b going below other full = grind (arith, common_steps)

step_many : (c : Cut) (b : ℕ) → c.stop ≡ None → SESSION_LINE_LIMIT ≤ c.number → step c b ≡ record c { stop = Some TooManyLines }
unfolding step
step_many c b going above = grind (arith, common_steps)

number_cases : (a b : ℕ) → (a < b) ⊎ (b ≤ a)
number_cases a b = grind (arith, common_steps)

-- a line that is too long is the last
meets_long : (lanes first : ℕ) (front : List ℕ) (c : Cut) (b : ℕ) → HasCut lanes first front c → c.number < SESSION_LINE_LIMIT → (b == 10) ≡ false →
    LINE_LIMIT ≤ length c.line →
    MeetsLimit first (front ++ b ∷ []) (LineTooLong c.number)
meets_long lanes first front c b h below other full =
    let line = c.line ++ b ∷ [] in
    let none = goes_with c.line b h.going other in
    let all : lines_of (front ++ b ∷ []) ≡ h.lines ++ line ∷ [] = h.cut (b ∷ []) ∙ ap (λ ls. h.lines ++ ls) (one c.line none) in
    let count : length (h.lines ++ line ∷ []) ≡ length h.lines + 1 = length-append h.lines (line ∷ []) in
    let more = ap length all in
    let n = h.number in
    let size : length line ≡ length c.line + 1 = length-append c.line (b ∷ []) in
    let alone = length_alone line none in (
      omega (arith, more, count, n),
      (below, λ within. let last = within_last h.lines line (subst AreWithin all within) in omega (arith, last, alone, size, full)),
    )
  where
    one : (l : List ℕ) → has_end (l ++ b ∷ []) ≡ false → lines_of (l ++ b ∷ []) ≡ (l ++ b ∷ []) ∷ []
    one [] none = one_line b [] none
    one (x ∷ xs) none = one_line x (xs ++ b ∷ []) none

meets_many : (lanes first : ℕ) (front : List ℕ) (c : Cut) (b : ℕ) → HasCut lanes first front c → SESSION_LINE_LIMIT ≤ c.number →
    MeetsLimit first (front ++ b ∷ []) TooManyLines
meets_many lanes first front c b h above = grind (arith, length-append, some_lines)

steps_on : (lanes first : ℕ) (front : List ℕ) (c : Cut) (b : ℕ) → HasCut lanes first front c → StepsOn lanes first front c b (step c b)
steps_on lanes first front c b h = elim (number_cases c.number SESSION_LINE_LIMIT) [
  | inr above ↦ inr (TooManyLines, (step_many c b h.stop above, meets_many lanes first front c b h above))
  | inl below ↦ elim (bool_cases (b == 10)) [
    | inl lf ↦ inl (subst (HasCut lanes first (front ++ b ∷ [])) (sym (step_ended c b h.stop below lf)) (has_line lanes first front c b h below lf))
    | inr other ↦ elim (number_cases (length c.line) LINE_LIMIT) [
      | inl room ↦ grind (arith, step_byte, has_byte)
      | inr full ↦ inr (LineTooLong c.number, (step_long c b h.stop below other full, meets_long lanes first front c b h below other full))
    ]
  ]
]

-- ---- all bytes

-- how the cutting of all bytes ends: all are cut, or it has stopped at one
abbrev EndsAs : ℕ → List ℕ → List ℕ → Cut → Cut → Type 0
EndsAs first front rest before c =
    ((rest ≡ []) × (c ≡ before))
    ⊎ ((stop : Stop) ×
    ((b : ℕ) × ((more : List ℕ) × ((rest ≡ b ∷ more) × ((c ≡ record before { stop = Some stop }) × MeetsLimit first (front ++ b ∷ []) stop)))))

record HasRun (lanes first : ℕ) (bytes : List ℕ) (c : Cut) : Type 0 where
  pub front : List ℕ
  pub rest : List ℕ
  pub before : Cut
  pub whole : bytes ≡ front ++ rest
  pub has : HasCut lanes first front before
  pub end : EndsAs first front rest before c

run : (lanes first : ℕ) (front : List ℕ) (c : Cut) (bytes : List ℕ) → HasCut lanes first front c → HasRun lanes first (front ++ bytes) (cut_all c bytes)
run lanes first front c [] h = record { front = front; rest = []; before = c; whole = refl; has = h; end = inl (refl, refl) }
run lanes first front c (b ∷ bs) h = elim (steps_on lanes first front c b h) [
  | inl on ↦ subst (λ bytes. HasRun lanes first bytes (cut_all (step c b) bs)) (byte_first front b bs) (run lanes first (front ++ b ∷ []) (step c b) bs on)
  | inr met ↦
      let still : cut_all (step c b) bs ≡ step c b = stopped (step c b) bs (ap (λ (x : Cut). is_some x.stop) met.1.0) in
      record { front = front; rest = b ∷ bs; before = c; whole = refl; has = h; end = inr (met.0, (b, (bs, (refl, (still ∙ met.1.0, met.1.1))))) }
]

-- ---- the end of the input

open_lines : (l : List ℕ) → has_end l ≡ false → (lines_of l ≡ []) × (l ≡ []) ⊎ ((lines_of l ≡ l ∷ []) × (0 < length l))
open_lines [] none = inl (refl, refl)
open_lines (x ∷ xs) none = inr (one_line x xs none, omega arith)

-- the jobs of what stands behind the last LF
jobs_open : (lanes : ℕ) (e : Bool) (n : ℕ) (l : List ℕ) → has_end l ≡ false → jobs_of_lines lanes e n (lines_of l) ≡ job_at lanes n (if e then l else [])
jobs_open lanes e n [] none = grind arith
jobs_open lanes e n (x ∷ xs) none = grind (arith, one_line, append-nil)

flushed : (c : Cut) (ended : Bool) → (end_batch (flush ended c)).jobs ≡ c.jobs ++ job_at c.lanes c.number (if ended && not (is_some c.stop) then c.line else [])
unfolding flush end_batch
flushed c ended = grind (arith, common_steps, append-nil)

flushed_stop : (c : Cut) (ended : Bool) → (end_batch (flush ended c)).stop ≡ c.stop
unfolding flush end_batch
flushed_stop c ended = grind (arith, common_steps)

within_limits : (lanes first : ℕ) (front : List ℕ) (c : Cut) → HasCut lanes first front c → IsWithinLimits first front
within_limits lanes first front c h =
    let all : lines_of front ≡ h.lines ++ lines_of c.line = ap lines_of (sym (append-nil front)) ∙ h.cut [] ∙
    ap (λ l. h.lines ++ lines_of l) (append-nil c.line) in
    let count : length (h.lines ++ lines_of c.line) ≡ length h.lines + length (lines_of c.line) = length-append h.lines (lines_of c.line) in
    let size = ap length all in
    let n = h.number in
    elim (open_lines c.line h.going) [
      | inl none ↦ grind (arith, within_more)
      | inr some ↦ grind (arith, length_alone, within_more)
    ]

-- the jobs, where the cutting stopped so
jobs_are : (lanes first : ℕ) (front : List ℕ) (before c : Cut) (e : Bool) → HasCut lanes first front before →
    c.jobs ≡ before.jobs ++ job_at before.lanes before.number (if e then before.line else []) →
    c.jobs ≡ jobs_of_lines lanes e first (lines_of front)
jobs_are lanes first front before c e h is =
    let all : lines_of front ≡ h.lines ++ lines_of before.line = ap lines_of (sym (append-nil front)) ∙ h.cut [] ∙
    ap (λ l. h.lines ++ lines_of l) (append-nil before.line) in
    is
    ∙ ap (λ js. js ++ job_at before.lanes before.number (if e then before.line else [])) (h.jobs e)
    ∙ ap (λ k. jobs_of_lines lanes e first h.lines ++ job_at k before.number (if e then before.line else [])) h.same
    ∙ ap (λ k. jobs_of_lines lanes e first h.lines ++ job_at lanes k (if e then before.line else [])) h.number
    ∙ ap (λ js. jobs_of_lines lanes e first h.lines ++ js) (sym (jobs_open lanes e (first + length h.lines) before.line h.going))
    ∙ sym (jobs_more lanes e first h.lines (lines_of before.line))
    ∙ ap (jobs_of_lines lanes e first) (sym all)

finished : (lanes first : ℕ) (bytes : List ℕ) (ended : Bool) (c : Cut) → HasRun lanes first bytes c → HasRuns c →
    AreJobsOfLines lanes first bytes ended (end_batch (flush ended c))
finished lanes first bytes ended c r runs = record {
  batches = batches_are c ended runs;
  front = r.front;
  rest = r.rest;
  whole = r.whole;
  within = within_limits lanes first r.front r.before r.has;
  stop = subst (StopsAt first r.front r.rest) (sym (flushed_stop c ended)) (stops c r.end);
  jobs = subst (λ o. (end_batch (flush ended c)).jobs ≡ jobs_of_lines lanes (ended && not (is_some o)) first (lines_of r.front)) (sym (flushed_stop c ended))
      (jobs_are lanes first r.front r.before (end_batch (flush ended c)) (ended && not (is_some c.stop)) r.has (told c r.end));
}
  where
    stops : (x : Cut) → EndsAs first r.front r.rest r.before x → StopsAt first r.front r.rest x.stop
    stops x (inl all) = subst (StopsAt first r.front r.rest) (sym (ap (λ (y : Cut). y.stop) all.1 ∙ r.has.stop)) all.0
    stops x (inr met) = subst (StopsAt first r.front r.rest) (sym (ap (λ (y : Cut). y.stop) met.1.1.1.1.0)) (met.1.0, (met.1.1.0, (met.1.1.1.0, met.1.1.1.1.1)))

    here : (x y : Cut) → x ≡ y → (end_batch (flush ended x)).jobs ≡ y.jobs ++ job_at y.lanes y.number (if ended && not (is_some x.stop) then y.line else [])
    here x y same = subst (λ (z : Cut). (end_batch (flush ended x)).jobs ≡ z.jobs ++ job_at z.lanes z.number
        (if ended && not (is_some x.stop) then z.line else [])) same (flushed x ended)

    told : (x : Cut) → EndsAs first r.front r.rest r.before x →
        (end_batch (flush ended x)).jobs ≡ r.before.jobs ++ job_at r.before.lanes r.before.number (if ended && not (is_some x.stop) then r.before.line else [])
    told x (inl all) = here x r.before all.1
    told x (inr met) = here x (record r.before { stop = Some met.0 }) met.1.1.1.1.0

pub jobs_are_of_lines : (lanes first : ℕ) → first ≤ SESSION_LINE_LIMIT → JobsAreOfLines lanes first
unfolding jobs_from
jobs_are_of_lines lanes first few bytes ended =
    finished lanes first bytes ended (cut_all (start_from lanes first) bytes) (run lanes first [] (start_from lanes first) bytes (has_start lanes first few))
    (runs_all (start_from lanes first) bytes (runs_start lanes first))
