-- Inside: how the lines of a transcript are followed.
use Rattle.std.specs.Prelude.{◌≡◌, ℕ, ◌<◌, ◌≤◌, List, ◌++◌, length, drop, Option, None, Some}
use Rattle.wf_talk.specs.declared.entry.Entry.{Entry}
use Rattle.line_reader.specs.Reader.{AreShort, lines_of}
use Rattle.transcript_audit.specs.Auditor.{AuditShape, AreNext}
use Rattle.transcript_audit.specs.declared.fault.AuditKind.TheVariants.{Missing}
use Rattle.case_story.specs.declared.place.Place.{Place}
use Rattle.case_story.specs.declared.verdict.Verdict.{Verdict}
use Rattle.case_story.specs.declared.verdict.Verdict.TheVariants.{Legal, Fault, TooLong}
use Rattle.case_story.specs.Verdicts.{IsVerdict, right_lines}

-- an audit that began so has taken the entries of these lines
pub record HasTakenLines (first a : AuditShape) (lines : List (List ℕ)) : Type 0 where
  pub entries : List Entry
  pub next : AreNext first lines entries
  pub opened : a.opening ≡ first.opening
  pub after : a.entries ≡ first.entries ++ entries

-- an audit goes on at a place: no line before it has a fault
pub record IsAt (text : List ℕ) (a : AuditShape) (place : Place) : Type 0 where
  pub going : a.fault ≡ None
  pub within : place.at ≤ length text
  pub few : place.number ≤ place.at

-- an audit that began so has taken the lines before a place
pub record HasFollowed (first a : AuditShape) (text : List ℕ) (place : Place) : Type 0 where
  pub front : List (List ℕ)
  pub lines : lines_of text ≡ front ++ lines_of (drop place.at text)
  pub count : length front ≡ place.number
  pub taken : HasTakenLines first a front
  pub same : a ≡ record first { entries = a.entries }
  pub short : AreShort front

-- an audit that began so has taken the first n lines
pub record StopsAudit (first b : AuditShape) (text : List ℕ) (n : ℕ) : Type 0 where
  pub front : List (List ℕ)
  pub rest : List (List ℕ)
  pub lines : lines_of text ≡ front ++ rest
  pub count : length front ≡ n
  pub taken : HasTakenLines first b front

-- it is found, and the lines before a fault are taken
pub record StopsTo (first b : AuditShape) (text : List ℕ) (v : Verdict) : Type 0 where
  pub found : IsVerdict first (lines_of text) v
  pub stopped : StopsAudit first b text (right_lines v)

-- one more line is taken, or something is found
abbrev pub FollowsTo : AuditShape → AuditShape → List ℕ → Place → Option Verdict → Type 0
FollowsTo first b text place None = HasFollowed first b text place
FollowsTo first b text place (Some v) = StopsTo first b text v

-- where no line is left
abbrev pub EndsAt : AuditShape → ℕ → Verdict → Type 0
EndsAt a n (Legal k) = (k ≡ n) × (length a.entries ≡ length a.jobs)
EndsAt a n (Fault k kind) = (kind ≡ Missing) × ((k ≡ n) × (length a.entries < length a.jobs))
EndsAt a n (TooLong k) = ⊥
