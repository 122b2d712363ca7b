-- How a transcript is followed, line after line.
use Rattle.std.proofs.Common.{◌≡◌, ℕ, ◌+◌, ◌-◌, ◌<◌, ◌≤◌, nat_lt, false, true, List, [], ◌∷◌, ◌++◌, length, take, drop, Option, None, Some, Ok, Err, refl, ap}
use Rattle.std.proofs.Common.{sym, subst, ◌∙◌, arith}
use Rattle.std.proofs.lemmas.Grind.{common_steps}
use Rattle.std.proofs.lemmas.List.{append-nil, append_assoc, drop_all, drop-drop, length-append, length-drop}
use Rattle.wf_names.specs.declared.limits.TheConstants.{TRANSCRIPT_LINE_LIMIT}
use Rattle.wf_talk.specs.declared.entry.Entry.{Entry}
use Rattle.line_reader.specs.Reader.{AreShort, behind_line, first_line, line_length, lines_of}
use Rattle.line_reader.proofs.FirstLines.{line_alone, lines_first}
use Rattle.transcript_audit.specs.declared.fault.AuditKind.{AuditKind}
use Rattle.transcript_audit.specs.Auditor.{AuditShape, HasFault, IsNextLine, with_entry}
use Rattle.transcript_audit.specs.Laws.Outcomes.{HasTakenLine, IsFirstFault}
use Rattle.transcript_audit.specs.declared.fault.AuditFault.TheVariants.{At}
use Rattle.transcript_audit.proofs.Exact.{next_pushed}
use Rattle.transcript_commands.proofs.LinesTaken.{left_at}
use Rattle.case_story.specs.declared.place.Place.{Place}
use Rattle.case_story.specs.declared.verdict.Verdict.{Verdict}
use Rattle.case_story.specs.declared.verdict.Verdict.TheVariants.{Legal, Fault, TooLong}
use Rattle.case_story.specs.Verdicts.{EndsWith, IsVerdict, right_lines}
use Rattle.case_story.specs.Followed.{EndsAt, HasFollowed, StopsAudit, HasTakenLines, FollowsTo, StopsTo}

-- before the first line
pub begins : (first : AuditShape) (text : List ℕ) (place : Place) → first.entries ≡ [] → place.at ≡ 0 → place.number ≡ 0 → HasFollowed first first text place
begins first text place none at number = record {
  front = [];
  lines = ap (λ n. lines_of (drop n text)) (sym at);
  count = sym number;
  taken = record { entries = []; next = tt; opened = refl; after = sym (append-nil first.entries) };
  same = refl;
  short = tt;
}

-- what is left of a text behind a place has some bytes
pub left_some : (text : List ℕ) (at : ℕ) → at < length text → 0 < length (take (length text - at) (drop at text))
left_some text at within =
    let same = ap length (left_at text at) in
    omega (arith, within, same, length-drop at text)

-- the rest of a text, at its first line
pub record IsRest (text rest : List ℕ) (place : Place) (count : ℕ) : Type 0 where
  pub is : rest ≡ drop place.at text
  pub some : 0 < length rest
  pub line : take count rest ≡ first_line rest
  pub behind : drop count rest ≡ behind_line rest

-- the lines that are left are the first one, and those behind it
split : (text rest : List ℕ) (place after : Place) (count : ℕ) → IsRest text rest place count → after.at ≡ place.at + count
    → lines_of (drop place.at text) ≡ take count rest ∷ lines_of (drop after.at text)
split text rest place after count r at =
    let behind : behind_line rest ≡ drop after.at text = sym r.behind ∙ ap (drop count) r.is ∙ drop-drop count place.at text ∙ ap (λ n. drop n text) (sym at) in
    ap lines_of (sym r.is) ∙ lines_first rest r.some ∙ (λ i. (sym r.line) i ∷ lines_of (behind i))

-- a line that is not too long
fits : (rest : List ℕ) (count : ℕ) → take count rest ≡ first_line rest → nat_lt TRANSCRIPT_LINE_LIMIT (line_length rest) ≡ false →
    line_length (take count rest) ≤ TRANSCRIPT_LINE_LIMIT
fits rest count line short =
    let alone = (line_alone rest).counted in
    let same = ap line_length line in
    let most : line_length rest ≤ TRANSCRIPT_LINE_LIMIT = grind (arith, common_steps) in
    omega (arith, alone, same, most)

short_pushed : (lines : List (List ℕ)) (line : List ℕ) → AreShort lines → line_length line ≤ TRANSCRIPT_LINE_LIMIT → AreShort (lines ++ line ∷ [])
short_pushed [] line short fits = (fits, tt)
short_pushed (l ∷ ls) line short fits = (short.0, short_pushed ls line short.1 fits)

-- one more line is taken
took : (first a b : AuditShape) (lines : List (List ℕ)) (line : List ℕ) (e : Entry) → HasTakenLines first a lines → a ≡ record first { entries = a.entries }
    → IsNextLine a line e → b ≡ with_entry a e → HasTakenLines first b (lines ++ line ∷ [])
took first a b lines line e h same next is =
    let here : a ≡ record first { entries = first.entries ++ h.entries } = same ∙ ap (λ es. record first { entries = es }) h.after in
    record {
      entries = h.entries ++ e ∷ [];
      next = next_pushed first lines h.entries line e h.next (subst (λ x. IsNextLine x line e) here next);
      opened = ap (λ (x : AuditShape). x.opening) is ∙ h.opened;
      after = ap (λ (x : AuditShape). x.entries) is ∙ ap (λ es. es ++ e ∷ []) h.after ∙ append_assoc first.entries h.entries (e ∷ []);
    }

pub one_more : (first a b : AuditShape) (text rest : List ℕ) (place after : Place) (count : ℕ) → IsRest text rest place count
    → nat_lt TRANSCRIPT_LINE_LIMIT (line_length rest) ≡ false → HasTakenLine a b (take count rest) (Ok tt) → after.at ≡ place.at + count →
    after.number ≡ place.number + 1
    → HasFollowed first a text place → HasFollowed first b text after
one_more first a b text rest place after count r short taken at number h =
    let line = take count rest in
    let e = taken.1.0 in
    let next : IsNextLine a line e = taken.1.1.0 in
    let is : b ≡ with_entry a e = taken.1.1.1 in
    let parts = split text rest place after count r at in
    let whole : b ≡ record first { entries = a.entries ++ e ∷ [] } = is ∙ ap (λ (x : AuditShape). record x { entries = a.entries ++ e ∷ [] }) h.same in
    let entries : b.entries ≡ a.entries ++ e ∷ [] = ap (λ (x : AuditShape). x.entries) is in
    record {
      front = h.front ++ line ∷ [];
      lines = h.lines ∙ ap (λ ls. h.front ++ ls) parts ∙ sym (append_assoc h.front (line ∷ []) (lines_of (drop after.at text)));
      count = let c = h.count in omega (arith, c, number, length-append h.front (line ∷ []));
      taken = took first a b h.front line e h.taken h.same next is;
      same = whole ∙ ap (λ es. record first { entries = es }) (sym entries);
      short = short_pushed h.front line h.short (fits rest count r.line short);
    }

-- the audit stopped behind the lines that were followed, where the entries stay
stopped : (first a b : AuditShape) (text : List ℕ) (place : Place) (n : ℕ) → HasFollowed first a text place → b.opening ≡ a.opening →
    b.entries ≡ a.entries → n ≡ place.number → StopsAudit first b text n
stopped first a b text place n h opened entries number = record {
  front = h.front;
  rest = lines_of (drop place.at text);
  lines = h.lines;
  count = h.count ∙ sym number;
  taken = let t = h.taken in record { entries = t.entries; next = t.next; opened = opened ∙ t.opened; after = entries ∙ t.after };
}

-- what is found behind the lines that were followed
found : (first a : AuditShape) (text : List ℕ) (place : Place) (rest : List (List ℕ)) (v : Verdict) → HasFollowed first a text place →
    lines_of (drop place.at text) ≡ rest
    → right_lines v ≡ place.number → EndsWith a rest v → IsVerdict first (lines_of text) v
found first a text place rest v h left number ends = record {
  front = h.front;
  rest = rest;
  parts = h.lines ∙ ap (λ ls. h.front ++ ls) left;
  count = h.count ∙ sym number;
  short = h.short;
  entries = h.taken.entries;
  next = h.taken.next;
  ends = subst (λ x. EndsWith x rest v) (h.same ∙ ap (λ es. record first { entries = es }) h.taken.after) ends;
}

-- a line has a fault
pub one_wrong : (first a b : AuditShape) (text rest : List ℕ) (place : Place) (count : ℕ) (kind : AuditKind) → IsRest text rest place count
    → nat_lt TRANSCRIPT_LINE_LIMIT (line_length rest) ≡ false → HasFault a (take count rest) kind → b.opening ≡ a.opening → b.entries ≡ a.entries
    → HasFollowed first a text place → StopsTo first b text (Fault place.number kind)
one_wrong first a b text rest place count kind r short fault opened entries h = record {
  found = found first a text place (take count rest ∷ lines_of (behind_line rest)) (Fault place.number kind) h
      (ap lines_of (sym r.is) ∙ lines_first rest r.some ∙ ap (λ l. l ∷ lines_of (behind_line rest)) (sym r.line)) refl (fits rest count r.line short, fault);
  stopped = stopped first a b text place place.number h opened entries refl;
}

-- a line is too long
pub one_long : (first a : AuditShape) (text rest : List ℕ) (place : Place) → rest ≡ drop place.at text → 0 < length rest →
    nat_lt TRANSCRIPT_LINE_LIMIT (line_length rest) ≡ true
    → HasFollowed first a text place → StopsTo first a text (TooLong place.number)
one_long first a text rest place is some long h =
    let alone = (line_alone rest).counted in
    let much : TRANSCRIPT_LINE_LIMIT < line_length rest = grind (arith, common_steps) in
    record {
      found = found first a text place (first_line rest ∷ lines_of (behind_line rest)) (TooLong place.number) h
          (ap lines_of (sym is) ∙ lines_first rest some) refl (omega (arith, alone, much));
      stopped = stopped first a a text place place.number h refl refl refl;
    }

none_left : (text : List ℕ) (at : ℕ) → length text ≤ at → lines_of (drop at text) ≡ []
none_left text at past = ap lines_of (drop_all at text past)

-- no line is left
pub at_end : (first a : AuditShape) (text : List ℕ) (place : Place) (v : Verdict) → length text ≤ place.at → EndsAt a place.number v →
    HasFollowed first a text place → StopsTo first a text v
at_end first a text place (Legal n) past ends h = record {
  found = found first a text place [] (Legal n) h (none_left text place.at past) ends.0 ends.1;
  stopped = stopped first a a text place n h refl refl ends.0;
}
at_end first a text place (Fault n kind) past ends h = record {
  found = found first a text place [] (Fault n kind) h (none_left text place.at past) ends.1.0 (ends.0, ends.1.1);
  stopped = stopped first a a text place n h refl refl ends.1.0;
}
at_end first a text place (TooLong n) past ends h = absurd ends

-- how many lines there are
pub few_right : (first b : AuditShape) (text : List ℕ) (n : ℕ) → StopsAudit first b text n → n ≤ length (lines_of text)
few_right first b text n h =
    let c = h.count in
    let whole = ap length h.lines in
    omega (arith, c, whole, length-append h.front h.rest)

pub all_followed : (first a : AuditShape) (text : List ℕ) (place : Place) → length text ≤ place.at → HasFollowed first a text place →
    length (lines_of text) ≡ place.number
all_followed first a text place past h =
    let none : lines_of (drop place.at text) ≡ [] = ap lines_of (drop_all place.at text past) in
    ap length (h.lines ∙ ap (λ ls. h.front ++ ls) none ∙ append-nil h.front) ∙ h.count

-- a line that was not taken
pub wrong_line : (first a b : AuditShape) (text rest : List ℕ) (place : Place) (count n : ℕ) (kind : AuditKind) → IsRest text rest place count
    → nat_lt TRANSCRIPT_LINE_LIMIT (line_length rest) ≡ false → a.fault ≡ None → HasTakenLine a b (take count rest) (Err (At n kind))
    → HasFollowed first a text place → StopsTo first b text (Fault place.number kind)
wrong_line first a b text rest place count n kind r short going taken h =
    one_wrong first a b text rest place count kind r short (subst (λ o. IsFirstFault o a (take count rest) kind) going taken.1.0)
    (ap (λ (x : AuditShape). x.opening) taken.1.1) (ap (λ (x : AuditShape). x.entries) taken.1.1) h

-- what came of a step
pub stepped : (first b : AuditShape) (text : List ℕ) (place : Place) (o : Option Verdict) (v : Verdict) → o ≡ Some v → FollowsTo first b text place o →
    StopsTo first b text v
stepped first b text place o v is h = subst (λ x. FollowsTo first b text place x) is h

pub walked : (first b : AuditShape) (text : List ℕ) (place : Place) (o : Option Verdict) → o ≡ None → FollowsTo first b text place o →
    HasFollowed first b text place
walked first b text place o is h = subst (λ x. FollowsTo first b text place x) is h
