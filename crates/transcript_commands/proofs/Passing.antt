-- How an audit goes on, line by line.
use Rattle.transcript_commands.proofs.Common.{◌≡◌, ℕ, ◌+◌, ◌<◌, ◌≤◌, Bool, true, false, List, [], ◌++◌, length, Option, None, Some, Result, Ok, Err, refl, ap}
use Rattle.transcript_commands.proofs.Common.{sym, subst, ◌∙◌, inl, inr, arith, length-append, TRANSCRIPT_LINE_LIMIT, nothing_taken, PolicyShape, Entry}
use Rattle.transcript_commands.proofs.Common.{first_line, behind_line, has_end, line_length, lines_of, lines_first, AuditKind, AuditShape, IsNextLine}
use Rattle.transcript_commands.proofs.Common.{with_entry, RunFault, Finding, Legal, StopsAtLine, IsAudited, HasFound, HasTakenSome}
use Rattle.std.specs.Prelude.{IfSome}
use Rattle.std.proofs.Common.{rules}
use Rattle.std.proofs.lemmas.List.{append-nil, append_assoc}
use Rattle.wf_outside.specs.Laws.Outside.{HasTaken, IsAtEnd, bytes_before}
use Rattle.wf_outside.proofs.OutsideLaws.{more_taken}
use Rattle.wire_json.specs.Replies.{entry_text}
use Rattle.line_reader.specs.Reader.{ReaderShape, pending, HasSeen, HasReadLine, HasReadToEnd, HasPassed}
use Rattle.line_reader.proofs.FirstLines.{line_alone, line_before, line_one, line_longer, more_behind, ends_with_lf, split_line}
use Rattle.transcript_audit.specs.Auditor.{HasFault}
use Rattle.transcript_commands.specs.declared.finding.Finding.TheVariants.{Fault, TooLong}
use Rattle.transcript_commands.specs.declared.auditing.TheConstants.{PIECE}
use Rattle.transcript_commands.specs.Finding.{EndsAs, IsFar}
use Rattle.transcript_commands.specs.Steps.{HasAudited, TakesLine, AuditStepsTo}

-- the text of an entry ends with LF
text_ends : (p : PolicyShape) (e : Entry) → has_end (entry_text p e) ≡ true
unfolding entry_text
text_ends p e = search (rules, ends_with_lf)

next_ends : (a : AuditShape) (line : List ℕ) (e : Entry) → IsNextLine a line e → has_end line ≡ true
next_ends a line e next = ap has_end next.written ∙ text_ends _ e

-- what was taken so far, with what was taken now
taken_all : (before middle after : Option (List ℕ)) (bytes more : List ℕ) (r : ReaderShape) (seen : List ℕ)
    → HasTaken before middle (bytes ++ pending r) → HasSeen middle after r seen → HasTaken before after (bytes ++ seen)
taken_all before middle after bytes more r seen taken h =
    let all = more_taken before middle after (bytes ++ pending r) h.more taken h.taken in
    let same : (bytes ++ pending r) ++ h.more ≡ bytes ++ seen = append_assoc bytes (pending r) h.more ∙ ap (λ xs. bytes ++ xs) (sym h.whole) in
    subst (λ (xs : List ℕ). HasTaken before after xs) same all

-- before the first line
pub audit_begins : (a : AuditShape) (left : Option (List ℕ)) (pending : List ℕ) → a.entries ≡ [] → pending ≡ [] → HasAudited a a left left pending
audit_begins a left pending none nothing = grind (arith, nothing_taken)

-- a line of an entry that comes next
pub audit_goes : (first a b : AuditShape) (before middle after : Option (List ℕ)) (r s : ReaderShape) (e : Entry) → HasAudited first a before middle (pending r)
    → HasReadLine middle after r s → r.limit ≡ TRANSCRIPT_LINE_LIMIT → IsNextLine a s.line e → b ≡ with_entry a e → HasAudited first b before after (pending s)
audit_goes first a b before middle after r s e h read limit next is =
    let seen = read.bytes in
    let line = first_line seen in
    let next_line : IsNextLine a line e = subst (λ (l : List ℕ). IsNextLine a l e) read.line next in
    let alone = line_alone seen in
    let ended : has_end seen ≡ true = sym alone.ended ∙ next_ends a line e next_line in
    let fits : line_length line ≤ TRANSCRIPT_LINE_LIMIT = let f = read.fits in let c = alone.counted in omega (arith, f, c, limit) in
    let left : pending s ≡ behind_line seen = rw read.handed read.behind in
    rw (is, left) (record {
      bytes = h.bytes ++ line;
      taken = subst (λ (xs : List ℕ). HasTaken before after xs)
          (ap (λ xs. h.bytes ++ xs) (sym (split_line seen)) ∙ sym (append_assoc h.bytes line (behind_line seen)))
          (taken_all before middle after h.bytes [] r seen h.taken read.seen);
      goes = grind (arith, append_assoc, line_before);
      count = grind (arith, append_assoc, line_before, length-append);
    })

-- what is told of the whole input: its next line stops the audit
whole_stops : (first a : AuditShape) (bytes seen : List ℕ) (f : Finding) (after : Option (List ℕ))
    → ((more : List ℕ) → IsAudited a (lines_of more) f → IsAudited first (lines_of (bytes ++ more)) f)
    → ((left : List ℕ) → after ≡ Some left → 0 < length (seen ++ left)) → ((left : List ℕ) → after ≡ Some left → StopsAtLine a (first_line (seen ++ left)) f)
    → IfSome (bytes_before (bytes ++ seen) after) (λ input. IsAudited first (lines_of input) f)
unfolding bytes_before
whole_stops first a bytes seen f after goes some stops = grind (arith, append_assoc, lines_first)

whole_of : (first : AuditShape) (bytes : List ℕ) (f : Finding) (before after : Option (List ℕ)) → HasTaken before after bytes
    → IfSome (bytes_before bytes after) (λ input. IsAudited first (lines_of input) f) → IfSome before (λ input. IsAudited first (lines_of input) f)
whole_of first bytes f before after taken h = subst (λ (o : Option (List ℕ)). IfSome o (λ input. IsAudited first (lines_of input) f)) (sym taken) h

-- the first line of what was seen is that of the whole, where it has ended, or nothing is left
same_line : (seen left : List ℕ) (after : Option (List ℕ)) (x : Bool) → has_end seen ≡ x → (has_end seen ≡ false → IsAtEnd after) → after ≡ Some left
    → first_line (seen ++ left) ≡ first_line seen
same_line seen left after x is ended some = grind (arith, more_behind, append-nil)

-- a line stops the audit
line_stops : (first a : AuditShape) (before middle after : Option (List ℕ)) (r : ReaderShape) (seen rest : List ℕ) (f : Finding)
    (h : HasAudited first a before middle (pending r))
    → HasSeen middle after r seen → 0 < length seen → rest ≡ behind_line seen → StopsAtLine a (first_line seen) f
    → (length (lines_of (h.bytes ++ first_line seen)) ≡ length a.entries + 1 → IsFar f (h.bytes ++ first_line seen) rest after)
    → ((left : List ℕ) → after ≡ Some left → StopsAtLine a (first_line (seen ++ left)) f) → HasFound first f before after
line_stops first a before middle after r seen rest f h read some left stops far whole =
    let line = first_line seen in
    let one = line_one seen some in
    let all : h.bytes ++ seen ≡ (h.bytes ++ line) ++ rest = ap (λ xs. h.bytes ++ xs) (sym (split_line seen) ∙ ap (λ xs. line ++ xs) (sym left)) ∙
    sym (append_assoc h.bytes line rest) in
    let taken : HasTaken before after (h.bytes ++ seen) = taken_all before middle after h.bytes [] r seen h.taken read in
    record {
      bytes = h.bytes ++ line;
      rest = rest;
      taken = subst (λ (xs : List ℕ). HasTaken before after xs) all taken;
      found = h.goes line f (subst (λ (ls : List (List ℕ)). IsAudited a ls f) (sym one) (inl stops));
      far = far (h.count line ∙ ap (λ ls. length a.entries + length ls) one);
      whole = whole_of first (h.bytes ++ seen) f before after taken
          (whole_stops first a h.bytes seen f after (λ more. h.goes more f) (λ some_left is. omega (arith, some, length-append seen some_left)) whole);
    }

pub fault_found : (first a : AuditShape) (before middle after : Option (List ℕ)) (r s : ReaderShape) (n : ℕ) (kind : AuditKind) →
    HasAudited first a before middle (pending r)
    → HasReadLine middle after r s → r.limit ≡ TRANSCRIPT_LINE_LIMIT → r.room ≡ PIECE → n ≡ length a.entries → HasFault a s.line kind →
    HasFound first (Fault n kind) before after
fault_found first a before middle after r s n kind h read limit room number fault =
    let seen = read.bytes in
    let alone = line_alone seen in
    let fits : line_length (first_line seen) ≤ TRANSCRIPT_LINE_LIMIT = let f = read.fits in let c = alone.counted in omega (arith, f, c, limit) in
    let stops : StopsAtLine a (first_line seen) (Fault n kind) = (number, (fits, subst (λ (l : List ℕ). HasFault a l kind) read.line fault)) in
    line_stops first a before middle after r seen s.ahead (Fault n kind) h read.seen read.some read.behind stops
    (λ count. inr (count ∙ ap (λ k. k + 1) (sym number), subst (λ (k : ℕ). length s.ahead < k) room read.less))
    (λ left is. subst (λ (l : List ℕ). StopsAtLine a l (Fault n kind)) (sym (same_line seen left after (has_end seen) refl read.ended is)) stops)

pub long_found : (first a : AuditShape) (before middle after : Option (List ℕ)) (r s : ReaderShape) (n : ℕ) → HasAudited first a before middle (pending r)
    → HasPassed middle after r s → r.limit ≡ TRANSCRIPT_LINE_LIMIT → r.room ≡ PIECE → n ≡ length a.entries → HasFound first (TooLong n) before after
long_found first a before middle after r s n h read limit room number =
    let seen = pending s in
    let alone = line_alone seen in
    let long = read.long in
    let within = alone.within in
    let size : length seen ≡ length (first_line seen) + length (behind_line seen) = ap length (sym (split_line seen)) ∙
    length-append (first_line seen) (behind_line seen) in
    let some : 0 < length seen = omega (arith, long, within, size) in
    line_stops first a before middle after r seen (behind_line seen) (TooLong n) h read.seen some refl
    (number, let c = alone.counted in omega (arith, long, c, limit))
    (λ count. (
      count ∙ ap (λ k. k + 1) (sym number),
      record {
        front = h.bytes;
        long = first_line seen;
        parts = refl;
        lines = let c = h.count [] in let same = ap (λ xs. length (lines_of xs)) (append-nil h.bytes) in omega (arith, c, same, number);
        few = let less = read.less in omega (arith, less, size, limit, room);
      },
    ))
    (λ left is.
    let whole = line_alone (seen ++ left) in
    let c = whole.counted in
    let longer = line_longer seen left in
    (number, omega (arith, long, c, longer, limit)))

-- nothing is left
far_end : (a : AuditShape) (f : Finding) (bytes : List ℕ) (after : Option (List ℕ)) → EndsAs a f → IsAtEnd after → IsFar f bytes [] after
far_end a f bytes after ends ended = grind arith

whole_ends : (first : AuditShape) (bytes : List ℕ) (f : Finding) (after : Option (List ℕ)) → IsAtEnd after → IsAudited first (lines_of bytes) f
    → IfSome (bytes_before bytes after) (λ input. IsAudited first (lines_of input) f)
unfolding bytes_before
whole_ends first bytes f after ended found = grind (arith, append-nil)

pub end_found : (first a : AuditShape) (before middle after : Option (List ℕ)) (r s : ReaderShape) (f : Finding) → HasAudited first a before middle (pending r)
    → HasReadToEnd middle after r s → EndsAs a f → HasFound first f before after
end_found first a before middle after r s f h read ends =
    let taken : HasTaken before after (h.bytes ++ []) = taken_all before middle after h.bytes [] r [] h.taken read.seen in
    let found : IsAudited first (lines_of (h.bytes ++ [])) f = h.goes [] f ends in
    record {
      bytes = h.bytes ++ [];
      rest = [];
      taken = subst (λ (xs : List ℕ). HasTaken before after xs) (sym (append-nil (h.bytes ++ []))) taken;
      found = found;
      far = far_end a f (h.bytes ++ []) after ends read.ended;
      whole = whole_of first (h.bytes ++ []) f before after taken (whole_ends first (h.bytes ++ []) f after read.ended found);
    }

-- a line that was taken goes on, or its fault is found
pub line_taken : (first a b : AuditShape) (before middle after : Option (List ℕ)) (r s : ReaderShape) (result : Result (Option Finding) RunFault) →
    HasAudited first a before middle (pending r)
    → HasReadLine middle after r s → r.limit ≡ TRANSCRIPT_LINE_LIMIT → r.room ≡ PIECE → TakesLine a b s.line result →
    AuditStepsTo first b before after (pending s) result
line_taken first a b before middle after r s (Ok None) h read limit room takes =
    audit_goes first a b before middle after r s takes.0 h read limit takes.1.0 takes.1.1
line_taken first a b before middle after r s (Ok (Some Legal)) h read limit room takes = absurd takes
line_taken first a b before middle after r s (Ok (Some (Fault n kind))) h read limit room takes =
    fault_found first a before middle after r s n kind h read limit room takes.0 takes.1
line_taken first a b before middle after r s (Ok (Some (TooLong n))) h read limit room takes = absurd takes
line_taken first a b before middle after r s (Err fault) h read limit room takes = tt

-- ---- what was taken

pub taken_on : (first a : AuditShape) (before middle after : Option (List ℕ)) (rest : List ℕ) → HasAudited first a before middle rest →
    HasTakenSome middle after → HasTakenSome before after
taken_on first a before middle after rest h more = ((h.bytes ++ rest) ++ more.0, more_taken before middle after (h.bytes ++ rest) more.0 h.taken more.1)

pub steps_found : (first b : AuditShape) (before after : Option (List ℕ)) (rest : List ℕ) (result : Result (Option Finding) RunFault) (f : Finding)
    → AuditStepsTo first b before after rest result → result ≡ Ok (Some f) → HasFound first f before after
steps_found first b before after rest result f h is = grind arith
