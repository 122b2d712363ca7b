-- How reading a line goes on.
use Rattle.std.proofs.Common.{refl, ap, sym, subst, ◌∙◌, arith}
use Rattle.std.specs.Prelude.{◌≡◌, ℕ, suc, ◌+◌, ◌-◌, ◌<◌, ◌≤◌, true, false, List, [], ◌++◌, length, take, drop, Option, None, Some}
use Rattle.std.proofs.lemmas.List.{append-nil, append_assoc, length-append, length-drop}
use Rattle.wf_outside.specs.Laws.Outside.{HasTaken, IsAtEnd}
use Rattle.wf_outside.proofs.OutsideLaws.{nothing_taken, more_taken}
use Rattle.line_reader.specs.declared.read.Read.{Read}
use Rattle.line_reader.specs.declared.read.Read.TheVariants.{Line}
use Rattle.line_reader.specs.Reader.{ReaderShape, pending, HasSeen, HasReadLine, HasStopped, HasPassed, ReadsTo, has_end, line_length}
use Rattle.line_reader.specs.Steps.{IsReadingLine, HasReadMore, HasEndAt, StepsTo, CountsStep, line_steps}
use Rattle.line_reader.proofs.FirstLines.{open_line, goes_on}

open_pending : (r : ReaderShape) → r.handed ≡ false → pending r ≡ r.line ++ r.ahead
open_pending r kept = rw kept refl

-- nothing was taken
pub seen_here : (left : Option (List ℕ)) (r : ReaderShape) (bytes : List ℕ) → bytes ≡ pending r → HasSeen left left r bytes
seen_here left r bytes is = record { more = []; taken = nothing_taken left; whole = is ∙ sym (append-nil (pending r)) }

pub seen_on : (before middle after : Option (List ℕ)) (r s : ReaderShape) (bytes : List ℕ) → HasSeen before middle r (pending s) →
    HasSeen middle after s bytes → HasSeen before after r bytes
seen_on before middle after r s bytes first second = record {
  more = first.more ++ second.more;
  taken = more_taken before middle after first.more second.more first.taken second.taken;
  whole = second.whole ∙ ap (λ xs. xs ++ second.more) first.whole ∙ append_assoc (pending r) first.more second.more;
}

pub reads_on : (before middle after : Option (List ℕ)) (r s t : ReaderShape) (read : Read) → HasSeen before middle r (pending s) → s.limit ≡ r.limit →
    s.room ≡ r.room
    → ReadsTo middle after s t read → ReadsTo before after r t read
reads_on before middle after r s t Line seen limit room h = grind (arith, seen_on)
reads_on before middle after r s t read seen limit room h = grind (arith, seen_on)

-- a line ends in what is there
pub line_ends : (left : Option (List ℕ)) (r s : ReaderShape) (n free : ℕ) → IsReadingLine r → length r.ahead ≤ r.room → HasEndAt r.ahead n → n ≤ free →
    free ≡ r.limit - length r.line
    → s ≡ record r { line = r.line ++ take (n + 1) r.ahead; handed = true; ahead = drop (n + 1) r.ahead } → HasReadLine left left r s
line_ends left r s n free begun less h fits left_over is =
    let on = goes_on r.line r.ahead begun.going in
    let within = h.within in
    let next : n + 1 ≡ suc n = omega arith in
    rw is (record {
      bytes = r.line ++ r.ahead;
      seen = seen_here left r (r.line ++ r.ahead) (sym (open_pending r begun.kept));
      some = omega (arith, within, length-append r.line r.ahead);
      handed = refl;
      line = ap (λ xs. r.line ++ xs) (ap (λ k. take k r.ahead) next ∙ sym h.line) ∙ sym on.line;
      behind = ap (λ k. drop k r.ahead) next ∙ sym h.behind ∙ sym on.behind;
      fits = omega (arith, on.counted, h.counted, fits, left_over, begun.short);
      ended = λ none. let e : true ≡ false = sym h.ended ∙ sym on.ended ∙ none in absurd cc;
      less = omega (arith, within, less, length-drop (n + 1) r.ahead);
    })

-- the line goes on behind what is there
pub goes_behind : (r : ReaderShape) → IsReadingLine r → has_end r.ahead ≡ false → has_end (r.line ++ r.ahead) ≡ false
goes_behind r begun none = (goes_on r.line r.ahead begun.going).ended ∙ none

pub line_grows : (left : Option (List ℕ)) (r s : ReaderShape) (free : ℕ) → IsReadingLine r → 0 < length r.ahead → has_end r.ahead ≡ false
    → length r.ahead ≤ free → free ≡ r.limit - length r.line
    → s ≡ record r { line = r.line ++ r.ahead; ahead = [] } → HasReadMore left left r s × (line_steps s < line_steps r)
line_grows left r s free begun some none fits left_over is = grind (arith, seen_here, append-nil, goes_behind, length-append)

-- the line is too long
pub line_passes : (left : Option (List ℕ)) (r : ReaderShape) (free : ℕ) → IsReadingLine r → length r.ahead ≤ r.room → free ≡ r.limit - length r.line →
    free < line_length r.ahead → HasPassed left left r r
line_passes left r free begun less left_over long =
    let on = goes_on r.line r.ahead begun.going in
    record {
      seen = seen_here left r (pending r) refl;
      long = rw begun.kept (omega (arith, on.counted, long, left_over));
      less = rw begun.kept (omega (arith, length-append r.line r.ahead, begun.short, less));
    }

-- no memory for what is there
pub nothing_read : (left : Option (List ℕ)) (r s : ReaderShape) → s ≡ r → HasSeen left left r (pending s)
nothing_read left r s is = rw is (seen_here left r (pending r) refl)

-- the last line has no LF
pub line_is_last : (before after : Option (List ℕ)) (r s : ReaderShape) → IsReadingLine r → r.ahead ≡ [] → 0 < length r.line → s ≡ record r { handed = true } →
    HasTaken before after [] → IsAtEnd after → HasReadLine before after r s
line_is_last before after r s begun none some is taken ended =
    let here = open_line r.line begun.going in
    let whole : r.line ≡ pending r ++ [] =
    sym (append-nil (pending r) ∙ open_pending r begun.kept ∙ ap (λ xs. r.line ++ xs) none ∙ append-nil r.line) in
    rw is (record {
      bytes = r.line;
      seen = record { more = []; taken = taken; whole = whole };
      some = some;
      handed = refl;
      line = sym here.line;
      behind = none ∙ sym here.behind;
      fits = omega (arith, here.counted, begun.short);
      ended = λ e. ended;
      less = rw none begun.room;
    })

-- no piece was taken
pub piece_failed : (before after : Option (List ℕ)) (r s : ReaderShape) → IsReadingLine r → r.ahead ≡ [] → s ≡ r → HasTaken before after [] →
    HasStopped before after r s
piece_failed before after r s begun none is taken = grind (arith, open_pending, append-nil)

-- one step more of reading a line
pub steps_on : (before middle after : Option (List ℕ)) (r s t : ReaderShape) (result : Option Read) (read : Read) → HasSeen before middle r (pending s) →
    s.limit ≡ r.limit → s.room ≡ r.room
    → StepsTo middle after s t result → result ≡ Some read → ReadsTo before after r t read
steps_on before middle after r s t None read seen limit room steps is = cc
steps_on before middle after r s t (Some x) read seen limit room steps is =
    let same : x ≡ read = cc in
    reads_on before middle after r s t read seen limit room (subst (λ (y : Read). ReadsTo middle after s t y) same steps)

pub goes_further : (before middle after : Option (List ℕ)) (r s t : ReaderShape) (result : Option Read) → HasSeen before middle r (pending s) →
    StepsTo middle after s t result → result ≡ None
    → HasSeen before after r (pending t) × IsReadingLine t × (line_steps t < line_steps s)
goes_further before middle after r s t result seen steps is = grind (arith, seen_on)

pub counts_still : (result : Option Read) (before after : ℕ) → CountsStep result before after → result ≡ None → after ≡ before
counts_still result before after counts is = grind arith
