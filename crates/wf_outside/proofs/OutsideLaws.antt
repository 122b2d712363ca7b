-- How what was taken and what was put composes over several calls.
use Rattle.std.proofs.Common.{◌≡◌, ℕ, ◌+◌, ◌-◌, ◌<◌, ◌≤◌, List, [], ◌++◌, length, take, drop, Option, Some, IfSome, Ok, Err, sym, ◌∙◌, ap}
use Rattle.std.proofs.Common.{arith, append_assoc}
use Rattle.std.proofs.lemmas.Grind.{common_steps}
use Rattle.std.proofs.lemmas.List.{take-append-drop, append-nil, take-append-le, length-append, length-take, take_rest}
use Rattle.std.proofs.Math.Seq.{take-append-add, take-length, take-add}
use Rattle.wf_outside.specs.declared.loaded.LoadFault.TheVariants.{TooLong}
use Rattle.wf_outside.specs.Laws.Outside.{with_bytes, bytes_before, HasTaken, IsAtEnd, HasTakenAtMost, HasPart, ReadsAll}

-- no bytes are taken where nothing changed
pub nothing_taken : (left : Option (List ℕ)) → HasTaken left left []
unfolding bytes_before
nothing_taken left = grind arith

-- bytes in front of more in front of what is left
pub more_before : (bytes more : List ℕ) (left : Option (List ℕ)) → bytes_before bytes (bytes_before more left) ≡ bytes_before (bytes ++ more) left
unfolding bytes_before
more_before bytes more left = grind (arith, append_assoc)

-- bytes, and then more
pub more_taken : (before middle after : Option (List ℕ)) (bytes more : List ℕ)
    → HasTaken before middle bytes → HasTaken middle after more → HasTaken before after (bytes ++ more)
more_taken before middle after bytes more first second = first ∙ ap (bytes_before bytes) second ∙ more_before bytes more after

-- nothing is put where nothing changed
pub nothing_put : (held : Option (List ℕ)) → with_bytes held [] ≡ held
unfolding with_bytes
nothing_put held = grind (arith, append-nil)

-- bytes, and then more
pub more_put : (held : Option (List ℕ)) (bytes more : List ℕ) → with_bytes (with_bytes held bytes) more ≡ with_bytes held (bytes ++ more)
unfolding with_bytes
more_put held bytes more = grind (arith, append_assoc)

-- none of the bytes is a prefix of them
pub part_none : (held : Option (List ℕ)) (bytes : List ℕ) → HasPart held held bytes
part_none held bytes = record { count = 0; within = omega arith; held = sym (nothing_put held) }

-- all of the bytes are a prefix of them
pub part_all : (held : Option (List ℕ)) (bytes : List ℕ) → HasPart held (with_bytes held bytes) bytes
part_all held bytes = record { count = length bytes; within = omega arith; held = ap (with_bytes held) (sym (take-length bytes)) }

-- a prefix of the bytes is one of the bytes with more behind them
pub part_first : (before after : Option (List ℕ)) (bytes more : List ℕ) → HasPart before after bytes → HasPart before after (bytes ++ more)
part_first before after bytes more part = grind (arith, length-append, take-append-le)

-- all of the bytes, and then a prefix of more, is a prefix of both together
pub part_second : (before after : Option (List ℕ)) (bytes more : List ℕ) → HasPart (with_bytes before bytes) after more → HasPart before after (bytes ++ more)
part_second before after bytes more part =
    record {
      count = length bytes + part.count;
      within = let h = part.within in omega (arith, length-append bytes more);
      held = rw (take-append-add bytes more part.count, ← more_put before bytes (take part.count more)) part.held;
    }

-- one more put of what was not yet put
pub put_on : (held middle after : Option (List ℕ)) (bytes : List ℕ) (done count : ℕ)
    → middle ≡ with_bytes held (take done bytes)
    → after ≡ with_bytes middle (take count (take (length bytes - done) (drop done bytes)))
    → after ≡ with_bytes held (take (done + count) bytes)
put_on held middle after bytes done count so_far now = grind (arith, take_rest, more_put, take-add)

whole_within : (left : Option (List ℕ)) (bytes : List ℕ) (limit : ℕ) → IsAtEnd left → length bytes ≤ limit →
    IfSome (bytes_before bytes left) (λ content. ReadsAll content limit (Ok bytes))
unfolding bytes_before
whole_within left bytes limit ended within = grind (arith, append-nil)

more_than : (left : Option (List ℕ)) (bytes : List ℕ) (limit : ℕ) → limit < length bytes →
    IfSome (bytes_before bytes left) (λ content. ReadsAll content limit (Err TooLong))
unfolding bytes_before
more_than left bytes limit above = grind (arith, length-append)

-- all of what a source told, read up to its end
pub reads_whole : (before after : Option (List ℕ)) (bytes : List ℕ) (limit : ℕ)
    → HasTaken before after bytes → IsAtEnd after → length bytes ≤ limit → IfSome before (λ content. ReadsAll content limit (Ok bytes))
reads_whole before after bytes limit taken ended within = grind (arith, whole_within)

-- more than the limit of what a source told
pub reads_more : (before after : Option (List ℕ)) (bytes : List ℕ) (limit : ℕ)
    → HasTaken before after bytes → limit < length bytes → IfSome before (λ content. ReadsAll content limit (Err TooLong))
reads_more before after bytes limit taken above = grind (arith, more_than)

-- nothing is at most anything
pub nothing_at_most : (left : Option (List ℕ)) (most : ℕ) → HasTakenAtMost left left most
nothing_at_most left most = record { bytes = []; taken = nothing_taken left; within = omega arith }

-- at most so many, and so at most more
pub at_most_more : (before after : Option (List ℕ)) (most more : ℕ) → HasTakenAtMost before after most → most ≤ more → HasTakenAtMost before after more
at_most_more before after most more taken le = grind arith

-- bytes, and then the front of a buffer
pub front_at_most : (before middle after : Option (List ℕ)) (bytes buf : List ℕ) (count room : ℕ)
    → HasTaken before middle bytes → HasTaken middle after (take count buf) → count ≤ room → HasTakenAtMost before after (length bytes + room)
front_at_most before middle after bytes buf count room first second le =
    record {
      bytes = bytes ++ take count buf;
      taken = more_taken before middle after bytes (take count buf) first second;
      within = omega (arith, length-append bytes (take count buf), length-take count buf);
    }

-- the front of what was left, copied into a buffer
pub front_taken : (left rest old new : List ℕ) (count : ℕ)
    → new ≡ take count left ++ drop count old → rest ≡ drop count left → count ≤ length left → HasTaken (Some left) (Some rest) (take count new)
unfolding bytes_before
front_taken left rest old new count front after le = grind (arith, common_steps, take-append-drop)
