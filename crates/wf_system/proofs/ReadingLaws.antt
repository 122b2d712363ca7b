-- What was read of a reader that tells, at its end and past a limit.
use Rattle.std.proofs.Common.{◌≡◌, ℕ, ◌<◌, ◌≤◌, List, ◌++◌, length, Option, None, Some, IfSome, Ok, Err, sym, ap, subst, ◌∙◌, arith, append-nil}
use Rattle.std.proofs.lemmas.List.{length-append}
use Rattle.std.specs.Io.KnownBytes.{Consumes, IsAtEnd}
use Rattle.wf_outside.specs.declared.loaded.LoadFault.TheVariants.{TooLong}
use Rattle.wf_outside.specs.Laws.Outside.{ReadsAll}

-- read up to the end, it is all that the reader had
pub reads_whole : (before after : Option (List ℕ)) (bytes : List ℕ) (limit : ℕ) → Consumes before after bytes → IsAtEnd after → length bytes ≤ limit →
    IfSome before (λ content. ReadsAll content limit (Ok bytes))
reads_whole None after bytes limit read ended within = tt
reads_whole (Some content) None bytes limit read ended within = absurd read
reads_whole (Some content) (Some left) bytes limit read ended within =
    let same : content ≡ bytes = read ∙ ap (λ xs. bytes ++ xs) ended ∙ append-nil bytes in
    (sym same, subst (λ (xs : List ℕ). length xs ≤ limit) (sym same) within)

-- past the limit, the reader had more
pub reads_more : (before after : Option (List ℕ)) (bytes : List ℕ) (limit : ℕ) → Consumes before after bytes → limit < length bytes →
    IfSome before (λ content. ReadsAll content limit (Err TooLong))
reads_more None after bytes limit read above = tt
reads_more (Some content) None bytes limit read above = absurd read
reads_more (Some content) (Some left) bytes limit read above =
    let whole = ap (λ (xs : List ℕ). length xs) read in omega (arith, above, whole, length-append bytes left)
