-- How a list comes into its cells.
use Rattle.std.proofs.Common.{◌≡◌, ℕ, ap, ◌++◌, drop, replicate, ◌∙◌, length-append, length-drop, ◌≤◌, List, length, arith}
use Rattle.std.proofs.Math.Seq.{drop-append_seam}
use Rattle.std.proofs.lemmas.List.{drop-replicate, length-replicate}
use Rattle.wf_names.specs.Padded.{IsPadded}

-- a list written over the first of blank cells
pub put_first : {X : Type 0} (limit : ℕ) (blank : X) (xs cells : List X) → cells ≡ replicate limit blank → length xs ≤ limit →
    IsPadded limit blank (xs ++ drop (length xs) cells) (length xs)
put_first {X} limit blank xs cells e short =
    let all : length cells ≡ limit = ap length e ∙ length-replicate {A = X} limit blank in
    record {
      fits = short;
      whole = length-append xs (drop (length xs) cells) ∙ omega (arith, length-drop (length xs) cells);
      rest = drop-append_seam xs (drop (length xs) cells) ∙ ap (drop (length xs)) e ∙ drop-replicate {X = X} (length xs) limit blank;
    }

-- blank cells keep a list of blanks of any length
pub all_blank : {X : Type 0} (limit : ℕ) (blank : X) (len : ℕ) → len ≤ limit → IsPadded limit blank (replicate limit blank) len
all_blank limit blank len h = grind (arith, length-replicate, drop-replicate)
