-- Readings of items, one after the other.
use Rattle.std.proofs.Common.{◌≡◌, ◌∙◌, ap, List, ◌∷◌, Result, Ok, Err}
use Rattle.basics.specs.Laws.Reading.{◌>>=◌, each}

pub reads_on : {S D F : Type 0} (read : S → D → Result S F) (s t : S) (items : List D) (d : D) (ds : List D) → items ≡ d ∷ ds → read s d ≡ Ok t →
    each read s items ≡ each read t ds
reads_on read s t items d ds is here = ap (each read s) is ∙ ap (λ r. r >>= (λ next. each read next ds)) here

pub fails_here : {S D F : Type 0} (read : S → D → Result S F) (s : S) (items : List D) (d : D) (ds : List D) (fault : F) → items ≡ d ∷ ds →
    read s d ≡ Err fault → each read s items ≡ Err fault
fails_here read s items d ds fault is here = ap (each read s) is ∙ ap (λ r. r >>= (λ next. each read next ds)) here
