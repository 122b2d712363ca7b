use Rattle.std.proofs.Common.{◌≡◌, ℕ, ◌+◌, ◌-◌, ◌≤◌, List, ◌++◌, length, drop, take, ap, ◌∙◌, arith, length-take-le}
use Rattle.std.proofs.lemmas.List.{drop-drop, drop_at}
use borrow.Rule.Slice.PartMut.{put_mid}
use Rattle.wire_json.proofs.fill.put_bytes.Goals as goal

-- from the start of a part that was overwritten, the part and what follows it
from_part : (e n : ℕ) (xs ys bs : List ℕ) → n ≤ e → e ≤ length xs → ys ≡ bs → drop (e - n) (put_mid (e - n) (e - (e - n)) xs ys) ≡ bs ++ drop e xs
from_part e n xs ys bs h within is =
    let whole : (e - n) + (e - (e - n)) ≡ e = omega (arith, h) in
    let begins : e - n ≤ length xs = omega (arith, within) in
    drop_at (take (e - n) xs) (ys ++ drop (e - (e - n)) (drop (e - n) xs)) (e - n) (length-take-le (e - n) xs begins)
    ∙ ap (λ z. ys ++ z) (drop-drop (e - (e - n)) (e - n) xs) ∙ ap (λ z. z ++ drop ((e - n) + (e - (e - n))) xs) is
    ∙ ap (λ m. bs ++ drop m xs) whole

pub returns-clause-written : goal.returns-clause-written
returns-clause-written c =
    from_part c.args.end (length c.args.bytes.now) c.args.cells.now c.copy_from_slice.new.self c.args.bytes.now c.requires.room c.requires.within
    c.copy_from_slice.ensures.after
