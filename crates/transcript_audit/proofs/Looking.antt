-- The last entry of a lane, looked for from the end.
use Rattle.std.proofs.Common.{◌≡◌, ℕ, ◌+◌, ◌-◌, ◌<◌, ◌≤◌, max, true, false, nat_eq, List, [], ◌∷◌, ◌++◌, length, take, get_or, if◌then◌else◌, sym, ap, ◌∙◌}
use Rattle.std.proofs.Common.{arith}
use Rattle.std.proofs.lemmas.List.{length-take-le, take_more}
use Rattle.wf_talk.specs.declared.entry.Entry.{Entry}
use Rattle.wf_board.specs.Counting.{lane_end}
use Rattle.wf_board.proofs.Counted.{end_more, end_within}

ended_at : (lane : ℕ) (entries : List Entry) (i : ℕ) (e : Entry) → i < length entries → e ≡ get_or entries i e →
    lane_end lane (take (i + 1) entries) ≡ (if nat_eq e.lane lane then i + 1 else lane_end lane (take i entries))
ended_at lane entries i e below is =
    let size : 0 + length (take i entries) + 1 ≡ i + 1 = let long = length-take-le i entries (omega (arith, below)) in omega (arith, long) in
    ap (lane_end lane) (take_more entries i e below ∙ ap (λ x. take i entries ++ x ∷ []) (sym is))
    ∙ end_more 0 0 (λ x. nat_eq x.lane lane) (take i entries) e
    ∙ ap (λ n. if nat_eq e.lane lane then n else lane_end lane (take i entries)) size

pub own_hit : (lane start : ℕ) (entries : List Entry) (place : ℕ) (e : Entry) → start < place → place ≤ length entries → e ≡ get_or entries (place - 1) e →
    nat_eq e.lane lane ≡ true →
    max (lane_end lane (take place entries)) start ≡ max (lane_end lane entries) start → place ≡ max (lane_end lane entries) start
own_hit lane start entries place e some within is hit so_far =
    let next : place - 1 + 1 ≡ place = omega (arith, some) in
    let ended = ended_at lane entries (place - 1) e (omega (arith, some, within)) is in
    let here : lane_end lane (take place entries) ≡ place =
    ap (λ n. lane_end lane (take n entries)) (sym next) ∙ ended ∙ ap (λ b. if b then place - 1 + 1 else lane_end lane (take (place - 1) entries)) hit ∙ next in
    omega (arith, here, some, so_far)

pub own_miss : (lane start : ℕ) (entries : List Entry) (place : ℕ) (e : Entry) → start < place → place ≤ length entries → e ≡ get_or entries (place - 1) e →
    nat_eq e.lane lane ≡ false →
    max (lane_end lane (take place entries)) start ≡ max (lane_end lane entries) start →
    max (lane_end lane (take (place - 1) entries)) start ≡ max (lane_end lane entries) start
own_miss lane start entries place e some within is miss so_far =
    let next : place - 1 + 1 ≡ place = omega (arith, some) in
    let ended = ended_at lane entries (place - 1) e (omega (arith, some, within)) is in
    let same : lane_end lane (take place entries) ≡ lane_end lane (take (place - 1) entries) =
    ap (λ n. lane_end lane (take n entries)) (sym next) ∙ ended ∙ ap (λ b. if b then place - 1 + 1 else lane_end lane (take (place - 1) entries)) miss in
    ap (λ n. max n start) (sym same) ∙ so_far

pub own_none : (lane start : ℕ) (entries : List Entry) (place : ℕ) → start ≤ place → place ≤ start → place ≤ length entries →
    max (lane_end lane (take place entries)) start ≡ max (lane_end lane entries) start → place ≡ max (lane_end lane entries) start
own_none lane start entries place above below within so_far = grind (arith, length-take-le, end_within)
