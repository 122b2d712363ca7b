-- A line that stands whole in a piece, with its end behind it, where no line is open.
use Rattle.std.proofs.Common.{ap, subst, sym, ◌∙◌, arith}
use Rattle.std.specs.Prelude.{◌≡◌, ◌≢◌, ℕ, ◌+◌, ◌<◌, ◌≤◌, List, [], ◌∷◌, ◌++◌, length, take, slice_index, None}
use Rattle.std.proofs.lemmas.Grind.{common_steps}
use Rattle.std.proofs.lemmas.List.{length-take-le, get_or-take, take_more}
use Rattle.wf_names.specs.declared.limits.TheConstants.{LINE_LIMIT, SESSION_LINE_LIMIT}
use Rattle.line_reader.specs.Jobs.{Cut, end_line, step, cut_all}
use Rattle.line_reader.specs.Cutter.{CanCut, IsSound, Cuts, CutsOn}
use Rattle.line_reader.proofs.CutLaws.{cut_all-append, byte_on, plain_all, sound_step}

ends_step : (c : Cut) → c.stop ≡ None → c.number < SESSION_LINE_LIMIT → step c 10 ≡ end_line c
unfolding step
ends_step c going lines = grind (arith, common_steps)

line_step : (c d : Cut) (bytes : List ℕ) → c.stop ≡ None → c.number < SESSION_LINE_LIMIT
    → d ≡ end_line (record c { line = bytes }) → d ≡ step (record c { line = bytes }) 10
line_step c d bytes going lines e = e ∙ sym (ends_step (record c { line = bytes }) going lines)

line_open : (c : Cut) (bytes : List ℕ) → IsSound c → length bytes ≤ LINE_LIMIT → IsSound (record c { line = bytes })
line_open c bytes h short = grind arith

-- the front of a piece that fits into a line
pub front_short : (piece : List ℕ) (n k : ℕ) → n ≤ length piece → k + n ≤ LINE_LIMIT → length (take n piece) ≤ LINE_LIMIT
front_short piece n k within short = omega (arith, short, length-take-le n piece within)

pub line_cut : (c d : Cut) (piece : List ℕ) (n : ℕ) → n < length piece → slice_index piece n ≡ 10 → c.line ≡ []
    → c.stop ≡ None → c.number < SESSION_LINE_LIMIT → length c.line + n ≤ LINE_LIMIT
    → ((k : ℕ) → k < n → slice_index piece k ≢ 10) → d ≡ end_line (record c { line = take n piece })
    → Cuts c d (take (n + 1) piece)
line_cut c d piece n within end empty going lines short others e =
    let bytes : List ℕ = take n piece in
    let size : length bytes ≡ n = length-take-le n piece (omega (arith, within)) in
    let before : cut_all c bytes ≡ record c { line = bytes } =
    plain_all c bytes going lines (omega (arith, size, short))
    (λ k h is. others k (omega (arith, size, h)) (sym (get_or-take n piece k 0 (omega (arith, size, h))) ∙ is))
    ∙ ap (λ l. record c { line = l ++ bytes }) empty in
    let whole : take (n + 1) piece ≡ bytes ++ 10 ∷ [] =
    take_more piece n 0 within ∙ ap (λ b. bytes ++ b ∷ []) end in
    let cut : cut_all c (take (n + 1) piece) ≡ step (record c { line = bytes }) 10 =
    ap (cut_all c) whole ∙ cut_all-append c bytes (10 ∷ []) ∙ ap (λ x. step x 10) before in
    record {
      cut = line_step c d bytes going lines e ∙ sym cut;
      front = bytes;
      last = 10;
      whole = whole;
      none = ap (λ (x : Cut). x.ends) before;
      going = ap (λ (x : Cut). x.stop) before ∙ going;
    }

pub line_on : (c d : Cut) (bytes : List ℕ) → CanCut c → c.line ≡ [] → c.number < SESSION_LINE_LIMIT
    → length bytes ≤ LINE_LIMIT → d ≡ end_line (record c { line = bytes }) → CutsOn c d
line_on c d bytes h empty lines short e =
    let here : d ≡ step (record c { line = bytes }) 10 = line_step c d bytes h.going lines e in
    let open_line = line_open c bytes h.sound short in
    let on : CutsOn (record c { line = bytes }) d =
    subst (CutsOn (record c { line = bytes })) (sym here)
    (byte_on (record c { line = bytes }) 10 (record { sound = open_line; going = h.going; handed = h.handed })) in
    record {
      ended = on.ended;
      stopped = on.stopped;
      further = λ going. omega (arith, on.further going, ap length empty);
    }

pub line_sound : (c d : Cut) (bytes : List ℕ) → IsSound c → c.stop ≡ None → c.number < SESSION_LINE_LIMIT
    → length bytes ≤ LINE_LIMIT → d ≡ end_line (record c { line = bytes }) → IsSound d
line_sound c d bytes h going lines short e =
    subst IsSound (sym (line_step c d bytes going lines e)) (sound_step (record c { line = bytes }) 10 (line_open c bytes h short))
