-- No value has a mark as it is written.
use Rattle.std.proofs.Common.{◌≡◌, ℕ, ◌==◌, ◌<◌, ◌≤◌, false, List, [], ◌∷◌, get_or, flat_map, All, inl, inr, refl, sym, arith, append-nil, eqb-true}
use Rattle.std.proofs.lemmas.Bool.{cases_Bool, cases_lt}
use Rattle.std.proofs.lemmas.Str.{encode_ascii, inside_one}
use Rattle.std.proofs.lemmas.List.Elements.{All-append, All-cons, All-from_get_or, All-from_recursion, All-nil}
use Rattle.std.specs.Prelude.{codes, encode_utf8}
use Rattle.case_story.specs.Escape.{escape, is_mark}

abbrev IsQuiet : ℕ → Type 0
IsQuiet b = is_mark b ≡ false

-- a byte from 128 on is none of them
differs : (b n : ℕ) → n < b → (b == n) ≡ false
differs b n h = elim (cases_Bool (b == n)) [ inl e ↦ absurd (omega (arith, eqb-true b n e)) | inr e ↦ e ]

high_quiet : (b : ℕ) → 128 ≤ b → IsQuiet b
high_quiet b h =
    rw (differs b 60 (omega arith), differs b 62 (omega arith), differs b 34 (omega arith), differs b 39 (omega arith)) refl

-- so no byte of a character from 128 on is
high_bytes : (c : ℕ) → 128 ≤ c → All IsQuiet (encode_utf8 c)
high_bytes c big =
    All-from_get_or IsQuiet (encode_utf8 c) 0 (λ k below. elim (cases_lt (get_or (encode_utf8 c) k 0) 128) [
      | inl low ↦ absurd (omega (arith, inside_one c [] (encode_utf8 c) k (sym (append-nil _)) below low))
      | inr high ↦ high_quiet _ high
    ])

plain_quiet : (c : ℕ) → IsQuiet c → All IsQuiet (encode_utf8 c)
plain_quiet c q = elim (cases_lt c 128) [
  | inl low ↦ rw (encode_ascii c low) (All-cons IsQuiet c [] q (All-nil IsQuiet))
  | inr big ↦ high_bytes c big
]

pub none_in_one : (c : ℕ) → All IsQuiet (escape c)
none_in_one c = elim (cases_Bool (c == 38)) [
  | inl e ↦ rw e (All-from_recursion IsQuiet (codes "&amp;") (refl, (refl, (refl, (refl, (refl, tt))))))
  | inr amp ↦ elim (cases_Bool (c == 60)) [
    | inl e ↦ rw (amp, e) (All-from_recursion IsQuiet (codes "&lt;") (refl, (refl, (refl, (refl, tt)))))
    | inr lt ↦ elim (cases_Bool (c == 62)) [
      | inl e ↦ rw (amp, lt, e) (All-from_recursion IsQuiet (codes "&gt;") (refl, (refl, (refl, (refl, tt)))))
      | inr gt ↦ elim (cases_Bool (c == 34)) [
        | inl e ↦ rw (amp, lt, gt, e) (All-from_recursion IsQuiet (codes "&quot;") (refl, (refl, (refl, (refl, (refl, (refl, tt)))))))
        | inr quot ↦ elim (cases_Bool (c == 39)) [
          | inl e ↦ rw (amp, lt, gt, quot, e) (All-from_recursion IsQuiet (codes "&#39;") (refl, (refl, (refl, (refl, (refl, tt))))))
          | inr apos ↦ rw (amp, lt, gt, quot, apos) (plain_quiet c (rw (lt, gt, quot, apos) refl))
        ]
      ]
    ]
  ]
]

pub none_escaped : (cs : List ℕ) → All IsQuiet (flat_map escape cs)
none_escaped [] = All-nil IsQuiet
none_escaped (c ∷ cs) = All-append IsQuiet (escape c) (flat_map escape cs) (none_in_one c) (none_escaped cs)
