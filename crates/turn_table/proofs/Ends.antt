-- The rule of a turn table holds at the start, and what it says at the end.
use Rattle.std.proofs.Common.{◌≡◌, ◌≢◌, ℕ, ◌<◌, true, List, [], ◌∷◌, ◌++◌, slice_index, sym, refl, ap, ◌∙◌, inl, inr, arith, Option}
use Rattle.std.proofs.Common.{Some, None}
use Rattle.std.specs.List.{Contains}
use Rattle.std.proofs.lemmas.List.{append-nil}
use mathlib.Core.Option as maybe
use mathlib.Core.Option.{some, some-injective, some-ne-none}
use mathlib.Core.Logic.{dite}
use native.Mathlib.Decide.{ℕ_discrete, dec_le}
use lib.ListN.{get_elem?}
use Rattle.atomic_table.specs.Table.{opening, Final, Seen}
use Rattle.turn_table.specs.declared.view.View.{View}
use Rattle.turn_table.specs.declared.view.Hold.TheVariants.{Free}
use Rattle.turn_table.specs.Plays.{hold_word, starting, Fits, Kept, TurnRule}
use Rattle.turn_table.proofs.Lists.{quiet_self, quiet_parts, no_pairs}
use Rattle.turn_table.proofs.Numbers.{contains_none}

module _ {D G I : Type 0} (fixed_part : D → G) (list : D → List (ℕ × I)) where
  module _ (x : D) (lanes : ℕ) where
    abbrev front : View G I
    front = starting (Some (fixed_part x)) (list x) lanes

    first_fits : Fits (fixed_part x) (list x) (list x) lanes 0 0 0 0 (λ _. 0) 0 front
    first_fits = grind (arith, append-nil, quiet_self, contains_none)

    alone : (seat : ℕ) (v : View G I) → get_elem? (front ∷ []) seat ≡ some v → v.live ≡ true →
        Fits (fixed_part x) (list x) (list x) lanes 0 0 0 0 (λ _. 0) seat v
    alone seat v e live = grind (arith, some-injective, first_fits, some-ne-none)

    pub starts : TurnRule fixed_part list (fixed_part x) (list x) lanes (opening (0 ∷ []) (Some x ∷ []) front)
    starts = (
      refl,
      record {
        now = list x;
        made = 0;
        first = 0;
        holder = 0;
        owner = λ _. 0;
        free = λ _. (x, refl, refl, refl);
        held = λ not. absurd (not refl);
        unmade = quiet_self _ (list x);
        enough = omega arith;
        has_first = (front, refl, refl, refl);
        seated = λ n lt. absurd (omega arith);
        each_seat = alone;
      },
    )

  module _ (g : G) (begin : List (ℕ × I)) (lanes word : ℕ) (homes : List (maybe.Option (Option D))) (views : List (View G I))
      (k : Kept fixed_part list g begin lanes word homes views) (id : ℕ) (v : View G I) (at : get_elem? views id ≡ some v) (live : v.live ≡ true)
      (idle : v.hold ≡ Free) (first : v.number ≡ None) (all : (n : ℕ) → n < v.made → Contains v.joined n) where
    -- every number made stands at the first seat
    here : (n : ℕ) → n < k.made → k.owner n ≡ id
    here n lt = let p = k.each_seat id v at live in let made = (p.unnumbered first).1 in (p.numbers n (inr (all n (omega arith)))).1

    -- so the first seat would hold the lock
    unlocked : word ≢ 0 → ⊥
    unlocked busy =
        let t = k.held busy in
        let u = t.0 in
        let p = k.each_seat id v at live in
        let f = k.each_seat k.holder u t.1 t.2 in
        let where_is : (o : Option ℕ) → u.number ≡ o → k.holder ≡ id =
        elim [ None ↦ λ e. (f.unnumbered e).0 ∙ sym (p.unnumbered first).0 | Some n ↦ λ e. let h = f.numbers n (inl e) in sym h.1 ∙ here n h.0 ] in
        let same : u ≡ v = some-injective u v (sym t.1 ∙ (ap (get_elem? views) (where_is u.number refl) ∙ at)) in
        busy (sym t.3 ∙ (ap (λ (y : View G I). hold_word y.hold) same ∙ ap hold_word idle))

    -- what lies past the list that the first seat has seen is of no lane
    nothing_past : k.now ≡ v.seen
    nothing_past =
        let p = k.each_seat id v at live in
        let q = p.quiet in
        let b = p.begins in
        let none : q.0 ≡ [] = no_pairs q.0 (λ n. dite (dec_le k.made n)
        (λ unmade. (quiet_parts n k.now begin b.0 k.unmade.0 q.0 k.unmade.1 (k.unmade.2 n unmade) (q.1 ∙ ap (λ l. l ++ q.0) b.1)).1)
        (λ not. let lt : n < k.made = omega (arith, not) in q.2 n (lt, here n lt))) in
        q.1 ∙ (ap (λ l. v.seen ++ l) none ∙ append-nil v.seen)

    last : (x : D) × (get_elem? homes 0 ≡ some (some (Some x))) × (Some (fixed_part x) ≡ v.fixed) × (list x ≡ v.seen)
    last =
        let p = k.each_seat id v at live in
        let t = k.free (dite (ℕ_discrete word 0) (λ e. e) (λ ne. absurd (unlocked ne))) in
        (t.0, t.1, ap Some t.2 ∙ sym p.fixed, t.3 ∙ nothing_past)

  pub closes : (g : G) (begin : List (ℕ × I)) (lanes id : ℕ) (v : View G I) (words : List ℕ) (slots : List (Option D)) → v.live ≡ true → v.hold ≡ Free →
      v.number ≡ None → ((n : ℕ) → n < v.made → Contains v.joined n)
      → Final (Seen (TurnRule fixed_part list g begin lanes) id v) words slots
      → (x : D) × (get_elem? slots 0 ≡ some (Some x)) × (Some (fixed_part x) ≡ v.fixed) × (list x ≡ v.seen)
  closes g begin lanes id v words slots live idle first all f =
      let s = f.0 in
      let t = last g begin lanes (slice_index s.words 0) s.homes s.views f.1.0.1 id v f.1.1 live idle first all in
      (t.0, f.4 0 (Some t.0) t.1, t.2, t.3)
