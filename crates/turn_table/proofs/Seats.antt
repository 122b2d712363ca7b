-- Making a lane and joining two keep the rule of a turn table.
use Rattle.std.proofs.Common.{◌≡◌, ◌≢◌, ◌⊎◌, ℕ, ◌+◌, ◌<◌, ◌≤◌, true, List, [], ◌∷◌, ◌++◌, length, slice_index, set, sym, refl, ap, ◌∙◌, subst, inl, inr, ⊎_elim}
use Rattle.std.proofs.Common.{arith, length-set, Option, Some, None}
use Rattle.std.proofs.lemmas.List.{append-nil}
use Rattle.std.proofs.lemmas.List.Elements.{Contains-append_left, Contains-append_right, Contains-append_cases}
use mathlib.Core.Option as maybe
use mathlib.Core.Option.{some, some-injective}
use mathlib.Core.Logic.{dite}
use native.Mathlib.Decide.{ℕ_discrete}
use lib.ListN.{get_elem?}
use Rattle.atomic_table.specs.Table.{State, Splits, Joins}
use Rattle.atomic_table.proofs.Lists.{set_here, set_else, at_longer, at_last}
use Rattle.turn_table.specs.declared.view.View.{View}
use Rattle.turn_table.specs.declared.view.Hold.TheVariants.{Free}
use Rattle.turn_table.specs.Table.{pairs_under, longer, brought}
use Rattle.turn_table.specs.Plays.{hold_word, StandsIn, parent, newcomer, united, spent, Fits, Kept, TurnRule}
use Rattle.turn_table.proofs.Lists.{begins_trans, longest, quiet_fewer, quiet_parts, own_quiet}
use Rattle.turn_table.proofs.Views.{there_below, at_one_more, seats, still}
use Rattle.turn_table.proofs.Numbers.{moved, moved_hit, moved_miss, placed, placed_hit, placed_miss, brought_has, brought_from, contains_none}

module _ {D G I : Type 0} (fixed_part : D → G) (list : D → List (ℕ × I)) (g : G) (opening : List (ℕ × I)) (lanes : ℕ) where
  abbrev St : Type 0
  St = State (Option D) (View G I)

  abbrev Rule : St → Type 0
  Rule = TurnRule fixed_part list g opening lanes

  abbrev Keeps : ℕ → List (maybe.Option (Option D)) → List (View G I) → Type 0
  Keeps = Kept fixed_part list g opening lanes

  -- A lane is made

  module _ (word : ℕ) (homes : List (maybe.Option (Option D))) (views : List (View G I)) (k : Keeps word homes views) (id : ℕ) (v : View G I)
      (at : get_elem? views id ≡ some v) (live : v.live ≡ true) (first : v.number ≡ None) (room : v.made < v.lanes) where
    abbrev size : ℕ
    size = length views

    abbrev owner : ℕ → ℕ
    owner = placed k.made size k.owner

    -- a number that stood at a seat stands there still, and no other does
    older : (n j : ℕ) → (n < k.made) × (k.owner n ≡ j) → (n < k.made + 1) × (owner n ≡ j)
    older n j h = let lt = h.0 in (omega arith, placed_miss k.made size k.owner n (λ e. omega arith) ∙ h.1)

    newer : (n j : ℕ) → j < size → (n < k.made + 1) × (owner n ≡ j) → (n < k.made) × (k.owner n ≡ j)
    newer n j below h = grind (arith, dite, placed_hit, placed_miss)

    -- the fact of a seat that was there, where its view changed at most in how many lanes it made
    aged : (j : ℕ) (u : View G I) → j < size → Fits g opening k.now lanes k.made word k.first k.holder k.owner j u → (made : ℕ) →
        (u.number ≡ None → (j ≡ k.first) × (made ≡ k.made + 1))
        → Fits g opening k.now lanes (k.made + 1) word k.first k.holder owner j (record u { made = made })
    aged j u below f made none = record {
      fixed = f.fixed;
      opens = f.opens;
      limit = f.limit;
      begins = f.begins;
      holds = f.holds;
      quiet = quiet_fewer (λ n. (n < k.made) × (k.owner n ≡ j)) (λ n. (n < k.made + 1) × (owner n ≡ j)) k.now u.seen f.quiet (λ n h. newer n j below h);
      told = f.told;
      own = f.own;
      unnumbered = none;
      numbers = λ n h. older n j (f.numbers n h);
    }

    arrived : Fits g opening k.now lanes (k.made + 1) word k.first k.holder owner size (newcomer v)
    arrived =
        let p = k.each_seat id v at live in
        let q = p.quiet in
        let b = p.begins in
        let none_of : (n : ℕ) → n ≡ k.made → (pairs_under n b.0 ≡ []) × (pairs_under n q.0 ≡ []) =
        λ n e. quiet_parts n k.now opening b.0 k.unmade.0 q.0 k.unmade.1 (k.unmade.2 n (omega arith)) (q.1 ∙ ap (λ l. l ++ q.0) b.1) in
        let made_is : v.made ≡ k.made = (p.unnumbered first).1 in record {
          fixed = p.fixed;
          opens = p.opens;
          limit = p.limit;
          begins = b;
          holds = λ not. absurd (not refl);
          quiet = (
            q.0,
            q.1,
            λ n h. dite (ℕ_discrete n k.made)
                (λ e. (none_of n e).1)
                (λ ne. let lt = h.0 in let old : n < k.made = omega arith in let t = k.seated n old in
                let there : k.owner n ≡ size = sym (placed_miss k.made size k.owner n ne) ∙ h.1 in
                let below = there_below views (k.owner n) t.0 t.1 in absurd (omega arith)),
          );
          told = (k.now, refl);
          own = λ n mine. let e : n ≡ k.made = (let f : v.made ≡ n = cc in sym f ∙ made_is) in
              ((b.0, b.1, (none_of n e).0), ([], sym (append-nil v.seen), refl));
          unnumbered = λ none. cc;
          numbers = λ n h. ⊎_elim (λ mine. let e : n ≡ k.made = (let f : v.made ≡ n = cc in sym f ∙ made_is) in
              (omega arith, placed_hit k.made size k.owner n e)) (λ c. absurd (contains_none n c)) h;
        }

    split : Keeps word homes (set views id (parent v) ++ newcomer v ∷ [])
    split =
        let w = parent v in
        let new = newcomer v in
        let after = set views id w in
        let p = k.each_seat id v at live in
        let here = there_below views id v at in
        let same : length after ≡ size = length-set views id w in
        let first_still = still (λ u. (u.live ≡ true) × (u.number ≡ None)) views id v w at (λ h. h) k.first
        (k.has_first.0, k.has_first.1, (k.has_first.2, k.has_first.3)) in
        let F : ℕ → View G I → Type 0 = λ j u. u.live ≡ true → Fits g opening k.now lanes (k.made + 1) word k.first k.holder owner j u in record {
          now = k.now;
          made = k.made + 1;
          first = k.first;
          holder = k.holder;
          owner = owner;
          free = k.free;
          held = λ h. let t = k.held h in let r = still (λ u. (u.live ≡ true) × (hold_word u.hold ≡ word)) views id v w at (λ h. h) k.holder
              (t.0, t.1, (t.2, t.3)) in (r.0, at_longer after (new ∷ []) k.holder r.0 r.1, r.2.0, r.2.1);
          unmade = quiet_fewer (λ n. k.made ≤ n) (λ n. k.made + 1 ≤ n) k.now opening k.unmade (λ n le. omega arith);
          enough = let m = (p.unnumbered first).1 in let l = p.limit in omega arith;
          has_first = (first_still.0, at_longer after (new ∷ []) k.first first_still.0 first_still.1, first_still.2.0, first_still.2.1);
          seated = λ n lt. dite (ℕ_discrete n k.made)
              (λ e. (
                new,
                ap (get_elem? (after ++ new ∷ [])) (placed_hit k.made size k.owner n e) ∙ at_last after new size same,
                live,
                inl (ap Some ((p.unnumbered first).1 ∙ sym e)),
              ))
              (λ ne. let old : n < k.made = omega arith in let t = k.seated n old in
              let r = still (λ u. (u.live ≡ true) × StandsIn n u) views id v w at (λ h. h) (k.owner n) (t.0, t.1, (t.2, t.3)) in
              (r.0, ap (get_elem? (after ++ new ∷ [])) (placed_miss k.made size k.owner n ne) ∙ at_longer after (new ∷ []) (k.owner n) r.0 r.1, r.2.0, r.2.1));
          each_seat = λ j u there. ⊎_elim
              (λ old. seats F views id w
              (λ _. aged id v here p (v.made + 1) (λ none. let t = p.unnumbered none in let m = t.1 in (t.0, ap (λ n. n + 1) m)))
              (λ i x ne was alive. let f = k.each_seat i x was alive in
              aged i x (there_below views i x was) f x.made (λ none. absurd (ne ((f.unnumbered none).0 ∙ sym (p.unnumbered first).0))))
              j u old)
              (λ t. let F' : View G I → Type 0 = λ x. x.live ≡ true → Fits g opening k.now lanes (k.made + 1) word k.first k.holder owner j x in
              subst F' t.1 (λ _. subst (λ i. Fits g opening k.now lanes (k.made + 1) word k.first k.holder owner i new) (sym (t.0 ∙ same)) arrived))
              (at_one_more after new u j there);
        }

  pub splits : (id : ℕ) (v : View G I) → v.live ≡ true → v.number ≡ None → v.made < v.lanes → Splits Rule id v (parent v) (newcomer v)
  splits id v live first room s r at = (r.0, split (slice_index s.words 0) s.homes s.views r.1 id v at live first room)

  -- Two lanes are joined

  module _ (word : ℕ) (homes : List (maybe.Option (Option D))) (views : List (View G I)) (k : Keeps word homes views) (id : ℕ) (v : View G I)
      (at : get_elem? views id ≡ some v) (live : v.live ≡ true) (idle : v.hold ≡ Free) (other : ℕ) (w : View G I) (there : get_elem? views other ≡ some w)
      (apart : other ≢ id) (live' : w.live ≡ true) (idle' : w.hold ≡ Free) (n₀ : ℕ) (numbered : w.number ≡ Some n₀) where
    abbrev holder_of : ℕ → ℕ
    holder_of n = moved other id (k.owner n)

    abbrev whole : View G I
    whole = united v w

    abbrev gathered : List (View G I)
    gathered = set (set views id whole) other spent

    -- a number of neither lane stands where it stood; the numbers of both stand at the one seat
    elsewhere : (n j : ℕ) → j ≢ id → j ≢ other → holder_of n ≡ j → k.owner n ≡ j
    elsewhere n j ne ne' e = grind (arith, dite, moved_hit, moved_miss)

    stays : (n j : ℕ) → j ≢ other → k.owner n ≡ j → holder_of n ≡ j
    stays n j ne e = moved_miss other id (k.owner n) (λ f. ne (sym e ∙ f)) ∙ e

    gathers : (n : ℕ) → holder_of n ≡ id → (k.owner n ≡ id) ⊎ (k.owner n ≡ other)
    gathers n e = dite (ℕ_discrete (k.owner n) other) (λ hit. inr hit) (λ miss. inl (sym (moved_miss other id (k.owner n) miss) ∙ e))

    -- at another seat than these two the view is as it was
    beside : (j : ℕ) (u : View G I) → j ≢ id → j ≢ other → get_elem? views j ≡ some u → get_elem? gathered j ≡ some u
    beside j u ne ne' e = set_else (set views id whole) other j spent ne' ∙ (set_else views id j whole ne ∙ e)

    at_id : get_elem? gathered id ≡ some whole
    at_id = set_else (set views id whole) other id spent (λ e. apart (sym e)) ∙ set_here views id whole (there_below views id v at)

    united_fits : Fits g opening k.now lanes k.made word k.first k.holder holder_of id whole
    united_fits =
        let p = k.each_seat id v at live in
        let q = k.each_seat other w there live' in
        let a = p.quiet in
        let b = q.quiet in
        let l = longest k.now v.seen w.seen (a.0, a.1) (b.0, b.1) in
        let past = l.0 in
        let from_v = l.1 in
        let from_w = l.2 in
        let full = longer v.seen w.seen in
        let split_v : (n : ℕ) → (n < k.made) × (k.owner n ≡ id) → (pairs_under n from_v.0 ≡ []) × (pairs_under n past.0 ≡ []) =
        λ n h. quiet_parts n k.now v.seen from_v.0 a.0 past.0 a.1 (a.2 n h) (past.1 ∙ ap (λ xs. xs ++ past.0) from_v.1) in
        let split_w : (n : ℕ) → (n < k.made) × (k.owner n ≡ other) → (pairs_under n from_w.0 ≡ []) × (pairs_under n past.0 ≡ []) =
        λ n h. quiet_parts n k.now w.seen from_w.0 b.0 past.0 b.1 (b.2 n h) (past.1 ∙ ap (λ xs. xs ++ past.0) from_w.1) in record {
          fixed = p.fixed;
          opens = p.opens;
          limit = p.limit;
          begins = begins_trans full v.seen opening from_v p.begins;
          holds = λ h. let free : hold_word v.hold ≡ 0 = ap hold_word idle in absurd (h free);
          quiet = (past.0, past.1, λ n h. ⊎_elim (λ e. (split_v n (h.0, e)).1) (λ e. (split_w n (h.0, e)).1) (gathers n h.1));
          told = l.3;
          own = λ n mine. let o = p.own n mine in let none = (split_v n (p.numbers n (inl mine))).0 in
              (own_quiet n v.seen opening v.own full from_v.0 o.0 from_v.1 none, own_quiet n v.seen v.born v.own full from_v.0 o.1 from_v.1 none);
          unnumbered = p.unnumbered;
          numbers = λ n h. ⊎_elim
              (λ mine. let t = p.numbers n (inl mine) in (t.0, stays n id (λ e. apart (sym e)) t.1))
              (λ c. ⊎_elim
              (λ c'. let t = q.numbers n (brought_from w.number w.joined n c') in (t.0, moved_hit other id (k.owner n) t.1))
              (λ c'. let t = p.numbers n (inr c') in (t.0, stays n id (λ e. apart (sym e)) t.1))
              (Contains-append_cases (brought w.number w.joined) v.joined n c))
              h;
        }

    -- a view that holds the lock is at neither seat
    not_holding : (j : ℕ) (x u : View G I) → get_elem? views j ≡ some x → x.hold ≡ Free → get_elem? views j ≡ some u → hold_word u.hold ≡ word → word ≢ 0 → ⊥
    not_holding j x u e free f is ne = grind (arith, some-injective)

    joined : Keeps word homes gathered
    joined =
        let f = k.has_first in
        let F : ℕ → View G I → Type 0 = λ j u. u.live ≡ true → Fits g opening k.now lanes k.made word k.first k.holder holder_of j u in
        let first_apart : k.first ≢ other = λ e. (let same : f.0 ≡ w = some-injective f.0 w (sym f.1 ∙ (ap (get_elem? views) e ∙ there)) in
        let bad : None ≡ Some n₀ = sym f.3 ∙ (ap (λ (x : View G I). x.number) same ∙ numbered) in cc) in
        let first_still = still (λ u. (u.live ≡ true) × (u.number ≡ None)) views id v whole at (λ h. h) k.first (f.0, f.1, (f.2, f.3)) in record {
          now = k.now;
          made = k.made;
          first = k.first;
          holder = k.holder;
          owner = holder_of;
          free = k.free;
          held = λ h. let t = k.held h in (
            t.0,
            beside k.holder t.0
                (λ e. not_holding k.holder v t.0 (ap (get_elem? views) e ∙ at) idle t.1 t.3 h)
                (λ e. not_holding k.holder w t.0 (ap (get_elem? views) e ∙ there) idle' t.1 t.3 h) t.1,
            t.2,
            t.3,
          );
          unmade = k.unmade;
          enough = k.enough;
          has_first = (first_still.0, set_else (set views id whole) other k.first spent first_apart ∙ first_still.1, first_still.2.0, first_still.2.1);
          seated = λ n lt. let t = k.seated n lt in dite (ℕ_discrete (k.owner n) other)
              (λ hit. let same : t.0 ≡ w = some-injective t.0 w (sym t.1 ∙ (ap (get_elem? views) hit ∙ there)) in (
                whole,
                ap (get_elem? gathered) (moved_hit other id (k.owner n) hit) ∙ at_id,
                live,
                inr (Contains-append_left (brought w.number w.joined) v.joined n
                    (brought_has w.number w.joined n (subst (λ (x : View G I). StandsIn n x) same t.3))),
              ))
              (λ miss. let r = still (λ u. (u.live ≡ true) × StandsIn n u) views id v whole at (λ h. (
                h.0,
                ⊎_elim (λ mine. inl mine)
                    (λ c. inr (Contains-append_right (brought w.number w.joined) v.joined n c)) h.1,
              )) (k.owner n) (t.0, t.1, (t.2, t.3)) in (
                r.0,
                ap (get_elem? gathered) (moved_miss other id (k.owner n) miss) ∙ (set_else (set views id whole) other (k.owner n) spent miss ∙ r.1),
                r.2.0,
                r.2.1,
              ));
          each_seat = seats F (set views id whole) other spent
              (λ alive. cc)
              (λ j u ne' was. seats (λ i x. i ≢ other → F i x) views id whole
              (λ _ _. united_fits)
              (λ i x ne was' ne'' alive. let h = k.each_seat i x was' alive in record {
                fixed = h.fixed;
                opens = h.opens;
                limit = h.limit;
                begins = h.begins;
                holds = h.holds;
                quiet = quiet_fewer (λ n. (n < k.made) × (k.owner n ≡ i)) (λ n. (n < k.made) × (holder_of n ≡ i)) k.now x.seen h.quiet
                    (λ n z. (z.0, elsewhere n i ne ne'' z.1));
                told = h.told;
                own = h.own;
                unnumbered = h.unnumbered;
                numbers = λ n z. let t = h.numbers n z in (t.0, stays n i ne'' t.1);
              })
              j u was ne');
        }

  pub joins : (id : ℕ) (v : View G I) (other : ℕ) (w : View G I) (n : ℕ) → v.live ≡ true → v.hold ≡ Free → w.live ≡ true → w.hold ≡ Free →
      w.number ≡ Some n → Joins Rule id v other w (united v w) spent
  joins id v other w n live idle live' idle' numbered s r at apart there =
      let was : get_elem? s.views other ≡ some w = sym (set_else s.views id other (united v w) apart) ∙ there in
      (r.0, joined (slice_index s.words 0) s.homes s.views r.1 id v at live idle other w was apart live' idle' n numbered)
