-- Each step on the word keeps the rule of a turn table.
use Rattle.std.proofs.Common.{◌≡◌, ◌≢◌, ℕ, ◌<◌, ◌≤◌, eqb, true, List, [], ◌∷◌, ◌++◌, length, drop, slice_index, set, sym, refl, ap, ◌∙◌, subst, inl, arith}
use Rattle.std.proofs.Common.{length-set, get_or-set_same, eq-eqb, ne_eqb, Option, Some, None}
use mathlib.Core.Option as maybe
use mathlib.Core.Option.{none, some}
use mathlib.Core.Logic.{dite}
use native.Mathlib.Decide.{ℕ_discrete}
use lib.ListN.{get_elem?}
use lib.Seq.{set-get_or}
use prog.Atomic.{either}
use Rattle.atomic_table.specs.Table.{State, Me, step, keeps, takes, gives, stepped, Allows}
use Rattle.atomic_table.proofs.Lists.{set_here, set_again}
use Rattle.turn_table.specs.declared.view.View.{View}
use Rattle.turn_table.specs.declared.view.Hold.TheVariants.{Held, Noted}
use Rattle.turn_table.specs.Table.{pairs_under, Quiet, OwnPast, GrowsByOne}
use Rattle.turn_table.specs.Plays.{hold_word, StandsIn, entering, noting, leaving, Fits, Kept, TurnRule, locked, noted, unlocked, compared}
use Rattle.turn_table.proofs.Lists.{begins_trans, two_fronts, quiet_self, quiet_more, own_more, own_quiet, grown}
use Rattle.turn_table.proofs.Views.{there_below, seats, still}

module _ {D G I : Type 0} (fixed_part : D → G) (list : D → List (ℕ × I)) (g : G) (opening : List (ℕ × I)) (lanes : ℕ) where
  abbrev St : Type 0
  St = State (Option D) (View G I)

  abbrev Rule : St → Type 0
  Rule = TurnRule fixed_part list g opening lanes

  abbrev Keeps : ℕ → List (maybe.Option (Option D)) → List (View G I) → Type 0
  Keeps = Kept fixed_part list g opening lanes

  -- the rule after a step that leaves b in the word
  rule_at : (words : List ℕ) (homes : List (maybe.Option (Option D))) (views : List (View G I)) (b : ℕ) → length words ≡ 1 → Keeps b homes views →
      Rule record { words = set words 0 b; homes = homes; views = views }
  rule_at words homes views b one k = (length-set words 0 b ∙ one, subst (λ (n : ℕ). Keeps n homes views) (sym (get_or-set_same words 0 b 0 (omega arith))) k)

  -- a step that changes nothing
  unmoved : (s : St) (id : ℕ) (me : Me (Option D) (View G I)) → Rule s → get_elem? s.views id ≡ some me.0 →
      Rule (stepped s 0 (slice_index s.words 0) id me.1 me.0 keeps)
  unmoved s id me r at = grind (arith, set-get_or, set_again)

  module _ (now : List (ℕ × I)) (made first : ℕ) (owner : ℕ → ℕ) where
    -- a seat's fact where the lock changes hands
    reheld : (word word' holder holder' seat : ℕ) (v : View G I) → Fits g opening now lanes made word first holder owner seat v
        → (hold_word v.hold ≢ 0 → (hold_word v.hold ≡ word') × (seat ≡ holder') × (v.seen ≡ now)) →
        Fits g opening now lanes made word' first holder' owner seat v
    reheld word word' holder holder' seat v p h = grind arith

  -- The lock

  module _ (homes : List (maybe.Option (Option D))) (views : List (View G I)) (k : Keeps 0 homes views) (id : ℕ) (v : View G I)
      (at : get_elem? views id ≡ some v) (live : v.live ≡ true) (xs : List (ℕ × I)) (is : xs ≡ k.now) where
    entered : Keeps 1 (set homes 0 none) (set views id (entering v xs))
    entered =
        let w = entering v xs in
        let p = k.each_seat id v at live in
        let q = p.quiet in
        let grows : xs ≡ v.seen ++ q.0 = is ∙ q.1 in
        let one = still (λ u. (u.live ≡ true) × (u.number ≡ None)) views id v w at (λ h. h) k.first
        (k.has_first.0, k.has_first.1, (k.has_first.2, k.has_first.3)) in record {
          now = k.now;
          made = k.made;
          first = k.first;
          holder = id;
          owner = k.owner;
          free = λ e. absurd (omega arith);
          held = λ _. (w, set_here views id w (there_below views id v at), live, refl);
          unmade = k.unmade;
          enough = k.enough;
          has_first = (one.0, one.1, one.2.0, one.2.1);
          seated = λ n lt. let t = k.seated n lt in let r =
              still (λ u. (u.live ≡ true) × StandsIn n u) views id v w at (λ h. h) (k.owner n) (t.0, t.1, (t.2, t.3)) in (r.0, r.1, r.2.0, r.2.1);
          each_seat = seats (λ j u. u.live ≡ true → Fits g opening k.now lanes k.made 1 k.first id k.owner j u) views id w
              (λ _. record {
                fixed = p.fixed;
                opens = p.opens;
                limit = p.limit;
                begins = begins_trans xs v.seen opening (q.0, grows) p.begins;
                holds = λ _. (refl, refl, is);
                quiet = subst (λ l. Quiet (λ n. (n < k.made) × (k.owner n ≡ id)) l xs) is (quiet_self _ xs);
                told = p.told;
                own = λ n mine. let none_past = q.2 n (p.numbers n (inl mine)) in let o = p.own n mine in
                    (own_quiet n v.seen opening v.own xs q.0 o.0 grows none_past, own_quiet n v.seen v.born v.own xs q.0 o.1 grows none_past);
                unnumbered = p.unnumbered;
                numbers = p.numbers;
              })
              (λ j u ne there alive. let f = k.each_seat j u there alive in
              reheld k.now k.made k.first k.owner 0 1 k.holder id j u f (λ h. absurd (h (f.holds h).0)));
        }

  pub locks : (slots id : ℕ) (me : Me (Option D) (View G I)) → me.0.live ≡ true →
      Allows Rule slots id me 0 (λ n. either (eqb n 0) 1 n) (locked fixed_part list (step slots 0 0 1 none) me)
  locks slots id me live s r _ at _ =
      let word = slice_index s.words 0 in dite (ℕ_discrete word 0)
      (λ hit.
      let k = subst (λ (n : ℕ). Keeps n s.homes s.views) hit r.1 in
      let f = k.free refl in
      let x = f.0 in
      let w = entering me.0 (list x) in
      let p = k.each_seat id me.0 at live in
      let q = p.quiet in (
        w,
        takes 0 (Some x),
        f.1,
        subst (λ b. Rule (stepped s 0 (either b 1 word) id me.1 w (takes 0 (Some x)))) (sym (eq-eqb word 0 hit))
            (rule_at s.words _ _ 1 r.0 (entered s.homes s.views k id me.0 at live (list x) f.3)),
        ((λ _. (x, refl, ap Some f.2 ∙ sym p.fixed, (q.0, f.3 ∙ q.1, λ n mine. q.2 n (p.numbers n (inl mine))))), λ not. absurd (not hit)),
      ))
      (λ miss. (
        me.0,
        keeps,
        tt,
        subst (λ b. Rule (stepped s 0 (either b 1 word) id me.1 me.0 keeps)) (sym (ne_eqb word 0 miss)) (unmoved s id me r at),
        ((λ hit. absurd (miss hit)), λ _. refl),
      ))

  -- The note

  module _ (homes : List (maybe.Option (Option D))) (views : List (View G I)) (k : Keeps 1 homes views) (id : ℕ) (v : View G I)
      (at : get_elem? views id ≡ some v) (live : v.live ≡ true) (holds : v.hold ≡ Held) (n : ℕ) (numbered : v.number ≡ Some n) (xs : List (ℕ × I))
      (grows : GrowsByOne n xs v.seen) where
    written_down : Keeps 2 homes (set views id (noting v xs))
    written_down =
        let w = noting v xs in
        let p = k.each_seat id v at live in
        let one : hold_word v.hold ≢ 0 = subst (λ h. hold_word h ≢ 0) (sym holds) (λ e. omega arith) in
        let whole : v.seen ≡ k.now = (p.holds one).2 in
        let here : id ≡ k.holder = (p.holds one).1 in
        let n_here = p.numbers n (inl numbered) in
        let gr = grown n xs v.seen grows in
        let new = gr.0 in
        let longer_now : xs ≡ k.now ++ new = gr.1 ∙ ap (λ l. l ++ new) whole in
        let first_still = still (λ u. (u.live ≡ true) × (u.number ≡ None)) views id v w at (λ h. h) k.first
        (k.has_first.0, k.has_first.1, (k.has_first.2, k.has_first.3)) in record {
          now = xs;
          made = k.made;
          first = k.first;
          holder = id;
          owner = k.owner;
          free = λ e. absurd (omega arith);
          held = λ _. (w, set_here views id w (there_below views id v at), live, refl);
          unmade = subst (λ l. Quiet (λ m. k.made ≤ m) l opening) (sym longer_now)
              (quiet_more _ k.now opening new k.unmade (λ m le. gr.4 m (λ e. omega (arith, n_here.0))));
          enough = k.enough;
          has_first = (first_still.0, first_still.1, first_still.2.0, first_still.2.1);
          seated = λ m lt. let t = k.seated m lt in let r =
              still (λ u. (u.live ≡ true) × StandsIn m u) views id v w at (λ h. h) (k.owner m) (t.0, t.1, (t.2, t.3)) in (r.0, r.1, r.2.0, r.2.1);
          each_seat = seats (λ j u. u.live ≡ true → Fits g opening xs lanes k.made 2 k.first id k.owner j u) views id w
              (λ _. record {
                fixed = p.fixed;
                opens = p.opens;
                limit = p.limit;
                begins = begins_trans xs v.seen opening (new, gr.1) p.begins;
                holds = λ _. (refl, refl, refl);
                quiet = quiet_self _ xs;
                told = begins_trans xs k.now v.told (new, longer_now) p.told;
                own = λ m mine.
                    let same : m ≡ n = (cc) in
                    let o = p.own m mine in
                    let added : pairs_under m new ≡ drop (length v.seen) xs = ap (λ i. pairs_under i new) same ∙ (gr.3 ∙ sym gr.2) in
                    let P : List (ℕ × I) → Type 0 = λ l. OwnPast m xs opening (v.own ++ l) in
                    let Q : List (ℕ × I) → Type 0 = λ l. OwnPast m xs v.born (v.own ++ l) in
                    (subst P added (own_more m v.seen opening v.own xs new o.0 gr.1), subst Q added (own_more m v.seen v.born v.own xs new o.1 gr.1));
                unnumbered = p.unnumbered;
                numbers = p.numbers;
              })
              (λ j u ne there alive. let f = k.each_seat j u there alive in record {
                fixed = f.fixed;
                opens = f.opens;
                limit = f.limit;
                begins = f.begins;
                holds = λ h. absurd (ne ((f.holds h).1 ∙ sym here));
                quiet = subst (λ l. Quiet (λ m. (m < k.made) × (k.owner m ≡ j)) l u.seen) (sym longer_now)
                    (quiet_more _ k.now u.seen new f.quiet (λ m h. gr.4 m (λ e. ne (sym h.1 ∙ (ap k.owner e ∙ n_here.1)))));
                told = begins_trans xs k.now u.told (new, longer_now) f.told;
                own = f.own;
                unnumbered = f.unnumbered;
                numbers = f.numbers;
              });
        }

  pub notes : (slots id : ℕ) (me : Me (Option D) (View G I)) (y : D) (n : ℕ) → me.0.live ≡ true → me.0.hold ≡ Held → me.0.number ≡ Some n →
      GrowsByOne n (list y) me.0.seen
      → Allows Rule slots id me 0 (λ n. either (eqb n 1) 2 n) (noted list (step slots 0 1 2 (some (Some y))) me)
  notes slots id me y n live holds numbered grows s r _ at _ =
      let word = slice_index s.words 0 in
      let p = r.1.each_seat id me.0 at live in
      let one : hold_word me.0.hold ≡ 1 = ap hold_word holds in
      let is : word ≡ 1 = sym (p.holds (λ e. omega (arith, one, e))).0 ∙ one in
      let k = subst (λ (b : ℕ). Keeps b s.homes s.views) is r.1 in
      let w = noting me.0 (list y) in (
        w,
        keeps,
        tt,
        subst (λ b. Rule (stepped s 0 (either b 2 word) id me.1 w keeps)) (sym (eq-eqb word 1 is))
            (rule_at s.words _ _ 2 r.0 (written_down s.homes s.views k id me.0 at live holds n numbered (list y) grows)),
        λ x said. let same : y ≡ x = (cc) in ap (λ z. (noting me.0 (list z), me.1)) same,
      )

  -- The unlock

  module _ (homes : List (maybe.Option (Option D))) (views : List (View G I)) (k : Keeps 2 homes views) (id : ℕ) (v : View G I)
      (at : get_elem? views id ≡ some v) (live : v.live ≡ true) (holds : v.hold ≡ Noted) (y : D) (fixed : fixed_part y ≡ g) (whole : list y ≡ v.seen)
      (one_slot : length homes ≡ 1) where
    given_back : Keeps 0 (set homes 0 (some (Some y))) (set views id (leaving v))
    given_back =
        let w = leaving v in
        let p = k.each_seat id v at live in
        let two : hold_word v.hold ≢ 0 = subst (λ h. hold_word h ≢ 0) (sym holds) (λ e. omega arith) in
        let h = p.holds two in
        let first_still = still (λ u. (u.live ≡ true) × (u.number ≡ None)) views id v w at (λ h. h) k.first
        (k.has_first.0, k.has_first.1, (k.has_first.2, k.has_first.3)) in record {
          now = k.now;
          made = k.made;
          first = k.first;
          holder = k.holder;
          owner = k.owner;
          free = λ _. (y, set_here homes 0 (some (Some y)) (omega arith), fixed, whole ∙ h.2);
          held = λ not. absurd (not refl);
          unmade = k.unmade;
          enough = k.enough;
          has_first = (first_still.0, first_still.1, first_still.2.0, first_still.2.1);
          seated = λ m lt. let t = k.seated m lt in let r =
              still (λ u. (u.live ≡ true) × StandsIn m u) views id v w at (λ h. h) (k.owner m) (t.0, t.1, (t.2, t.3)) in (r.0, r.1, r.2.0, r.2.1);
          each_seat = seats (λ j u. u.live ≡ true → Fits g opening k.now lanes k.made 0 k.first k.holder k.owner j u) views id w
              (λ _. record {
                fixed = p.fixed;
                opens = p.opens;
                limit = p.limit;
                begins = p.begins;
                holds = λ not. absurd (not refl);
                quiet = p.quiet;
                told =
                    p.told;
                own = p.own;
                unnumbered = p.unnumbered;
                numbers = p.numbers;
              })
              (λ j u ne there alive. let f = k.each_seat j u there alive in
              reheld k.now k.made k.first k.owner 2 0 k.holder k.holder j u f (λ b. absurd (ne ((f.holds b).1 ∙ sym h.1))));
        }

  pub unlocks : (slots id : ℕ) (me : Me (Option D) (View G I)) (v : View G I) (y : D) → me ≡ (v, (0, Some y) ∷ []) → slots ≡ 1 → v.live ≡ true →
      v.hold ≡ Noted → Some (fixed_part y) ≡ v.fixed → list y ≡ v.seen
      → Allows Rule slots id me 0 (λ _. 0) (unlocked (step slots 0 0 0 none) me)
  unlocks slots id me v y is one live holds fixed whole =
      subst (λ m. Allows Rule slots id m 0 (λ _. 0) (unlocked (step slots 0 0 0 none) m)) (sym is) (λ s r wide at _.
      let word = slice_index s.words 0 in
      let p = r.1.each_seat id v at live in
      let two : hold_word v.hold ≡ 2 = ap hold_word holds in
      let here : word ≡ 2 = sym (p.holds (λ e. omega (arith, two, e))).0 ∙ two in
      let k = subst (λ (b : ℕ). Keeps b s.homes s.views) here r.1 in
      let known : fixed_part y ≡ g = (let e : Some (fixed_part y) ≡ Some g = fixed ∙ p.fixed in cc) in (
        leaving v,
        gives,
        tt,
        rule_at s.words _ _ 0 r.0 (given_back s.homes s.views k id v at live holds y known whole (wide ∙ one)),
        (refl, subst (λ o. (n : ℕ) → v.number ≡ Some n → OwnPast n v.seen o v.own × OwnPast n v.seen v.born v.own) (sym p.opens) p.own),
      ))

  -- The look at what was seen before a join

  pub compares : (slots id : ℕ) (me : Me (Option D) (View G I)) → me.0.live ≡ true → Allows Rule slots id me 0 (λ n. n) (compared (step slots 0 0 0 none) me)
  compares slots id me live s r _ at _ =
      let p = r.1.each_seat id me.0 at live in
      (me.0, keeps, tt, unmoved s id me r at, (refl, λ le. two_fronts r.1.now me.0.seen me.0.told (p.quiet.0, p.quiet.1) p.told le))
