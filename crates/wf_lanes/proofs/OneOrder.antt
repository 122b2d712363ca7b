-- Entries that come by turns come in one order.
use Rattle.std.proofs.Common.{◌≡◌, ℕ, ◌+◌, ◌<◌, ◌≤◌, cond, false, nat_lt, nat_eq, List, [], ◌∷◌, ◌++◌, length, map, inl, inr, refl, sym, ◌∙◌, ap, arith}
use Rattle.std.proofs.lemmas.Bool.Decides.{nat_tests}
use Rattle.std.proofs.lemmas.List.Sums.{sum_by-append}
use Rattle.basics.proofs.Booleans.{bool_cases, eq_is, eq_back}
use Rattle.wf_talk.specs.declared.entry.Entry.{Entry}
use Rattle.wf_talk.specs.declared.job.Job.{Job}
use Rattle.wf_board.specs.Laws.Histories.{EachAfter, job_of_entry, lane_jobs}
use Rattle.wf_lanes.specs.Turns.{AreByTurns, IsInTurn, turns_of}
use Rattle.wf_lanes.proofs.TurnOrder.{turns_with, turns_own, turns_other}

-- a lane's next entry: it comes after as many of the lane's as there were, and as many of the others' or more
record Next (k : ℕ) (front mid : List Entry) (e : Entry) : Type 0 where
  own : e.lane ≡ k
  turn : IsInTurn mid e
  same : turns_of k mid ≡ turns_of k front
  more : (j : ℕ) → turns_of j front ≤ turns_of j mid

grows : (j : ℕ) (front : List Entry) (e : Entry) → turns_of j front ≤ turns_of j (front ++ e ∷ [])
grows j front e = let h = turns_with j front e in omega (arith, h)

head_with : (k : ℕ) (e : Entry) (es : List Entry) → turns_of k (e ∷ es) ≡ turns_of k es + cond (nat_eq e.lane k) 1 0
head_with k e es = let sum = sum_by-append (λ (x : Entry). cond (nat_eq x.lane k) 1 0) (e ∷ []) es in omega (arith, sum)

head_own : (k : ℕ) (e : Entry) (es : List Entry) → e.lane ≡ k → turns_of k (e ∷ es) ≡ turns_of k es + 1
head_own k e es own = head_with k e es ∙ ap (λ b. turns_of k es + cond b 1 0) (eq_is e.lane k own)

head_other : (k : ℕ) (e : Entry) (es : List Entry) → nat_eq e.lane k ≡ false → turns_of k (e ∷ es) ≡ turns_of k es
head_other k e es other = let h = head_with k e es ∙ ap (λ b. turns_of k es + cond b 1 0) other in omega (arith, h)

next_of : (k : ℕ) (front es : List Entry) → EachAfter IsInTurn front es → 1 ≤ turns_of k es → (mid : List Entry) × ((e : Entry) × Next k front mid e)
next_of k front [] each some = absurd (omega (arith, some))
next_of k front (e ∷ es) each some = elim (bool_cases (nat_eq e.lane k)) [
  | inl own ↦ (front, (e, record { own = eq_back e.lane k own; turn = each.0; same = refl; more = λ j. omega arith }))
  | inr other ↦
      let later = next_of k (front ++ e ∷ []) es each.1 (let h = head_other k e es other in omega (arith, h, some)) in
      let same = turns_other front e k other in (
        later.0,
        (
          later.1.0,
          record {
            own = later.1.1.own;
            turn = later.1.1.turn;
            same = later.1.1.same ∙ same;
            more = λ j. let h = later.1.1.more j in let g = grows j front e in omega (arith, h, g);
          },
        ),
      )
]

-- two orders do not begin with different lanes
no_less : (f g xs ys : List Entry) (x y : Entry) → ((k : ℕ) → turns_of k f ≡ turns_of k g) → ((k : ℕ) → turns_of k (x ∷ xs) ≡ turns_of k (y ∷ ys))
    → EachAfter IsInTurn f (x ∷ xs) → EachAfter IsInTurn g (y ∷ ys) → x.lane < y.lane → ⊥
no_less f g xs ys x y fronts whole first second less =
    let other_x : nat_eq x.lane y.lane ≡ false = grind (arith, nat_tests, less) in
    let other_y : nat_eq y.lane x.lane ≡ false = grind (arith, nat_tests, less) in
    let a1 = head_own x.lane x xs refl in
    let a2 = head_other x.lane y ys other_y in
    let a3 = whole x.lane in
    let b1 = head_own y.lane y ys refl in
    let b2 = head_other y.lane x xs other_x in
    let b3 = whole y.lane in
    let n = next_of x.lane (g ++ y ∷ []) ys second.1 (omega (arith, a1, a2, a3)) in
    let m = next_of y.lane (f ++ x ∷ []) xs first.1 (omega (arith, b1, b2, b3)) in
    let n_own = n.1.1.own in
    let m_own = m.1.1.own in
    let n1 = n.1.1.turn.later y.lane (omega (arith, n_own, less)) in
    let n2 = ap (λ k. turns_of k n.0) n_own in
    let n3 = n.1.1.same in
    let n4 = n.1.1.more y.lane in
    let n5 = turns_own g y y.lane refl in
    let n6 = turns_other g y x.lane other_y in
    let m1 = m.1.1.turn.ahead x.lane in
    let m2 = ap (λ k. turns_of k m.0) m_own in
    let m3 = m.1.1.same in
    let m4 = m.1.1.more x.lane in
    let m5 = turns_own f x x.lane refl in
    let m6 = turns_other f x y.lane other_x in
    let fx = fronts x.lane in
    let fy = fronts y.lane in
    omega (arith, n1, n2, n3, n4, n5, n6, m1, m2, m3, m4, m5, m6, fx, fy)

-- a lane had as many turns as it has jobs here
turns_jobs : (k : ℕ) (es : List Entry) → turns_of k es ≡ length (lane_jobs k (map job_of_entry es))
turns_jobs k [] = refl
turns_jobs k (e ∷ es) = elim (bool_cases (nat_eq e.lane k)) [
  | inl own ↦ let rest = turns_jobs k es in head_own k e es (eq_back e.lane k own) ∙ rw own (omega (arith, rest))
  | inr other ↦ let rest = turns_jobs k es in head_other k e es other ∙ rw other rest
]

lane_head : (k : ℕ) (j : Job) (js : List Job) → j.lane ≡ k → lane_jobs k (j ∷ js) ≡ j ∷ lane_jobs k js
lane_head k j js own = rw (eq_is j.lane k own) refl

lane_rest : (k : ℕ) (i j : Job) (is js : List Job) → i ≡ j → lane_jobs k (i ∷ is) ≡ lane_jobs k (j ∷ js) → lane_jobs k is ≡ lane_jobs k js
lane_rest k i j is js equal both = grind arith

-- where each lane's jobs are the same, so is their order
order_from : (f g xs ys : List Entry) → ((k : ℕ) → turns_of k f ≡ turns_of k g) →
    ((k : ℕ) → lane_jobs k (map job_of_entry xs) ≡ lane_jobs k (map job_of_entry ys))
    → EachAfter IsInTurn f xs → EachAfter IsInTurn g ys → map job_of_entry xs ≡ map job_of_entry ys
order_from f g [] [] fronts same first second = refl
order_from f g [] (y ∷ ys) fronts same first second =
    let a = ap length (same y.lane) in let b = turns_jobs y.lane (y ∷ ys) in let c = head_own y.lane y ys refl in absurd (omega (arith, a, b, c))
order_from f g (x ∷ xs) [] fronts same first second =
    let a = ap length (same x.lane) in let b = turns_jobs x.lane (x ∷ xs) in let c = head_own x.lane x xs refl in absurd (omega (arith, a, b, c))
order_from f g (x ∷ xs) (y ∷ ys) fronts same first second =
    let whole : (k : ℕ) → turns_of k (x ∷ xs) ≡ turns_of k (y ∷ ys) = λ k. turns_jobs k (x ∷ xs) ∙ ap length (same k) ∙ sym (turns_jobs k (y ∷ ys)) in
    elim (bool_cases (nat_lt x.lane y.lane)) [
      | inl less ↦ absurd (no_less f g xs ys x y fronts whole first second (grind (arith, nat_tests)))
      | inr least ↦ elim (bool_cases (nat_lt y.lane x.lane)) [
        | inl less ↦ absurd (no_less g f ys xs y x (λ k. sym (fronts k)) (λ k. sym (whole k)) second first (grind (arith, nat_tests)))
        | inr most ↦
            let lanes : x.lane ≡ y.lane = grind (arith, nat_tests) in
            let heads : job_of_entry x ∷ lane_jobs x.lane (map job_of_entry xs) ≡ job_of_entry y ∷ lane_jobs x.lane (map job_of_entry ys) =
            sym (lane_head x.lane (job_of_entry x) (map job_of_entry xs) refl) ∙ same x.lane ∙
            lane_head x.lane (job_of_entry y) (map job_of_entry ys) (sym lanes) in
            let job : job_of_entry x ≡ job_of_entry y = cc in
            let rest = order_from (f ++ x ∷ []) (g ++ y ∷ [])
            xs ys (λ k. turns_with k f x ∙ ap (λ n. n + cond (nat_eq x.lane k) 1 0) (fronts k) ∙ ap (λ l. turns_of k g + cond (nat_eq l k) 1 0) lanes ∙
            sym (turns_with k g y))
            (λ k. lane_rest k (job_of_entry x) (job_of_entry y) (map job_of_entry xs) (map job_of_entry ys) job (same k)) first.1 second.1 in
            ap (λ j. j ∷ map job_of_entry xs) job ∙ ap (λ js. job_of_entry y ∷ js) rest
      ]
    ]

pub one_order : (xs ys : List Entry) → AreByTurns xs → AreByTurns ys → ((k : ℕ) → lane_jobs k (map job_of_entry xs) ≡ lane_jobs k (map job_of_entry ys))
    → map job_of_entry xs ≡ map job_of_entry ys
one_order xs ys first second same = order_from [] [] xs ys (λ k. refl) same first second
