-- The order of the turns, from lane to lane.
use Rattle.std.proofs.Common.{◌≡◌, ◌⊎◌, ℕ, ◌+◌, ◌≤◌, cond, true, false, nat_eq, List, [], ◌∷◌, ◌++◌, length, None, Some}
use Rattle.std.proofs.Common.{inl, inr, ◌∙◌, ap, arith}
use Rattle.std.proofs.lemmas.Bool.Decides.{nat_tests}
use Rattle.std.proofs.lemmas.List.{length-append}
use Rattle.std.proofs.lemmas.List.Sums.{sum_by-append}
use Rattle.basics.proofs.Booleans.{bool_cases, eq_is}
use Rattle.wf_talk.specs.declared.entry.Entry.{Entry}
use Rattle.wf_talk.specs.declared.job.Job.{Job}
use Rattle.wf_board.proofs.HistoryLaws.{each_more}
use Rattle.wf_desk.specs.Laws.Commits.{HasServed}
use Rattle.wf_desk.specs.Desks.{DeskShape, next_job, served, served_jobs}
use Rattle.wf_desk.proofs.DocketLaws.{next_lane, rest_none, served_other}
use Rattle.wf_lanes.specs.Turns.{IsInTurn, turns_of}
use Rattle.wf_lanes.specs.TurnSteps.{IsAtTurn}

-- one more entry is one more turn of its lane
pub turns_with : (k : ℕ) (es : List Entry) (e : Entry) → turns_of k (es ++ e ∷ []) ≡ turns_of k es + cond (nat_eq e.lane k) 1 0
turns_with k es e = let sum = sum_by-append (λ (x : Entry). cond (nat_eq x.lane k) 1 0) es (e ∷ []) in omega (arith, sum)

pub turns_own : (es : List Entry) (e : Entry) (k : ℕ) → e.lane ≡ k → turns_of k (es ++ e ∷ []) ≡ turns_of k es + 1
turns_own es e k own = turns_with k es e ∙ ap (λ b. turns_of k es + cond b 1 0) (eq_is e.lane k own)

pub turns_other : (es : List Entry) (e : Entry) (k : ℕ) → nat_eq e.lane k ≡ false → turns_of k (es ++ e ∷ []) ≡ turns_of k es
turns_other es e k other = let h = turns_with k es e ∙ ap (λ b. turns_of k es + cond b 1 0) other in omega (arith, h)

-- an entry of another lane does not count among a lane's answered jobs
served_past : (start : ℕ) (es : List Entry) (e : Entry) (k : ℕ) → nat_eq e.lane k ≡ false → served_jobs start (es ++ e ∷ []) k ≡ served_jobs start es k
served_past start es e k other = grind (arith, bool_cases, served_other, nat_tests, length-append, rest_none)

-- a lane that has no job left has none after an entry of another lane
none_stays : (b c : DeskShape) (e : Entry) (k : ℕ) → c.entries ≡ b.entries ++ e ∷ [] → c.jobs ≡ b.jobs → c.start ≡ b.start → nat_eq e.lane k ≡ false
    → next_job b k ≡ None → next_job c k ≡ None
none_stays b c e k added jobs start other none = grind (arith, served_past)

-- at first no lane has had a turn
pub at_first : (d : DeskShape) → IsAtTurn [] 0 0 d
at_first d = grind arith

-- a lane that has a job left, and has its turn now, has had so many
had_turns : (es : List Entry) (turns lane : ℕ) (d : DeskShape) (job : Job) → IsAtTurn es turns lane d → next_job d lane ≡ Some job → turns_of lane es ≡ turns
had_turns es turns lane d job at left = grind arith

-- what is known of the turns of a lane stays so after an entry of another
still : (es : List Entry) (b c : DeskShape) (e : Entry) (k least : ℕ) → c.entries ≡ b.entries ++ e ∷ [] → c.jobs ≡ b.jobs → c.start ≡ b.start
    → nat_eq e.lane k ≡ false → (next_job b k ≡ None) ⊎ (least ≤ turns_of k es) → (next_job c k ≡ None) ⊎ (least ≤ turns_of k (es ++ e ∷ []))
still es b c e k least added jobs start other h10 = grind (arith, none_stays, turns_other)

-- a lane has had its turn: with one of its jobs
pub at_served : (es : List Entry) (turns lane : ℕ) (b c : DeskShape) → IsAtTurn es turns lane b → (given : HasServed b c lane true)
    → IsAtTurn (es ++ given.1.1.entry ∷ []) turns (lane + 1) c
at_served es turns lane b c at given =
    let added = given.1.1 in
    let e = added.entry in
    let own : e.lane ≡ lane = ap (λ (j : Job). j.lane) added.answers ∙ next_lane lane (length (served b lane)) b.jobs given.0 given.1.0 in
    let level : turns_of e.lane es ≡ turns = ap (λ k. turns_of k es) own ∙ had_turns es turns lane b given.0 at given.1.0 in
    let more : turns_of lane (es ++ e ∷ []) ≡ turns + 1 = turns_own es e lane own ∙ ap (λ n. n + 1) (had_turns es turns lane b given.0 at given.1.0) in
    let passed : (k : ℕ) → nat_eq k lane ≡ false → nat_eq e.lane k ≡ false = λ k other. grind (arith, nat_tests, own, other) in
    record {
      order = each_more IsInTurn [] es e at.order record {
        ahead = λ k. let most = at.most k in omega (arith, most, level);
        later = λ k le. let most = at.later_most k (omega (arith, own, le)) in omega (arith, most, level);
      };
      most = λ k. elim (bool_cases (nat_eq k lane)) [
        | inl here ↦ let same : k ≡ lane = grind (arith, nat_tests) in rw same (omega (arith, more))
        | inr other ↦ let same = turns_other es e k (passed k other) in let most = at.most k in omega (arith, same, most)
      ];
      later_most = λ k le.
          let other : nat_eq k lane ≡ false = grind (arith, nat_tests, le) in
          let same = turns_other es e k (passed k other) in
          let most = at.later_most k (omega (arith, le)) in
          omega (arith, same, most);
      earlier_least = λ k lt. elim (bool_cases (nat_eq k lane)) [
        | inl here ↦ let same : k ≡ lane = grind (arith, nat_tests) in inr (rw same (omega (arith, more)))
        | inr other ↦ still es b c e k (turns + 1) added.added added.jobs added.start (passed k other) (at.earlier_least k (grind (arith, nat_tests)))
      ];
      later_least = λ k le.
          let other : nat_eq k lane ≡ false = grind (arith, nat_tests, le) in
          still es b c e k turns added.added added.jobs added.start (passed k other) (at.later_least k (omega (arith, le)));
    }

-- or with none, as it has none left
pub at_passed : (es : List Entry) (turns lane : ℕ) (b : DeskShape) → IsAtTurn es turns lane b → next_job b lane ≡ None → IsAtTurn es turns (lane + 1) b
at_passed es turns lane b at none = record {
  order = at.order;
  most = at.most;
  later_most = λ k le. at.later_most k (omega (arith, le));
  earlier_least = grind (arith, bool_cases, nat_tests);
  later_least = λ k le. at.later_least k (omega (arith, le));
}

-- where all lanes have had their turn, the next turn begins
pub at_whole : (es : List Entry) (turns lanes : ℕ) (d : DeskShape) → IsAtTurn es turns lanes d → ((k : ℕ) → lanes ≤ k → next_job d k ≡ None)
    → IsAtTurn es (turns + 1) 0 d
at_whole es turns lanes d at none = record {
  order = at.order;
  most = λ k. let most = at.most k in omega (arith, most);
  later_most = λ k le. at.most k;
  earlier_least = λ k lt. absurd (omega (arith, lt));
  later_least = grind (arith, bool_cases, nat_tests);
}
