-- A valid plan stays valid where its case is opened, and where a step is claimed, finished or let go of.
use Rattle.wf_board.proofs.Common.{◌≡◌, ℕ, ◌<◌, Bool, true, false, List, [], ◌∷◌, length, Option, None, Some, sym, ap, ◌∙◌, arith, Free, Held}
use Rattle.wf_board.proofs.Common.{is_held, user_of, user_at, none_member, IsValidPlan, Problem, CaseShape, assigned_of, finished_case, finished_of, fresh_case}
use Rattle.wf_board.proofs.Common.{state_at, with_state, assigned_of-at, assigned_of-finish, assigned_of-hold, assigned_of-release, none_not_some}
use Rattle.wf_board.proofs.Common.{assigned_with}
use Rattle.std.proofs.Common.{slice_set}
use Rattle.constraint_forms.specs.Assign.{is_member, no_steps, no_users}
use Rattle.case_record.proofs.Laws.{blank_at, finished_of-finish, finished_of-hold}
use Rattle.case_record.proofs.Laws.{finished_of-release}

-- nobody has a step of a fresh case
pub fresh_user : (flow n s : ℕ) → user_at (assigned_of (fresh_case flow n)) s ≡ None
fresh_user flow n s = assigned_of-at (fresh_case flow n) s ∙ ap user_of (blank_at n s Free)

-- a plan that is valid while nobody has a step is valid for a fresh case
pub valid_fresh : (p : Problem) (flow n : ℕ) (plan : List ℕ) → IsValidPlan p no_users no_steps plan →
    IsValidPlan p (assigned_of (fresh_case flow n)) (finished_of (fresh_case flow n)) plan
valid_fresh p flow n plan valid = record {
  whole = valid.whole;
  known = valid.known;
  keeps = λ s u is. none_not_some u (sym (fresh_user flow n s) ∙ is);
  allowed = λ s below unfinished. valid.allowed s below (none_member s);
  obeyed = valid.obeyed;
}

-- a plan that is valid with a free step given to a user stays valid where the user claims it
pub valid_claimed : (p : Problem) (c : CaseShape) (t u : ℕ) (plan : List ℕ) → t < length c.states → state_at c t ≡ Free →
    IsValidPlan p (assigned_with c t u) (finished_of c) plan →
    IsValidPlan p (assigned_of (with_state c t (Held u))) (finished_of (with_state c t (Held u))) plan
valid_claimed p c t u plan below free valid = grind (arith, assigned_of-hold, finished_of-hold)

less_member : (group : List Bool) (t s : ℕ) → is_member (slice_set group t true) s ≡ false → is_member group s ≡ false
less_member [] t s h = h
less_member (x ∷ xs) t s h = grind (arith, (less_member xs))

-- a valid plan stays valid where a held step is finished
pub valid_finished : (p : Problem) (c : CaseShape) (t : ℕ) (plan : List ℕ) → is_held (state_at c t) ≡ true →
    IsValidPlan p (assigned_of c) (finished_of c) plan →
    IsValidPlan p (assigned_of (finished_case c t)) (finished_of (finished_case c t)) plan
valid_finished p c t plan held valid = grind (arith, assigned_of-finish, less_member, finished_of-finish)

-- where a step is taken away, nobody has a step that nobody had
pub less_given : (a : List (Option ℕ)) (t s u : ℕ) → user_at (slice_set a t None) s ≡ Some u → user_at a s ≡ Some u
less_given [] t s u h = h
less_given (x ∷ xs) t s u h = grind (arith, (less_given xs))

-- and where it is free again
pub valid_freed : (p : Problem) (c : CaseShape) (t : ℕ) (plan : List ℕ) → is_held (state_at c t) ≡ true → IsValidPlan p (assigned_of c) (finished_of c) plan →
    IsValidPlan p (assigned_of (with_state c t Free)) (finished_of (with_state c t Free)) plan
valid_freed p c t plan held valid = grind (arith, less_given, assigned_of-release, finished_of-release)
