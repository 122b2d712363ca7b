-- What a case keeps while its steps are said.
use Rattle.std.proofs.Common.{◌≡◌, ℕ, ◌+◌, ◌<◌, Bool, true, false, List, length, Option, Some, slice_set, sym, subst, ◌∙◌, arith}
use Rattle.std.proofs.lemmas.Bool.Decides.{eqb_tells}
use Rattle.std.proofs.lemmas.List.{get_or-set_other, length-set}
use Rattle.wf_names.specs.declared.limits.TheConstants.{STEP_LIMIT}
use Rattle.wf_names.specs.declared.states.StepState.{StepState}
use Rattle.wf_names.specs.declared.states.StepState.TheVariants.{Free, Held, Finished}
use Rattle.constraint_forms.specs.Assign.{is_member, user_at}
use Rattle.policy_book.specs.Laws.Plans.{AreAssigned}
use Rattle.certificate_check.proofs.Assigned.{either, given, given_other, given_same, still_assigned}
use Rattle.wf_commands.specs.declared.case.Case.{Case}
use Rattle.wf_commands.specs.Cases.{with_said, IsCaseSoFar, IsOfUsers}

-- and so do they where that step is finished
also_finished : (done : List Bool) (a : List (Option ℕ)) (t u : ℕ) → t < length a → AreAssigned done a
    → AreAssigned (slice_set done t true) (slice_set a t (Some u))
also_finished done a t u below are s is = either (eqb_tells s t)
    (λ same. (u, subst (λ k. user_at (slice_set a t (Some u)) k ≡ Some u) (sym same.1) (given_same a t u below)))
    (λ apart.
    let before : is_member done s ≡ true = sym (get_or-set_other done t s true false apart.1) ∙ is in
    let w = are s before in (w.0, given_other a t u s apart.1 ∙ w.1))

-- who has a step where the next one is given to a user
given_within : (n : ℕ) (c : Case) (u s v : ℕ) → u < n → IsCaseSoFar n c → user_at (slice_set c.assigned c.said (Some u)) s ≡ Some v → (s < c.said + 1) × (v < n)
given_within n c u s v known sofar h = either (given c.assigned c.said u s v h)
    (λ same. (omega (arith, same.0), subst (λ w. w < n) (sym same.1) known))
    (λ before. (let w = sofar.within s v before in (omega (arith, w.0), w.1)))

pub said_on : (n : ℕ) (c : Case) (x : StepState) → c.said < STEP_LIMIT → IsCaseSoFar n c → IsOfUsers n x → IsCaseSoFar n (with_said c x)
said_on n c Free below sofar known = record {
  within = λ s u h. (let w = sofar.within s u h in (omega (arith, w.0), w.1));
  all_assigned = sofar.all_assigned;
  places = sofar.places;
  flags = sofar.flags;
}
said_on n c (Held u) below sofar known = record {
  within = λ s v h. given_within n c u s v known sofar h;
  all_assigned = still_assigned c.finished c.assigned c.said u (subst (λ k. c.said < k) (sym sofar.places) below) sofar.all_assigned;
  places = length-set c.assigned c.said (Some u) ∙ sofar.places;
  flags = sofar.flags;
}
said_on n c (Finished u) below sofar known = record {
  within = λ s v h. given_within n c u s v known sofar h;
  all_assigned = also_finished c.finished c.assigned c.said u (subst (λ k. c.said < k) (sym sofar.places) below) sofar.all_assigned;
  places = length-set c.assigned c.said (Some u) ∙ sofar.places;
  flags = length-set c.finished c.said true ∙ sofar.flags;
}
