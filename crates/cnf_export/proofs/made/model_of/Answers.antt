use Rattle.std.proofs.Common.{◌≡◌, ◌∙◌, ◌++◌, ◌==◌, nat_le, sym, ap, append_assoc}
use Rattle.std.proofs.Common.{subst}
use Rattle.constraint_forms.specs.Assign.{planned}
use Rattle.policy_book.specs.Policies.{problem_of}
use Rattle.cnf_export.specs.Laws.Clauses.{IsModelOf}
use Rattle.cnf_export.specs.Laws.Encodings.{clauses_of, encoding_of}
use Rattle.cnf_export.specs.Models.{AreSound, plan_said}
use Rattle.cnf_export.specs.Saying.{grid, has_variable, plan_flags, rules_flags}
use Rattle.cnf_export.proofs.Grids.{said_back, says_plan}
use Rattle.cnf_export.proofs.made.model_of.Goals as goal

pub returns-clause-flags : goal.returns-clause-flags
returns-clause-flags c =
    let problem = problem_of c.args.p.now c.args.f in
    let plan = c.args.plan.now in
    let steps = c.step_count-steps.ensures.count in
    let users = c.user_count-users.ensures.count in
    let first = grid (λ s u. planned plan s == u) c.step_count-steps.result c.user_count-users.result in
    let second = grid (λ s u. nat_le (planned plan s) u) c.step_count-steps.result c.user_count-users.result in
    let third = rules_flags c.user_count-users.result plan c.rules.result.now in
    let until = c.in_ok-say_until.ensures ∙ ap (λ xs. xs ++ second) (c.in_ok-say_users.ensures ∙ ap (λ xs. xs ++ first) c.new-said.ensures) in
    c.in_ok-say_rules.ensures
    ∙ ap (λ xs. xs ++ third) until
    ∙ append_assoc first second third
    ∙ (λ i. grid (λ s u. planned plan s == u) (steps i)
    (users i) ++ (grid (λ s u. nat_le (planned plan s) u) (steps i) (users i) ++ rules_flags (users i) plan (c.rules.ensures.rules i)))

pub returns-clause-satisfies : goal.returns-clause-satisfies
returns-clause-satisfies c assigned finished all valid =
    let problem = problem_of c.args.p.now c.args.f in
    let plan = c.args.plan.now in
    let sound : AreSound problem = record { named = c.rules.ensures.well_formed; members = λ k r is. (c.rules.ensures.ruled k r is).members } in
    subst (λ m. IsModelOf (has_variable m) (clauses_of problem assigned finished)) (sym (returns-clause-flags c))
    (c.plans_are_models.ensures problem assigned finished plan (has_variable (plan_flags problem plan)) sound all valid
    (says_plan problem plan assigned finished))

pub returns-clause-back : goal.returns-clause-back
returns-clause-back c assigned finished valid =
    let problem = problem_of c.args.p.now c.args.f in
    let plan = c.args.plan.now in
    subst (λ m. plan_said (encoding_of problem assigned finished) (has_variable m) ≡ plan) (sym (returns-clause-flags c))
    (said_back problem plan assigned finished valid.whole valid.known)
