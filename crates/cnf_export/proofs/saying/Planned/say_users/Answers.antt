use Rattle.std.proofs.Common.{◌∙◌, ◌++◌, ◌==◌, ℕ, map, ap, arith}
use Rattle.cnf_export.specs.Laws.Encodings.{numbers}
use Rattle.constraint_forms.specs.Assign.{planned}
use Rattle.cnf_export.proofs.Listing.{next_number}
use Rattle.cnf_export.proofs.saying.Planned.say_users.Goals as goal

pub steps-preserved : goal.steps-preserved
steps-preserved c =
    let says = λ (v : ℕ). map (λ u. v == u) (numbers 0 c.args.self.now.users) in
    next_number (λ s. says (planned c.args.self.now.plan.now s)) c.steps.into c.say_user.new.into c.steps.s c.args.steps (omega (arith, c.steps-test.true))
    (c.in_ok-say_user.ensures ∙ ap (λ v. c.steps.into ++ says v) c.user_of.ensures) ∙ c.steps.invariant
