use Rattle.std.proofs.Common.{◌<◌, ℕ, List, ap, sym, ◌∙◌, length, arith}
use Rattle.wf_names.specs.UserSets.{has_user}
use Rattle.policy_book.proofs.policy.Policy.authorised_row.Goals as goal

pub returns-clause-known : goal.returns-clause-known
returns-clause-known c =
    let place : c.args.s < length c.kept.result.now.rows = omega (arith, c.requires.step, c.kept.ensures.right.count) in
    λ u has. c.kept.ensures.known c.args.s u (sym (c.kept.ensures.right.each c.args.s u place) ∙ ap (λ (w : List ℕ). has_user w u) (sym c.row.ensures) ∙ has)
