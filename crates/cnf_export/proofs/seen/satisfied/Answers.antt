use Rattle.std.proofs.Common.{◌≡◌, ◌∙◌, ◌+◌, ◌||◌, true, false, drop, sym, ap}
use Rattle.cnf_export.specs.Laws.Clauses.{is_true, satisfies}
use Rattle.cnf_export.proofs.Listing.{drop_some}
use Rattle.cnf_export.specs.Saying.{has_variable}
use Rattle.cnf_export.proofs.seen.satisfied.Goals as goal

pub returns-then-is_true : goal.returns-then-is_true
returns-then-is_true c =
    let m = has_variable c.args.m.now in
    let rest = satisfies m (drop (c.literals.k + 1) c.args.clause.now) in
    let one : is_true m c.get.result.now ≡ true = sym c.is_true.ensures ∙ c.if-is_true.true in
    sym (ap (λ b. b || rest) one)
    ∙ sym (ap (satisfies m) (drop_some c.args.clause.now c.literals.k c.get.result.now c.get.ensures))
    ∙ c.literals.invariant

pub literals-preserved : goal.literals-preserved
literals-preserved c =
    let m = has_variable c.args.m.now in
    let rest = satisfies m (drop (c.literals.k + 1) c.args.clause.now) in
    let none : is_true m c.get.result.now ≡ false = sym c.is_true.ensures ∙ c.if-is_true.false in
    sym (ap (λ b. b || rest) none)
    ∙ sym (ap (satisfies m) (drop_some c.args.clause.now c.literals.k c.get.result.now c.get.ensures))
    ∙ c.literals.invariant
