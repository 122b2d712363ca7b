use Rattle.std.proofs.Common.{ℕ, List, length, refl, subst, arith, Option}
use Rattle.std.proofs.lemmas.Bool.{false≢true}
use Rattle.policy_book.specs.Policies.{problem_of}
use Rattle.refutation_tree.specs.declared.tree.Tree.{Tree}
use Rattle.resilience_check.specs.Searches.{HasFoundLeast, HasTriedAbsences}
use Rattle.resilience_check.proofs.Authority.{can_do_by}
use Rattle.resilience_check.proofs.Coverage.{ascends_below, covers_by}
use Rattle.resilience_check.proofs.Families.{least_by}
use Rattle.resilience_check.proofs.search.resilience.Goals as goal

tried-in : goal.returns-in-Some-clause-answer
tried-in c =
    let p = c.args.p.now in
    let now = c.first_breaking.new.absent in
    let tried =
    subst (λ (o : Option Tree). HasTriedAbsences p c.args.f c.sizes.family c.sizes.absent 0 c.sizes.size c.first_breaking.new.family now o) c.in-Some.is
    c.in_ok-tree.ensures in
    let found =
    subst (λ (absent : List ℕ). HasFoundLeast p c.args.f absent 0 c.sizes.size c.first_breaking.new.family now c.in-Some.tree) c.sizes.invariant.same
    tried.1 in (
      least_by p c.args.f c.args.t c.sizes.size c.sizes.family c.first_breaking.new.family now c.in-Some.tree
          (omega (arith, c.sizes-test.true)) c.rules.ensures.well_formed c.sizes.invariant.each tried.0 found,
      found.refuted,
    )

pub returns-in-Some-clause-answer : goal.returns-in-Some-clause-answer
returns-in-Some-clause-answer c = tried-in c

pub returns-in-Some-clause-holds : goal.returns-in-Some-clause-holds
returns-in-Some-clause-holds c =
    let least = (tried-in c).0 in (
      λ no. absurd (false≢true no),
      λ resilient. absurd (least.breaks
          (resilient c.first_breaking.new.absent (ascends_below 0 (length c.args.p.now.roster.users) c.first_breaking.new.absent least.ascending) least.few)),
    )

covered : goal.returns-clause-answer
covered c = (
  c.sizes.invariant.valid,
  covers_by (problem_of c.args.p.now c.args.f) c.sizes.family c.args.t c.sizes.invariant.valid
      (λ other ascending few. c.sizes.invariant.each other ascending (omega (arith, few, c.sizes-test.false))),
)

pub returns-clause-answer : goal.returns-clause-answer
returns-clause-answer c = covered c

pub returns-clause-holds : goal.returns-clause-holds
returns-clause-holds c =
    (λ _ absent known few. can_do_by c.args.p.now c.args.f absent c.sizes.family c.sizes.invariant.valid ((covered c).1 absent few), λ _. refl)
