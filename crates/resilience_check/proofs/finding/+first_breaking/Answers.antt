use Rattle.std.proofs.Common.{◌≡◌, ◌<◌, ◌-◌, ◌+◌, ◌∷◌, ◌++◌, ◌∙◌, [], ℕ, List, length, refl, sym, ap, subst, arith, Option, Some}
use Rattle.refutation_tree.specs.declared.tree.Tree.{Tree}
use Rattle.resilience_check.specs.Left.{AreUsers}
use Rattle.resilience_check.specs.Lists.{Withstands}
use Rattle.resilience_check.specs.Searches.{HasTriedAbsences}
use Rattle.resilience_check.proofs.Families.{found_from, grown_on, none_by, none_from, stays_grown}
use Rattle.resilience_check.proofs.Ones.{known_with}
use Rattle.resilience_check.proofs.finding.+first_breaking.Goals as goal

pub returns-then-not-can_break : goal.returns-then-not-can_break
returns-then-not-can_break t c =
    let p = c.args.course.now.policy.now in
    let f = c.args.course.now.number in
    let withstands = subst (λ (plans : List (List ℕ)). Withstands plans c.args.absent.now c.args.from c.args.left) c.as_slice.ensures
    (subst (λ (absent : List ℕ). Withstands c.as_slice.result.now absent c.args.from c.args.left) c.as_slice-2.ensures
    (c.if-not-can_break.ensures.no refl)) in (
      stays_grown p f c.args.family.now c.requires.family,
      none_by
          (length p.roster.users) c.args.absent.now c.args.from c.args.left c.args.family.now withstands,
    )

pub returns : goal.returns
returns t c =
    let p = c.args.course.now.policy.now in (
      c.users.invariant.grown,
      none_from (length p.roster.users) c.args.absent.now c.users.absent c.args.from c.args.left c.users.u c.users.family c.users.invariant.same
          c.if-left-eq0.false
          (omega (
            arith,
            c.users-test.false,
            c.len-u-end.ensures.count,
            ap length c.users-2.ensures.names,
            ap
                (λ r. length r.users) c.roster.ensures.roster,
          )) c.users.invariant.each,
    )

pub first_breaking-requires : goal.first_breaking-requires
first_breaking-requires t c =
    let n = length c.args.course.now.policy.now.roster.users in
    let known : c.users.u < n = omega (
      arith,
      c.users-test.true,
      c.len-u-end.ensures.count,
      ap length c.users-2.ensures.names,
      ap (λ r. length r.users) c.roster.ensures.roster,
    ) in
    let before = subst (λ (us : List ℕ). AreUsers n us) (sym c.users.invariant.same) c.requires.users in (
      omega (arith, c.if-left-eq0.false),
      (
        subst (λ (us : List ℕ). AreUsers n us) (sym c.in_ok-push.ensures.pushed) (known_with n c.users.absent c.users.u before known),
        c.users.invariant.grown.valid,
      ),
    )

pub returns-in-Some : goal.returns-in-Some
returns-in-Some t c =
    let p = c.args.course.now.policy.now in
    let f = c.args.course.now.number in
    let pushed : c.push.new.self ≡ c.args.absent.now ++ c.users.u ∷ [] =
    c.in_ok-push.ensures.pushed ∙ ap (λ (us : List ℕ). us ++ c.users.u ∷ []) c.users.invariant.same in
    let tried = subst (λ (us : List ℕ). HasTriedAbsences p f c.users.family us (c.users.u + 1)
    (c.args.left - 1) c.first_breaking.new.family c.first_breaking.new.absent (Some c.in-Some.tree)) pushed
    (subst (λ (o : Option Tree). HasTriedAbsences p f c.users.family c.push.new.self (c.users.u + 1)
    (c.args.left - 1) c.first_breaking.new.family c.first_breaking.new.absent o) c.in-Some.is c.in_ok-tree.ensures) in
    let known : c.users.u < length p.roster.users = omega (
      arith,
      c.users-test.true,
      c.len-u-end.ensures.count,
      ap length c.users-2.ensures.names,
      ap (λ r. length r.users) c.roster.ensures.roster,
    ) in (
      grown_on p f c.args.family.now c.users.family c.first_breaking.new.family c.users.invariant.grown tried.0,
      found_from p f c.args.absent.now c.first_breaking.new.absent c.args.from c.args.left
          (c.args.left - 1) c.users.u c.users.family c.first_breaking.new.family c.in-Some.tree
          c.users.auto.u known (omega (arith, c.if-left-eq0.false)) c.users.invariant.each tried.0.grows tried.1,
    )
