use Rattle.std.proofs.Common.{◌≡◌, ◌∙◌, ◌<◌, ◌+◌, ◌++◌, ◌∷◌, [], ℕ, suc, length, ap, sym, arith, refl, map}
use Rattle.constraint_forms.specs.Assign.{is_member}
use Rattle.cnf_export.proofs.Listing.{listed_none, listed_one}
use Rattle.cnf_export.proofs.counting.list_members.Goals as goal
use Rattle.cnf_export.proofs.counting.list_members.Goals.{then-has+in_ok-push, else-has}

pub members-preserved : goal.members-preserved
members-preserved c =
    let group = c.args.group.now in
    let f = λ (t : ℕ). suc t in
    let below : c.members.t < length group = omega (arith, c.members-test.true, c.limit-limit.ensures.limit, c.limit-limit.ensures.len) in
    elim c.if-has.branch [
      | then-has+in_ok-push w ↦
          listed_one (map f) (f c.members.t ∷ []) (is_member group) c.members.into c.if-has.into c.members.t (length group)
          (λ us. refl) below (sym c.has.ensures.flag ∙ w.if-has.true)
          (let next : c.members.t + 1 ≡ suc c.members.t = omega arith in w.into-is ∙ w.in_ok-push.ensures.pushed ∙ ap (λ n. c.members.into ++ n ∷ []) next)
          ∙ c.members.invariant
      | else-has w ↦
          listed_none (map f) (is_member group) c.members.into c.if-has.into c.members.t (length group) below
          (sym c.has.ensures.flag ∙ w.if-has.false) w.into-is
          ∙ c.members.invariant
    ]
