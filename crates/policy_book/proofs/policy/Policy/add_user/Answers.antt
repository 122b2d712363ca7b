use Rattle.std.proofs.Common.{ℕ, ◌<◌, List, length, ap, sym, subst, ◌∙◌, arith}
use Rattle.policy_book.specs.Duties.{AreGrown, AreKept, DutyShape, IsBook, duties_at}
use Rattle.policy_book.proofs.Keeping.{stored_with_user}
use Rattle.policy_book.proofs.Rows.{kept_grown, kept_with_user}
use Rattle.policy_book.proofs.Book.{whole}
use Rattle.policy_book.proofs.policy.Policy.add_user.Goals as goal
use Rattle.policy_book.proofs.policy.Policy.add_user.Goals.{in-Ok-add_user, in-Err}

pub invariant_of-self : goal.invariant_of-self
invariant_of-self c = grind (arith, whole, kept_grown)

pub invariant_of-self-2 : goal.invariant_of-self-2
invariant_of-self-2 c =
    let roster = c.self.inside.roster in
    let rs = c.self.inside.relations in
    let names = c.self.inside.names in
    let flows = c.self.inside.flows.items in
    let admin = c.self.inside.admin in
    let duties = c.self.inside.duties.items in
    let stored = c.self.invariant.stored in
    let new = c.make_room.new.duties in
    let grown : AreGrown duties new = subst (λ (ds : List DutyShape). AreGrown ds new) c.deref_mut.ensures.value c.make_room.ensures.grown in
    let kept : AreKept roster flows new = kept_grown roster flows duties new c.self.invariant.kept grown in
    let room : (f : ℕ) → f < length new → length roster.users < (duties_at new f).users =
    λ f below. omega (
      arith,
      c.in-Ok.ensures.room f (omega (arith, below, c.make_room.ensures.grown.count)),
      c.in_ok-number.ensures.place,
      ap length c.users.ensures.names,
    ) in
    subst (λ (ds : List DutyShape). IsBook c.add_user.new.self rs names flows admin ds)
    (sym (whole c.self.inside.duties.len new _ (c.make_room.ensures.grown.count ∙ c.deref_mut.ensures.len)))
    (elim c.match-add_user.branch [
      | in-Ok-add_user w ↦
          rw w.in-Ok-add_user.ensures.added
          (record {
            stored = stored_with_user roster rs names flows admin stored c.args.name w.in-Ok-add_user.ensures.room;
            kept =
                kept_with_user roster c.args.name flows new kept room;
          })
      | in-Err w ↦ rw w.in-Err.ensures.unchanged (record { stored = stored; kept = kept })
    ])
