use Rattle.policy_reader.proofs.Words.{◌∙◌, refl, next_user}
use Rattle.policy_reader.proofs.Fresh.{left_start, left_new, left_next}
use Rattle.policy_reader.proofs.rosters.all_users.Goals as goal

pub entries-init : goal.entries-init
entries-init c =
    let made = c.into_iter-key-iterator.ensures.into_iter_gives in
    rw made.0 (left_start next_user (λ r. r.users) c.args.roster.now c.args.users.now.entries c.requires.none made.5, refl)

pub next_user-requires-clause-fresh : goal.next_user-requires-clause-fresh
next_user-requires-clause-fresh c =
    rw c.as_str.ensures.value (left_new next_user (λ r. r.users) c.args.users.now.entries _ c.entries.roster c.entries.key-iterator
    (c.in-Some.key.now, c.in-Some.value.now) c.next.new.self c.in-Some.ensures.steps c.entries.invariant.0)

pub entries-preserved : goal.entries-preserved
entries-preserved c = (
  left_next next_user (λ r. r.users) c.args.users.now.entries _ c.entries.roster c.next_user.new.roster c.entries.key-iterator
      (c.in-Some.key.now, c.in-Some.value.now) c.next.new.self
      c.in-Some.ensures.steps c.entries.invariant.0 (rw (← c.as_str.ensures.value) c.in_default.ensures.read)
      (rw (← c.as_str.ensures.value) c.in_default.ensures.users),
  c.in_default.ensures.roles ∙ c.entries.invariant.1,
)
