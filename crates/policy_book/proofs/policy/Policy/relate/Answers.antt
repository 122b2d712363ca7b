use Rattle.std.proofs.Common.{◌<◌, ap, length, arith}
use Rattle.std.specs.FinSet as set
use Rattle.policy_book.specs.Laws.Shapes.{PolicyShape}
use Rattle.user_relations.specs.Laws.Relations.{pairs_of}
use Rattle.policy_book.proofs.Book.{book_with_pairs}
use Rattle.policy_book.proofs.Keeping.{pairs_of_users, all_inserted}
use Rattle.policy_book.proofs.policy.Policy.relate.Goals as goal
use Rattle.policy_book.proofs.policy.Policy.relate.Goals.{in-Ok, in-Err}

pub relate-requires-clause-first : goal.relate-requires-clause-first
relate-requires-clause-first c = grind arith

pub relate-requires-clause-second : goal.relate-requires-clause-second
relate-requires-clause-second c = grind arith

pub invariant_of-self : goal.invariant_of-self
invariant_of-self c =
    let same = ap (λ (p : PolicyShape). length p.roster.users) c.self.view_is in
    let first : c.args.u < length c.self.inside.roster.users = omega (arith, same, c.requires.first) in
    let second : c.args.v < length c.self.inside.roster.users = omega (arith, same, c.requires.second) in
    let rs = c.self.inside.relations in
    let before = pairs_of_users (length c.self.inside.roster.users) rs c.args.rho c.self.invariant.stored.sound.related in
    let after = all_inserted (length c.self.inside.roster.users) (pairs_of rs c.args.rho) c.args.u c.args.v before first second in
    elim c.match-relate.branch [
      | in-Ok w ↦
          book_with_pairs c.self.inside.roster rs c.relate.new.self c.self.inside.names c.self.inside.flows.items c.self.inside.admin c.args.rho
          c.self.inside.duties.items (set.insert (pairs_of rs c.args.rho) (c.args.u, c.args.v)) w.in-Ok.ensures.related after c.self.invariant
      | in-Err w ↦ rw w.in-Err.ensures.unchanged c.self.invariant
    ]
