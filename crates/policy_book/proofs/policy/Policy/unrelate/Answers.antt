use Rattle.std.proofs.Common.{length}
use Rattle.std.specs.FinSet as set
use Rattle.user_relations.specs.Laws.Relations.{pairs_of}
use Rattle.policy_book.proofs.Book.{book_with_pairs}
use Rattle.policy_book.proofs.Keeping.{pairs_of_users, all_removed}
use Rattle.policy_book.proofs.policy.Policy.unrelate.Goals as goal
use Rattle.policy_book.proofs.policy.Policy.unrelate.Goals.{in-Ok, in-Err}

pub invariant_of-self : goal.invariant_of-self
invariant_of-self c =
    let rs = c.self.inside.relations in
    let before = pairs_of_users (length c.self.inside.roster.users) rs c.args.rho c.self.invariant.stored.sound.related in
    let after = all_removed (length c.self.inside.roster.users) (pairs_of rs c.args.rho) c.args.u c.args.v before in
    elim c.match-unrelate.branch [
      | in-Ok w ↦
          book_with_pairs c.self.inside.roster rs c.unrelate.new.self c.self.inside.names c.self.inside.flows.items c.self.inside.admin c.args.rho
          c.self.inside.duties.items (set.remove (pairs_of rs c.args.rho) (c.args.u, c.args.v)) w.in-Ok.ensures.unrelated after c.self.invariant
      | in-Err w ↦ rw w.in-Err.ensures.unchanged c.self.invariant
    ]
