use Rattle.std.specs.FinSet as set
use Rattle.policy_book.proofs.Rows.{enrolled_differs}
use Rattle.policy_book.proofs.Book.{book_after}
use Rattle.policy_book.proofs.policy.Policy.enrol.Goals as goal

pub invariant_of-self-2 : goal.invariant_of-self-2
invariant_of-self-2 c =
    let roster = c.self.inside.roster in
    book_after roster c.enrol.new.self (set.insert roster.members (c.args.u, c.args.r)) c.self.inside.relations c.self.inside.names c.self.inside.flows.items
    _ c.self.inside.admin c.args.u c.args.r c.self.inside.duties.len c.self.inside.duties.items _ c.settle_all.new.duties _
    c.in_ok-enrol.ensures.enrolled c.deref.ensures.value c.deref_mut.ensures.value c.settle_all.ensures c.deref_mut.ensures.len
    c.self.invariant (enrolled_differs c.args.u c.args.r roster)
