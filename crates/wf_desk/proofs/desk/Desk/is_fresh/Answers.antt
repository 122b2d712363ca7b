use Rattle.std.proofs.Common.{ap, drop, nat_lt, not, sym, subst, ◌∙◌}
use Rattle.wf_board.specs.Counting.{counted}
use Rattle.wf_desk.specs.Keeping.{IsDesk}
use Rattle.wf_desk.proofs.CommitLaws.{fresh_test, fresh_verdict}
use Rattle.wf_desk.proofs.desk.Desk.is_fresh.Goals as goal

pub returns-clause-right : goal.returns-clause-right
returns-clause-right c is v right =
    let t = c.args.task.now in
    let same = ap not (c.any_counts.ensures ∙
    ap (λ es. nat_lt 0 (counted t.ask es)) (c.entries_from.ensures ∙ ap (λ d. drop t.number d.entries) c.self.view_is)) in
    fresh_verdict c.args.self.now c.self.inside.places t v (subst (λ d. IsDesk d c.self.inside.places) c.self.view_is c.self.invariant.desk)
    (fresh_test c.args.self.now t (sym same ∙ is)) right
