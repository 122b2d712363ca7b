use Rattle.std.proofs.Common.{◌+◌, sym, subst}
use Rattle.std.specs.Arc.{arc_value}
use Rattle.wf_talk.specs.declared.reply.Reply.TheVariants as replies
use Rattle.wf_board.specs.declared.deed.Deed.TheVariants as deeds
use Rattle.wf_board.specs.declared.verdict.Verdict.TheVariants as verdicts
use Rattle.wf_board.specs.Deeds.{HasSettled, IsUndecided}
use Rattle.wf_board.specs.Taking.{board_of, KeepsAll}
use Rattle.wf_board.proofs.Unhurt.{change_settled, unbroken_taken}
use Rattle.wf_board.proofs.board.Board.change.Goals as goal

pub invariant_of-self : goal.invariant_of-self
invariant_of-self c =
    let taken = unbroken_taken (arc_value c.self.inside.policy) (arc_value c.args.after) c.self.inside.cases c.self.inside.edits c.args.ask.now c.args.change
    record { planned = c.self.invariant.0; numbered = c.self.invariant.1 }
    (subst (λ b. IsUndecided b.policy b.cases c.args.ask.now (deeds.Change c.args.change)) (sym c.self.view_is) c.requires.undecided)
    (subst (λ b. KeepsAll b.policy c.args.change b.cases.rows (arc_value c.args.after)) (sym c.self.view_is) c.requires.kept) in
    (taken.0.planned, taken.0.numbered)

pub returns-clause-settled : goal.returns-clause-settled
returns-clause-settled c =
    let taken = unbroken_taken (arc_value c.self.inside.policy) (arc_value c.args.after) c.self.inside.cases c.self.inside.edits c.args.ask.now c.args.change
    record { planned = c.self.invariant.0; numbered = c.self.invariant.1 }
    (subst (λ b. IsUndecided b.policy b.cases c.args.ask.now (deeds.Change c.args.change)) (sym c.self.view_is) c.requires.undecided)
    (subst (λ b. KeepsAll b.policy c.args.change b.cases.rows (arc_value c.args.after)) (sym c.self.view_is) c.requires.kept) in
    subst (λ b. HasSettled b (board_of (arc_value c.args.after) c.self.inside.cases (c.self.inside.edits + 1)) c.args.ask.now verdicts.Nothing
    (replies.Edited (c.self.inside.edits + 1))) c.self.view_is
    (change_settled _ _ c.self.inside.cases c.self.inside.edits c.args.ask.now taken.1)
