use Rattle.policy_book.proofs.Rows.{gathered_settled}
use Rattle.policy_book.proofs.duties.settle_user.Goals as goal

pub returns-clause-gathered : goal.returns-clause-gathered
returns-clause-gathered c =
    rw c.gather_user.ensures
    (gathered_settled c.args.roster.now c.args.flow.now c.args.u c.args.r c.args.rows.now c.settle_rows.new.rows c.args.sets.now c.settle_rows.ensures
    c.requires.gathered)
