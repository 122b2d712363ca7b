use Rattle.std.proofs.Common.{sym, ◌∙◌}
use Rattle.wf_board.proofs.taking.answer.Goals as goal

pub returns-then-is_unusable : goal.returns-then-is_unusable
returns-then-is_unusable c = record { answered = c.answer_want.ensures c.args.verdict (sym c.is_unusable.ensures ∙ c.if-is_unusable.true) }
