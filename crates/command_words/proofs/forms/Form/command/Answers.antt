use Rattle.command_words.proofs.Passing.{one_more}
use Rattle.command_words.proofs.forms.Form.command.Goals as goal

pub words-preserved : goal.words-preserved
words-preserved c =
    one_more _ _ _ _ _ c.words.word-index _ c.words-test.true (c.in_ok-command.ensures.shape c.argument.ensures.own) c.argument.ensures.rule c.words.invariant
