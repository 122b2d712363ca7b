use Rattle.std.proofs.Common.{◌≡◌, drop, fold, map}
use Rattle.clap.specs.Words.{app_of, with_rule}
use Rattle.command_words.specs.Forms.{form_for, rule_for}
use Rattle.command_words.proofs.forms.Form.command.Given as goal

abbrev pub invariant-words : goal.invariant-words
invariant-words l = fold with_rule (app_of l.command) (map rule_for (drop l.word-index l.words)) ≡ form_for l.fn.self
