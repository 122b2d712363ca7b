use Rattle.std.proofs.Common.{sym, ap, ◌∙◌, arith}
use Rattle.grant_table.specs.Kept.{rows_of}
use Rattle.grant_table.proofs.Parts.{get_there, only_is}
use Rattle.grant_table.proofs.rows.only.Goals as goal

pub returns-in_default : goal.returns-in_default
returns-in_default c = c.new-some.ensures.items ∙ ap rows_of (sym c.in_default.ensures) ∙ sym (only_is 0 c.args.n c.args.rows.now c.requires)

pub returns : goal.returns
returns c = grind (arith, get_there, only_is)
