use Rattle.policy_reader.proofs.Words.{◌∙◌, sym, ap, Some, table_view, entries}
use Rattle.policy_reader.proofs.Relating.{target_of}
use Rattle.policy_reader.proofs.relations.complement_of.Goals as goal

pub returns-in-Some-default-false-clause-target : goal.returns-in-Some-default-false-clause-target
returns-in-Some-default-false-clause-target c = target_of c.in_ok-text.text.now (entries (table_view c.args.all.now)) c.in-Some-default-false.other
    (sym c.entry_of.ensures ∙ c.in-Some-default-false.is ∙ ap (λ b. Some (c.in-Some-default-false.other, b)) c.in-Some-default-false.field-0-1-test)
