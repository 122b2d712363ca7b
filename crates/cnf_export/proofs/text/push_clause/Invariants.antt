use Rattle.std.proofs.Common.{◌≡◌, ◌++◌, drop}
use Rattle.std.specs.List.{flat_map}
use Rattle.cnf_export.specs.Text.{literal_text}
use Rattle.cnf_export.proofs.text.push_clause.Given as goal

-- what is written, with what is left
abbrev pub invariant-literals : goal.invariant-literals
invariant-literals l = l.out.items ++ flat_map literal_text (drop l.literal-index l.literals) ≡ l.fn.out.items ++ flat_map literal_text l.literals
