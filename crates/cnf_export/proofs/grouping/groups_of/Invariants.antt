use Rattle.std.proofs.Common.{◌≡◌, ◌≤◌, ◌+◌, ◌*◌, ◌++◌, drop}
use Rattle.cnf_export.specs.Laws.Encodings.{groups, rules_groups}
use Rattle.cnf_export.proofs.grouping.groups_of.Given as goal

-- the groups so far, and those of the rules to come
abbrev pub invariant-rules : goal.invariant-rules
invariant-rules l = record {
  so_far : l.made.items ++ rules_groups l.block (drop l.k l.rules) ≡ groups l.steps l.rules;
  small : l.block ≤ 48 + 257 * l.k;
}
