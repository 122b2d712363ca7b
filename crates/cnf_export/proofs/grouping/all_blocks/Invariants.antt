use Rattle.std.proofs.Common.{◌≡◌, ◌≤◌, ◌+◌, ◌*◌, drop}
use Rattle.cnf_export.specs.Laws.Encodings.{rules_blocks, step_blocks}
use Rattle.cnf_export.proofs.grouping.all_blocks.Given as goal

abbrev pub invariant-rules : goal.invariant-rules
invariant-rules l = record {
  so_far : l.block + rules_blocks (drop l.k l.rules) ≡ step_blocks l.steps + rules_blocks l.rules;
  small : l.block ≤ 48 + 257 * l.k;
}
