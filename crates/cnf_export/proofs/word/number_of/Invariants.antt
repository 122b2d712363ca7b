use Rattle.std.proofs.Common.{◌≡◌, ◌≤◌, drop}
use Rattle.cnf_export.specs.ModelText.{number_behind}
use Rattle.cnf_export.proofs.word.number_of.Given as goal

-- the rest of the digits say the same number
abbrev pub invariant-digits : goal.invariant-digits
invariant-digits l = record {
  rest : number_behind l.limit l.n (drop l.digit-index l.digits) ≡ number_behind l.limit 0 l.digits;
  few : l.n ≤ l.limit;
}
