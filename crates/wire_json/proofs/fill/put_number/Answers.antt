use Rattle.std.proofs.Common.{ℕ, ◌<◌, ◌≤◌, ◌^◌, length, decimal, arith}
use Rattle.std.proofs.lemmas.Fmt.{length-decimal-le}
use Rattle.wire_json.proofs.fill.put_number.Goals as goal

digits : (n : ℕ) → n < 2 ^ 32 → length (decimal n) ≤ 10
digits n h = length-decimal-le 10 n (omega arith) (omega (arith, h)) (omega (arith, h))

pub write_digits-digits-requires : goal.write_digits-digits-requires
write_digits-digits-requires c = (omega (arith, c.requires.room, digits c.args.n (omega arith)), c.requires.within)

pub put_bytes-requires-clause-room : goal.put_bytes-requires-clause-room
put_bytes-requires-clause-room c = omega (arith, c.requires.room, c.write_digits-digits.ensures.start, digits c.args.n (omega arith))

pub returns-clause-short : goal.returns-clause-short
returns-clause-short c = omega (arith, c.write_digits-digits.ensures.start, c.put_bytes.ensures.start, digits c.args.n (omega arith))
