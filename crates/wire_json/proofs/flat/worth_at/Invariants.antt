use Rattle.std.proofs.Common.{◌≡◌, None, option_map, drop}
use Rattle.wire_json.specs.Objects.{worth_data}
use Rattle.wire_json.proofs.Flats.{last_at}
use Rattle.wire_json.proofs.flat.worth_at.Given as goal

abbrev pub invariant-parts : goal.invariant-parts
invariant-parts l = last_at l.key (option_map worth_data l.found) (drop l.part-index l.parts) ≡ last_at l.key None l.parts
