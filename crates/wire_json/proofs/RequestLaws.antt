-- Inside: laws of requests, for the proofs over them.
use Rattle.std.proofs.Common.{arith}
use Rattle.std.specs.Prelude.{◌≡◌, ℕ, ◌<◌, List, Ok}
use Rattle.std.proofs.lemmas.Grind.{common_steps}
use Rattle.serde_json.specs.Data.{Data}
use Rattle.wire_json.specs.declared.request.Asked.{Asked}
use Rattle.wire_json.specs.Requests.{request_in, asked_of}

lane_within : (lanes : ℕ) (d : Data) (a : Asked) → 0 < lanes → request_in lanes d ≡ Ok a → a.lane < lanes
unfolding request_in
lane_within lanes d a some e = grind (arith, common_steps)

-- each line is of one of the lanes
pub lane_below : (lanes : ℕ) (line : List ℕ) → 0 < lanes → (asked_of lanes line).lane < lanes
unfolding asked_of
lane_below lanes line some = grind (arith, common_steps, lane_within)
