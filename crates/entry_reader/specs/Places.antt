-- The place in a session that a line of a transcript names.
use Rattle.std.specs.Prelude.{ℕ, ◌^◌, nat_lt, List, codes, Option, None, Some, option_map}
use Rattle.std.specs.Prelude.{option_and_then, if◌then◌else◌}
use Rattle.serde_json.specs.Data.{Data}
use Rattle.wire_json.specs.Requests.{number_at}
use Rattle.wire_json.specs.Values.{value_of}
use Rattle.entry_reader.specs.declared.place.Place.{Place}

-- the unsigned whole number at a key, where it is below a bound
abbrev pub number_below : ℕ → List ℕ → Data → Option ℕ
number_below bound key d =
    option_and_then (λ n. if nat_lt n bound then Some n else None) (number_at key d)

-- the numbers at the keys at, lane and line, where all three are there and fit
abbrev pub place_read : Data → Option Place
place_read d =
    option_and_then (λ number.
    option_and_then (λ lane.
    option_map (λ line. record { at = number; lane = lane; line = line })
    (number_below (2 ^ 32) (codes "line") d))
    (number_below (2 ^ 8) (codes "lane") d))
    (number_below (2 ^ 32) (codes "at") d)

-- the place that a line names: it is a JSON object with these numbers
unfoldable pub place_of_line : List ℕ → Option Place
place_of_line text = option_and_then place_read (value_of text)
