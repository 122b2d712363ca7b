-- Reading JSON.
use Rattle.std.specs.Prelude.{ℕ, ◌==◌, List, length, Option, None, if◌then◌else◌}
use Rattle.std.specs.Str.Lossy.{utf8_valid_len}
use Rattle.serde_json.specs.Data.{Data}
use Rattle.serde_json.specs.Read.{read}

-- the JSON value that bytes are, where they are UTF-8 and read as JSON
unfoldable pub value_of : List ℕ → Option Data
value_of bytes = if utf8_valid_len bytes == length bytes then read bytes else None
