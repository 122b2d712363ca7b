-- Reading JSON values.
use Rattle.std.proofs.Common.{◌≡◌, ℕ, List, arith}
use Rattle.std.specs.Prelude.{IsUtf8, Some}
use Rattle.std.proofs.lemmas.Grind.{common_steps}
use Rattle.std.proofs.lemmas.Str.{utf8_valid_len-IsUtf8}
use Rattle.serde_json.specs.Data.{Data}
use Rattle.serde_json.specs.Read.{read}
use Rattle.wire_json.specs.Values.{value_of}

-- UTF-8 that reads as JSON is that value
pub value_of_utf8 : (bytes text : List ℕ) (d : Data) → text ≡ bytes → IsUtf8 bytes → read text ≡ Some d → value_of bytes ≡ Some d
unfolding value_of
value_of_utf8 bytes text d same utf8 e = grind (arith, utf8_valid_len-IsUtf8, common_steps)
