-- Bytes that are UTF-8.
use Rattle.std.proofs.Common.{◌≡◌, ℕ, List, length, refl, IsUtf8}
use Rattle.policy_reader.proofs.Words.{eq_same}
use Rattle.std.proofs.lemmas.Str.{utf8_valid_len-IsUtf8}
use Rattle.policy_reader.specs.Files.{document_in, document_in_text}

pub document_in-utf8 : (bytes : List ℕ) → IsUtf8 bytes → document_in bytes ≡ document_in_text bytes
unfolding document_in
document_in-utf8 bytes h = rw (utf8_valid_len-IsUtf8 bytes h, eq_same (length bytes)) refl
