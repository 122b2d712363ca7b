-- What is asked by a text that is no JSON, or no object.
use Rattle.std.proofs.Common.{◌≡◌, ℕ, List, Bool, Option, Some, None, Err, sym, ap, ◌∙◌, arith}
use Rattle.std.specs.Prelude.{◌==◌, length, IsUtf8, if◌then◌else◌}
use Rattle.std.specs.Str.Lossy.{utf8_valid_len}
use Rattle.basics.specs.Laws.Reading.{◌>>=◌, or_fault}
use Rattle.serde_json.specs.Data.{Data}
use Rattle.serde_json.specs.Find.{as_object}
use Rattle.serde_json.specs.Read.{read}
use Rattle.wf_talk.specs.declared.request.Bad.TheVariants.{Syntax, Object}
use Rattle.wire_json.specs.Requests.{asked, request_in, asked_of}
use Rattle.wire_json.specs.Values.{value_of}
use Rattle.wire_json.proofs.Values.{value_of_utf8}

no_matter : (b : Bool) (o : Option Data) → o ≡ None → (if b then o else None) ≡ None
no_matter b o e = grind arith

-- bytes that read as no JSON are no value
pub value_of_none : (bytes text : List ℕ) → text ≡ bytes → read text ≡ None → value_of bytes ≡ None
unfolding value_of
value_of_none bytes text same e = no_matter (utf8_valid_len bytes == length bytes) (read bytes) (ap read (sym same) ∙ e)

pub asks_nothing : (lanes : ℕ) (line text : List ℕ) → text ≡ line → read text ≡ None → asked (Err Syntax) ≡ asked_of lanes line
unfolding asked_of
asks_nothing lanes line text same e = ap (λ o. asked (or_fault o Syntax >>= request_in lanes)) (sym (value_of_none line text same e))

refused_at_once : (lanes : ℕ) (d : Data) → as_object d ≡ None → request_in lanes d ≡ Err Object
unfolding request_in
refused_at_once lanes d e = rw e

-- a value that is no object is no request
pub asks_no_object : (lanes : ℕ) (line text : List ℕ) (d : Data) → text ≡ line → IsUtf8 line → read text ≡ Some d → as_object d ≡ None →
    asked (Err Object) ≡ asked_of lanes line
unfolding asked_of
asks_no_object lanes line text d same utf8 e none = grind (arith, refused_at_once, value_of_utf8)
