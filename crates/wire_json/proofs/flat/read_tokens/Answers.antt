use Rattle.std.proofs.Common.{◌≡◌, [], ◌∷◌, None, refl, sym, ap, ◌∙◌, subst, arith}
use Rattle.json.specs.Token.{Token}
use Rattle.json.specs.Json.{value}
use Rattle.json.specs.Reads.{token_of}
use Rattle.json.proofs.Grammar.{value_is}
use Rattle.serde_json.specs.Data.{null, boolean, string}
use Rattle.serde_json.specs.Read.{of_json, converted}
use Rattle.wire_json.specs.Flats.{whole, IsFlat}
use Rattle.wire_json.proofs.flat.read_tokens.Goals as goal

pub returns-in_default : goal.returns-in_default
returns-in_default c =
    let empty : c.args.reader.now ≡ [] = grind arith in
    ap whole (ap (value 127) empty ∙ value_is 127 [])

pub returns-in-BeginObject : goal.returns-in-BeginObject
returns-in-BeginObject c =
    let first : c.args.reader.now ≡ token_of c.in-Some.token ∷ c.next.new.self = grind arith in
    let is : c.args.reader.now ≡ Token.begin_object ∷ c.next.new.self = grind (arith, first) in
    subst (λ ts. IsFlat c.read_object.result c.read_object.new.parts.items (whole (value 127 ts))) (sym is) c.read_object.ensures

pub returns-in-String : goal.returns-in-String
returns-in-String c =
    let first : c.args.reader.now ≡ token_of c.in-Some.token ∷ c.next.new.self = grind arith in
    let is : c.args.reader.now ≡ Token.string c.in-String.field-0.now ∷ c.next.new.self = grind (arith, first) in
    c.no_object.ensures c.args.parts.now.items (string c.in-String.field-0.now) (value 127 c.args.reader.now) refl
    (ap (converted of_json) (ap (value 127) is ∙ value_is 127 _))

pub returns-in-Bool : goal.returns-in-Bool
returns-in-Bool c =
    let first : c.args.reader.now ≡ token_of c.in-Some.token ∷ c.next.new.self = grind arith in
    let is : c.args.reader.now ≡ Token.boolean c.in-Bool.field-0 ∷ c.next.new.self = grind (arith, first) in
    c.no_object-in-Bool.ensures c.args.parts.now.items (boolean c.in-Bool.field-0) (value 127 c.args.reader.now) refl
    (ap (converted of_json) (ap (value 127) is ∙ value_is 127 _))

pub returns-in-Null : goal.returns-in-Null
returns-in-Null c =
    let first : c.args.reader.now ≡ token_of c.in-Some.token ∷ c.next.new.self = grind arith in
    let is : c.args.reader.now ≡ Token.null ∷ c.next.new.self = grind (arith, first) in
    c.no_object-in-Null.ensures c.args.parts.now.items null (value 127 c.args.reader.now) refl (ap (converted of_json) (ap (value 127) is ∙ value_is 127 _))

pub returns-in-EndObject : goal.returns-in-EndObject
returns-in-EndObject c =
    let first : c.args.reader.now ≡ token_of c.in-Some.token ∷ c.next.new.self = grind arith in
    let none : value 127 c.args.reader.now ≡ None = rw (value_is 127 c.args.reader.now, first) (grind arith) in
    ap whole none
