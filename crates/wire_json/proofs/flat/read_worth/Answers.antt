use Rattle.std.proofs.Common.{◌≡◌, [], ◌∷◌, None, option_map, ap, ◌∙◌, arith}
use Rattle.json.specs.Token.{Token}
use Rattle.json.specs.Json.{value}
use Rattle.json.specs.Reads.{token_of}
use Rattle.json.proofs.Grammar.{value_is}
use Rattle.serde_json.specs.Data.{number}
use Rattle.serde_json.specs.Read.{of_json, converted, number_of}
use Rattle.serde_json.proofs.Numbers.{number_of-decimal}
use Rattle.wire_json.proofs.flat.read_worth.Goals as goal

pub returns-in_default-clause-no_json : goal.returns-in_default-clause-no_json
returns-in_default-clause-no_json c h =
    let empty : c.args.reader.now ≡ [] = grind arith in
    ap (converted of_json) (ap (value 126) empty ∙ value_is 126 [])

pub returns-in-String-clause-value : goal.returns-in-String-clause-value
returns-in-String-clause-value c =
    let first : c.args.reader.now ≡ token_of c.in-Some.token ∷ c.next.new.self = grind arith in
    let is : c.args.reader.now ≡ Token.string c.in-String.text.now ∷ c.next.new.self = grind (arith, first) in
    ap (converted of_json) (ap (value 126) is ∙ value_is 126 _)

pub returns-in_ok-number_of-in-Number-clause-value : goal.returns-in_ok-number_of-in-Number-clause-value
returns-in_ok-number_of-in-Number-clause-value c =
    let first : c.args.reader.now ≡ token_of c.in-Some.token ∷ c.next.new.self = grind arith in
    let is : c.args.reader.now ≡ Token.number c.in-Number.text.now ∷ c.next.new.self = grind (arith, first) in
    let read = c.in_ok-number_of-in-Number.ensures in
    let small = read.small in
    ap (converted of_json) (ap (value 126) is ∙ value_is 126 _)
    ∙ ap (λ o. option_map (λ d. (d, c.next.new.self)) (option_map number o))
    (ap number_of read.text ∙ number_of-decimal c.in_ok-number_of-in-Number.field-0 (omega (arith, small)))

pub returns-in-EndObject-clause-no_json : goal.returns-in-EndObject-clause-no_json
returns-in-EndObject-clause-no_json c h =
    let first : c.args.reader.now ≡ token_of c.in-Some.token ∷ c.next.new.self = grind arith in
    let none : value 126 c.args.reader.now ≡ None = rw (value_is 126 c.args.reader.now, first) (grind arith) in
    ap (converted of_json) none
