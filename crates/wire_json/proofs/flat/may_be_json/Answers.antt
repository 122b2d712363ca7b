use Rattle.std.proofs.Common.{◌≢◌, [], sym, ap, ◌∙◌, rules}
use Rattle.json.specs.Json.{value, skip_value}
use Rattle.json.specs.Lex.{tokens}
use Rattle.wire_json.proofs.Flats.{not_skipped, skipped_more}
use Rattle.wire_json.proofs.flat.may_be_json.Goals as goal

pub returns-in-Ok : goal.returns-in-Ok
returns-in-Ok c h =
    let some : c.skip_value.new.self ≢ [] = search rules in
    skipped_more (value 127 (tokens c.args.text.now)) c.skip_value.new.self (ap (skip_value 127) (sym c.in_ok-reader.ensures.ok) ∙ c.in-Ok.ensures.value) some

pub returns-in-Err : goal.returns-in-Err
returns-in-Err c h =
    not_skipped (value 127 (tokens c.args.text.now)) (ap (skip_value 127) (sym c.in_ok-reader.ensures.ok) ∙ c.in-Err.ensures.value)
