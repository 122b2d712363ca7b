use Rattle.std.proofs.Common.{sym, ap, subst, ◌∙◌}
use Rattle.serde_json.specs.Data.{object}
use Rattle.basics.specs.Laws.Reading.{◌>>=◌, or_fault}
use Rattle.wf_talk.specs.declared.request.Bad.TheVariants.{Syntax}
use Rattle.wire_json.specs.Requests.{asked, request_in, asked_of}
use Rattle.serde_json.specs.Read.{read}
use Rattle.wire_json.specs.Objects.{members_of}
use Rattle.wire_json.specs.Flats.{IsFlat}
use Rattle.wire_json.proofs.Values.{value_of_utf8}
use Rattle.wire_json.proofs.Asking.{asks_nothing, asks_no_object}
use Rattle.wire_json.proofs.request.read_parts.Goals as goal

pub returns-in-Parts : goal.returns-in-Parts
unfolding asked_of
returns-in-Parts c =
    let text = c.in-Ok.ensures.cases in
    let value = value_of_utf8 c.args.line.now c.in-Ok.text.now (object (members_of c.in_ok-flat.parts.items)) text.0 text.1
    (subst (λ f. IsFlat f c.in_ok-flat.parts.items (read c.in-Ok.text.now)) c.in-Parts.is c.in_ok-flat.ensures) in
    c.asked_in.ensures ∙ ap (λ ps. asked (request_in c.args.lanes (object (members_of ps)))) c.as_slice.ensures.value
    ∙ ap (λ o. asked (or_fault o Syntax >>= request_in c.args.lanes)) (sym value)

pub returns-in-NoObject : goal.returns-in-NoObject
returns-in-NoObject c =
    let text = c.in-Ok.ensures.cases in
    let found = subst (λ f. IsFlat f c.in_ok-flat.parts.items (read c.in-Ok.text.now)) c.in-NoObject.is c.in_ok-flat.ensures in
    c.bad_line.ensures ∙ asks_no_object c.args.lanes c.args.line.now c.in-Ok.text.now found.0 text.0 text.1 found.1 found.2

pub returns-in-NoJson : goal.returns-in-NoJson
returns-in-NoJson c =
    let text = c.in-Ok.ensures.cases in
    c.bad_line-in-NoJson.ensures ∙ asks_nothing c.args.lanes c.args.line.now c.in-Ok.text.now text.0
    (subst (λ f. IsFlat f c.in_ok-flat.parts.items (read c.in-Ok.text.now)) c.in-NoJson.is c.in_ok-flat.ensures)
