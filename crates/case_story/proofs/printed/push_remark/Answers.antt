use Rattle.std.proofs.Common.{◌≡◌, ◌∙◌, true, Some, slice_get, subst, ap, string_bytes}
use Rattle.policy_book.specs.Policies.{flow_at}
use Rattle.policy_reader.specs.Documents.{name_at}
use Rattle.case_story.proofs.Remarks.{named_at, remark_line}
use Rattle.case_story.proofs.printed.push_remark.Goals as goal

pub returns-clause-line : goal.returns-clause-line
returns-clause-line c =
    let is : (flow_at c.args.p.now c.args.f).retired ≡ true = let t = c.if-not-retired.false in let e = c.retired.ensures in cc in
    let named : c.as_str.result.now ≡ name_at c.args.p.now.flow_names c.args.f =
    c.as_str.ensures.text ∙ named_at c.args.p.now.flow_names
    c.f.inside.0 c.name-name.result (subst (λ ns. slice_get ns c.f.inside.0 ≡ Some c.name-name.result) c.flows.ensures.names c.name-name.ensures.name) ∙
    ap (λ m. name_at c.args.p.now.flow_names m) c.f.view_is in
    remark_line c.args.p.now c.args.f (string_bytes c.args.out.now) (string_bytes c.push_str.new.self) (string_bytes c.push_str-2.new.self)
    (string_bytes c.push_str-3.new.self) c.as_str.result.now is
    c.in_ok-push_str.ensures.bytes c.in_ok-push_str-2.ensures.bytes c.in_ok-push_str-3.ensures.bytes named
