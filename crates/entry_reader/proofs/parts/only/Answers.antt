use Rattle.std.proofs.Common.{sym, ap, ◌∙◌}
use Rattle.std.specs.Prelude.{Some, option_and_then}
use Rattle.serde_json.specs.View.{view}
use Rattle.entry_reader.specs.Values.{lone}
use Rattle.entry_reader.proofs.Small.{lone_none, lone_some}
use Rattle.entry_reader.proofs.parts.only.Goals as goal

pub returns-then-len-ne1 : goal.returns-then-len-ne1
returns-then-len-ne1 c =
    sym (lone_none c.in_ok-members.members.now.entries (λ e. c.if-len-ne1.true (c.len.ensures.len ∙ e))) ∙ ap (option_and_then lone) c.in_ok-members.ensures

pub returns : goal.returns
returns c =
    ap (λ key. Some (key, view c.in_ok-key.member.now)) c.as_str.ensures.value
    ∙ sym (lone_some c.in_ok-members.members.now.entries c.in_ok-key.key.now c.in_ok-key.member.now (sym c.len.ensures.len ∙ c.if-len-ne1.false)
    c.in_ok-key.ensures.first)
    ∙ ap (option_and_then lone) c.in_ok-members.ensures
