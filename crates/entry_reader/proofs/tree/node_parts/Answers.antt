use Rattle.std.proofs.Common.{◌≡◌, true, false, sym, ap, ap₂, ◌∙◌, string_bytes}
use Rattle.std.specs.Prelude.{option_and_then}
use Rattle.entry_reader.specs.Values.{are_node_keys, node_at}
use Rattle.entry_reader.proofs.Small.{node_none, node_told}
use Rattle.entry_reader.proofs.tree.node_parts.Goals as goal

pub returns-then-len-ne2 : goal.returns-then-len-ne2
returns-then-len-ne2 c =
    sym (node_none c.in_ok-members.members.now.entries (λ e. c.if-len-ne2.true (c.len.ensures.len ∙ e))) ∙ ap (option_and_then node_at) c.in_ok-members.ensures

pub returns-then-are_node_keys : goal.returns-then-are_node_keys
returns-then-are_node_keys c =
    let keys : are_node_keys (string_bytes c.in_ok-first.first.now) (string_bytes c.in_ok-second.second.now) ≡ true =
    ap₂ are_node_keys (sym c.as_str.ensures.value) (sym c.as_str-2.ensures.value) ∙ sym c.are_node_keys.ensures ∙ c.if-are_node_keys.true in
    sym (node_told c.in_ok-members.members.now.entries c.in_ok-first.first.now c.in_ok-second.second.now c.in_ok-first.step.now c.in_ok-second.users.now true
    (sym c.len.ensures.len ∙ c.if-len-ne2.false) c.in_ok-first.ensures.first c.in_ok-second.ensures.last keys)
    ∙ ap (option_and_then node_at) c.in_ok-members.ensures

pub returns-else-are_node_keys : goal.returns-else-are_node_keys
returns-else-are_node_keys c =
    let keys : are_node_keys (string_bytes c.in_ok-first.first.now) (string_bytes c.in_ok-second.second.now) ≡ false =
    ap₂ are_node_keys (sym c.as_str.ensures.value) (sym c.as_str-2.ensures.value) ∙ sym c.are_node_keys.ensures ∙ c.if-are_node_keys.false in
    sym (node_told c.in_ok-members.members.now.entries c.in_ok-first.first.now c.in_ok-second.second.now c.in_ok-first.step.now c.in_ok-second.users.now false
    (sym c.len.ensures.len ∙ c.if-len-ne2.false) c.in_ok-first.ensures.first c.in_ok-second.ensures.last keys)
    ∙ ap (option_and_then node_at) c.in_ok-members.ensures
