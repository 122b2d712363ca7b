use Rattle.std.proofs.Common.{◌++◌, flat_map, sym, ap, ◌∙◌, map-id}
use Rattle.std.proofs.lemmas.Iterator.{YieldsList-from_chars}
use Rattle.std.proofs.lemmas.Iterator.Consumers.{YieldsList-end}
use Rattle.std.specs.Prelude.{string_bytes}
use Rattle.case_story.specs.Escape.{escape}
use Rattle.case_story.proofs.escape.push_escaped.Goals as goal

pub returns : goal.returns
returns c =
    let end = YieldsList-end (YieldsList-from_chars c.args.value.now c.utf8.value cc) c.chars.yielded _ c.chars.yielded_by _ _ c.in-None.is
    c.next.ensures.steps in
    c.chars.invariant ∙ ap (λ l. string_bytes c.args.out.now ++ flat_map escape l) (sym (map-id c.chars.yielded) ∙ end.0)
