use Rattle.std.proofs.Common.{◌≡◌, ◌≤◌, ◌++◌, List, ℕ, length, drop, true, ap, sym, ◌∙◌, arith}
use Rattle.std.proofs.lemmas.Grind.{common_steps}
use Rattle.wf_names.specs.Names.{is_name}
use Rattle.wf_names.specs.declared.limits.TheConstants.{NAME_LIMIT}
use Rattle.wire_json.proofs.Texts.{name_stays}
use Rattle.wire_json.proofs.fill.put_bare.Goals as goal

name_short : (name bytes : List ℕ) → is_name name ≡ true → bytes ≡ name → length bytes ≤ NAME_LIMIT
unfolding is_name
name_short name bytes h is = grind (arith, common_steps)

pub put_bytes-requires-clause-room : goal.put_bytes-requires-clause-room
put_bytes-requires-clause-room c =
    omega (arith, c.requires.room, name_short c.args.name.now _ c.as_str.ensures.form (c.as_bytes.ensures.value ∙ c.as_str.ensures.text))

pub returns-clause-short : goal.returns-clause-short
returns-clause-short c =
    omega (arith, c.put_bytes.ensures.start, name_short c.args.name.now _ c.as_str.ensures.form (c.as_bytes.ensures.value ∙ c.as_str.ensures.text))

pub returns-clause-written : goal.returns-clause-written
returns-clause-written c =
    c.put_bytes.ensures.written
    ∙ ap (λ t. t ++ drop c.args.end c.args.cells.now)
    (c.as_bytes.ensures.value ∙ c.as_str.ensures.text ∙ sym (name_stays c.args.name.now c.as_str.ensures.form))
