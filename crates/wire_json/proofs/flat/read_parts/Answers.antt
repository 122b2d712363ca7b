use Rattle.std.proofs.Common.{◌≡◌, ◌-◌, [], ◌∷◌, Some, sym, ap, ◌∙◌, arith}
use Rattle.std.proofs.lemmas.List.Sums.{fold-append}
use Rattle.json.specs.Json.{read_key, members, value}
use Rattle.json.proofs.Grammar.{read_key-shorter}
use Rattle.serde_json.specs.Data.{no_members}
use Rattle.serde_json.specs.Read.{of_members, converted}
use Rattle.wire_json.proofs.Flats.{member_read, member_refused, key_refused, members_over}
use Rattle.wire_json.specs.Objects.{worth_data, put_part, members_of}
use Rattle.wire_json.proofs.flat.read_parts.Goals as goal

pub parts-preserved : goal.parts-preserved
parts-preserved c =
    let p = value 126 in
    let l = c.parts in
    let n = l.invariant.0 in
    let old = members_of l.parts.items in
    let k = c.in-Some.key.now in
    let s = c.next_key.new.reader in
    let r = c.read_worth.new.reader in
    let w = c.in_ok-worth.worth in
    let named : read_key l.reader ≡ Some (Some k, s) = grind arith in
    let less = read_key-shorter l.reader (Some k) s named in
    let read = c.in_ok-worth.ensures in
    let lesser = read.shorter in
    let grown = sym (fold-append put_part no_members l.parts.items (record { key = c.in-Some.key; worth = w } ∷ [])) ∙
    ap members_of (sym c.in_ok-add_part.ensures.added) in (
      n - 1,
      omega (arith, l.invariant.1),
      l.invariant.2 ∙ member_read p old n k l.reader s r (worth_data w) (omega (arith, l.invariant.1)) named read.value
          ∙ ap (λ found. converted (λ ms. of_members ms found) (members p (n - 1) r)) grown,
    )

pub returns-in_err-key-clause-no_json : goal.returns-in_err-key-clause-no_json
returns-in_err-key-clause-no_json c h =
    let l = c.parts in
    l.invariant.2 ∙ key_refused (value 126) (members_of l.parts.items) l.invariant.0 l.reader c.in_err-key.ensures.none

pub returns-in_err-worth-clause-no_json : goal.returns-in_err-worth-clause-no_json
returns-in_err-worth-clause-no_json c h =
    let l = c.parts in
    let k = c.in-Some.key.now in
    let s = c.next_key.new.reader in
    let named : read_key l.reader ≡ Some (Some k, s) = grind arith in
    l.invariant.2 ∙ member_refused (value 126) (members_of l.parts.items) l.invariant.0 k l.reader s named (c.read_worth.ensures.no_json (grind arith))

pub returns-clause-parts : goal.returns-clause-parts
returns-clause-parts c =
    let l = c.parts in
    l.invariant.2 ∙ members_over (value 126) (members_of l.parts.items) l.invariant.0 l.reader c.next_key.new.reader l.invariant.1 (grind arith)
