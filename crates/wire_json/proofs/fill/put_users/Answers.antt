use Rattle.std.proofs.Common.{◌≡◌, ℕ, ◌+◌, ◌-◌, ◌<◌, List, [], ◌∷◌, ◌++◌, length, drop, true, sym, ap, ◌∙◌, arith}
use Rattle.std.specs.Prelude.{map}
use Rattle.std.proofs.lemmas.List.{drop-drop}
use Rattle.serde_json.specs.Data.{Data, array}
use Rattle.serde_json.specs.View.{items_of}
use Rattle.serde_json.specs.Written.{compact_text, items_text}
use Rattle.wire_json.specs.Entries.{named}
use Rattle.wire_json.proofs.fill.put_users.Goals as goal

-- the bracket in place of the comma of the first name
begun : (f : ℕ → Data) (plan : List ℕ) (start : ℕ) (cells rest whole : List ℕ) → 0 < length plan
    → drop start cells ≡ items_text true (items_of (map f plan)) ++ rest → whole ≡ 91 ∷ drop (start + 1) cells
    → whole ≡ compact_text (array (items_of (map f plan))) ++ rest
begun f [] start cells rest whole h here e = absurd (omega (arith, h))
begun f (u ∷ us) start cells rest whole h here e = e ∙ ap (λ t. 91 ∷ t) (sym (drop-drop 1 start cells) ∙ ap (λ t. drop 1 t) here)

pub returns-clause-written : goal.returns-clause-written
returns-clause-written c =
    let f : ℕ → Data = named c.args.users.now.names in
    let plan : List ℕ = c.args.plan.now in
    let rest : List ℕ = drop c.args.end c.args.cells.now in
    let end : length plan - c.users.s ≡ 0 = omega (arith, c.users-test.false, c.len-count.ensures.count) in
    let names : drop c.users.start c.users.cells ≡ items_text true (items_of (map f plan)) ++ rest =
    c.users.invariant.text ∙ ap (λ k. items_text true (items_of (map f (drop k plan))) ++ rest) end in
    begun f plan c.users.start c.users.cells rest _ c.requires.some names c.put_byte.ensures.written
