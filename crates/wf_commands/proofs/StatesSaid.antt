-- What items say, one item after the other.
use Rattle.std.proofs.Common.{◌≡◌, ℕ, ◌+◌, ◌<◌, ◌≤◌, List, [], ◌∷◌, length, drop, get_or, Option, None, Some, Result, Ok, Err, refl, sym, ap, ◌∙◌, arith}
use Prim.Native.Nat.{zero, suc}
use Rattle.std.specs.Prelude.{IsErrAnd}
use Rattle.std.proofs.lemmas.List.{drop_more}
use Rattle.serde_json.specs.declared.value.Value.{Value}
use Rattle.serde_json.specs.Data.{Data, no_items}
use Rattle.serde_json.specs.View.{view, items_view}
use Rattle.basics.specs.Laws.Reading.{◌>>=◌, Fails, Gives, each}
use Rattle.run_record.specs.declared.fault.InputFault.{InputFault}
use Rattle.wf_commands.specs.Input.{listed_items}

-- what is read from the item at a place on
abbrev said_from : {S : Type 0} → (S → Data → Result S InputFault) → List Value → ℕ → S → Result S InputFault
said_from next vs i c = each next c (listed_items (items_view (drop i vs)))

item_next : {S : Type 0} (next : S → Data → Result S InputFault) (vs : List Value) (i : ℕ) (v : Value) (c : S) → i < length vs → v ≡ get_or vs i v
    → said_from next vs i c ≡ (next c (view v) >>= said_from next vs (i + 1))
item_next next vs i v c below is =
    ap (λ ds. each next c (listed_items (items_view ds))) (drop_more vs i v below ∙ ap (λ x. x ∷ drop (i + 1) vs) (sym is))

pub said_next : {S : Type 0} (next : S → Data → Result S InputFault) (vs : List Value) (i : ℕ) (v : Value) (c d : S) (whole : Result S InputFault)
    → i < length vs → v ≡ get_or vs i v
    → next c (view v) ≡ Ok d → said_from next vs i c ≡ whole → said_from next vs (i + 1) d ≡ whole
said_next next vs i v c d whole below is read before =
    sym (item_next next vs i v c below is ∙ ap (λ r. r >>= said_from next vs (i + 1)) read) ∙ before

fails_all : {S : Type 0} (next : S → Data → Result S InputFault) (vs : List Value) (i : ℕ) (v : Value) (c : S) (fault : Option InputFault)
    (whole : Result S InputFault) → i < length vs → v ≡ get_or vs i v
    → Fails fault (next c (view v)) → said_from next vs i c ≡ whole → Fails fault whole
fails_all next vs i v c None whole below is fails before = tt
fails_all next vs i v c (Some fault) whole below is fails before =
    sym before ∙ item_next next vs i v c below is ∙ ap (λ r. r >>= said_from next vs (i + 1)) fails

pub said_failed : {S X E : Type 0} (next : S → Data → Result S InputFault) (vs : List Value) (i : ℕ) (v : Value) (c : S)
    (fault_of : E → Option InputFault) (seen : X → S) (result : Result X E) (error : E) (whole : Result S InputFault)
    → IsErrAnd result (λ e. e ≡ error) → i < length vs → v ≡ get_or vs i v
    → Fails (fault_of error) (next c (view v)) → said_from next vs i c ≡ whole → Gives fault_of seen result whole
said_failed next vs i v c fault_of seen (Ok d) error whole same below is fails before = absurd same
said_failed next vs i v c fault_of seen (Err e) error whole same below is fails before =
    rw same (fails_all next vs i v c (fault_of error) whole below is fails before)

items_done : (vs : List Value) (i : ℕ) → length vs ≤ i → items_view (drop i vs) ≡ no_items
items_done [] zero h = refl
items_done [] (suc i) h = refl
items_done (x ∷ vs) zero h = absurd (omega (arith, h))
items_done (x ∷ vs) (suc i) h = items_done vs i (omega (arith, h))

pub said_done : {S : Type 0} (next : S → Data → Result S InputFault) (vs : List Value) (i : ℕ) (c : S) (whole : Result S InputFault) → length vs ≤ i
    → said_from next vs i c ≡ whole → whole ≡ Ok c
said_done next vs i c whole over before = sym before ∙ ap (λ ds. each next c (listed_items ds)) (items_done vs i over)
