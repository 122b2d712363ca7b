use Rattle.std.proofs.Common.{◌≡◌, ℕ, List, Bool, false, None, Ok, Err, Result}
use Rattle.std.specs.Prelude.{IfOk}
use Rattle.serde_json.specs.Read.{read}
use Rattle.wire_json.specs.Values.{value_of}
use Rattle.wire_json.proofs.Asking.{value_of_none}
use Rattle.wire_json.proofs.request.may_be_value.Goals as goal

handed_on : {E : Type 0} (r : Result Bool E) (bytes text : List ℕ) → text ≡ bytes → IfOk r (λ b. b ≡ false → read text ≡ None) →
    IfOk r (λ b. b ≡ false → value_of bytes ≡ None)
handed_on (Ok b) bytes text same h = λ e. value_of_none bytes text same (h e)
handed_on (Err e) bytes text same h = tt

pub returns-in-Ok : goal.returns-in-Ok
returns-in-Ok c = handed_on c.may_be_json.result c.args.line.now c.in-Ok.text.now c.in-Ok.ensures.cases.0 c.may_be_json.ensures
