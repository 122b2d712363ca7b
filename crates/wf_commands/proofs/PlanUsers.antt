-- A plan that has one more user.
use Rattle.std.proofs.Common.{◌≡◌, ℕ, ◌+◌, ◌<◌, List, length, arith, ap, ◌∙◌}
use Rattle.std.proofs.lemmas.List.{get_or_append_left, get_or_push, length_push}
use Rattle.wf_commands.specs.Input.{AreAmong, HasOneMoreUser}

pub more_length : (n : ℕ) (before after : List ℕ) → HasOneMoreUser n before after → length after ≡ length before + 1
more_length n before after more = ap length more.pushed ∙ length_push before more.user

pub more_among : (n : ℕ) (before after : List ℕ) → HasOneMoreUser n before after → AreAmong n before → AreAmong n after
more_among n before after more are s below =
    let known = more.known in let is = more.pushed in let old = are s in grind (arith, get_or_append_left, get_or_push, length_push)
