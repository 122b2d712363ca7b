-- Inside: the finished steps of a case have users.
use Rattle.std.specs.Prelude.{ℕ, Bool, List, Option, IsTrue, is_some}
use Rattle.constraint_forms.specs.Assign.{is_member, user_at}

-- each finished step has a user
abbrev pub HaveUsers : List Bool → List (Option ℕ) → Type 0
HaveUsers finished assigned = (s : ℕ) → IsTrue (is_member finished s) → IsTrue
    (is_some (user_at assigned s))
