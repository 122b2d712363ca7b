-- Inside: how it is told whether relations treat two users alike.
use Rattle.std.specs.Prelude.{◌≡◌, ℕ, Bool, true, false, ◌||◌, ◌==◌, List, Option, None, Some}
use Rattle.wf_names.specs.UserSets.{has_user}
use Rattle.constraint_forms.specs.declared.rule.Rule.{Rule}
use Rattle.constraint_forms.specs.Rules.{all_read, reads}

-- there are two rules, and the second reads no relation but those that the first reads
abbrev pub reads_as : Option Rule → Option Rule → Bool
reads_as None other = false
reads_as (Some rule) None = false
reads_as (Some rule) (Some other) = all_read other (reads rule)

-- whoever is in the first set is in the second, u and v aside
abbrev pub HasNoMoreThan : List ℕ → List ℕ → ℕ → ℕ → Type 0
HasNoMoreThan one other u v =
    (w : ℕ) → (w == u || w == v) ≡ false → has_user one w ≡ true → has_user other w ≡ true

-- two sets have the same users, u and v aside
abbrev pub AreSameBut : List ℕ → List ℕ → ℕ → ℕ → Type 0
AreSameBut one other u v = (w : ℕ) → (w == u || w == v) ≡ false → has_user one w ≡ has_user other w
