-- A list with room, as contracts see it.
use Rattle.std.specs.Prelude.{ℕ, List}
use Rattle.std.proofs.Common.{refl}
use Rattle.std.specs.Coded.{Coded, code_by, coded×, coded_list, coded_ℕ}

-- the entries in order, and how many more can be added before memory is asked for
pub record LogShape (T : Type 0) : Type 0 where
  pub entries : List T
  pub spare : ℕ

-- each such record is told from every other by what is kept of it
abbrev pub log_code : {T : Type 0} → Coded T → Coded (LogShape T)
log_code {T} c = code_by (List T × ℕ) (coded× (coded_list c) coded_ℕ)
    (λ l. (l.entries, l.spare)) (λ p. record { entries = p.0; spare = p.1 }) (λ _. refl)
