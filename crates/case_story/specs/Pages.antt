-- Which cases have a page.
use Rattle.std.specs.Prelude.{ℕ, Bool, false, nat_lt, length, Option, None, Some}
use Rattle.policy_book.specs.Laws.Shapes.{PolicyShape}
use Rattle.case_record.specs.Cases.{CaseShape}
use Rattle.grant_table.specs.Cases.{CasesShape, case_at}

-- it is a case of a workflow of the policy
abbrev pub is_of : PolicyShape → Option CaseShape → Bool
is_of p None = false
is_of p (Some c) = nat_lt c.flow (length p.flows)

-- there is a case with this number, of a workflow of the policy
abbrev pub has_page : PolicyShape → CasesShape → ℕ → Bool
has_page p cases n = is_of p (case_at cases n)
