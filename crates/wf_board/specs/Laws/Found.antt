-- What is known of a deed: its numbers are those of things that are there.
use Rattle.std.specs.Prelude.{◌≡◌, ℕ, ◌<◌, true, List, length, Some, Ok}
use Rattle.policy_book.specs.Laws.Shapes.{PolicyShape}
use Rattle.case_record.specs.Cases.{CaseShape, is_open}
use Rattle.grant_table.specs.declared.rows.Row.{Row}
use Rattle.grant_table.specs.Cases.{case_in}
use Rattle.admin_edits.specs.declared.amendment.Amendment.{Amendment}
use Rattle.admin_edits.specs.Laws.Edits.{allowed}
use Rattle.admin_edits.specs.Amendment as edits
use Rattle.wf_board.specs.declared.deed.Deed.{Deed}
use Rattle.wf_board.specs.declared.deed.Duty.{Duty}
use Rattle.wf_board.specs.declared.deed.Deed.TheVariants.{Open, Claim, Finish, GiveBack, Release}
use Rattle.wf_board.specs.declared.deed.Deed.TheVariants.{Withdraw, Change, Show, Work, WhatIf}
use Rattle.wf_board.specs.declared.deed.Deed.TheVariants.{TurnAway}
use Rattle.wf_board.specs.Laws.Kept.{IsOfPolicy}

-- an open case stands at its number, and is of the policy
pub record IsOpenAt (p : PolicyShape) (rows : List Row) (n : ℕ) (c : CaseShape) : Type 0 where
  pub found : case_in n rows ≡ Some c
  pub live : is_open c ≡ true
  pub known : IsOfPolicy p c

-- an open case, one of its steps, and a user of the policy
pub record AreFound (p : PolicyShape) (rows : List Row) (d : Duty) : Type 0 where
  pub case : IsOpenAt p rows d.number d.case
  pub step : d.step < length d.case.states
  pub user : d.user < length p.roster.users

-- a change of the policy names what is there, and has no fault
pub record IsAllowed (p : PolicyShape) (a : Amendment) : Type 0 where
  pub found : edits.IsKnownChange p a
  pub allowed : allowed p a ≡ Ok tt

-- the numbers of a deed are those of things that are there
abbrev pub IsFound : PolicyShape → List Row → Deed → Type 0
IsFound p rows (Open f) = f < length p.flows
IsFound p rows (Claim d) = AreFound p rows d
IsFound p rows (Finish d) = AreFound p rows d
IsFound p rows (GiveBack d) = AreFound p rows d
IsFound p rows (Release n c s) = IsOpenAt p rows n c × (s < length c.states)
IsFound p rows (Withdraw n) = (c : CaseShape) × IsOpenAt p rows n c
IsFound p rows (Change a) = IsAllowed p a
IsFound p rows (Show c) = IsOfPolicy p c
IsFound p rows (Work u) = u < length p.roster.users
IsFound p rows (WhatIf a) = IsAllowed p a
IsFound p rows (TurnAway bad) = Unit {0}
