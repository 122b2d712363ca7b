use Rattle.std.proofs.Common.{◌≡◌, vec_capacity, vec_len}
use Rattle.grant_table.specs.Cases.{replanned}
use Rattle.grant_table.proofs.Replanning.{replanned_so_far}
use Rattle.grant_table.proofs.rows.replan.Given as goal

-- the rows so far have their plans, and the others get those that are left
abbrev pub invariant-rows : goal.invariant-rows
invariant-rows l = record {
  len : vec_len l.rows ≡ vec_len l.fn.rows;
  capacity : vec_capacity l.rows ≡ vec_capacity l.fn.rows;
  done : replanned_so_far l.rows.items l.i l.plans l.next ≡ replanned l.fn.rows.items l.plans;
}
