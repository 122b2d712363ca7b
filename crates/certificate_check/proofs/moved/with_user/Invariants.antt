use Rattle.std.proofs.Common.{◌≡◌, length, take}
use Rattle.wf_names.specs.declared.limits.TheConstants.{STEP_LIMIT}
use Rattle.certificate_check.proofs.moved.with_user.Given as goal

-- the users of the steps so far
abbrev pub invariant-steps : goal.invariant-steps
invariant-steps l = record {
  sized : length l.users ≡ STEP_LIMIT;
  front : take l.s l.users ≡ take l.s l.plan;
}
