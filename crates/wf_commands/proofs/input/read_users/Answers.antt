use Rattle.std.proofs.Common.{◌+◌, length, ap, ◌∙◌}
use Rattle.wf_commands.specs.Input.{input_fault, next_in_plan}
use Rattle.wf_commands.proofs.PlanUsers.{more_among, more_length}
use Rattle.wf_commands.proofs.StatesSaid.{said_done, said_failed, said_next}
use Rattle.wf_commands.proofs.input.read_users.Goals as goal

pub users-preserved : goal.users-preserved
users-preserved c =
    let more = c.in_ok-read_user.ensures.pushed in
    record {
      read = said_next (next_in_plan c.args.p.now) c.args.items.now c.users.item-index c.item-item.result c.users.users.items c.read_user.new.users.items _
          c.users-test.true c.item-item.is c.in_ok-read_user.ensures.user c.users.invariant.read;
      whole = more_length (length c.args.p.now.roster.users) _ _ more ∙ ap (λ n. n + 1) c.users.invariant.whole;
      known = more_among (length c.args.p.now.roster.users) _ _ more c.users.invariant.known;
    }

pub returns-in_err-read_user-clause-users : goal.returns-in_err-read_user-clause-users
returns-in_err-read_user-clause-users c =
    said_failed (next_in_plan c.args.p.now) c.args.items.now c.users.item-index c.item-item.result c.users.users.items input_fault (λ users. users.items)
    c.from_residual.result c.in_err-read_user.field-0.0 _ c.from_residual.ensures.1 c.users-test.true c.item-item.is c.in_err-read_user.ensures.user
    c.users.invariant.read

pub returns-clause-users : goal.returns-clause-users
returns-clause-users c =
    said_done (next_in_plan c.args.p.now) c.args.items.now c.users.item-index c.users.users.items _ c.users-test.false c.users.invariant.read
