use Rattle.std.proofs.Common.{◌≡◌, ◌≤◌, ◌+◌, ◌-◌, ◌*◌, ℕ, [], true}
use Rattle.constraint_forms.specs.Assign.{is_member}
use Rattle.policy_book.specs.Laws.Refuting.{all_refute}
use Rattle.certificate_check.specs.Walks.{AreUsersBelow}
use Rattle.wsp_solver.specs.Crews.{IsCrewOf}
use Rattle.wsp_solver.specs.Searches.{AreOfUsersBelow, AreMentionedIn, free_count}
use Rattle.wsp_solver.specs.Task.{asked}
use Rattle.wsp_solver.proofs.search.+search.Given as goal

abbrev pub decreases-decide : goal.decreases-decide
decreases-decide l = 3 * free_count l.a.now (asked l.task.now).steps + 1

abbrev pub decreases-try_users : goal.decreases-try_users
decreases-try_users l = 3 * free_count l.a.now (asked l.task.now).steps

abbrev pub decreases-try_user : goal.decreases-try_user
decreases-try_user l = 3 * free_count l.a.now (asked l.task.now).steps + 2

abbrev pub invariant-try_users-users : goal.invariant-try_users-users
invariant-try_users-users l =
    AreOfUsersBelow ((asked l.task).authorised l.s) l.from (asked l.task).users l.branches ×
    (all_refute (asked l.task) l.a l.task.done.now l.s [] l.branches ≡ true) ×
    AreMentionedIn (asked l.task).rules l.branches l.steps ×
    AreUsersBelow l.from l.branches ×
    IsCrewOf (asked l.task) l.crew ×
    ((t : ℕ) → is_member l.last t ≡ true → is_member l.steps t ≡ true) ×
    (l.from ≤ (asked l.task).users)

abbrev pub decreases-try_users-users : goal.decreases-try_users-users
decreases-try_users-users l = (asked l.task).users - l.from
