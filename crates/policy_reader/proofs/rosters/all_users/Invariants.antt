use Rattle.policy_reader.proofs.Words.{◌≡◌, table_view, each, entries, next_user}
use Rattle.policy_reader.proofs.Fresh.{IsLeft}
use Rattle.policy_reader.proofs.rosters.all_users.Given as goal

abbrev pub invariant-entries : goal.invariant-entries
invariant-entries l =
    IsLeft next_user (λ r. r.users) l.fn.users.entries (each next_user l.fn.roster (entries (table_view l.fn.users))) l.roster l.key-iterator
    × (l.roster.roles ≡ l.fn.roster.roles)
