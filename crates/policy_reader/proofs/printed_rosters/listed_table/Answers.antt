use Rattle.policy_reader.proofs.Prints.{length}
use Rattle.std.proofs.Common.{rules}
use Rattle.policy_reader.proofs.Rows.{all_below, listed_rows}
use Rattle.policy_reader.specs.Documents.{kind_members}
use Rattle.policy_book.proofs.Keeping.{pairs_of_users}
use Rattle.policy_reader.proofs.printed_rosters.listed_table.Goals as goal

pub pairs_value-requires : goal.pairs_value-requires
pairs_value-requires c =
    let n = length c.args.users.now.names in
    record {
      within = rw c.deref.ensures.value
          (all_below n c.in_ok-pairs.pairs.items (rw c.in_ok-pairs.ensures.pairs (pairs_of_users n c.args.relations.now c.args.rho c.requires)));
    }

pub returns : goal.returns
unfolding kind_members
returns c =
    let n = length c.args.users.now.names in
    rw (
      ← listed_rows n _ c.in_ok-pairs.pairs.items c.in_ok-pairs.ensures.ascending c.in_ok-pairs.ensures.pairs
          (pairs_of_users n c.args.relations.now c.args.rho c.requires),
      ← c.deref.ensures.value,
      ← c.in_ok-listed.ensures,
    ) (search rules)
