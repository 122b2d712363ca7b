use Rattle.policy_reader.proofs.Prints.{arith, ◌≡◌, true, ℕ, ◌+◌, ap, ◌∙◌, sym, known_names, first_declared, name_at, with_member, relation_entry, is_name}
use Rattle.policy_reader.proofs.Writing.{table_more, one_further, known_named}
use Rattle.policy_reader.proofs.printed_rosters.relations_value.Goals as goal

pub relations-preserved : goal.relations-preserved
relations-preserved c =
    let entry = (λ (n : ℕ). relation_entry c.args.users.now.names c.args.relations.now (first_declared + n)) in
    let n = c.relations.n in (
      c.in_default.ensures.put ∙ ap (with_member (entry n).0 (entry n).1) c.relations.invariant.0 ∙ sym (table_more n entry),
      one_further (λ m. is_name (name_at (known_names c.args.relations.now) (first_declared + m)) ≡ true) n c.relations.invariant.1 c.in_default.ensures.form,
    )

pub returns-clause-named : goal.returns-clause-named
returns-clause-named c = known_named c.args.relations.now c.count-n-end.ensures.sound
    (λ n lt. c.relations.invariant.1 n (omega (arith, lt, c.relations-test.false, c.count-n-end.ensures.count)))
