use Rattle.policy_reader.proofs.Prints.{subst, ap, ◌∙◌, RosterShape, IsSoundRoster, AreNames}
use Rattle.policy_reader.proofs.Writing.{on_ok}
use Rattle.policy_reader.proofs.document.fill.Goals as goal

pub returns-clause-named : goal.returns-clause-named
returns-clause-named c =
    let same = c.roster-roster.ensures.roster in
    on_ok c.put_admin.result _ (record {
      sound = c.put_admin.ensures.sound;
      roster = subst IsSoundRoster same c.roles.ensures.sound;
      roles = subst AreNames (c.roles.ensures.names ∙ ap (λ (r : RosterShape). r.roles) same) c.in_ok-put_names.ensures.named;
      users = subst (λ (r : RosterShape). AreNames r.users) same c.in_ok-put_users.ensures.named;
      relations = c.in_ok-put_relations.ensures.sound;
      related = c.in_ok-put_relations.ensures.named;
      flow_names = c.in_ok-put_flows.ensures.names;
      flows = c.in_ok-put_flows.ensures.named;
    })
