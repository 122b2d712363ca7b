use Rattle.std.proofs.Common.{◌≡◌, drop, rules, sym, subst}
use Rattle.policy_book.specs.Laws.Facts.{IsSoundPolicy}
use Rattle.wf_board.specs.Laws.States.{opening_state}
use Rattle.wf_board.specs.Laws.Histories.{AreRightful, IsLegal}
use Rattle.trial_command.specs.Policy.{trial_policy}
use Rattle.trial_command.proofs.session.serve_trial.Goals as goal

pub returns : goal.returns
returns g c =
    let sound : IsSoundPolicy (trial_policy c.args.seed) = search rules in
    let legal : IsLegal (opening_state (trial_policy c.args.seed)) 0 c.into_parts-entries.result.1.entries = search rules in
    let restored : c.serve_batches.new.desk.restored ≡ 0 = search rules in
    let wants : AreRightful c.into_parts-entries.result.1.entries =
    subst AreRightful (sym c.into_parts-entries.ensures.entries)
    (subst (λ n. AreRightful (drop n c.serve_batches.new.desk.entries)) restored c.into_parts-entries.ensures.sound.wants) in
    record {
      jobs = search rules;
      ends = search rules;
      legal = legal;
      fills = search rules;
      turns = search rules;
      once = search rules;
      wants = wants;
      exact = c.histories_are_exact.ensures (trial_policy c.args.seed) 0 c.into_parts-entries.result.1.entries sound legal;
      kept = c.histories_keep_completable.ensures (trial_policy c.args.seed) 0 c.into_parts-entries.result.1.entries sound legal;
    }
