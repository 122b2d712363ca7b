use Rattle.std.proofs.Common.{drop, ◌≡◌, ◌≤◌, ◌<◌, None, false, length, nat_lt, slice_index_or, true, subst, ap, arith}
use Rattle.std.proofs.lemmas.Grind.{common_steps}
use Rattle.wf_desk.specs.Desks.{DeskShape, next_job}
use Rattle.wf_desk.specs.Keeping.{HasNext}
use Rattle.wf_desk.proofs.NextJobs.{none_next, some_next}
use Rattle.wf_desk.proofs.desk.Desk.has_next.Goals as goal

pub returns : goal.returns
returns c =
    let known = rw (← c.self.view_is) at c.requires in
    let lane = c.args.lane in
    let place = slice_index_or c.self.inside.places lane 0 in
    let size = ap length c.batch_of.ensures in
    record {
      none = λ is. let test : nat_lt place (length c.batch_of.result.now) ≡ false = is in
          let past : length (drop c.self.inside.first c.self.inside.jobs) ≤ place = grind (arith, common_steps, test, size) in
          subst (λ (d : DeskShape). next_job d lane ≡ None) c.self.view_is (none_next _ c.self.inside.places lane c.self.invariant.desk known past);
      some = λ is. let test : nat_lt place (length c.batch_of.result.now) ≡ true = is in
          let within : place < length (drop c.self.inside.first c.self.inside.jobs) = grind (arith, common_steps, test, size) in
          subst (λ (d : DeskShape). HasNext d lane) c.self.view_is (some_next _ c.self.inside.places lane c.self.invariant.desk known within);
    }
