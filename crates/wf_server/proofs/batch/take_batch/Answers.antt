use Rattle.std.proofs.Common.{◌≡◌, ℕ, ◌+◌, ◌<◌, [], ◌∷◌, ◌++◌, length, take, ap, subst, ◌∙◌}
use Rattle.wf_desk.specs.Desks.{DeskShape, jobs_told}
use Rattle.wf_server.proofs.BatchLaws.{end_added, ends_back, told_back}
use Rattle.wf_server.proofs.batch.take_batch.Goals as goal

pub returns-in-Ok-clause-added : goal.returns-in-Ok-clause-added
returns-in-Ok-clause-added c =
    let old = c.args.told.now.batch_ends in
    let new = c.add_end.new.ends in
    let batch = c.args.batch.now in
    record {
      jobs = ap (λ (d : DeskShape). jobs_told d) c.in-Ok.ensures.loaded;
      ends = end_added old new (jobs_told c.args.desk.now) batch c.in_ok-add_end.ensures.none
          (subst (λ (n : ℕ). 0 < length batch → new ≡ old ++ (n + length batch) ∷ []) c.count_told.ensures c.in_ok-add_end.ensures.some);
    }

pub returns-in-Err-clause-stay : goal.returns-in-Err-clause-stay
returns-in-Err-clause-stay c =
    let old = c.args.told.now.batch_ends in
    let mid = c.add_end.new.ends in
    let ends : c.truncate.new.self ≡ old =
    c.truncate.ensures ∙ ap (λ n. take n mid) c.len-ends.ensures
    ∙ ends_back old mid (c.count_told.result + length c.args.batch.now) (length c.args.batch.now) c.in_ok-add_end.ensures.none c.in_ok-add_end.ensures.some in
    told_back c.args.desk.now c.load_batch.new.self c.args.told.now (record { batch_ends = c.truncate.new.self }) _ _ c.in-Err.ensures.unchanged ends
