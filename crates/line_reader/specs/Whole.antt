-- Inside: how a whole text is cut.
use Rattle.std.specs.Prelude.{◌≡◌, ℕ, List, []}
use Rattle.wf_talk.specs.declared.job.Job.{Job}
use Rattle.line_reader.specs.Jobs.{Cut, start, cut_all}
use Rattle.line_reader.specs.Cutter.{IsSound, after_handing}

-- these bytes are cut: some jobs with the ends of their batches are taken out, and no batch is
-- ended in what the cutter keeps
pub record HasCutUp (lanes : ℕ) (jobs : List Job) (batch_ends : List ℕ) (c : Cut)
    (bytes : List ℕ) : Type 0 where
  pub cut : after_handing jobs batch_ends c ≡ cut_all (start lanes) bytes
  pub sound : IsSound c
  pub handed : c.ends ≡ []
