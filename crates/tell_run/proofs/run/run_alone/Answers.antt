use Rattle.std.proofs.Common.{refl, inl, inr}
use Rattle.run_record.specs.declared.fault.RunFault.TheVariants.{Nothing}
use Rattle.tell_run.proofs.run.run_alone.Goals as goal

pub returns-in-Ok-put_and_flush-clause-runs : goal.returns-in-Ok-put_and_flush-clause-runs
returns-in-Ok-put_and_flush-clause-runs g c =
    rw c.with_fault-in-Ok-put_and_flush.ensures
    (inr (
      record { unread = refl; loads = refl; writes = c.in-Ok-put_and_flush.ensures.stays },
      inl (c.as_bytes.result.now, (c.as_bytes.result.now, (refl, refl), c.in-Ok-put_and_flush.ensures.all)),
    ))

pub returns-in-Err-Help-clause-runs : goal.returns-in-Err-Help-clause-runs
returns-in-Err-Help-clause-runs g c =
    rw c.with_fault-in-Err.ensures
    (inr (
      record { unread = refl; loads = refl; writes = c.in-Err.ensures.rose },
      inl (c.as_bytes.result.now, (Nothing, c.as_bytes.result.now, tt, (refl, refl), c.in-Err.ensures.part)),
    ))
