-- How a session stands over the file of its policy.
use Rattle.wf_server.proofs.Common.{◌≡◌, ℕ, List, false, Ok, Err, inr, arith, Filed, PolicyShape, IsFilePolicy, RunFault, is_before_input, CountsLoads, Run}
use Rattle.wf_server.proofs.Common.{IsUntouched, start, Served, opening_state, AreRightful, FitLines, texts_of, AreOptions, Options}
use Rattle.wf_outside.specs.Laws.Outside.{told, missing, untold}
use Rattle.run_record.specs.Laws.Run.{OverFile}
use Rattle.wf_commands.specs.Load.{GivesPolicy, IsLoadEnding}
use Rattle.wf_server.specs.declared.serve.TheConstants.{PIECE}
use Rattle.wf_server.specs.Laws.Serving.{setting, ServesFile, ServesRun}

-- and so the run ended
pub refused_run : (policy : List ℕ) (options : Options) (r : Run) (fault : RunFault) → r.fault ≡ fault → GivesPolicy (r.files policy) (Err fault) →
    IsLoadEnding fault → IsUntouched r
    → CountsLoads fault r.load_faults r.load_faults_after → r.after.read_faults ≡ r.before.read_faults → r.after.write_faults ≡ r.before.write_faults →
    AreOptions options
    → ServesRun policy options r
refused_run policy options r fault is gives ending nothing loads reads writes limits =
    grind arith

-- the policy was there, and was served
pub is_served : (f : Filed) (p : PolicyShape) (options : Options) (r : Run) → GivesPolicy f (Ok p) → IsFilePolicy p
    → Served (setting p options) (start options.lanes) PIECE r.before r.after r.told r.fault → AreRightful r.told.entries
    → FitLines (texts_of (opening_state p) r.told.entries) → OverFile f r.fault (λ file. ServesFile file options r)
is_served untold p options r gives sound served wants fits =
    (gives.0, inr (record { policy = p; within = gives.1.0; read = gives.1.1; sound = sound; served = served; wants = wants; fits = fits }))
is_served missing p options r gives sound served wants fits = cc
is_served (told file) p options r gives sound served wants fits =
    inr (record { policy = p; within = gives.0; read = gives.1; sound = sound; served = served; wants = wants; fits = fits })

-- a session does not end with a load fault
pub loads_late : (fault : RunFault) (before after : ℕ) → is_before_input fault ≡ false → after ≡ before → CountsLoads fault before after
loads_late fault before after late same = grind arith
