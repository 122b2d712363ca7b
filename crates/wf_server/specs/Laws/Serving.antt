-- The command `serve`, from its policy file on.
use Rattle.std.specs.Prelude.{◌≡◌, ℕ, ◌<◌, ◌≤◌, List, length, Ok, Err}
use Rattle.std.proofs.Common.{◌⊎◌}
use Rattle.wf_names.specs.declared.limits.TheConstants.{POLICY_FILE_LIMIT}
use Rattle.policy_book.specs.Laws.Shapes.{PolicyShape}
use Rattle.policy_reader.specs.File.{IsFilePolicy}
use Rattle.policy_reader.specs.Files.{policy_of_file}
use Rattle.run_record.specs.declared.fault.RunFault.{RunFault}
use Rattle.run_record.specs.declared.fault.RunFault.TheVariants.{Policy, Load, NoMemory}
use Rattle.run_record.specs.declared.fault.RunFault.TheVariants.{FileTooLong}
use Rattle.run_record.specs.Laws.Run.{Run, IsUntouched, IsOrderly, OverFile}
use Rattle.line_reader.specs.Jobs.{start}
use Rattle.wf_server.specs.declared.serve.TheConstants.{PIECE}
use Rattle.wf_board.specs.Laws.States.{opening_state}
use Rattle.wf_board.specs.Laws.Histories.{AreRightful}
use Rattle.entry_laws.specs.Laws.Fits.{FitLines}
use Rattle.entry_laws.specs.Laws.Transcripts.{texts_of}
use Rattle.wf_server.specs.Sessions.{Served, Setting}
use Rattle.command_words.specs.Laws.Words.{AreOptions, Options}

-- how a run may end before its session: the file is too long, or has a fault; one that is not too
-- long may fail to load, or lack memory
abbrev pub EndsBefore : List ℕ → RunFault → Type 0
EndsBefore file FileTooLong = POLICY_FILE_LIMIT < length file
EndsBefore file (Policy fault) = (length file ≤ POLICY_FILE_LIMIT) ×
    (policy_of_file file ≡ Err fault)
EndsBefore file Load = length file ≤ POLICY_FILE_LIMIT
EndsBefore file NoMemory = length file ≤ POLICY_FILE_LIMIT
EndsBefore file fault = ⊥

-- a policy is served as the options ask
abbrev pub setting : PolicyShape → Options → Setting
setting p options =
    record { policy = p; lanes = options.lanes; rounds = options.rounds; restored = 0 }

-- the policy of a file is served; only an opening, a claim, an edit or a view over the open cases
-- is answered with want of memory; and the text of each entry fits a line of an audit
pub record ServesPolicy (file : List ℕ) (options : Options) (r : Run) : Type 0 where
  pub policy : PolicyShape
  pub within : length file ≤ POLICY_FILE_LIMIT
  pub read : policy_of_file file ≡ Ok policy
  pub sound : IsFilePolicy policy
  pub served : Served (setting policy options) (start options.lanes) PIECE r.before r.after
      r.told r.fault
  pub wants : AreRightful r.told.entries
  pub fits : FitLines (texts_of (opening_state policy) r.told.entries)

-- a run over a policy file ends before its session, or serves the policy
abbrev pub ServesFile : List ℕ → Options → Run → Type 0
ServesFile file options r = (EndsBefore file r.fault × IsUntouched r) ⊎ ServesPolicy file options r

-- a run of `serve` with a policy file and options
pub record ServesRun (policy : List ℕ) (options : Options) (r : Run) : Type 0 where
  pub within : AreOptions options
  pub serves : OverFile (r.files policy) r.fault (λ file. ServesFile file options r)
  pub orderly : IsOrderly r
