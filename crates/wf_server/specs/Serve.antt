-- Inside: the session of a policy.
use Rattle.policy_book.specs.Laws.Shapes.{PolicyShape}
use Rattle.line_reader.specs.Jobs.{start}
use Rattle.wf_board.specs.Laws.States.{opening_state}
use Rattle.wf_board.specs.Laws.Histories.{AreRightful}
use Rattle.entry_laws.specs.Laws.Fits.{FitLines}
use Rattle.entry_laws.specs.Laws.Transcripts.{texts_of}
use Rattle.run_record.specs.declared.fault.RunFault.{RunFault}
use Rattle.run_record.specs.Report.{Told}
use Rattle.run_record.specs.Laws.Run.{Streams}
use Rattle.command_words.specs.Laws.Words.{Options}
use Rattle.wf_server.specs.declared.serve.TheConstants.{PIECE}
use Rattle.wf_server.specs.Laws.Serving.{setting}
use Rattle.wf_server.specs.Sessions.{Served}

-- a policy was served: a session was, its entries are rightful, and the text of each fits a line of
-- an audit
pub record HasServedPolicy (p : PolicyShape) (options : Options) (before after : Streams)
    (told : Told) (fault : RunFault) : Type 0 where
  pub served : Served (setting p options) (start options.lanes) PIECE before after told fault
  pub wants : AreRightful told.entries
  pub fits : FitLines (texts_of (opening_state p) told.entries)
