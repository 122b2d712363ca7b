-- The commands that answer once: each loads a policy, and writes one text.
use Rattle.std.specs.Prelude.{◌≡◌, ℕ, ◌+◌, ◌≤◌, List, [], length, Option, None, Some, MatchResult}
use Rattle.std.specs.Prelude.{MatchBool, nat_lt}
use Rattle.wf_outside.specs.Laws.Outside.{with_bytes, HasPart, HasTaken, HasTakenAtMost}
use Rattle.wf_outside.specs.Laws.Outside.{HasTakenCount}
use Rattle.wf_outside.specs.Laws.Outside.{IsAtEnd}
use Rattle.wf_names.specs.declared.limits.TheConstants.{POLICY_FILE_LIMIT}
use Rattle.policy_book.specs.Laws.Shapes.{PolicyShape}
use Rattle.policy_reader.specs.Files.{policy_of_file}
use Rattle.run_record.specs.declared.fault.RunFault.{RunFault}
use Rattle.run_record.specs.declared.fault.RunFault.TheVariants.{Nothing, Found, Policy}
use Rattle.run_record.specs.declared.fault.RunFault.TheVariants.{FileTooLong}
use Rattle.run_record.specs.Fault.{How, answered, unloaded, unread, unwritten, lacking, how_of}
use Rattle.run_record.specs.Fault.{When, early, midway, overlong, late, when_of, CountsReadsAlone}
use Rattle.run_record.specs.Report.{nothing_told}
use Rattle.run_record.specs.Laws.Run.{Run, IsOrderly, OverFile}
use Rattle.wf_commands.specs.Load.{EndsTooLong}

-- a run that is refused ends so, and writes nothing
abbrev pub Refuses : RunFault → RunFault → List ℕ → Type 0
Refuses expected fault text = (fault ≡ expected) × (text ≡ [])

-- what is answered for the policy in a file: one that is too long or has a fault is refused
abbrev pub OverPolicy : (PolicyShape → RunFault → List ℕ → Type 0) → List ℕ
    → RunFault → List ℕ → Type 0
OverPolicy Answers file fault text =
    MatchBool (nat_lt POLICY_FILE_LIMIT (length file)) (Refuses FileTooLong fault text)
    (MatchResult (policy_of_file file)
    (λ p. Answers p fault text) (λ e. Refuses (Policy e) fault text))

-- the endings of an answer that has a text to write
abbrev pub HasText : RunFault → Type 0
HasText Nothing = Unit {0}
HasText Found = Unit {0}
HasText fault = ⊥

-- what the sink holds after a run with these answers, by how it ended: where loading, reading or
-- memory failed, nothing more than before; after a write fault a part of one that has a text; and
-- else all of one
abbrev pub EndsSo : How → (RunFault → List ℕ → Type 0) → Option (List ℕ) → Option (List ℕ) →
    RunFault
    → Type 0
EndsSo unloaded Answers before after fault = after ≡ before
EndsSo unread Answers before after fault = after ≡ before
EndsSo lacking Answers before after fault = after ≡ before
EndsSo unwritten Answers before after fault =
    (ending : RunFault) × (text : List ℕ) × HasText ending × Answers ending text
    × HasPart before after text
EndsSo how Answers before after fault =
    (text : List ℕ) × Answers fault text × (after ≡ with_bytes before text)

abbrev pub Ends : (RunFault → List ℕ → Type 0) → Option (List ℕ) → Option (List ℕ) → RunFault
    → Type 0
Ends Answers before after fault = EndsSo (how_of fault) Answers before after fault

-- a run writes only where its command was done, or where writing failed
abbrev pub WritesBy : How → Option (List ℕ) → Option (List ℕ) → Type 0
WritesBy answered before after = Unit {0}
WritesBy unwritten before after = Unit {0}
WritesBy how before after = after ≡ before

abbrev pub IsQuiet : RunFault → Option (List ℕ) → Option (List ℕ) → Type 0
IsQuiet fault before after = WritesBy (how_of fault) before after

-- the answer of a run about the policy in a file; one that is told and too long ends it so
pub record AnswersOnce (policy : List ℕ) (Answers : PolicyShape → RunFault → List ℕ → Type 0)
    (r : Run) : Type 0 where
  pub answer : OverFile (r.files policy) r.fault
      (λ file. Ends (OverPolicy Answers file) r.before.output r.after.output r.fault)
  pub named : EndsTooLong POLICY_FILE_LIMIT (r.files policy) r.fault
  pub quiet : IsQuiet r.fault r.before.output r.after.output
  pub untold : r.told ≡ nothing_told
  pub reads : CountsReadsAlone r.fault r.before.read_faults r.after.read_faults

-- all of the input was read, to its end, and it is within the limit
pub record HasReadInput (limit : ℕ) (before after : Option (List ℕ)) : Type 0 where
  pub bytes : List ℕ
  pub taken : HasTaken before after bytes
  pub within : length bytes ≤ limit
  pub ended : IsAtEnd after

-- how much is read of an input with a limit, by when the run ends: nothing before it; no more than
-- shows that it is too long, while it is read; all that shows it, where it is; and else all of it
abbrev pub ReadsUpTo : ℕ → When → Option (List ℕ) → Option (List ℕ) → Type 0
ReadsUpTo limit early before after = after ≡ before
ReadsUpTo limit midway before after = HasTakenAtMost before after (limit + 1)
ReadsUpTo limit overlong before after = HasTakenCount before after (limit + 1)
ReadsUpTo limit late before after = HasReadInput limit before after

-- how much of the input is read by a command that reads it up to a limit, or that reads none
abbrev pub ReadsInput : Option ℕ → RunFault → Option (List ℕ) → Option (List ℕ) → Type 0
ReadsInput None fault before after = after ≡ before
ReadsInput (Some limit) fault before after = ReadsUpTo limit (when_of fault) before after

-- the run of a command that reads so much of the input, and answers once about the policy in a
-- file, by what is told of the input
pub record RunsOnce (limit : Option ℕ) (policy : List ℕ)
    (Answers : Option (List ℕ) → PolicyShape → RunFault → List ℕ → Type 0) (r : Run)
    : Type 0 where
  pub orderly : IsOrderly r
  pub once : AnswersOnce policy (Answers r.before.input) r
  pub reads : ReadsInput limit r.fault r.before.input r.after.input
