-- What every command tells of a transcript.
use Rattle.std.specs.Prelude.{◌≡◌, ℕ, zero, suc, ◌+◌, Bool, true, false, ◌||◌, nat_lt, List, []}
use Rattle.std.specs.Prelude.{◌++◌, length, Option, None, Some, Ok, MatchBool, if◌then◌else◌, codes}
use Rattle.policy_book.specs.Laws.Shapes.{PolicyShape}
use Rattle.policy_book.specs.Policies.{any_below, flow_at}
use Rattle.policy_reader.specs.Files.{document_in, policy_of_file}
use Rattle.policy_reader.specs.Laws.Printable.{IsPrintable}
use Rattle.policy_reader.specs.Documents.{document_of, name_at}
use Rattle.wf_talk.specs.declared.entry.Entry.{Entry}
use Rattle.line_reader.specs.Reader.{lines_of}
use Rattle.run_record.specs.declared.fault.RunFault.{RunFault}
use Rattle.run_record.specs.declared.fault.RunFault.TheVariants.{Nothing, Found, LineTooLong}
use Rattle.run_record.specs.declared.fault.RunFault.TheVariants.{BadInput}
use Rattle.run_record.specs.declared.fault.InputFault.TheVariants as input
use Rattle.wf_commands.specs.Answer.{ending_with}
use Rattle.wf_commands.specs.Once.{Refuses}
use Rattle.case_story.specs.declared.session.Session.{Session}
use Rattle.case_story.specs.declared.verdict.Verdict.{Verdict}
use Rattle.case_story.specs.declared.verdict.Verdict.TheVariants.{Legal, Fault, TooLong}
use Rattle.case_story.specs.Sessions.{AreFirst, audit_in, state_of}
use Rattle.case_story.specs.Verdicts.{EndsInVerdict, is_wrong, right_lines, verdict_words}

-- the first line: what the audit finds, behind a mark and before an end
abbrev pub verdict_line : List ℕ → Verdict → List ℕ → List ℕ
verdict_line mark v end = mark ++ verdict_words v ++ end

-- a text begins with this line
abbrev pub BeginsWith : List ℕ → Verdict → List ℕ → List ℕ → Type 0
BeginsWith mark v end text = (rest : List ℕ) × (text ≡ verdict_line mark v end ++ rest)

-- what is told by a verdict: where the transcript is legal the run ends well, if what is asked for
-- is there, and is refused else; where a line is wrong, that is found; one that is too long ends
-- the run
abbrev pub TellsBy : List ℕ → Verdict → List ℕ → Bool → RunFault → List ℕ → Type 0
TellsBy mark (Legal n) end true fault text = (fault ≡ Nothing) × BeginsWith mark (Legal n) end text
TellsBy mark (Legal n) end false fault text = Refuses (BadInput input.Length) fault text
TellsBy mark (Fault n kind) end there fault text = (fault ≡ Found) ×
    BeginsWith mark (Fault n kind) end text
TellsBy mark (TooLong n) end there fault text = Refuses (LineTooLong n) fault text

-- the verdict of the transcript of a session
abbrev pub Finds : Session → Verdict → Type 0
Finds s v = EndsInVerdict (audit_in s) (lines_of s.transcript) v

-- `log`: the entries
abbrev pub TellsLog : Session → RunFault → List ℕ → Type 0
TellsLog s fault text = (v : Verdict) × (Finds s v × TellsBy [] v (codes "\n") true fault text)

-- `entry`: one entry, if more lines are right than stand before it
abbrev pub TellsEntry : ℕ → Session → RunFault → List ℕ → Type 0
TellsEntry at s fault text = (v : Verdict) ×
    (Finds s v × TellsBy [] v (codes "\n") (nat_lt at (right_lines v)) fault text)

-- `page`: one case, if one was opened with this number by the entries that are right
pub record TellsPage (number : ℕ) (s : Session) (fault : RunFault) (text : List ℕ) : Type 0 where
  pub verdict : Verdict
  pub finds : Finds s verdict
  pub entries : List Entry
  pub first : AreFirst s (right_lines verdict) entries
  pub tells : TellsBy (codes "<!-- ") verdict (codes " -->\n")
      (nat_lt number (state_of s entries).book.ever) fault text

-- the lines that say which of the first n workflows are retired, which a policy file cannot say
abbrev pub retired_line : PolicyShape → ℕ → List ℕ
retired_line p f =
    if (flow_at p f).retired then codes "# workflow " ++ name_at p.flow_names f ++ codes
    " is retired, which a policy file cannot say\n" else []

abbrev pub retired_lines : PolicyShape → ℕ → List ℕ
retired_lines p zero = []
retired_lines p (suc f) = retired_lines p f ++ retired_line p f

-- some workflow is retired
abbrev pub has_retired : PolicyShape → Bool
has_retired p = any_below (length p.flows) (λ f. (flow_at p f).retired)

-- a text is the document that a policy is written as, and reads as the policy where it can be
-- printed
pub record WritesPolicy (p : PolicyShape) (text : List ℕ) : Type 0 where
  pub document : document_in text ≡ Ok (document_of p)
  pub reads_back : IsPrintable p → policy_of_file text ≡ Ok p

-- behind the first line, and the lines that say what it cannot hold, the policy after the first n
-- entries is written
pub record WritesNow (n : ℕ) (s : Session) (v : Verdict) (fault : RunFault) (text : List ℕ) :
    Type 0 where
  pub entries : List Entry
  pub first : AreFirst s n entries
  pub document : List ℕ
  pub written : WritesPolicy (state_of s entries).book.policy document
  pub parts : let p = (state_of s entries).book.policy in
      text ≡ verdict_line (codes "# ") v (codes "\n")
      ++ retired_lines p (length p.flows) ++ document
  pub ending : fault ≡ ending_with (is_wrong v || has_retired (state_of s entries).book.policy)

-- whether the policy is asked for after an entry that is right, or after all that are
abbrev pub is_asked_after : Option ℕ → ℕ → Bool
is_asked_after None n = true
is_asked_after (Some at) n = nat_lt at n

abbrev pub is_told : Option ℕ → Verdict → Bool
is_told at (Legal n) = is_asked_after at n
is_told at (Fault n kind) = is_asked_after at n
is_told at (TooLong n) = false

-- after how many entries
abbrev pub lines_to : Option ℕ → Verdict → ℕ
lines_to None v = right_lines v
lines_to (Some at) v = at + 1

-- `now`: the policy after an entry, or after all; where it is not there, or a line is too long, as
-- for every command
abbrev pub TellsNow : Option ℕ → Session → RunFault → List ℕ → Type 0
TellsNow at s fault text = (v : Verdict) × (Finds s v ×
    MatchBool (is_told at v) (WritesNow (lines_to at v) s v fault text)
    (TellsBy (codes "# ") v (codes "\n") false fault text))
