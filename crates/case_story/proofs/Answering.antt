-- How an answer stands for a wider one, and over the files.
use Rattle.std.proofs.Common.{◌≡◌, ℕ, Bool, true, false, List, [], Option, Result, Ok, Err, sym}
use Rattle.std.proofs.Common.{subst, inl, inr}
use Rattle.wf_outside.specs.Laws.Outside.{Filed, HasPart, with_bytes}
use Rattle.run_record.specs.declared.fault.RunFault.{RunFault}
use Rattle.run_record.specs.declared.fault.RunFault.TheVariants.{Nothing, Found, Write}
use Rattle.run_record.specs.Fault as ending
use Rattle.run_record.specs.Fault.{How, how_of}
use Rattle.wf_commands.specs.declared.answer.Answer.{Answer}
use Rattle.wf_commands.specs.Answer.{ending_with, AnswersAs, IsCommandEnding, RefusesSo}
use Rattle.wf_commands.specs.Once.{Ends}
use Rattle.wf_commands.proofs.Runs.{ends_refused}
use Rattle.case_story.specs.declared.session.Session.{Session}
use Rattle.transcript_commands.specs.Load.{FileNames}
use Rattle.case_story.specs.Transcript.{FindsRun, GivesServed, TellsRun}

refuses_wider : (A B : RunFault → List ℕ → Type 0) (how : How) (fault : RunFault) → ((f : RunFault) (text : List ℕ) → A f text → B f text) →
    RefusesSo how A fault → RefusesSo how B fault
refuses_wider A B ending.unloaded fault wider h = tt
refuses_wider A B ending.unread fault wider h = tt
refuses_wider A B ending.lacking fault wider h = tt
refuses_wider A B how fault wider h = wider fault [] h

-- what answers in one way answers in a wider one
pub answers_wider : (A B : RunFault → List ℕ → Type 0) (result : Result Answer RunFault) → ((f : RunFault) (text : List ℕ) → A f text → B f text) →
    AnswersAs A result → AnswersAs B result
answers_wider A B (Ok answer) wider h = wider (ending_with answer.found) answer.text.items h
answers_wider A B (Err fault) wider h = refuses_wider A B (how_of fault) fault wider h

-- an answer that is written as a whole
pub ends_whole : (A : RunFault → List ℕ → Type 0) (found : Bool) (text : List ℕ) (before after : Option (List ℕ)) → A (ending_with found) text →
    after ≡ with_bytes before text → Ends A before after (ending_with found)
ends_whole A true text before after h wrote = (text, h, wrote)
ends_whole A false text before after h wrote = (text, h, wrote)

pub told_whole : (files : List ℕ → Filed) (n : FileNames) (lanes rounds : ℕ) (T : Session → RunFault → List ℕ → Type 0) (answer : Answer)
    (before after : Option (List ℕ)) (fault : RunFault)
    → FindsRun files n lanes rounds T (Ok answer) → fault ≡ ending_with answer.found → after ≡ with_bytes before answer.text.items →
    TellsRun files n lanes rounds T before after fault
told_whole files n lanes rounds T answer before after fault finds is wrote =
    inr (
      finds.0,
      (
        finds.1.0,
        subst (λ f. Ends (T finds.0) before after f) (sym is) (ends_whole (T finds.0) answer.found answer.text.items before after finds.1.1 wrote),
      ),
    )

-- an answer that is written in part
pub ends_part : (A : RunFault → List ℕ → Type 0) (found : Bool) (text : List ℕ) (before after : Option (List ℕ)) → A (ending_with found) text →
    HasPart before after text → Ends A before after Write
ends_part A true text before after h part = (Found, text, tt, h, part)
ends_part A false text before after h part = (Nothing, text, tt, h, part)

pub told_part : (files : List ℕ → Filed) (n : FileNames) (lanes rounds : ℕ) (T : Session → RunFault → List ℕ → Type 0) (answer : Answer)
    (before after : Option (List ℕ))
    → FindsRun files n lanes rounds T (Ok answer) → HasPart before after answer.text.items → TellsRun files n lanes rounds T before after Write
told_part files n lanes rounds T answer before after finds part =
    inr (finds.0, (finds.1.0, ends_part (T finds.0) answer.found answer.text.items before after finds.1.1 part))

-- nothing is written
pub told_none : (files : List ℕ → Filed) (n : FileNames) (lanes rounds : ℕ) (T : Session → RunFault → List ℕ → Type 0) (before after : Option (List ℕ))
    (fault : RunFault)
    → FindsRun files n lanes rounds T (Err fault) → IsCommandEnding fault → after ≡ before → TellsRun files n lanes rounds T before after fault
told_none files n lanes rounds T before after fault finds ends same = elim finds [
  | inl early ↦ inl (early.0, (early.1, same))
  | inr late ↦ inr (late.0, (late.1.0, ends_refused (T late.0) before after fault ends late.1.1 same))
]

-- what is told of a session that the files give
pub found_all : (files : List ℕ → Filed) (n : FileNames) (lanes rounds : ℕ) (T : Session → RunFault → List ℕ → Type 0) (s : Session)
    (result : Result Answer RunFault)
    → GivesServed files n lanes rounds s → AnswersAs (T s) result → FindsRun files n lanes rounds T result
found_all files n lanes rounds T s (Ok answer) gives h = (s, (gives, h))
found_all files n lanes rounds T s (Err fault) gives h = inr (s, (gives, h))
