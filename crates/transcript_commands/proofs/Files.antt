-- How a run stops at its files, or goes on.
use Rattle.transcript_commands.proofs.Common.{◌≡◌, ℕ, true, List, Option, None, Some, Ok, Err, inl, inr, sym, subst, ◌∙◌, arith, REQUESTS_FILE_LIMIT, Filed}
use Rattle.transcript_commands.proofs.Common.{told, missing, untold, PolicyShape, CutText, Cut, jobs_of_input, lines_of, RunFault, CountsLoads, GivesPolicy}
use Rattle.transcript_commands.proofs.Common.{first_long, whole_lines, IsCutOf}
use Rattle.policy_reader.specs.File.{IsFilePolicy}
use Rattle.line_reader.specs.declared.stop.Stop.{Stop}
use Rattle.run_record.specs.declared.fault.RunFault.TheVariants.{LineTooLong}
use Rattle.run_record.specs.Fault.{refused, how_of, LoadsSo}
use Rattle.wf_commands.specs.Load.{GivesBytes}
use Rattle.transcript_commands.specs.Load.{GivesCut, FileNames, OverBoth, OverFiled, OverFiles, OverLong, GoesOverPolicy, OverRequests, OverStop}
use Rattle.transcript_commands.specs.Load.{GoesOverText}
use Rattle.transcript_commands.specs.Load.{OverTranscript, OverTranscriptFile, ending_at}

-- ---- the policy file

pub policy_fails : (Stops : RunFault → Type 0) (Goes : PolicyShape → Type 0) (filed : Filed) (fault : RunFault) → GivesPolicy filed (Err fault) →
    Stops fault → OverFiled Stops (GoesOverPolicy Stops Goes) filed
policy_fails Stops Goes filed fault gives stops = grind arith

pub policy_there : (Stops : RunFault → Type 0) (Goes : PolicyShape → Type 0) (filed : Filed) (p : PolicyShape) → GivesPolicy filed (Ok p) → IsFilePolicy p →
    Goes p → OverFiled Stops (GoesOverPolicy Stops Goes) filed
policy_there Stops Goes untold p gives sound goes = (gives.0, inr (p, (gives.1, (sound, goes))))
policy_there Stops Goes missing p gives sound goes = cc
policy_there Stops Goes (told file) p gives sound goes = inr (p, (gives, (sound, goes)))

-- ---- another file

pub text_fails : (limit : ℕ) (Stops : RunFault → Type 0) (Goes : List ℕ → Type 0) (filed : Filed) (fault : RunFault) → GivesBytes limit filed (Err fault) →
    Stops fault
    → OverFiled Stops (GoesOverText limit Stops Goes) filed
text_fails limit Stops Goes filed fault gives stops = grind arith

pub text_there : (limit : ℕ) (Stops : RunFault → Type 0) (Goes : List ℕ → Type 0) (filed : Filed) (bytes : List ℕ) → GivesBytes limit filed (Ok bytes) →
    Goes bytes
    → OverFiled Stops (GoesOverText limit Stops Goes) filed
text_there limit Stops Goes filed bytes gives goes = grind arith

-- ---- the requests

pub requests_fail : (lanes : ℕ) (Stops : RunFault → Type 0) (Goes : Cut → Type 0) (filed : Filed) (fault : RunFault) → GivesCut filed lanes (Err fault) →
    Stops fault
    → OverFiled Stops (GoesOverText REQUESTS_FILE_LIMIT Stops (OverRequests lanes Stops Goes)) filed
requests_fail lanes Stops Goes filed fault gives stops = grind arith

pub requests_there : (lanes : ℕ) (Stops : RunFault → Type 0) (Goes : Cut → Type 0) (filed : Filed) (text : CutText) → GivesCut filed lanes (Ok text)
    → ((requests : List ℕ) → IsCutOf requests lanes text → OverRequests lanes Stops Goes requests)
    → OverFiled Stops (GoesOverText REQUESTS_FILE_LIMIT Stops (OverRequests lanes Stops Goes)) filed
requests_there lanes Stops Goes filed text gives goes = grind arith

-- a limit was met
pub limit_met : (lanes : ℕ) (Stops : RunFault → Type 0) (Goes : Cut → Type 0) (requests : List ℕ) (text : CutText) (met : Stop) →
    IsCutOf requests lanes text → text.stop ≡ Some met
    → Stops (ending_at met) → OverRequests lanes Stops Goes requests
limit_met lanes Stops Goes requests text met cut is stops = subst (OverStop Stops (Goes (jobs_of_input requests true lanes))) (sym is ∙ cut.stop) stops

pub limit_kept : (lanes : ℕ) (Stops : RunFault → Type 0) (Goes : Cut → Type 0) (requests : List ℕ) (text : CutText) → IsCutOf requests lanes text →
    text.stop ≡ None
    → Goes (jobs_of_input requests true lanes) → OverRequests lanes Stops Goes requests
limit_kept lanes Stops Goes requests text cut is goes = subst (OverStop Stops (Goes (jobs_of_input requests true lanes))) (sym is ∙ cut.stop) goes

-- ---- the transcript

pub line_long : (Stops : RunFault → Type 0) (Goes : List ℕ → Type 0) (transcript : List ℕ) (found : Option ℕ) (line : ℕ) →
    found ≡ first_long 0 (lines_of (whole_lines transcript)) → found ≡ Some line
    → Stops (LineTooLong line) → OverTranscript Stops Goes transcript
line_long Stops Goes transcript found line is some stops = subst (OverLong Stops (Goes transcript)) (sym some ∙ is) stops

pub lines_short : (Stops : RunFault → Type 0) (Goes : List ℕ → Type 0) (transcript : List ℕ) (found : Option ℕ) →
    found ≡ first_long 0 (lines_of (whole_lines transcript)) → found ≡ None
    → Goes transcript → OverTranscript Stops Goes transcript
lines_short Stops Goes transcript found is none goes = subst (OverLong Stops (Goes transcript)) (sym none ∙ is) goes

-- ---- what is told of files stays

pub moved : (Over : Filed → Filed → Type 0) (a b x y : Filed) → a ≡ x → b ≡ y → Over a b → Over x y
moved Over a b x y first second at = subst (λ f. Over f y) first (subst (Over a) second at)

pub loads_refused : (fault : RunFault) (count after : ℕ) → how_of fault ≡ refused → after ≡ count → CountsLoads fault count after
loads_refused fault count after how same = subst (λ h. LoadsSo h count after) (sym how) same

-- ---- counts of faults

-- ---- other ways of stopping and going on

filed_map : (S T : RunFault → Type 0) (O P : List ℕ → Type 0) (filed : Filed) → ((x : RunFault) → S x → T x) → ((x : List ℕ) → O x → P x) →
    OverFiled S O filed → OverFiled T P filed
filed_map S T O P filed stops over at = grind arith

policy_map : (S T : RunFault → Type 0) (G H : PolicyShape → Type 0) (file : List ℕ) → ((x : RunFault) → S x → T x) →
    ((p : PolicyShape) → IsFilePolicy p → G p → H p) → GoesOverPolicy S G file
    → GoesOverPolicy T H file
policy_map S T G H file stops goes (inl ends) = inl (ends.0, (ends.1.0, stops ends.0 ends.1.1))
policy_map S T G H file stops goes (inr there) = inr (there.0, (there.1.0, (there.1.1.0, goes there.0 there.1.1.0 there.1.1.1)))

text_map : (limit : ℕ) (S T : RunFault → Type 0) (G H : List ℕ → Type 0) (file : List ℕ) → ((x : RunFault) → S x → T x) → ((x : List ℕ) → G x → H x) →
    GoesOverText limit S G file → GoesOverText limit T H file
text_map limit S T G H file stops goes h8 = grind arith

stop_map : (S T : RunFault → Type 0) (G H : Type 0) (met : Option Stop) → ((x : RunFault) → S x → T x) → (G → H) → OverStop S G met → OverStop T H met
stop_map S T G H met stops goes at = grind arith

transcript_map : (S T : RunFault → Type 0) (G H : List ℕ → Type 0) (filed : Filed) → ((x : RunFault) → S x → T x) → ((x : List ℕ) → G x → H x)
    → OverTranscriptFile S G filed → OverTranscriptFile T H filed
transcript_map S T G H filed stops goes at = grind arith

both_map : (lanes : ℕ) (S T : RunFault → Type 0) (G H : Cut → List ℕ → Type 0) (requests transcript : Filed) → ((x : RunFault) → S x → T x)
    → ((text x : List ℕ) → G (jobs_of_input text true lanes) x → H (jobs_of_input text true lanes) x) → OverBoth lanes S G requests transcript →
    OverBoth lanes T H requests transcript
both_map lanes S T G H requests transcript stops goes at =
    let O = OverRequests lanes S (λ cut. OverTranscriptFile S (G cut) transcript) in
    let P = OverRequests lanes T (λ cut. OverTranscriptFile T (H cut) transcript) in
    filed_map S T (GoesOverText REQUESTS_FILE_LIMIT S O) (GoesOverText REQUESTS_FILE_LIMIT T P) requests stops
    (λ file. text_map REQUESTS_FILE_LIMIT S T O P file stops
    (λ text. let cut = jobs_of_input text true lanes in
    stop_map S T (OverTranscriptFile S (G cut) transcript) (OverTranscriptFile T (H cut) transcript) cut.stop stops
    (transcript_map S T (G cut) (H cut) transcript stops (goes text)))) at

-- what stops stops, and what goes on goes on
pub files_map : (files : List ℕ → Filed) (names : FileNames) (lanes : ℕ) (S T : RunFault → Type 0) (G H : PolicyShape → Cut → List ℕ → Type 0) →
    ((x : RunFault) → S x → T x)
    → ((p : PolicyShape) (text x : List ℕ) → IsFilePolicy p → G p (jobs_of_input text true lanes) x → H p (jobs_of_input text true lanes) x)
    → OverFiles files names lanes S G → OverFiles files names lanes T H
files_map files names lanes S T G H stops goes at =
    let requests = files names.requests in
    let transcript = files names.transcript in
    let O = λ (p : PolicyShape). OverBoth lanes S (G p) requests transcript in
    let P = λ (p : PolicyShape). OverBoth lanes T (H p) requests transcript in
    filed_map S T (GoesOverPolicy S O) (GoesOverPolicy T P) (files names.policy) stops
    (λ file. policy_map S T O P file stops (λ p sound. both_map lanes S T (G p) (H p) requests transcript stops (λ text x. goes p text x sound))) at

pub files_goal : (files : List ℕ → Filed) (names : FileNames) (lanes : ℕ) (S : RunFault → Type 0) (G : PolicyShape → Cut → List ℕ → Type 0) (T : Type 0) →
    ((x : RunFault) → S x → T)
    → ((p : PolicyShape) (c : Cut) (x : List ℕ) → G p c x → T) → OverFiles files names lanes S G → T
files_goal files names lanes S G T stops goes at = grind arith
