-- What is known of a transcript that was followed from its first line on.
use Rattle.std.proofs.Common.{◌≡◌, ℕ, ◌<◌, ◌≤◌, nat_lt, min, Bool, true, List, [], ◌++◌, length, Result}
use Rattle.std.proofs.Common.{ap, subst, ◌∙◌, codes, inl, inr, arith}
use Rattle.std.proofs.lemmas.Grind.{common_steps}
use Rattle.basics.proofs.Booleans.{bool_cases}
use Rattle.policy_book.specs.Laws.Shapes.{PolicyShape}
use Rattle.transcript_audit.specs.Auditor.{AuditShape, state_now}
use Rattle.transcript_audit.specs.Laws.{AreOfSession, PartIsExact}
use Rattle.case_story.specs.declared.place.Place.{Place}
use Rattle.case_story.specs.declared.session.Session.{Session}
use Rattle.case_story.specs.declared.verdict.Verdict.{Verdict}
use Rattle.case_story.specs.declared.verdict.Verdict.TheVariants.{Fault}
use Rattle.case_story.specs.Followed.{HasFollowed, StopsAudit, StopsTo}
use Rattle.case_story.specs.Sessions.{audit_in, cut_in, state_of}
use Rattle.case_story.specs.Verdicts.{right_lines}
use Rattle.transcript_audit.specs.declared.fault.AuditKind.{AuditKind}
use Rattle.run_record.specs.declared.fault.RunFault.{RunFault}
use Rattle.wf_commands.specs.declared.answer.Answer.{Answer}
use Rattle.wf_commands.specs.Answer.{ending_with, AnswersAs}
use Rattle.case_story.specs.Printed.{Finds, TellsBy, TellsEntry, TellsLog, TellsPage, WritesPolicy, verdict_line, has_retired}
use Rattle.case_story.specs.Printed.{retired_lines}
use Rattle.case_story.proofs.Answering.{answers_wider}
use Rattle.case_story.specs.Writing.{PrintsAfter}
use Rattle.case_story.proofs.Founds.{Laws, as_stopped, finds, first_entries, started, state_there, stops_in}
use Rattle.case_story.proofs.Following.{all_followed, few_right}

-- an audit that began with a session stops so
pub stops : (s : Session) (a b : AuditShape) (text : List ℕ) (place : Place) (v : Verdict) → a ≡ audit_in s → text ≡ s.transcript → place.at ≡ 0 →
    place.number ≡ 0
    → ((first : AuditShape) → HasFollowed first a text place → StopsTo first b text v) → StopsTo (audit_in s) b s.transcript v
stops s a b text place v is same at number steps = stops_in s b text v same (steps (audit_in s) (started s a text place is same at number))

-- and so its verdict is that of the session
pub told : Laws → (s : Session) (a b : AuditShape) (text : List ℕ) (place : Place) (v : Verdict) →
    AreOfSession s.policy s.rounds (cut_in s).jobs (cut_in s).ends
    → a ≡ audit_in s → text ≡ s.transcript → place.at ≡ 0 → place.number ≡ 0 →
    ((first : AuditShape) → HasFollowed first a text place → StopsTo first b text v) → Finds s v
told laws s a b text place v session is same at number steps = finds laws s v session (stops s a b text place v is same at number steps).found

-- the policy that is printed is the one after the first entries
pub prints : PartIsExact → (s : Session) (b : AuditShape) (n : ℕ) (p : PolicyShape) (remarks : List ℕ) (less : Bool) (document : List ℕ) →
    AreOfSession s.policy s.rounds (cut_in s).jobs (cut_in s).ends
    → StopsAudit (audit_in s) b s.transcript n → p ≡ (state_now b).book.policy → remarks ≡ retired_lines p (length p.flows) → less ≡ has_retired p →
    WritesPolicy p document
    → PrintsAfter s n remarks less document
prints exact s b n p remarks less document session h is remarked lessened written =
    let same : p ≡ (state_of s h.taken.entries).book.policy = is ∙ ap (λ st. st.book.policy) (state_there s b n h) in
    record {
      entries = h.taken.entries;
      first = first_entries exact s b n session h;
      remarked = remarked ∙ ap (λ (q : PolicyShape). retired_lines q (length q.flows)) same;
      lessened = lessened ∙ ap has_retired same;
      written = subst (λ q. WritesPolicy q document) same written;
    }

-- what was followed of a session, as what stopped
pub followed : (s : Session) (a b : AuditShape) (text : List ℕ) (place after : Place) → a ≡ audit_in s → text ≡ s.transcript → place.at ≡ 0 → place.number ≡ 0
    → ((first : AuditShape) → HasFollowed first a text place → HasFollowed first b text after) → StopsAudit (audit_in s) b s.transcript after.number
followed s a b text place after is same at number steps =
    subst (λ xs. StopsAudit (audit_in s) b xs after.number) same
    (as_stopped (audit_in s) b text after (steps (audit_in s) (started s a text place is same at number)))

-- how many lines are followed, where at most so many are wanted and those behind them are followed too
pub reached : (s : Session) (a b c : AuditShape) (text : List ℕ) (place after : Place) (most : ℕ) (v : Verdict) → a ≡ audit_in s → text ≡ s.transcript →
    place.at ≡ 0 → place.number ≡ 0
    → ((first : AuditShape) → HasFollowed first a text place → HasFollowed first b text after) →
    ((first : AuditShape) → HasFollowed first b text after → StopsTo first c text v)
    → (after.number < most → length text ≤ after.at) → after.number ≤ most → after.number ≤ right_lines v → after.number ≡ min most (right_lines v)
reached s a b c text place after most v is same at number steps rest all within more =
    let h = steps (audit_in s) (started s a text place is same at number) in
    let right = few_right (audit_in s) c text (right_lines v) (rest (audit_in s) h).stopped in
    elim (bool_cases (nat_lt after.number most)) [
      | inl ahead ↦
          let below : after.number < most = grind (arith, common_steps) in
          let whole = all_followed (audit_in s) b text after (all below) h in
          let last : right_lines v ≡ after.number = omega (arith, whole, right, more) in
          grind (arith, common_steps)
      | inr shut ↦
          let past : most ≤ after.number = grind (arith, common_steps) in
          grind (arith, common_steps)
    ]

-- an answer that tells a fault, and one that tells what is there
pub wrong_told : (mark end body : List ℕ) (n : ℕ) (kind : AuditKind) (there : Bool) (answer : Answer) → answer.found ≡ true →
    answer.text.items ≡ verdict_line mark (Fault n kind) end ++ body
    → TellsBy mark (Fault n kind) end there (ending_with answer.found) answer.text.items
wrong_told mark end body n kind there answer found text = (ap ending_with found, (body, text))

-- what every command tells, as what one tells
pub tells_log : (s : Session) (v : Verdict) (mark end : List ℕ) (there : Bool) (result : Result Answer RunFault) → Finds s v → mark ≡ [] →
    end ≡ codes "\n" → there ≡ true
    → AnswersAs (TellsBy mark v end there) result → AnswersAs (TellsLog s) result
tells_log s v mark end there result finds m e t h =
    answers_wider (TellsBy mark v end there) (TellsLog s) result (λ f text told. (
      v,
      (
        finds,
        subst (λ b. TellsBy [] v (codes "\n") b f text) t (subst (λ x. TellsBy [] v x there f text) e (subst (λ x. TellsBy x v end there f text) m told)),
      ),
    ))
    h

pub tells_entry : (s : Session) (at : ℕ) (v : Verdict) (mark end : List ℕ) (there : Bool) (result : Result Answer RunFault) → Finds s v → mark ≡ [] →
    end ≡ codes "\n" → there ≡ nat_lt at (right_lines v)
    → AnswersAs (TellsBy mark v end there) result → AnswersAs (TellsEntry at s) result
tells_entry s at v mark end there result finds m e t h =
    answers_wider (TellsBy mark v end there) (TellsEntry at s) result (λ f text told. (
      v,
      (
        finds,
        subst (λ b. TellsBy [] v (codes "\n") b f text) t (subst (λ x. TellsBy [] v x there f text) e (subst (λ x. TellsBy x v end there f text) m told)),
      ),
    ))
    h

pub tells_page : (s : Session) (number : ℕ) (v : Verdict) (b : AuditShape) (mark end : List ℕ) (there : Bool) (result : Result Answer RunFault) → PartIsExact
    → AreOfSession s.policy s.rounds (cut_in s).jobs (cut_in s).ends → Finds s v → StopsAudit (audit_in s) b s.transcript (right_lines v) →
    mark ≡ codes "<!-- " → end ≡ codes " -->\n"
    → there ≡ nat_lt number (state_now b).book.ever → AnswersAs (TellsBy mark v end there) result → AnswersAs (TellsPage number s) result
tells_page s number v b mark end there result exact session finds stopped m e t h =
    answers_wider (TellsBy mark v end there) (TellsPage number s) result (λ f text told. record {
      verdict = v;
      finds = finds;
      entries = stopped.taken.entries;
      first = first_entries exact s b (right_lines v) session stopped;
      tells =
          subst (λ x. TellsBy (codes "<!-- ") v (codes " -->\n") x f text) (t ∙ ap (λ st. nat_lt number st.book.ever) (state_there s b (right_lines v) stopped))
          (subst (λ x. TellsBy (codes "<!-- ") v x there f text) e (subst (λ x. TellsBy x v end there f text) m told));
    }) h
