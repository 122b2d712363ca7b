-- The desk with the jobs of the batch in which a session stopped, behind those of the batches before.
use Rattle.transcript_commands.proofs.Common.{◌≡◌, ◌++◌, ℕ, List, [], length, take, sym, ap, subst, ◌∙◌, arith, PolicyShape, Entry, Job, DeskShape, jobs_told}
use Rattle.transcript_commands.proofs.Common.{Batch, GoesOnAt, end_at, jobs_between, start_at}
use Rattle.std.proofs.Common.{append-nil}
use Rattle.wf_board.specs.Boards.{BoardShape}
use Rattle.wf_desk.specs.Desks.{desk_with, with_batch_from, with_room}
use Rattle.transcript_commands.specs.Sessions.{IsRestored, session_at}

-- only the entries stand at a desk that was made with them
pub restored_with : (p : PolicyShape) (lanes rounds : ℕ) (board : BoardShape) (es : List Entry) (spare : ℕ) (d : DeskShape) →
    d ≡ desk_with p lanes rounds board es spare → IsRestored d
restored_with p lanes rounds board es spare d is = grind arith

pub none_told : (d : DeskShape) → IsRestored d → jobs_told d ≡ []
none_told d fresh = ap (λ js. js ++ d.jobs) fresh.earlier ∙ fresh.jobs

-- such a desk that was given these jobs, and then those of a batch, goes on
pub goes_on_at : (d : DeskShape) (batch : Batch) (from stop : ℕ) (earlier jobs given : List Job) (b e : DeskShape) (spare cases : ℕ) → IsRestored d →
    b ≡ record d { earlier = earlier } → e ≡ with_room (with_batch_from b given from) spare cases → given ≡ jobs →
    from ≡ start_at 0 (length d.entries) batch.ends → stop ≡ end_at (length d.entries) batch.ends → jobs ≡ jobs_between from stop batch.jobs →
    earlier ≡ take from batch.jobs → GoesOnAt (session_at d batch) d.entries stop e
goes_on_at d batch from stop earlier jobs given b e spare cases fresh behind loaded same start next here before =
    let at : e ≡ with_room (with_batch_from (record d { earlier = earlier }) given from) spare cases =
    loaded ∙ ap (λ (x : DeskShape). with_room (with_batch_from x given from) spare cases) behind in
    let begins : e.start ≡ from = ap (λ (x : DeskShape). x.start) at in
    record {
      opening = ap (λ (x : DeskShape). x.opening) at;
      lanes = ap (λ (x : DeskShape). x.lanes) at;
      rounds = ap (λ (x : DeskShape). x.rounds) at;
      entries = ap (λ (x : DeskShape). x.entries) at;
      restored = ap (λ (x : DeskShape). x.restored) at ∙ fresh.entries;
      start = begins ∙ start;
      next = next;
      earlier = grind (arith, append-nil);
      jobs = ap (λ (x : DeskShape). x.jobs) at ∙ same ∙ here ∙ ap (λ n. jobs_between n stop batch.jobs) (sym begins);
    }

-- and so does the session of the policy with which it was made
pub goes_on_with : (p : PolicyShape) (lanes rounds : ℕ) (board : BoardShape) (es : List Entry) (spare : ℕ) (d : DeskShape) (batch : Batch) (stop : ℕ)
    (e : DeskShape) → d ≡ desk_with p lanes rounds board es spare → GoesOnAt (session_at d batch) d.entries stop e →
    GoesOnAt (session_at (desk_with p lanes rounds board es spare) batch) es stop e
goes_on_with p lanes rounds board es spare d batch stop e is goes = subst (λ (x : DeskShape). GoesOnAt (session_at x batch) x.entries stop e) is goes
