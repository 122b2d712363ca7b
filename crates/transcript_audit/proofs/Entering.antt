-- A reply that was taken or refused, and what becomes of its line.
use Rattle.std.proofs.Common.{◌≡◌, ◌↔◌, ℕ, ◌+◌, ◌-◌, ◌<◌, ◌≤◌, inr, max, Bool, true, false, nat_eq, nat_le, List, length, map, take, drop}
use Rattle.std.proofs.Common.{Option, None, Some, Result, Ok, Err, refl, sym, ap, ◌∙◌, arith}
use Rattle.std.proofs.lemmas.Grind.{common_steps}
use Rattle.std.specs.Option.{option_map}
use Rattle.basics.proofs.Booleans.{and_both, and_from, eq_back, eq_is, same_by}
use Rattle.wf_names.specs.declared.limits.TheConstants.{SESSION_LINE_LIMIT}
use Rattle.policy_book.specs.Laws.Shapes.{PolicyShape}
use Rattle.case_record.specs.Cases.{CaseShape}
use Rattle.grant_table.specs.Cases.{CasesShape}
use Rattle.wf_talk.specs.declared.entry.Entry.{Entry}
use Rattle.wf_talk.specs.declared.job.Job.{Job}
use Rattle.wf_talk.specs.declared.reply.Reply.{Reply}
use Rattle.wf_talk.specs.declared.reply.Reply.TheVariants as reply
use Rattle.wf_talk.specs.declared.request.Ask.{Ask}
use Rattle.wf_board.specs.Boards.{BoardShape, numbered, state_on}
use Rattle.wf_board.specs.Counting.{counted, counted_end, counts_for, lane_end}
use Rattle.wf_board.specs.Decisions.{decision_of, is_view, needs_verdict}
use Rattle.wf_board.proofs.HistoryLaws.{after_again, after_more, again_rests, edits_within, step_once}
use Rattle.wf_board.specs.Laws.States.{State, numbered_case, opening_state}
use Rattle.wf_board.specs.Laws.Steps.{IsStep, state_after_step}
use Rattle.wf_board.proofs.Counted.{count_later}
use Rattle.wf_desk.proofs.DocketLaws.{next_lane, rest_from}
use Rattle.wire_json.specs.Replies.{entry_text}
use Rattle.entry_reader.specs.Laws.Lines.{entry_at}
use Rattle.entry_laws.proofs.Entries.{text_stays}
use Rattle.transcript_audit.specs.declared.fault.AuditKind.{AuditKind}
use Rattle.transcript_audit.specs.declared.fault.AuditKind.TheVariants as kinds
use Rattle.basics.specs.declared.fault.Fault.{Fault}
use Rattle.basics.specs.declared.fault.Fault.TheVariants as flaw
use Rattle.transcript_audit.specs.Auditor.{AuditShape, ComesNext, HasFault, IsNextLine, flows_now, next_job, present_start, state_now, with_entry}
use Rattle.transcript_audit.specs.Keeping.{HasEntered, TellsReply, TriesLine, again_in, entry_next, rests_on}
use Rattle.transcript_audit.proofs.Excludes.{one_place, told_named}

-- ---- steps

-- the board after a step
pub state_next : (a : AuditShape) (b : BoardShape) (s : State) (j : Job) (r : Reply) → state_on b ≡ state_now a → s ≡ state_after_step (state_on b) j.ask r →
    s ≡ state_now (with_entry a (entry_next a j r))
state_next a b s j r same after = after ∙ ap (λ t. state_after_step t j.ask r) same ∙ sym (after_more (opening_state a.opening) a.entries (entry_next a j r))

-- and after what is answered again
pub state_again : (a : AuditShape) (s : State) (j : Job) (n place : ℕ) → s ≡ state_now a → s ≡ state_now (with_entry a (entry_next a j (reply.Again n place)))
state_again a s j n place same = same ∙ sym (after_again (opening_state a.opening) a.entries (entry_next a j (reply.Again n place)) n place refl)

-- a reply that is not `again`
not_again : (r : Reply) (n place : ℕ) → again_in r ≡ None → r ≡ reply.Again n place → ⊥
not_again r n place once is = let h : again_in (reply.Again n place) ≡ None = ap again_in (sym is) ∙ once in cc

-- a step that a board takes comes next
pub step_next : (a : AuditShape) (b : BoardShape) (j : Job) (r : Reply) → state_on b ≡ state_now a → next_job a j.lane ≡ Some j → again_in r ≡ None →
    IsStep (state_on b) j.ask r → ComesNext a (entry_next a j r)
step_next a b j r same next once step = grind (arith, not_again)

-- ---- answered again

pub record MayAgain (a : AuditShape) (what : Ask) (lane n place : ℕ) : Type 0 where
  pub rounds : n ≡ a.rounds
  pub positive : 1 ≤ n
  pub deed : is_view what ≡ false
  pub undecided : needs_verdict (decision_of (state_now a).book what) ≡ true
  pub rests : rests_on a.entries (present_start a) lane what n place ≡ true

pub again_next : (a : AuditShape) (j : Job) (n place : ℕ) → next_job a j.lane ≡ Some j → MayAgain a j.ask j.lane n place →
    ComesNext a (entry_next a j (reply.Again n place))
again_next a j n place next may =
    let start = present_start a in
    let both = and_both (nat_le n (counted j.ask (drop (max (lane_end j.lane a.entries) start) a.entries))) _ may.rests in
    let enough : n ≤ counted j.ask (drop (max (lane_end j.lane a.entries) start) a.entries) = let h = both.0 in grind (arith, common_steps) in
    let later = count_later (λ e. counts_for e j.ask) a.entries (lane_end j.lane a.entries) (max (lane_end j.lane a.entries) start) (omega arith) in
    let rounds = may.rounds in
    let positive = may.positive in
    record {
      answers = next;
      right = (
        refl,
        inr (
          n,
          (
            place,
            (
              refl,
              record {
                deed = may.deed;
                undecided = may.undecided;
                positive = omega (arith, rounds, positive);
                all = may.rounds;
                enough = omega (arith, rounds, enough, later);
                last = eq_back (place + 1) (counted_end j.ask a.entries) both.1;
              },
            ),
          ),
        ),
      );
      rests = again_rests start a.entries (entry_next a j (reply.Again n place)) n place refl enough;
    }

same_rounds : (n m k l : ℕ) → reply.Again n k ≡ reply.Again m l → n ≡ m
same_rounds n m k l same = cc

same_place : (n m k l : ℕ) → reply.Again n k ≡ reply.Again m l → k ≡ l
same_place n m k l same = cc

pub may_next : (a : AuditShape) (j : Job) (n place : ℕ) → ComesNext a (entry_next a j (reply.Again n place)) → MayAgain a j.ask j.lane n place
may_next a j n place next = grind (arith, step_once, same_rounds, same_place, and_from, common_steps, eq_is)

-- it comes next exactly where it may
pub again_exactly : (a : AuditShape) (j : Job) (n place : ℕ) (b : Bool) → next_job a j.lane ≡ Some j → (b ≡ true → MayAgain a j.ask j.lane n place) →
    (MayAgain a j.ask j.lane n place → b ≡ true) →
    (b ≡ true) ↔ ComesNext a (entry_next a j (reply.Again n place))
again_exactly a j n place b next to from = (λ yes. again_next a j n place next (to yes), λ comes. from (may_next a j n place comes))

-- ---- what is read by

-- the policy and the cases of a board are those after the entries
pub known_now : (Q : PolicyShape → (ℕ → Option ℕ) → Type 0) (b : BoardShape) (a : AuditShape) (p : PolicyShape) (t : CasesShape) → p ≡ b.policy →
    t ≡ b.cases → state_on b ≡ state_now a →
    Q p (λ n. option_map (λ (c : CaseShape). c.flow) (numbered_case (map numbered t.rows) n)) → Q (state_now a).book.policy (flows_now a)
known_now Q b a p t policy cases same is = grind arith

-- the board has few edits
pub edits_few : (b : BoardShape) (a : AuditShape) → state_on b ≡ state_now a → length a.entries ≤ SESSION_LINE_LIMIT → b.edits < 4294967295
edits_few b a same few = grind (arith, edits_within)

-- ---- whether entries count

pub rests_then : (entries : List Entry) (start lane : ℕ) (what : Ask) (n place found last : ℕ) →
    found ≡ counted what (drop (max (lane_end lane entries) start) entries) → n ≤ found →
    last + 1 ≡ counted_end what entries → nat_eq place last ≡ rests_on entries start lane what n place
rests_then entries start lane what n place found last is enough end = grind (arith, common_steps, same_by, eq_back, eq_is)

pub rests_else : (entries : List Entry) (start lane : ℕ) (what : Ask) (n place found : ℕ) →
    found ≡ counted what (drop (max (lane_end lane entries) start) entries) → found < n →
    false ≡ rests_on entries start lane what n place
rests_else entries start lane what n place found is short = grind (arith, common_steps)

-- how many count behind the last entry of a lane and behind a batch's start, as they are found in a slice
pub found_own : (what : Ask) (lane : ℕ) (xs entries : List Entry) (from start begins found : ℕ) → from ≡ max (lane_end lane xs) start → start ≡ begins →
    found ≡ counted what (take (length xs - from) (drop from xs)) → xs ≡ entries
    → found ≡ counted what (drop (max (lane_end lane entries) begins) entries)
found_own what lane xs entries from start begins found own begun is same = grind (arith, rest_from)

-- where some count behind a place, some do
pub some_count : (what : Ask) (entries : List Entry) (n found rounds : ℕ) → found ≡ counted what (drop n entries) → rounds ≤ found → 1 ≤ rounds →
    1 ≤ counted what entries
some_count what entries n found rounds is enough some =
    let all = count_later (λ e. counts_for e what) entries 0 n (omega arith) in
    omega (arith, is, enough, some, all)

-- ---- the line

-- the entry at the place that a line tells is that of the job
pub entry_there : (a : AuditShape) (line : List ℕ) (j : Job) (r : Reply) → (read : TellsReply a line j r) → entry_at read.place j.ask r ≡ entry_next a j r
entry_there a line j r read = grind (arith, next_lane)

read_named : (a : AuditShape) (line : List ℕ) (j : Job) (r : Reply) → (read : TellsReply a line j r) → read.reply.place ≡ read.place
read_named a line j r read = one_place read.reply.place read.place (sym read.reply.named ∙ told_named line read.place read.stands.told)

-- a line whose reply comes next is the text of that entry
pub read_next : (a : AuditShape) (line : List ℕ) (j : Job) (r : Reply) → TellsReply a line j r → ComesNext a (entry_next a j r) →
    IsNextLine a line (entry_next a j r)
read_next a line j r read next =
    let e = entry_next a j r in
    let there : entry_at read.reply.place j.ask r ≡ e = ap (λ p. entry_at p j.ask r) (read_named a line j r read) ∙ entry_there a line j r read in
    record {
      next = next;
      written = sym (text_stays (opening_state a.opening) a.entries e ∙ ap (entry_text (state_now a).book.policy) (sym there) ∙ read.reply.line.written);
    }

-- a line whose reply does not come next has that fault
pub read_wrong : (a : AuditShape) (line : List ℕ) (j : Job) (r : Reply) → TellsReply a line j r → ¬ ComesNext a (entry_next a j r) → HasFault a line kinds.Reply
read_wrong a line j r read wrong = grind (arith, entry_there)

-- what becomes of a line whose reply was taken or refused
pub tried_of : (before after : AuditShape) (line : List ℕ) (j : Job) (r : Reply) (result : Result (Unit {0}) (Fault AuditKind)) → TellsReply before line j r →
    HasEntered before after j r result →
    TriesLine before after line result
tried_of before after line j r (Ok done) read entered = (entry_next before j r, (read_next before line j r read entered.0, entered.1))
tried_of before after line j r (Err (flaw.Cause kind)) read entered = grind (arith, read_wrong)
tried_of before after line j r (Err flaw.NoMemory) read entered = entered

-- the job that a line answers is its lane's next one
pub read_due : (a : AuditShape) (line : List ℕ) (j : Job) (r : Reply) → TellsReply a line j r → next_job a j.lane ≡ Some j
read_due a line j r read = grind (arith, next_lane)
