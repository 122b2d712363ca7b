-- A session behind the entries that were taken up, and the run of its command.
use Rattle.wf_server.proofs.Common.{◌≡◌, ℕ, zero, suc, ◌<◌, ◌≤◌, Bool, true, false, List, [], ◌∷◌, length, take, slice_index_or, Option, Result, Ok, Err, inl}
use Rattle.wf_server.proofs.Common.{inr, refl, sym, ap, subst, ◌∙◌, arith, ◌⊎◌, common_steps, take_all, Filed, nothing_taken, Entry, AreAnsweredOnce}
use Rattle.wf_server.proofs.Common.{AreRightful, IsLegal, HistoriesAreExact, HistoriesKeepCompletable, opening_state, DeskShape, jobs_told, Cut, UpToAnEnd}
use Rattle.wf_server.proofs.Common.{jobs_of_input, last_or, next_input, AreInOrder, GoesOn, JobsStayNamed, HasNames, LinesFit, BatchReaderShape, RunFault}
use Rattle.wf_server.proofs.Common.{is_before_input, CountsLoads, CountsWrites, Told, nothing_told, Run, IsUntouched, Streams, Beginning, HasBegun, session_of}
use Rattle.wf_server.proofs.Common.{AreOptions, Options, ReadsFor, Served, Setting, handed_in, setting_of, Serves, AreInOrderFrom, HasAnsweredAll, IsServing}
use Rattle.wf_server.proofs.Common.{IsWriteEnding, FileTo, IsToldTo, setting_behind}
use Rattle.std.proofs.Common.{nat_lt, drop}
use Rattle.std.proofs.Common.{Some, ◌&&◌}
use Rattle.wf_outside.specs.Laws.Outside.{HasTaken}
use Rattle.wf_board.specs.Laws.Histories.{state_after}
use Rattle.wf_desk.specs.Desks.{AreOfLanes}
use Rattle.line_reader.specs.Jobs.{start_from}
use Rattle.run_record.specs.declared.fault.RunFault.TheVariants as fault
use Rattle.run_record.specs.Fault.{how_of, CountsReads}
use Rattle.run_record.specs.declared.outside.Outside.{Outside}
use Rattle.run_record.specs.declared.report.Report.{Report}
use Rattle.run_record.specs.Laws.Run.{IsOrderly, run_of, run_over, streams_of}
use Rattle.transcript_audit.specs.declared.fault.AuditKind.{AuditKind}
use Rattle.transcript_commands.specs.Finding.{audit_fault_line}
use Rattle.transcript_commands.specs.Resumed.{IsRefused, Session}
use Rattle.transcript_commands.specs.declared.start.TheConstants.{PIECE}
use Rattle.transcript_commands.specs.declared.refusal.Refusal.{Refusal}
use Rattle.transcript_commands.specs.declared.refusal.Refusal.TheVariants.{Ends, Line}
use Rattle.transcript_commands.specs.Laws.Begun.{BeginsBy, EndsBeginning, StopsBy, fault_by}
use Rattle.transcript_commands.specs.Load.{FileNames, OverFiles}
use Rattle.transcript_commands.proofs.Files.{files_goal, files_map}
use Rattle.command_words.specs.Laws.Words.{Command, may_repeat}
use Rattle.wf_server.specs.Runs.{DoesBy, HasRun, IsServedOnce, is_on_threads, rounds_of}
use Rattle.transcript_audit.proofs.Batches.{last_start}
use Rattle.wf_server.specs.Ways.{ServesOnce}
use Rattle.wf_server.specs.Laws.Resuming.{CountsRefusal, EndsBy, RefusesAs, ResumesFrom, ResumesRun, TellsAs}
use Rattle.wf_server.proofs.SessionLaws.{lanes_of, serves_kept}
use Rattle.wf_server.proofs.WayLaws.{once_legal}
use Rattle.wf_server.proofs.Fitting.{behind_fits}
use Rattle.wf_server.proofs.Handed.{nothing_open}

-- ---- behind the jobs of a file

-- the last of the first so many ends
last_first : (d : ℕ) (ends : List ℕ) (k : ℕ) → k ≤ length ends → last_or d (take k ends) ≡ slice_index_or (d ∷ ends) k 0
last_first d ends zero known = refl
last_first d [] (suc k) known = absurd (omega (arith, known))
last_first d (x ∷ xs) (suc k) known = last_first x xs k (omega (arith, known))

up_to : (s : Session) (cut : Cut) (count : ℕ) (told : Told) → s.jobs ≡ cut.jobs → s.batch_ends ≡ cut.ends → IsToldTo s.jobs s.batch_ends count told →
    UpToAnEnd told.jobs told.batch_ends (next_input cut)
up_to s cut count told jobs ends is = grind (arith, last_first)

-- a fault ended the session while the jobs of the file were answered
pub stops_serves : (s : Session) (cut : Cut) (lanes room : ℕ) (before after : Streams) (d : DeskShape) (told : Told) (ending : RunFault) →
    GoesOn lanes cut → s.jobs ≡ cut.jobs → s.batch_ends ≡ cut.ends
    → after.input ≡ before.input → after.read_faults ≡ before.read_faults → CountsWrites ending before.write_faults after.write_faults
    → FileTo before.output after.output s.jobs s.batch_ends d told (Err ending) → IsWriteEnding ending →
    Serves (setting_of d) (next_input cut) room before after told ending
stops_serves s cut lanes room before after d told fault.Write goes jobs ends unread reads writes stops end = record {
  reads = inr (record { unread = unread; some = stops.0.some refl; up = up_to s cut stops.0.count told jobs ends stops.0.to });
  fills = stops.1.fills;
  writes = stops.1.written;
  read_faults = omega (arith, reads);
  write_faults = writes;
}
stops_serves s cut lanes room before after d told fault.NoMemory goes jobs ends unread reads writes stops end = record {
  reads = record {
    bytes = [];
    ended = false;
    taken = subst (λ x. HasTaken before.input x []) (sym unread) (nothing_taken before.input);
    at_end = λ is. absurd cc;
    up = subst (UpToAnEnd told.jobs told.batch_ends) (sym (nothing_open lanes cut goes)) (up_to s cut stops.0.count told jobs ends stops.0.to);
  };
  fills = stops.1.fills;
  writes = stops.1.written;
  read_faults = omega (arith, reads);
  write_faults = writes;
}
stops_serves s cut lanes room before after d told ending goes jobs ends unread reads writes stops end = absurd end

-- all jobs of the file are told
whole_told : (s : Session) (told : Told) → AreInOrder s.lanes s.jobs s.batch_ends → IsToldTo s.jobs s.batch_ends (length s.batch_ends) told →
    (told.jobs ≡ s.jobs) × (told.batch_ends ≡ s.batch_ends)
whole_told s told order is = grind (arith, last_start, take_all)

-- the input is read behind them
pub serving_on : (s : Session) (cut : Cut) (before after : Streams) (r : BatchReaderShape) (d : DeskShape) (told : Told) →
    AreInOrder s.lanes s.jobs s.batch_ends → GoesOn s.lanes cut
    → s.jobs ≡ cut.jobs → s.batch_ends ≡ cut.ends → d.lanes ≡ s.lanes →
    r ≡ record { cut = start_from s.lanes (next_input cut).number; pending = []; room = PIECE }
    → after.input ≡ before.input → after.read_faults ≡ before.read_faults → after.write_faults ≡ before.write_faults
    → IsToldTo s.jobs s.batch_ends (length s.batch_ends) told → HasAnsweredAll before.output after.output d told →
    IsServing (next_input cut) before after r d told
serving_on s cut before after r d told order goes jobs ends lanes reads unread counts writes is answered =
    let whole = whole_told s told order is in
    let all_jobs : told.jobs ≡ cut.jobs = whole.0 ∙ jobs in
    let all_ends : told.batch_ends ≡ cut.ends = whole.1 ∙ ends in
    record {
      order = subst (λ n. AreInOrderFrom n (next_input cut)) (sym lanes) goes.order;
      read = grind (arith, nothing_taken);
      answered = answered;
      read_faults = counts;
      write_faults = writes;
    }

-- ---- what begins a session

-- how its desk serves
pub set_behind : (s : Session) (cut : Cut) (transcript : List ℕ) (b : Beginning) (d : DeskShape) → HasBegun s cut transcript b →
    setting_of d ≡ setting_of b.desk
    → setting_of d ≡ setting_behind s (length b.desk.entries)
set_behind s cut transcript b d h same = same ∙ rw (h.opening, h.lanes, h.rounds, h.restored) refl

pub begun_lanes : (s : Session) (cut : Cut) (transcript : List ℕ) (b : Beginning) → HasBegun s cut transcript b → AreOfLanes b.desk.lanes b.desk.jobs
begun_lanes s cut transcript b h = subst (λ n. AreOfLanes n b.desk.jobs) (sym h.lanes) h.of_lanes

pub begun_order : (s : Session) (cut : Cut) (transcript : List ℕ) (b : Beginning) → HasBegun s cut transcript b →
    AreInOrder b.desk.lanes b.file.jobs b.file.ends
begun_order s cut transcript b h = grind arith

pub begun_told : (s : Session) (cut : Cut) (transcript : List ℕ) (b : Beginning) (told : Told) → HasBegun s cut transcript b → told.jobs ≡ jobs_told b.desk →
    told.batch_ends ≡ b.ends
    → IsToldTo b.file.jobs b.file.ends b.count told
begun_told s cut transcript b told h jobs ends = grind arith

file_of : (s : Session) (cut : Cut) (transcript : List ℕ) (b : Beginning) (held aft : Option (List ℕ)) (d : DeskShape) (told : Told)
    (result : Result (Unit {0}) RunFault) → HasBegun s cut transcript b
    → FileTo held aft b.file.jobs b.file.ends d told result → FileTo held aft s.jobs s.batch_ends d told result
file_of s cut transcript b held aft d told result h to = grind arith

-- a fault ended it at the requests
pub stops_begun : (s : Session) (cut : Cut) (transcript : List ℕ) (b : Beginning) (before after : Streams) (d : DeskShape) (told : Told)
    (ending : RunFault) → HasBegun s cut transcript b
    → after.input ≡ before.input → after.read_faults ≡ before.read_faults → CountsWrites ending before.write_faults after.write_faults
    → FileTo before.output after.output b.file.jobs b.file.ends d told (Err ending) → IsWriteEnding ending →
    Serves (setting_of d) (next_input cut) PIECE before after told ending
stops_begun s cut transcript b before after d told ending h unread reads writes to end =
    stops_serves s cut s.lanes PIECE before after d told ending h.goes_on h.cut_jobs h.cut_ends unread reads writes
    (file_of s cut transcript b before.output after.output d told (Err ending) h to) end

-- or it reads on
pub serving_begun : (s : Session) (cut : Cut) (transcript : List ℕ) (b : Beginning) (before after : Streams) (d : DeskShape) (told : Told) →
    HasBegun s cut transcript b
    → setting_of d ≡ setting_of b.desk → after.input ≡ before.input → after.read_faults ≡ before.read_faults → after.write_faults ≡ before.write_faults
    → FileTo before.output after.output b.file.jobs b.file.ends d told (Ok tt) → IsServing (next_input cut) before after b.reader d told
serving_begun s cut transcript b before after d told h same unread reads writes to = grind (arith, file_of, serving_on, lanes_of)

-- a session behind it is one as it is promised
pub served_begun : (s : Session) (cut : Cut) (transcript : List ℕ) (b : Beginning) (d : DeskShape) (room : ℕ) (before after : Streams) (told : Told)
    (ending : RunFault) → HasBegun s cut transcript b
    → HistoriesKeepCompletable → HistoriesAreExact → setting_of d ≡ setting_of b.desk → room ≡ PIECE → IsLegal (opening_state d.opening) d.rounds told.entries
    → Serves (setting_of d) (next_input cut) room before after told ending →
    Served (setting_behind s (length b.desk.entries)) (next_input cut) PIECE before after told ending
served_begun s cut transcript b d room before after told ending h keeps exact same size legal serves =
    let set = setting_behind s (length b.desk.entries) in
    let is = set_behind s cut transcript b d h same in
    serves_kept set (next_input cut) PIECE before after told ending h.policy keeps exact
    (subst (λ (x : Setting). IsLegal (opening_state x.policy) x.rounds told.entries) is legal)
    (subst (λ n. Serves set (next_input cut) n before after told ending) size
    (subst (λ (x : Setting). Serves x (next_input cut) room before after told ending) is serves))

-- ---- what was taken up

-- ---- the run

-- what a run is, over a shelf and streams that are told
pub is_untouched : (r : Run) → r.after.input ≡ r.before.input → r.after.output ≡ r.before.output → r.told ≡ nothing_told → IsUntouched r
is_untouched r unread unwritten untold = record { unread = unread; unwritten = unwritten; untold = untold }

-- a run that ends before its session keeps what every run keeps
pub ended_orderly : (r : Run) → IsUntouched r → EndsBeginning (how_of r.fault) → CountsLoads r.fault r.load_faults r.load_faults_after →
    r.after.read_faults ≡ r.before.read_faults
    → r.after.write_faults ≡ r.before.write_faults → IsOrderly r
ended_orderly r nothing ending loads reads writes = grind arith

-- the run of a transcript that is refused does too
tells_late : (text : List ℕ) (before after : Option (List ℕ)) (ending : RunFault) → TellsAs text before after ending → is_before_input ending ≡ false
tells_late text before after ending tells = grind arith

tells_reads : (text : List ℕ) (before after : Option (List ℕ)) (ending : RunFault) (count : ℕ) → TellsAs text before after ending →
    CountsReads ending count count
tells_reads text before after ending count tells = grind arith

tells_loads : (text : List ℕ) (before after : Option (List ℕ)) (ending : RunFault) (count : ℕ) → TellsAs text before after ending →
    CountsLoads ending count count
tells_loads text before after ending count tells = grind arith

pub told_orderly : (text : List ℕ) (r : Run) → TellsAs text r.before.output r.after.output r.fault → r.load_faults_after ≡ r.load_faults →
    r.after.read_faults ≡ r.before.read_faults
    → CountsWrites r.fault r.before.write_faults r.after.write_faults → IsOrderly r
told_orderly text r tells loads reads writes = grind (arith, tells_late, tells_loads, tells_reads)

-- a transcript that is refused
told_refusal : (s : Session) (cut : Cut) (transcript : List ℕ) (repeats : Bool) (number : ℕ) (kind : AuditKind) (r : Run) → IsRefused s transcript number kind
    → r.after.input ≡ r.before.input → r.told ≡ nothing_told → (ending : RunFault) → r.fault ≡ ending →
    TellsAs (audit_fault_line number kind) r.before.output r.after.output ending
    → ResumesFrom s cut transcript repeats r
told_refusal s cut transcript repeats number kind r refused unread untold ending is tells = grind arith

-- entries behind a place are answered once where all are
once_behind : (n : ℕ) (es : List Entry) → AreAnsweredOnce es → AreAnsweredOnce (drop n es)
once_behind zero es once = once
once_behind (suc n) es once = grind (arith, (once_behind n))

-- ---- over the files

-- a run that ended before its session
pub ended_run : (names : FileNames) (options : Options) (repeats : Bool) (ending : RunFault) (r : Run) → AreOptions options → r.fault ≡ ending → IsUntouched r →
    IsOrderly r
    → OverFiles r.files names options.lanes (StopsBy (Err (Ends ending)))
    (λ p cut transcript. BeginsBy (session_of p options.lanes options.rounds cut) cut transcript (Err (Ends ending)))
    → ResumesRun names options repeats r
ended_run names options repeats ending r within is nothing orderly over = record {
  within = within;
  resumes = files_map r.files names options.lanes (StopsBy (Err (Ends ending))) (EndsBy r)
      (λ p cut transcript. BeginsBy (session_of p options.lanes options.rounds cut) cut transcript (Err (Ends ending)))
      (λ p cut transcript. ResumesFrom (session_of p options.lanes options.rounds cut) cut transcript repeats r)
      (λ x stops. let same : ending ≡ x = cc in (is ∙ same, nothing))
      (λ p requests transcript sound lacks. inl (is ∙ lacks, nothing)) over;
  orderly = orderly;
}

-- a run that told the first line of the transcript that is none
pub refused_run : (names : FileNames) (options : Options) (repeats : Bool) (number : ℕ) (kind : AuditKind) (r : Run) → AreOptions options
    → r.after.input ≡ r.before.input → r.told ≡ nothing_told → TellsAs (audit_fault_line number kind) r.before.output r.after.output r.fault → IsOrderly r
    → OverFiles r.files names options.lanes (StopsBy (Err (Line number kind)))
    (λ p cut transcript. BeginsBy (session_of p options.lanes options.rounds cut) cut transcript (Err (Line number kind)))
    → ResumesRun names options repeats r
refused_run names options repeats number kind r within unread untold tells orderly over = record {
  within = within;
  resumes = files_map r.files names options.lanes (StopsBy (Err (Line number kind))) (EndsBy r)
      (λ p cut transcript. BeginsBy (session_of p options.lanes options.rounds cut) cut transcript (Err (Line number kind)))
      (λ p cut transcript. ResumesFrom (session_of p options.lanes options.rounds cut) cut transcript repeats r)
      (λ x stops. absurd cc)
      (λ p requests transcript sound refused.
      let cut = jobs_of_input requests true options.lanes in
      told_refusal (session_of p options.lanes options.rounds cut) cut transcript repeats number kind r refused unread untold r.fault refl tells) over;
  orderly = orderly;
}

-- what begins a session is there
pub begun_there : (files : List ℕ → Filed) (names : FileNames) (options : Options) (b : Beginning)
    → OverFiles files names options.lanes (StopsBy (Ok b)) (λ p cut transcript. BeginsBy (session_of p options.lanes options.rounds cut) cut transcript (Ok b))
    → (s : Session) × ((cut : Cut) × ((transcript : List ℕ) × HasBegun s cut transcript b))
begun_there files names options b over =
    files_goal files names options.lanes (StopsBy (Ok b)) (λ p cut transcript. BeginsBy (session_of p options.lanes options.rounds cut) cut transcript (Ok b))
    ((s : Session) × ((cut : Cut) × ((transcript : List ℕ) × HasBegun s cut transcript b)))
    (λ x stops. absurd cc)
    (λ p cut transcript begun. (session_of p options.lanes options.rounds cut, (cut, (transcript, begun)))) over

-- and it has a lane
pub lanes_there : (files : List ℕ → Filed) (names : FileNames) (options : Options) (b : Beginning) → 0 < options.lanes
    → OverFiles files names options.lanes (StopsBy (Ok b)) (λ p cut transcript. BeginsBy (session_of p options.lanes options.rounds cut) cut transcript (Ok b))
    → 0 < b.desk.lanes
lanes_there files names options b some over = grind (arith, files_goal)

went_orderly : (s : Session) (cut : Cut) (n : ℕ) (r : Run) → Served (setting_behind s n) (next_input cut) PIECE r.before r.after r.told r.fault →
    r.load_faults_after ≡ r.load_faults → IsOrderly r
went_orderly s cut n r served loads = grind arith

-- a run whose session went on
pub gone_on : (names : FileNames) (options : Options) (repeats : Bool) (b : Beginning) (r : Run) → AreOptions options → r.load_faults_after ≡ r.load_faults
    → ((s : Session) (cut : Cut) (transcript : List ℕ) → HasBegun s cut transcript b →
    Served (setting_behind s (length b.desk.entries)) (next_input cut) PIECE r.before r.after r.told r.fault)
    → take (length b.desk.entries) r.told.entries ≡ b.desk.entries → AreRightful (drop (length b.desk.entries) r.told.entries)
    → LinesFit → JobsStayNamed → HasNames (state_after (opening_state b.desk.opening) b.desk.entries).book.policy
    → (repeats ≡ false → AreAnsweredOnce (drop (length b.desk.entries) r.told.entries) ⊎ (options.rounds ≡ 0))
    → OverFiles r.files names options.lanes (StopsBy (Ok b))
    (λ p cut transcript. BeginsBy (session_of p options.lanes options.rounds cut) cut transcript (Ok b))
    → ResumesRun names options repeats r
gone_on names options repeats b r within loads served begins wants law stay named once over = record {
  within = within;
  resumes = files_map r.files names options.lanes (StopsBy (Ok b)) (EndsBy r)
      (λ p cut transcript. BeginsBy (session_of p options.lanes options.rounds cut) cut transcript (Ok b))
      (λ p cut transcript. ResumesFrom (session_of p options.lanes options.rounds cut) cut transcript repeats r)
      (λ x stops. absurd cc)
      (λ p requests transcript sound begun.
      let cut = jobs_of_input requests true options.lanes in
      let s = session_of p options.lanes options.rounds cut in
      let all = served s cut transcript begun in
      inr (inr (record {
        entries = b.desk.entries;
        taken = begun.taken;
        begins = begins;
        served = all;
        wants = wants;
        fits = behind_fits p options requests transcript b r.before r.after r.told r.fault law stay within sound begun named all begins wants;
        once = λ never. elim (once never) [
          | inl so ↦ so
          | inr none ↦ once_behind (length b.desk.entries) r.told.entries (once_legal (opening_state p) options.rounds r.told.entries all.legal none)
        ];
      }))) over;
  orderly = let h = begun_there r.files names options b over in went_orderly h.0 h.1.0 (length b.desk.entries) r (served h.0 h.1.0 h.1.1.0 h.1.1.1) loads;
}

-- a run whose session does not go on, whatever the cause
pub all_refused : (names : FileNames) (options : Options) (repeats : Bool) (refusal : Refusal) (r : Run) → AreOptions options → r.after.input ≡ r.before.input →
    r.told ≡ nothing_told
    → r.after.read_faults ≡ r.before.read_faults → EndsBeginning (how_of (fault_by (Err refusal))) →
    CountsLoads (fault_by (Err refusal)) r.load_faults r.load_faults_after
    → RefusesAs refusal r.before.output r.after.output r.fault → CountsRefusal refusal r.before.write_faults r.after.write_faults r.fault
    → OverFiles r.files names options.lanes (StopsBy (Err refusal))
    (λ p cut transcript. BeginsBy (session_of p options.lanes options.rounds cut) cut transcript (Err refusal))
    → ResumesRun names options repeats r
all_refused names options repeats (Ends ending) r within still untold reads quiet loads refuses counts over =
    let nothing = is_untouched r still refuses.1 untold in
    ended_run names options repeats ending r within refuses.0 nothing
    (ended_orderly r nothing (subst (λ f. EndsBeginning (how_of f)) (sym refuses.0) quiet)
    (subst (λ f. CountsLoads f r.load_faults r.load_faults_after) (sym refuses.0) loads) reads counts) over
all_refused names options repeats (Line number kind) r within still untold reads quiet loads refuses counts over =
    refused_run names options repeats number kind r within still untold refuses (told_orderly (audit_fault_line number kind) r refuses loads reads counts) over

-- the words are a command
tells_usage : (text : List ℕ) (before after : Option (List ℕ)) (ending : RunFault) → TellsAs text before after ending → ending ≡ fault.Usage → ⊥
tells_usage text before after ending tells is = subst (TellsAs text before after) is tells

pub refused_usage : (refusal : Refusal) (before after : Option (List ℕ)) (ending : RunFault) → EndsBeginning (how_of (fault_by (Err refusal))) →
    RefusesAs refusal before after ending → ending ≡ fault.Usage → ⊥
refused_usage refusal before after ending quiet refuses is = grind (arith, tells_usage)

pub served_usage : (set : Setting) (first : Cut) (room : ℕ) (before after : Streams) (told : Told) (ending : RunFault) →
    Served set first room before after told ending → ending ≡ fault.Usage → ⊥
served_usage set first room before after told ending served is = subst (ReadsFor before.input after.input room (handed_in first told)) is served.reads

-- where no request may be answered again over several lanes, there are no rounds
no_rounds : (b : Bool) (n : ℕ) → b ≡ true → (b && nat_lt 0 n) ≡ false → n ≡ 0
no_rounds b n is never = grind (arith, common_steps)

no_rounds_of : (command : Command) → is_on_threads command ≡ true → may_repeat (Some command) ≡ false → rounds_of command ≡ 0
no_rounds_of command lanes never = grind (arith, no_rounds)

-- on threads
pub threaded : {Leaves : DeskShape → DeskShape → Type 0} (given : Option Command) (command : Command) (r : Run) → given ≡ Some command →
    is_on_threads command ≡ true → DoesBy Leaves command r → HasRun (may_repeat given) given r
threaded given command r is lanes does = grind arith

pub threaded_once : {A : Type 0} {Leaves : DeskShape → DeskShape → Type 0} (given : Option Command) (command : Command) → given ≡ Some command →
    is_on_threads command ≡ true → (IsServedOnce Leaves command → A) → may_repeat given ≡ false → A
threaded_once given command is lanes once never = once (inr (no_rounds_of command lanes (ap may_repeat (sym is) ∙ never)))

-- by the command that the words are
pub meant : (given : Option Command) (command : Command) (r : Run) → given ≡ Some command → HasRun (may_repeat (Some command)) (Some command) r →
    HasRun (may_repeat given) given r
meant given command r is does = subst (λ c. HasRun (may_repeat c) c r) (sym is) does

-- by turns
pub turned : {Leaves : DeskShape → DeskShape → Type 0} (repeats : Bool) (given : Option Command) (command : Command) (r : Run) →
    given ≡ Some command → ServesOnce Leaves → DoesBy Leaves command r → HasRun repeats given r
turned repeats given command r is once does = subst (λ c. HasRun repeats c r) (sym is) (inr (does repeats (λ never. inl once)))

-- over the shelf, the source and the sink that are reached
pub reached : {F S K : Type 0} (P : Run → Type 0) (file : F → List ℕ → Filed) (loads : F → ℕ) (left : S → Option (List ℕ)) (reads : S → ℕ)
    (held : K → Option (List ℕ)) (writes : K → ℕ) (o after : Outside F S K) (report : Report) (f f₁ : F) (s s₁ : S) (k k₁ : K)
    → o.shelf.now ≡ f → after.shelf.now ≡ f₁ → o.source.now ≡ s → after.source.now ≡ s₁ → o.sink.now ≡ k → after.sink.now ≡ k₁
    → P (run_over file loads left reads held writes o after report)
    → P (run_of file loads f f₁ (streams_of left reads held writes s k) (streams_of left reads held writes s₁ k₁) report)
reached {F} {S} {K} P file loads left reads held writes o after report f f₁ s s₁ k k₁ shelf shelf₁ source source₁ sink sink₁ h =
    let streams = streams_of left reads held writes in
    let run = λ (a b : F) (c d : S) (x y : K). P (run_of file loads a b (streams c x) (streams d y) report) in
    subst (λ a. run a f₁ s s₁ k k₁) shelf
    (subst (λ b. run o.shelf.now b s s₁ k k₁) shelf₁
    (subst (λ c. run o.shelf.now after.shelf.now c s₁ k k₁) source
    (subst (λ d. run o.shelf.now after.shelf.now o.source.now d k k₁) source₁
    (subst (λ x. run o.shelf.now after.shelf.now o.source.now after.source.now x k₁) sink
    (subst (λ y. run o.shelf.now after.shelf.now o.source.now after.source.now o.sink.now y) sink₁ h)))))
