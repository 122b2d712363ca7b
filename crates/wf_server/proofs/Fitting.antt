-- Every line that a session writes fits a line of an audit.
use Rattle.wf_server.proofs.Common.{◌≡◌, ℕ, ◌+◌, ◌<◌, ◌≤◌, ◌^◌, Bool, true, false, List, [], ◌++◌, length, take, refl, sym, ap, subst, ◌∙◌, arith}
use Rattle.wf_server.proofs.Common.{length-append, take-append-drop, LANE_LIMIT, PolicyShape, IsFilePolicy, opening_state, AreRightful, IsLegal, Cut}
use Rattle.wf_server.proofs.Common.{jobs_of_input, next_input, start, AreNamedJobs, JobsAreInOrder, JobsStayNamed, HasNames, FitLines, LinesFit, texts_of}
use Rattle.wf_server.proofs.Common.{RunFault, Told, Streams, AreOptions, Options, Beginning, HasBegun, session_of, AreInOrderFrom, setting_behind, Served}
use Rattle.wf_server.proofs.Common.{Setting}
use Rattle.std.proofs.Common.{drop}
use Rattle.wf_board.specs.Laws.Histories.{state_after}
use Rattle.line_reader.specs.Jobs.{end_batch, flush, jobs_from}
use Rattle.transcript_commands.specs.declared.start.TheConstants.{PIECE}
use Rattle.wf_server.specs.Laws.Serving.{setting}
use Rattle.wf_server.proofs.Handed.{answer_lines, lines_behind, nothing_open}

-- what a session is served with, behind what was cut before
record IsServedWith (set : Setting) (lanes : ℕ) (first : Cut) : Type 0 where
  file : IsFilePolicy set.policy
  few_rounds : set.rounds < 2 ^ 8
  few_lanes : lanes ≤ LANE_LIMIT
  order : AreInOrderFrom lanes first
  named : (bytes : List ℕ) (ended : Bool) → AreNamedJobs (jobs_from first bytes ended).jobs
  none : jobs_from first [] false ≡ first

session_fits : (set : Setting) (lanes : ℕ) (first : Cut) (room : ℕ) (before after : Streams) (told : Told) (ending : RunFault) → LinesFit →
    IsServedWith set lanes first →
    Served set first room before after told ending → HasNames (state_after (opening_state set.policy) (take set.restored told.entries)).book.policy →
    AreRightful (drop set.restored told.entries) →
    FitLines (texts_of (state_after (opening_state set.policy) (take set.restored told.entries)) (drop set.restored told.entries))
session_fits set lanes first room before after told ending law known served names rightful =
    let n = set.restored in
    let es = told.entries in
    let answers =
    answer_lines lanes first before.input after.input room told ending known.few_lanes known.order known.named known.none served.reads served.fills in
    let few = answers.few in
    let whole : take n es ++ drop n es ≡ es = take-append-drop n es in
    let size : length (take n es) + length (drop n es) ≡ length es = sym (length-append (take n es) (drop n es)) ∙ ap length whole in
    law set.policy set.rounds (take n es) (drop n es) (record {
      policy = known.file.sound;
      steps = known.file.steps;
      legal = subst (IsLegal (opening_state set.policy) set.rounds) (sym whole) served.legal;
      few_rounds = known.few_rounds;
      few_entries = omega (arith, few, size);
      names = names;
      lines = lines_behind n es answers.lines;
      rightful = rightful;
    })

-- before the first byte nothing is open
start_open : (lanes : ℕ) → jobs_from (start lanes) [] false ≡ start lanes
unfolding jobs_from end_batch flush
start_open lanes = refl

-- of a session from the beginning on
pub served_fits : (p : PolicyShape) (options : Options) (room : ℕ) (before after : Streams) (told : Told) (ending : RunFault) → LinesFit → JobsStayNamed →
    JobsAreInOrder options.lanes →
    AreOptions options → IsFilePolicy p → HasNames p → Served (setting p options) (start options.lanes) room before after told ending →
    AreRightful told.entries →
    FitLines (texts_of (opening_state p) told.entries)
served_fits p options room before after told ending law stay order within file names served rightful =
    let rounds = within.rounds in
    session_fits (setting p options) options.lanes (start options.lanes) room before after told ending law
    (record {
      file = file;
      few_rounds = omega (arith, rounds);
      few_lanes = within.lanes;
      order = order;
      named = λ bytes ended. stay (start options.lanes) bytes ended tt;
      none = start_open options.lanes;
    })
    served names rightful

-- of one behind entries that were taken up
pub behind_fits : (p : PolicyShape) (options : Options) (requests transcript : List ℕ) (b : Beginning) (before after : Streams) (told : Told)
    (ending : RunFault) → LinesFit → JobsStayNamed →
    AreOptions options → IsFilePolicy p →
    HasBegun (session_of p options.lanes options.rounds (jobs_of_input requests true options.lanes)) (jobs_of_input requests true options.lanes) transcript b →
    HasNames (state_after (opening_state b.desk.opening) b.desk.entries).book.policy →
    Served (setting_behind (session_of p options.lanes options.rounds (jobs_of_input requests true options.lanes)) (length b.desk.entries))
    (next_input (jobs_of_input requests true options.lanes)) PIECE
    before after told ending → take (length b.desk.entries) told.entries ≡ b.desk.entries → AreRightful (drop (length b.desk.entries) told.entries) →
    FitLines (texts_of (state_after (opening_state p) b.desk.entries) (drop (length b.desk.entries) told.entries))
behind_fits p options requests transcript b before after told ending law stay within file begun names served begins rightful =
    let cut = jobs_of_input requests true options.lanes in
    let n = length b.desk.entries in
    let rounds = within.rounds in
    let own = subst (λ (q : PolicyShape). HasNames (state_after (opening_state q) b.desk.entries).book.policy) begun.opening names in
    subst (λ es. FitLines (texts_of (state_after (opening_state p) es) (drop n told.entries))) begins
    (session_fits (setting_behind (session_of p options.lanes options.rounds cut) n) options.lanes (next_input cut) PIECE before after told ending law
    (record {
      file = file;
      few_rounds = omega (arith, rounds);
      few_lanes = within.lanes;
      order = begun.goes_on.order;
      named = λ bytes ended. stay (next_input cut) bytes ended (stay (start options.lanes) requests true tt);
      none = nothing_open options.lanes cut begun.goes_on;
    })
    served (subst (λ es. HasNames (state_after (opening_state p) es).book.policy) (sym begins) own) rightful)
