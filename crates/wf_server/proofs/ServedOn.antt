-- A desk that is served on, step by step.
use Rattle.wf_server.proofs.Common.{◌≡◌, ◌<◌, List, [], length, take, refl, sym, subst, arith, drop_all, take_all, Entry, Job, Paused, BatchReaderShape}
use Rattle.wf_server.proofs.Common.{AreAnsweredOnce, DeskShape, IsSoundDesk, Told, nothing_told, Answered, ending_after, told_of, setting_of}
use Rattle.std.proofs.Common.{None, drop}
use Rattle.line_reader.specs.declared.batch_reader.Paused.TheVariants as paused
use Rattle.line_reader.specs.BatchReader.{GoesOnReading}
use Rattle.wf_desk.specs.Desks.{AreOfLanes, desk_with}
use Rattle.wf_server.specs.Batch.{CanBeServed, IsServedOn}
use Rattle.wf_server.specs.GoingOn.{GoOnBehind}
use Rattle.wf_server.specs.Session.{AreBehind}

-- a desk that is as it was
pub same_on : (Leaves : DeskShape → DeskShape → Type 0) (d : DeskShape) → IsServedOn Leaves d d
same_on Leaves d = record { setting = refl; begins = refl; once = λ serves once. once }

-- a desk that has taken a batch
pub loaded_on : (Leaves : DeskShape → DeskShape → Type 0) (d l : DeskShape) → setting_of l ≡ setting_of d → l.entries ≡ d.entries → IsServedOn Leaves d l
loaded_on Leaves d l setting entries = grind arith

pub loaded_ready : (d l : DeskShape) (batch : List Job) → setting_of l ≡ setting_of d → l.jobs ≡ batch → 0 < d.lanes → AreOfLanes d.lanes batch → CanBeServed l
loaded_ready d l batch setting loads some of_lanes = grind arith

-- one step behind another
pub on_then : (Leaves : DeskShape → DeskShape → Type 0) (d e f : DeskShape) → IsServedOn Leaves d e → IsServedOn Leaves e f → IsServedOn Leaves d f
on_then Leaves d e f one two = grind arith

-- what a session tells that ends at such a desk
behind_on : (Leaves : DeskShape → DeskShape → Type 0) (d e : DeskShape) → IsServedOn Leaves d e → IsSoundDesk e → AreBehind Leaves d e.entries
behind_on Leaves d e on sound = grind arith

pub told_behind : (Leaves : DeskShape → DeskShape → Type 0) (d e : DeskShape) (told : Told) (a : Answered) → told ≡ told_of e a → IsServedOn Leaves d e →
    IsSoundDesk e → AreBehind Leaves d told.entries
told_behind Leaves d e told a is on sound = subst (λ (t : Told). AreBehind Leaves d t.entries) (sym is) (behind_on Leaves d e on sound)

-- where there was no memory to begin at a new desk
pub bare_behind : (Leaves : DeskShape → DeskShape → Type 0) (d : DeskShape) (told : Told) → d ≡ desk_with d.opening d.lanes d.rounds d.board [] d.spare →
    told ≡ nothing_told → AreBehind Leaves d told.entries
bare_behind Leaves d told new nothing =
    subst (λ (t : Told). AreBehind Leaves d t.entries) (sym nothing)
    (subst (λ (x : DeskShape). AreBehind Leaves x []) (sym new) (record { legal = tt; begins = refl; wants = tt; once = λ serves none. tt }))

begins_behind : (b d : DeskShape) (es : List Entry) → b.restored ≡ length b.entries → d.restored ≡ b.restored →
    take d.restored es ≡ take d.restored d.entries
    → take b.restored d.entries ≡ take b.restored b.entries → take (length b.entries) es ≡ b.entries
begins_behind b d es size same later first = grind (arith, take_all)

none_before : (b : DeskShape) → b.restored ≡ length b.entries → AreAnsweredOnce (drop b.restored b.entries)
none_before b size = subst AreAnsweredOnce (sym (drop_all b.restored b.entries (omega (arith, size)))) tt

-- and one that goes on from there
pub behind_then : (Leaves : DeskShape → DeskShape → Type 0) (d e : DeskShape) (entries : List Entry) → d.restored ≡ length d.entries → IsServedOn Leaves d e →
    AreBehind Leaves e entries → GoOnBehind Leaves d.entries entries
behind_then Leaves d e entries size on behind = grind (arith, begins_behind, none_before)

-- one that ends with the requests file
pub told_then : (Leaves : DeskShape → DeskShape → Type 0) (d e : DeskShape) (told : Told) (a : Answered) → told ≡ told_of e a → d.restored ≡ length d.entries →
    IsServedOn Leaves d e → IsSoundDesk e → GoOnBehind Leaves d.entries told.entries
told_then Leaves d e told a is size on sound =
    subst (λ (t : Told). GoOnBehind Leaves d.entries t.entries) (sym is)
    (behind_then Leaves d e e.entries size on (behind_on Leaves e e (same_on Leaves e) sound))

-- where reading has paused between two batches a session goes on
pub pauses_on : (how : Paused) (r t : BatchReaderShape) → (how ≡ paused.Batch → GoesOnReading r t) → ending_after how ≡ None → GoesOnReading r t
pauses_on how r t ready none = grind arith
