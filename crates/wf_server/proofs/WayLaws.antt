-- What comes of a way of serving.
use Rattle.wf_server.proofs.Common.{◌≡◌, ℕ, List, [], ◌∷◌, ◌++◌, subst, arith, Entry, AreAnsweredOnce, EachAfter, IsLegal, IsRightAfter, State, DeskShape}
use Rattle.wf_server.proofs.Common.{IsSoundDesk}
use Rattle.std.proofs.Common.{drop}
use Rattle.std.proofs.lemmas.List.{drop-append-le}
use Rattle.wf_board.proofs.HistoryLaws.{once_all, step_once}
use Rattle.wf_lanes.specs.Turns.{HasServedOn}

-- where no entry so far is a repetition, none is after serving by turns
pub once_on : (d e : DeskShape) → IsSoundDesk d → HasServedOn d e → AreAnsweredOnce (drop d.restored d.entries) → AreAnsweredOnce (drop d.restored e.entries)
once_on d e sound on once = grind (arith, drop-append-le, once_all)

-- without rounds no entry is answered again
never_again : (s : State) (earlier entries : List Entry) → EachAfter (IsRightAfter s 0) earlier entries → AreAnsweredOnce entries
never_again s earlier [] right = tt
never_again s earlier (e ∷ es) right = grind (arith, step_once, (never_again s (earlier ++ e ∷ []) es right.1))

pub once_legal : (s : State) (rounds : ℕ) (entries : List Entry) → IsLegal s rounds entries → rounds ≡ 0 → AreAnsweredOnce entries
once_legal s rounds entries legal none = never_again s [] entries (subst (λ n. IsLegal s n entries) none legal)
