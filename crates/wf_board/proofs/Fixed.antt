-- A state and what is asked fix the reply, but for its plan or tree, and the state after it.
use Rattle.wf_board.proofs.Common.{◌≡◌, ℕ, inl, inr, true, false, List, [], ◌∷◌, Result, Ok, Err, refl, sym, ap, ◌∙◌, arith, is_done, Tree, PolicyShape}
use Rattle.wf_board.proofs.Common.{IsSoundPolicy, AreAssigned, refutes_soundly, CaseShape, finished_case, Amendment, amended, HoldsOf}
use Rattle.wf_board.proofs.Common.{changes_keep_policies_sound, Reply, Denial, Deed, Duty, Numbered, State, decision_of, CanBeCompleted, IsFirstStranded}
use Rattle.wf_board.proofs.Common.{IsTreeOf, Answers, IsReplyTo, state_after_decision, IsSoundState, none_member}
use Rattle.constraint_forms.specs.Assign.{no_steps, no_users}
use Rattle.wf_talk.specs.declared.request.Bad.{Bad}
use Rattle.wf_talk.specs.declared.reply.Reply.TheVariants as reply
use Rattle.wf_talk.specs.declared.reply.Denial.TheVariants as denial
use Rattle.wf_board.specs.declared.deed.Deed.TheVariants as deed
use Rattle.wf_board.specs.Laws.Steps.{face_of}
use Rattle.wf_board.specs.Laws.{OutcomeIsFixed, bare}
use Rattle.wf_board.proofs.Listed.{one_list}
use Rattle.wf_board.proofs.Exact.{finished_assigned, refuted_claim, stranded_not, well_formed_any}
use Rattle.wf_board.proofs.Told.{IsTold, told}

-- two replies are the same but for their plans or trees, and so are the states after them
abbrev HasSame : State → Result Deed Denial → Reply → Reply → Type 0
HasSame s r one other = (bare one ≡ bare other) × (state_after_decision s r one ≡ state_after_decision s r other)

-- ---- openings

pub none_assigned : AreAssigned no_steps no_users
none_assigned s is = let apart : true ≡ false = sym is ∙ none_member s in cc

refuted_opening : (s : State) (f n g : ℕ) (plan : List ℕ) (t : Tree) → IsSoundState s → IsReplyTo s (deed.Open f) (reply.Opened n plan) →
    IsReplyTo s (deed.Open f) (reply.Denied (denial.Unsatisfiable g t)) → ⊥
refuted_opening s f n g plan t sound opened refuted = grind (arith, refutes_soundly, well_formed_any, none_assigned)

fixed_opened : (s : State) (f n : ℕ) (plan : List ℕ) (other : Reply) → IsSoundState s → IsReplyTo s (deed.Open f) (reply.Opened n plan) →
    IsReplyTo s (deed.Open f) other → ¬ (other ≡ reply.NoMemory) →
    HasSame s (Ok (deed.Open f)) (reply.Opened n plan) other
fixed_opened s f n plan reply.NoMemory sound a b memory = absurd (memory refl)
fixed_opened s f n plan (reply.Opened m q) sound a b memory = (ap (λ k. reply.Opened k []) (a.0 ∙ sym b.0), refl)
fixed_opened s f n plan (reply.Denied (denial.Unsatisfiable g t)) sound a b memory = absurd (refuted_opening s f n g plan t sound a b)
fixed_opened s f n plan other sound a b memory = absurd b

fixed_unsatisfiable : (s : State) (f g : ℕ) (t : Tree) (other : Reply) → IsSoundState s →
    IsReplyTo s (deed.Open f) (reply.Denied (denial.Unsatisfiable g t)) → IsReplyTo s (deed.Open f) other →
    ¬ (other ≡ reply.NoMemory) → HasSame s (Ok (deed.Open f)) (reply.Denied (denial.Unsatisfiable g t)) other
fixed_unsatisfiable s f g t reply.NoMemory sound a b memory = absurd (memory refl)
fixed_unsatisfiable s f g t (reply.Opened m q) sound a b memory = absurd (refuted_opening s f m g q t sound b a)
fixed_unsatisfiable s f g t other sound a b memory = grind arith

fixed_opening : (s : State) (f : ℕ) (one other : Reply) → IsSoundState s → IsReplyTo s (deed.Open f) one → IsReplyTo s (deed.Open f) other →
    ¬ (one ≡ reply.NoMemory) → ¬ (other ≡ reply.NoMemory) →
    HasSame s (Ok (deed.Open f)) one other
fixed_opening s f reply.NoMemory other sound a b m memory = absurd (m refl)
fixed_opening s f (reply.Opened n plan) other sound a b m memory = fixed_opened s f n plan other sound a b memory
fixed_opening s f (reply.Denied (denial.Unsatisfiable g t)) other sound a b m memory = fixed_unsatisfiable s f g t other sound a b memory
fixed_opening s f one other sound a b m memory = absurd a

-- ---- claims

fixed_granted : (s : State) (d : Duty) (plan : List ℕ) (other : Reply) → IsSoundState s → IsTold s.book (deed.Claim d) →
    IsReplyTo s (deed.Claim d) (reply.Granted plan) → IsReplyTo s (deed.Claim d) other → ¬ (other ≡ reply.NoMemory) →
    HasSame s (Ok (deed.Claim d)) (reply.Granted plan) other
fixed_granted s d plan reply.NoMemory sound known a b memory = absurd (memory refl)
fixed_granted s d plan (reply.Granted q) sound known a b memory = (refl, refl)
fixed_granted s d plan (reply.Denied (denial.Stranded g x)) sound known a b memory = absurd (refuted_claim s d x sound known (refl, b.1) (plan, a))
fixed_granted s d plan other sound known a b memory = absurd b

fixed_stranded : (s : State) (d : Duty) (g : ℕ) (x : Tree) (other : Reply) → IsSoundState s → IsTold s.book (deed.Claim d) →
    IsReplyTo s (deed.Claim d) (reply.Denied (denial.Stranded g x)) → IsReplyTo s (deed.Claim d) other → ¬ (other ≡ reply.NoMemory) →
    HasSame s (Ok (deed.Claim d)) (reply.Denied (denial.Stranded g x)) other
fixed_stranded s d g x reply.NoMemory sound known a b memory = absurd (memory refl)
fixed_stranded s d g x (reply.Granted q) sound known a b memory = absurd (refuted_claim s d x sound known (refl, a.1) (q, b))
fixed_stranded s d g x other sound known a b memory = grind arith

fixed_claim : (s : State) (d : Duty) (one other : Reply) → IsSoundState s → IsTold s.book (deed.Claim d) →
    IsReplyTo s (deed.Claim d) one →
    IsReplyTo s (deed.Claim d) other → ¬ (one ≡ reply.NoMemory) → ¬ (other ≡ reply.NoMemory) → HasSame s (Ok (deed.Claim d)) one other
fixed_claim s d reply.NoMemory other sound known a b m memory = absurd (m refl)
fixed_claim s d (reply.Granted plan) other sound known a b m memory = fixed_granted s d plan other sound known a b memory
fixed_claim s d (reply.Denied (denial.Stranded g x)) other sound known a b m memory = fixed_stranded s d g x other sound known a b memory
fixed_claim s d one other sound known a b m memory = absurd a

-- ---- edits

-- a case of which a tree shows that it cannot be completed cannot be
tree_excludes : (p : PolicyShape) (c : CaseShape) (t : Tree) → IsSoundPolicy p → IsTreeOf p c t → ¬ CanBeCompleted p c
tree_excludes p c t sound is = grind (arith, refutes_soundly, well_formed_any, finished_assigned)

-- there is one first stranded case
pub one_stranded : (p : PolicyShape) (cases : List Numbered) (n f m g : ℕ) (t u : Tree) → IsSoundPolicy p → IsFirstStranded p cases n f t →
    IsFirstStranded p cases m g u → (n ≡ m) × (f ≡ g)
one_stranded p [] n f m g t u sound a b = absurd a
one_stranded p (e ∷ es) n f m g t u sound (inl a) (inl b) = (sym a.0 ∙ b.0, sym a.1.0 ∙ b.1.0)
one_stranded p (e ∷ es) n f m g t u sound (inl a) (inr b) = absurd (tree_excludes p e.case t sound a.1.1 b.0)
one_stranded p (e ∷ es) n f m g t u sound (inr a) (inl b) = absurd (tree_excludes p e.case u sound b.1.1 a.0)
one_stranded p (e ∷ es) n f m g t u sound (inr a) (inr b) = one_stranded p es n f m g t u sound a.1 b.1

fixed_edited : (s : State) (a : Amendment) (number : ℕ) (other : Reply) → IsSoundPolicy (amended s.book.policy a) →
    IsReplyTo s (deed.Change a) (reply.Edited number) → IsReplyTo s (deed.Change a) other →
    ¬ (other ≡ reply.NoMemory) → HasSame s (Ok (deed.Change a)) (reply.Edited number) other
fixed_edited s a number other sound x y memory = grind (arith, stranded_not)

fixed_strands : (s : State) (a : Amendment) (n f : ℕ) (t : Tree) (other : Reply) → IsSoundPolicy (amended s.book.policy a) →
    IsReplyTo s (deed.Change a) (reply.Denied (denial.Strands n f t)) →
    IsReplyTo s (deed.Change a) other → ¬ (other ≡ reply.NoMemory) → HasSame s (Ok (deed.Change a)) (reply.Denied (denial.Strands n f t)) other
fixed_strands s a n f t other sound x y memory = grind (arith, stranded_not, one_stranded)

fixed_change : (s : State) (a : Amendment) (one other : Reply) → IsSoundPolicy (amended s.book.policy a) → IsReplyTo s (deed.Change a) one →
    IsReplyTo s (deed.Change a) other →
    ¬ (one ≡ reply.NoMemory) → ¬ (other ≡ reply.NoMemory) → HasSame s (Ok (deed.Change a)) one other
fixed_change s a reply.NoMemory other sound x y m memory = absurd (m refl)
fixed_change s a (reply.Edited number) other sound x y m memory = fixed_edited s a number other sound x y memory
fixed_change s a (reply.Denied (denial.Strands n f t)) other sound x y m memory = fixed_strands s a n f t other sound x y memory
fixed_change s a one other sound x y m memory = absurd x

-- ---- what is fixed whole

-- a reply, unless it is want of memory, is this one
abbrev IsThis : State → Deed → Reply → Type 0
IsThis s d this = (given : Reply) → IsReplyTo s d given → ¬ (given ≡ reply.NoMemory) → given ≡ this

same_this : (s : State) (d : Deed) (this one other : Reply) → IsThis s d this → IsReplyTo s d one → IsReplyTo s d other → ¬ (one ≡ reply.NoMemory) →
    ¬ (other ≡ reply.NoMemory) →
    HasSame s (Ok d) one other
same_this s d this one other is a b m memory = grind arith

finish_this : (s : State) (d : Duty) → IsThis s (deed.Finish d) (reply.Finished (is_done (finished_case d.case d.step).phase))
finish_this s d = grind arith

return_this : (s : State) (d : Duty) → IsThis s (deed.GiveBack d) reply.Returned
return_this s d = grind arith

release_this : (s : State) (n : ℕ) (c : CaseShape) (t : ℕ) → IsThis s (deed.Release n c t) reply.Released
release_this s n c t = grind arith

withdrawal_this : (s : State) (n : ℕ) → IsThis s (deed.Withdraw n) reply.Withdrawn
withdrawal_this s n = grind arith

showing_this : (s : State) (c : CaseShape) → IsThis s (deed.Show c) (reply.Shown (face_of c))
showing_this s c = grind arith

bad_this : (s : State) (bad : Bad) → IsThis s (deed.TurnAway bad) (reply.Bad bad)
bad_this s bad = grind arith

-- ---- views

work_fixed : (s : State) (u : ℕ) (one other : Reply) → IsReplyTo s (deed.Work u) one → IsReplyTo s (deed.Work u) other → ¬ (one ≡ reply.NoMemory) →
    ¬ (other ≡ reply.NoMemory) →
    HasSame s (Ok (deed.Work u)) one other
work_fixed s u one other a b m memory = grind (arith, one_list)

what_if_fixed : (s : State) (a : Amendment) (one other : Reply) → IsReplyTo s (deed.WhatIf a) one → IsReplyTo s (deed.WhatIf a) other →
    ¬ (one ≡ reply.NoMemory) → ¬ (other ≡ reply.NoMemory) →
    HasSame s (Ok (deed.WhatIf a)) one other
what_if_fixed s a one other x y m memory = grind (arith, one_list)

-- ---- outcomes

fixed_deed : (s : State) (d : Deed) (one other : Reply) → IsSoundState s → IsTold s.book d → IsReplyTo s d one → IsReplyTo s d other →
    ¬ (one ≡ reply.NoMemory) → ¬ (other ≡ reply.NoMemory) → HasSame s (Ok d) one other
fixed_deed s (deed.Open f) one other sound known a b m memory = fixed_opening s f one other sound a b m memory
fixed_deed s (deed.Claim d) one other sound known a b m memory = fixed_claim s d one other sound known a b m memory
fixed_deed s (deed.Finish d) one other sound known a b m memory =
    same_this s (deed.Finish d) (reply.Finished (is_done (finished_case d.case d.step).phase)) one other (finish_this s d) a b m memory
fixed_deed s (deed.GiveBack d) one other sound known a b m memory =
    same_this s (deed.GiveBack d) reply.Returned one other (return_this s d) a b m memory
fixed_deed s (deed.Release n c t) one other sound known a b m memory =
    same_this s (deed.Release n c t) reply.Released one other (release_this s n c t) a b m memory
fixed_deed s (deed.Withdraw n) one other sound known a b m memory = same_this s (deed.Withdraw n) reply.Withdrawn one other (withdrawal_this s n) a b m memory
fixed_deed s (deed.Change a) one other sound known x y m memory =
    let its = known.0 sound.policy in
    fixed_change s a one other (changes_keep_policies_sound s.book.policy a sound.policy its.found its.allowed) x y m memory
fixed_deed s d one other sound known a b m memory = grind (arith, same_this, showing_this, work_fixed, what_if_fixed, bad_this)

fixed_decision : (s : State) (r : Result Deed Denial) (one other : Reply) → IsSoundState s → HoldsOf (IsTold s.book) r → Answers s r one →
    Answers s r other → ¬ (one ≡ reply.NoMemory) → ¬ (other ≡ reply.NoMemory) →
    HasSame s r one other
fixed_decision s (Ok d) one other sound known a b m memory = fixed_deed s d one other sound known a b m memory
fixed_decision s (Err d) one other sound known (inl a) (inl b) m memory = (ap bare (a ∙ sym b), refl)
fixed_decision s r one other sound known h6 b m memory = grind arith

pub outcome_is_fixed : OutcomeIsFixed
outcome_is_fixed s what one other sound a b m memory = fixed_decision s (decision_of s.book what) one other sound (told s.book what) a b m memory
