-- The names of a policy stay names along a session.
use Rattle.entry_laws.proofs.Common.{◌≡◌, ℕ, ◌⊎◌, inl, inr, Bool, true, false, List, [], ◌∷◌, ◌++◌, length, slice_get, append-nil, append_assoc, Some, Result}
use Rattle.entry_laws.proofs.Common.{Ok, Err, refl, sym, subst, arith, length-append, AreNames, PolicyShape, Edit, Ask, Reply, Denial, Amendment, amended}
use Rattle.entry_laws.proofs.Common.{amendment_of, KeepsNames, changes_keep_names, Deed, IsSoundState, State, decision_of, state_after_decision}
use Rattle.entry_laws.proofs.Common.{state_after_deed, state_after_step, Fares, HoldsOf, IsTold, told, HasNames, flows_of}
use Rattle.std.proofs.Common.{not, nat_eq}
use Rattle.std.proofs.Common.{is_some, IsTrue}
use Rattle.std.specs.List.{position}
use Rattle.std.specs.Cmp.Lexicographic.{pointwise, nat_list_eq_equiv}
use Rattle.std.proofs.lemmas.Grind.{common_steps}
use Rattle.std.proofs.lemmas.List.Folds.{position_or_len_push}
use Rattle.std.proofs.lemmas.List.Sums.{prefix_len-le-length}
use Rattle.basics.specs.Laws.Reading.{◌>>=◌, check}
use Rattle.wf_names.specs.Names.{is_name}
use Rattle.wf_names.specs.Table.{place_of}
use Rattle.wf_talk.specs.declared.reply.Reply.TheVariants as reply
use Rattle.admin_edits.specs.declared.amendment.Amendment.TheVariants as amend
use Rattle.admin_edits.specs.declared.fault.EditCause.TheVariants as fault
use Rattle.admin_edits.specs.Laws.Edits.{allowed, found}
use Rattle.wf_board.specs.declared.deed.Deed.TheVariants as deed
use Rattle.line_reader.specs.Laws.{AddsNamed, IsNamedEdit}
use Rattle.entry_laws.proofs.Told.{FitsDenial, IsChangeFor, IsDeedFor, concern, decision_fares}

-- ---- policies that keep names

pub keeps_same : (p q : PolicyShape) → q ≡ p → KeepsNames p q
keeps_same p q same = grind (arith, append-nil)

pub keeps_then : (p q r : PolicyShape) → KeepsNames p q → KeepsNames q r → KeepsNames p r
keeps_then p q r first later = grind (arith, append_assoc)

-- ---- a step keeps names

deed_keeps_names : (s : State) (given : Deed) (answer : Reply) → IsSoundState s → IsTold s.book given → KeepsNames s.book.policy
    (state_after_deed s given answer).book.policy
deed_keeps_names s given answer sound known = grind (arith, changes_keep_names, keeps_same)

decision_keeps_names : (s : State) (r : Result Deed Denial) (answer : Reply) → IsSoundState s → HoldsOf (IsTold s.book) r → KeepsNames s.book.policy
    (state_after_decision s r answer).book.policy
decision_keeps_names s (Ok given) answer sound known = deed_keeps_names s given answer sound known
decision_keeps_names s (Err d) answer sound known = keeps_same s.book.policy s.book.policy refl

pub step_keeps_names : (s : State) (what : Ask) (answer : Reply) → IsSoundState s → KeepsNames s.book.policy (state_after_step s what answer).book.policy
step_keeps_names s what answer sound = decision_keeps_names s (decision_of s.book what) answer sound (told s.book what)

-- ---- one more name

get_pushed : (xs : List (List ℕ)) (y : List ℕ) (n : ℕ) (x : List ℕ) → slice_get (xs ++ y ∷ []) n ≡ Some x → (slice_get xs n ≡ Some x) ⊎
    ((n ≡ length xs) × (x ≡ y))
get_pushed [] y n x e = grind arith
get_pushed (z ∷ zs) y n x e = grind (arith, (get_pushed zs))

place_kept : (p : List ℕ → Bool) (xs : List (List ℕ)) (y : List ℕ) (n : ℕ) → position p xs ≡ Some n → position p (xs ++ y ∷ []) ≡ Some n
place_kept p xs y n is = grind (arith, common_steps, position_or_len_push p xs y, length-append xs (y ∷ []), is)

place_new : (p : List ℕ → Bool) (xs : List (List ℕ)) (y : List ℕ) → is_some (position p xs) ≡ false → p y ≡ true → position p (xs ++ y ∷ []) ≡ Some (length xs)
place_new p xs y none passes = grind (arith, common_steps, position_or_len_push, prefix_len-le-length, length-append)

pub names_pushed : (names : List (List ℕ)) (name : List ℕ) → AreNames names → IsTrue (is_name name) → is_some (place_of names name) ≡ false →
    AreNames (names ++ name ∷ [])
names_pushed names name are form fresh = record {
  form = λ n x e. form_at x (get_pushed names name n x e);
  alone = λ n x e. alone_at n x (get_pushed names name n x e);
}
  where
    form_at : {n : ℕ} (x : List ℕ) → (slice_get names n ≡ Some x) ⊎ ((n ≡ length names) × (x ≡ name)) → IsTrue (is_name x)
    form_at {n} x (inl is) = are.form n x is
    form_at x (inr is) = subst (λ (z : List ℕ). IsTrue (is_name z)) (sym is.1) form

    alone_at : (n : ℕ) (x : List ℕ) → (slice_get names n ≡ Some x) ⊎ ((n ≡ length names) × (x ≡ name)) → place_of (names ++ name ∷ []) x ≡ Some n
    alone_at n x (inl is) = place_kept (pointwise nat_eq x) names name n (are.alone n x is)
    alone_at n x (inr is) =
        subst (λ (m : ℕ). place_of (names ++ name ∷ []) x ≡ Some m) (sym is.0)
        (subst (λ (z : List ℕ). place_of (names ++ name ∷ []) z ≡ Some (length names)) (sym is.1)
        (place_new (pointwise nat_eq name) names name fresh (nat_list_eq_equiv.refl name)))

-- ---- changes

-- the user whom a change adds has a name of a name's form
abbrev IsNamedChange : Amendment → Type 0
IsNamedChange (amend.AddUser name) = IsTrue (is_name name)
IsNamedChange a = Unit {0}

names_kept : (p q : PolicyShape) → KeepsNames p q → HasNames p → AreNames q.roster.users → HasNames q
names_kept p q keeps names users = grind arith

first_passed : {F : Type 0} (b : Bool) (fault : F) (next : Result (Unit {0}) F) → (check (not b) fault >>= (λ (_ : Unit {0}). next)) ≡ Ok tt → b ≡ false
first_passed b fault next is = grind arith

amended_users : (p : PolicyShape) (a : Amendment) → HasNames p → IsNamedChange a → allowed p a ≡ Ok tt → AreNames (amended p a).roster.users
amended_users p a names form ok = grind (arith, names_pushed, first_passed)

amendment_named : (p : PolicyShape) (by : List ℕ) (e : Edit) → IsNamedEdit e → HoldsOf IsNamedChange (amendment_of p by e)
amendment_named p by e form = grind arith

-- the change that is asked adds a user with such a name
change_named : (p : PolicyShape) (what : Ask) (a : Amendment) → IsChangeFor p what a → AddsNamed what → IsNamedChange a
change_named p what a is form = grind (arith, amendment_named)

-- ---- steps

deed_names : (s : State) (what : Ask) (given : Deed) (answer : Reply) → IsSoundState s → IsTold s.book given → AddsNamed what →
    IsDeedFor s what given → HasNames s.book.policy → HasNames (state_after_deed s given answer).book.policy
deed_names s what (deed.Change a) (reply.Edited n) sound known form of names =
    let its = known.0 sound.policy in
    names_kept s.book.policy (amended s.book.policy a) (changes_keep_names s.book.policy a its.found) names
    (amended_users s.book.policy a names (change_named s.book.policy what a of form) its.allowed)
deed_names s what given answer sound known form of names = grind arith

decision_names : (s : State) (what : Ask) (r : Result Deed Denial) (answer : Reply) → IsSoundState s → HoldsOf (IsTold s.book) r → AddsNamed what →
    Fares (IsDeedFor s what) (FitsDenial s.book.policy (flows_of s) (concern s what)) r → HasNames s.book.policy
    → HasNames (state_after_decision s r answer).book.policy
decision_names s what (Ok given) answer sound known form of names = deed_names s what given answer sound known form of names
decision_names s what (Err d) answer sound known form of names = names

pub step_names : (s : State) (what : Ask) (answer : Reply) → IsSoundState s → AddsNamed what → HasNames s.book.policy →
    HasNames (state_after_step s what answer).book.policy
step_names s what answer sound form names =
    decision_names s what (decision_of s.book what) answer sound (told s.book what) form (decision_fares s what sound) names
