-- What a list gives, row by row, where threads share it.
use Rattle.std.proofs.Common.{◌≡◌, ℕ, zero, suc, ◌+◌, ◌<◌, List, [], ◌∷◌, length, take, map, get_or, Option, None, Some, Result, Ok, Err, IfOk}
use Rattle.std.proofs.Common.{MatchResult, sym, subst, arith}
use Rattle.std.specs.Borrow.{Bor}
use Rattle.std.specs.List.{AllZip, Contains, flat_map}
use Rattle.rayon.proofs.ToStd.{slice-AllZip}
use Rattle.refutation_tree.specs.declared.tree.Tree.{Tree}
use Rattle.policy_book.specs.Laws.Shapes.{PolicyShape}
use Rattle.grant_table.specs.declared.rows.Row.{Row}
use Rattle.wf_talk.specs.declared.reply.WorkItem.{WorkItem}
use Rattle.wsp_solver.specs.declared.search.Outcome.{Outcome}
use Rattle.wf_board.specs.Edition.{ArePlansOf, IsFirstStranded}
use Rattle.case_views.specs.Deciding.{IsPartAdded}
use Rattle.case_views.specs.Listing.{AreStrandedIn, IsLeftAt, IsWorkIn, list_of, open_in}
use Rattle.case_views.proofs.Editing.{added_of, open_cons, plans_more, stranded_here}
use Rattle.case_views.proofs.Listing.{granted_append}
use Rattle.case_views.proofs.Lists.{steps_append}

-- where every result is a value, the values are told as the results are
values_told : {X Y : Type 0} (E : Type 0) (Q : X → Y → Type 0) (xs : List X) (ys : List Y) → AllZip (λ x (r : Result Y E). IfOk r (Q x)) xs (map Ok ys) →
    AllZip Q xs ys
values_told E Q [] ys each = grind arith
values_told E Q (x ∷ xs) [] each = absurd each
values_told E Q (x ∷ xs) (y ∷ ys) each = (each.0, values_told E Q xs ys each.1)

-- what was collected of a slice
pub collected : {X Y E V : Type 0} (items : V → List Y) (Q : X → Y → Type 0) (zs : List (Bor X)) (s : List X) (rs : List (Result Y E)) (r : Result V E) →
    map (λ (z : Bor X). z.now) zs ≡ s → AllZip (λ (z : Bor X) x. IfOk x (Q z.now)) zs rs →
    MatchResult r (λ v. (ys : List Y) × (rs ≡ map Ok ys) × (items v ≡ ys)) (λ e. Contains rs (Err e)) → IfOk r (λ v. AllZip Q s (items v))
collected {E} items Q zs s rs (Ok v) shown each made =
    let told = slice-AllZip zs s shown (λ x r. IfOk r (Q x)) rs each in
    subst (AllZip Q s) (sym made.2) (values_told E Q s made.0 (subst (AllZip (λ x r. IfOk r (Q x)) s) made.1 told))
collected items Q zs s rs (Err e) shown each made = tt

-- ---- one row after the other

-- what is said of two lists, place by place
zip_at : {X Y : Type 0} (Q : X → Y → Type 0) (xs : List X) (ys : List Y) (i : ℕ) (x : X) (y : Y) → i < length xs → x ≡ get_or xs i x → y ≡ get_or ys i y →
    AllZip Q xs ys → Q x y
zip_at Q [] ys i x y below one other each = absurd (omega arith)
zip_at Q (a ∷ xs) [] i x y below one other each = absurd each
zip_at Q (a ∷ xs) (b ∷ ys) zero x y below one other each = subst (λ z. Q z y) (sym one) (subst (Q a) (sym other) each.0)
zip_at Q (a ∷ xs) (b ∷ ys) (suc i) x y below one other each = zip_at Q xs ys i x y (omega arith) one other each.1

-- ---- views

-- the work in rows is that in one after the other
pub work_joined : (p : PolicyShape) (u : ℕ) (rows : List Row) (parts : List (List WorkItem)) → AllZip (λ r part. IsWorkIn p u (r ∷ []) part) rows parts →
    IsWorkIn p u rows (flat_map (λ part. part) parts)
work_joined p u [] parts each = grind arith
work_joined p u (r ∷ rs) [] each = absurd each
work_joined p u (r ∷ rs) (part ∷ parts) each = grind (arith, open_cons, steps_append, granted_append, (work_joined p u rs parts each.1))

-- and so are the stranded cases
pub stranded_joined : (p : PolicyShape) (rows : List Row) (parts : List (Option ℕ)) → AllZip (λ r part. AreStrandedIn p (r ∷ []) (list_of part)) rows parts →
    AreStrandedIn p rows (flat_map list_of parts)
stranded_joined p [] parts each = grind arith
stranded_joined p (r ∷ rs) [] each = absurd each
stranded_joined p (r ∷ rs) (part ∷ parts) each = grind (arith, (stranded_joined p rs parts each.1))

-- ---- edits

-- each open case so far has a plan, under every policy that leaves this
abbrev pub HavePlans : List Row → List (Option Outcome) → ℕ → List (List ℕ) → Type 0
HavePlans rows parts i plans = (p : PolicyShape) → AllZip (IsLeftAt p) rows parts → ArePlansOf p (open_in (take i rows)) plans

pub left_more : (rows : List Row) (parts : List (Option Outcome)) (i : ℕ) (r : Row) (part : Option Outcome) (plans all : List (List ℕ)) → i < length rows →
    r ≡ get_or rows i r → part ≡ get_or parts i part →
    HavePlans rows parts i plans → IsPartAdded part plans all None → HavePlans rows parts (i + 1) all
left_more rows parts i r part plans all below row is so_far added = grind (arith, added_of, zip_at, plans_more)

-- or one is the first without
pub left_here : (rows : List Row) (parts : List (Option Outcome)) (i : ℕ) (r : Row) (part : Option Outcome) (plans all : List (List ℕ)) (tree : Tree) →
    i < length rows → r ≡ get_or rows i r → part ≡ get_or parts i part →
    HavePlans rows parts i plans → IsPartAdded part plans all (Some tree) → (p : PolicyShape) → AllZip (IsLeftAt p) rows parts →
    IsFirstStranded p (open_in rows) r.number r.case.flow tree
left_here rows parts i r part plans all tree below row is so_far added p each = grind (arith, added_of, zip_at, stranded_here)
