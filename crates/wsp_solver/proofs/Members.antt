-- Sets of steps with one more, and what trees mention.
use Rattle.std.proofs.Common.{◌≡◌, refl, ap, ◌∙◌, ℕ, ◌+◌, ◌<◌, Bool, true, ◌&&◌, ◌||◌, ◌==◌, nat_lt, List}
use Rattle.std.proofs.Common.{length, slice_set, arith}
use Rattle.std.proofs.Math.Bool.{or_assoc}
use Rattle.std.proofs.lemmas.Bool.Decides.{eqb_tells, leb_tells}
use Rattle.std.proofs.lemmas.List.{get_or-set_same, get_or-set_other, length-set}
use Rattle.constraint_forms.specs.declared.rule.Rule.{Rule}
use Rattle.constraint_forms.specs.Assign.{is_member}
use Rattle.basics.proofs.Booleans.{and-false, lt_no, lt_yes, or-false}
use Rattle.refutation_tree.specs.Tree.{Shape, Kids, no_kids, tree_kid, twin_kid, joined}
use Rattle.policy_book.specs.Laws.Refuting.{mentions, any_mentions}
use Rattle.wsp_solver.specs.Searches.{AreMentioned, AreMentionedIn}

pub length_set : (set : List Bool) (s : ℕ) (b : Bool) → length (slice_set set s b) ≡ length set
length_set set s b = length-set set s b

or-true : (a : Bool) → (a || true) ≡ true
or-true a = grind arith

-- who is in a set with one more step
pub member_added : (set : List Bool) (s t : ℕ) → s < length set → is_member (slice_set set s true) t ≡ (is_member set t || (t == s))
member_added set s t below = grind (arith, eqb_tells, get_or-set_same, or-true, get_or-set_other, or-false)

-- one more step of a set of those below n that pass
pub passing_more : (p : ℕ → Bool) (rest : Bool) (n t : ℕ) → ((rest || (nat_lt t n && p t)) || (p n && t == n)) ≡ (rest || (nat_lt t (n + 1) && p t))
passing_more p rest n t = grind (arith, eqb_tells, leb_tells, and-false, lt_no, lt_yes)

-- what branches and one more mention
any_push : (rules : List Rule) (s u : ℕ) (t : Shape) (front : Kids) →
    any_mentions rules s (joined front (tree_kid u t no_kids)) ≡ (any_mentions rules s front || mentions rules s t)
any_push rules s u t no_kids = or-false (mentions rules s t)
any_push rules s u t (tree_kid v w kids) = grind (arith, or_assoc, (any_push rules s u t kids))
any_push rules s u t (twin_kid v w kids) = any_push rules s u t kids

any_push_twin : (rules : List Rule) (s u v : ℕ) (front : Kids) → any_mentions rules s (joined front (twin_kid u v no_kids)) ≡ any_mentions rules s front
any_push_twin rules s u v no_kids = refl
any_push_twin rules s u v (tree_kid x w kids) = ap (λ b. mentions rules s w || b) (any_push_twin rules s u v kids)
any_push_twin rules s u v (twin_kid x w kids) = any_push_twin rules s u v kids

-- the sets of what branches mention, with one more branch
pub mentioned_push : (rules : List Rule) (front : Kids) (u : ℕ) (t : Shape) (before here set : List Bool) → AreMentionedIn rules front before → AreMentioned
    rules t here → ((s : ℕ) → is_member set s ≡ (is_member before s || is_member here s)) → AreMentionedIn rules (joined front (tree_kid u t no_kids)) set
mentioned_push rules front u t before here set so_far now both = grind (arith, any_push)

pub mentioned_push_twin : (rules : List Rule) (front : Kids) (u v : ℕ) (set : List Bool) → AreMentionedIn rules front set →
    AreMentionedIn rules (joined front (twin_kid u v no_kids)) set
mentioned_push_twin rules front u v set so_far s = any_push_twin rules s u v front ∙ so_far s
