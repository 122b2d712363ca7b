-- Denials whose numbers stand for something nest less deep than an entry may.
use Rattle.std.proofs.Common.{◌≡◌, ℕ, ◌≤◌, List, arith}
use Rattle.std.specs.Prelude.{Option, Some}
use Rattle.refutation_tree.specs.Laws.Views.{shape_of}
use Rattle.refutation_tree.specs.declared.tree.Tree.{Tree}
use Rattle.wf_names.specs.declared.limits.TheConstants.{STEP_LIMIT}
use Rattle.wf_names.specs.declared.states.StepState.{StepState}
use Rattle.wf_talk.specs.declared.edit.Missing.{Missing}
use Rattle.wf_talk.specs.declared.reply.Denial.{Denial}
use Rattle.wf_talk.specs.declared.reply.Denial.TheVariants as denial
use Rattle.policy_book.specs.Laws.Shapes.{PolicyShape}
use Rattle.entry_reader.specs.Laws.Within.{IsUser, IsStepOf, IsRule, IsCase, IsConcerned, IsState}
use Rattle.entry_reader.specs.Values.{row_read}
use Rattle.entry_reader.specs.Told.{denial_words}
use Rattle.entry_reader.specs.Plain.{IsLow, IsPlainDenial}
use Rattle.entry_reader.proofs.RepliesWithin.{row_holds}

-- ---- denials with a tree

pub unsatisfiable : (p : PolicyShape) (flows : ℕ → Option ℕ) (o : Option ℕ) (f : ℕ) (t : Tree) → IsConcerned p o f → IsLow p f STEP_LIMIT (shape_of t)
    → IsPlainDenial p flows o (denial.Unsatisfiable f t)
unsatisfiable p flows o f t flow low = ((flow, low.0), omega (arith, low.1))

pub stranded : (p : PolicyShape) (flows : ℕ → Option ℕ) (o : Option ℕ) (f : ℕ) (t : Tree) → IsConcerned p o f → IsLow p f STEP_LIMIT (shape_of t)
    → IsPlainDenial p flows o (denial.Stranded f t)
stranded p flows o f t flow low = ((flow, low.0), omega (arith, low.1))

pub strands : (p : PolicyShape) (flows : ℕ → Option ℕ) (o : Option ℕ) (c f : ℕ) (t : Tree) → IsCase c → IsConcerned p (flows c) f
    → IsLow p f STEP_LIMIT (shape_of t)
    → IsPlainDenial p flows o (denial.Strands c f t)
strands p flows o c f t case flow low = ((case, flow, low.0), omega (arith, low.1))

-- ---- others

pub taken : (p : PolicyShape) (flows : ℕ → Option ℕ) (o : Option ℕ) (u : ℕ) → IsUser p u → IsPlainDenial p flows o (denial.Taken u)
taken p flows o u user = (user, omega arith)

pub order : (p : PolicyShape) (flows : ℕ → Option ℕ) (o : Option ℕ) (f s : ℕ) → IsConcerned p o f → IsStepOf p f s → IsPlainDenial p flows o (denial.Order f s)
order p flows o f s flow step = ((flow, step), omega arith)

pub by_rule : (p : PolicyShape) (flows : ℕ → Option ℕ) (o : Option ℕ) (k : ℕ) → IsRule k → IsPlainDenial p flows o (denial.Rule k)
by_rule p flows o k small = (small, omega arith)

pub not_held : (p : PolicyShape) (flows : ℕ → Option ℕ) (o : Option ℕ) (s : StepState) → IsState p s → IsPlainDenial p flows o (denial.NotHeld s)
not_held p flows o s state = grind arith

pub unknown : (p : PolicyShape) (flows : ℕ → Option ℕ) (o : Option ℕ) (what : Missing) → IsPlainDenial p flows o (denial.Unknown what)
unknown p flows o what = grind arith

word : Unit {0} × (0 ≤ 120)
word = (tt, omega arith)

-- a word alone
pub word_denial : (p : PolicyShape) (flows : ℕ → Option ℕ) (o : Option ℕ) (w : List ℕ) (d : Denial) → row_read denial_words w ≡ Some d →
    IsPlainDenial p flows o d
word_denial p flows o w d e =
    row_holds (IsPlainDenial p flows o) denial_words w d
    (word, (word, (word, (word, (word, (word, (word, (word, (word, (word, (word, (word, tt)))))))))))) e
