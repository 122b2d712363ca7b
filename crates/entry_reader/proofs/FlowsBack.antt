-- The steps of workflows that are not there.
use Rattle.std.proofs.Common.{ℕ, ◌<◌, [], length, arith}
use Rattle.std.proofs.lemmas.Bool.{cases_lt}
use Rattle.std.proofs.lemmas.List.{get_or_past}
use Rattle.std.proofs.lemmas.Option.{slice_get_within}
use Rattle.policy_book.specs.Laws.Shapes.{PolicyShape}
use Rattle.policy_book.specs.Policies.{flow_at}
use Rattle.wf_names.specs.Table.{AreNames}

no_names : AreNames []
no_names = grind (arith, slice_get_within)

pub all_steps : (p : PolicyShape) → ((f : ℕ) → f < length p.flows → AreNames (flow_at p f).flow.steps) → (f : ℕ) → AreNames (flow_at p f).flow.steps
all_steps p known f = grind (arith, cases_lt, get_or_past, no_names)
