use Rattle.std.proofs.Common.{◌≡◌, ◌++◌, drop}
use Rattle.std.specs.Fn.{FnReturnsAt}
use Rattle.std.specs.Prelude.{Option, option_map}
use Rattle.serde_json.specs.Data.{Data}
use Rattle.serde_json.specs.View.{items_view}
use Rattle.entry_reader.specs.Reads.{ReadsBy}
use Rattle.entry_reader.specs.Values.{each_read}
use Rattle.entry_reader.proofs.list.each_of.Given as goal

abbrev pub invariant-items : goal.invariant-items
invariant-items g l =
    (f : Data → Option _) → ReadsBy (FnReturnsAt g.F.Fn l.reader) f
    → each_read f (items_view l.items) ≡ option_map (λ xs. l.list ++ xs) (each_read f (items_view (drop l.item-index l.items)))
