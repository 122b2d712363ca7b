-- Every file that was read as a policy before there was a second format is read as the same policy.
use Rattle.std.proofs.Common.{◌≡◌, ℕ, ◌≤◌, List, [], ◌∷◌, Ok, arith}
use Rattle.toml.specs.Data.{Members}
use Rattle.policy_book.specs.Laws.Shapes.{PolicyShape}
use Rattle.basics.specs.Laws.Reading.{◌>>=◌, each}
use Rattle.policy_reader.specs.declared.fault.PolicyPart.{PolicyPart}
use Rattle.policy_reader.specs.declared.format.Format.{Format}
use Rattle.policy_reader.specs.Faults.{Reading}
use Rattle.policy_reader.specs.Laws.Grammars.{earlier, today}
use Rattle.policy_reader.specs.Parts.{at_most, count_in, entries_at, items_at}
use Rattle.policy_reader.specs.Rosters.{roster_of}
use Rattle.policy_reader.specs.Flows.{flow_in, flows_in, next_flow, steps_named, workflow_in}
use Rattle.policy_reader.specs.Files.{document_in, format_of, policy_by, policy_in, rest_of, staff_of, start_named, start_of, start_with}
use Rattle.policy_reader.specs.Laws.{OldFormatReadsAlike}

-- what one reading gives, another one gives
abbrev Grows : {A : Type 0} → Reading A → Reading A → Type 0
Grows {A} r s = (a : A) → r ≡ Ok a → s ≡ Ok a

same : {A : Type 0} (r : Reading A) → Grows r r
same r a e = e

and_then : {A B : Type 0} (r s : Reading A) (f g : A → Reading B) → Grows r s → ((a : A) → Grows (f a) (g a)) → Grows (r >>= f) (s >>= g)
and_then r s f g h k = grind arith

each_grows : {S D : Type 0} (f g : S → D → Reading S) → ((s : S) (d : D) → Grows (f s d) (g s d)) → (s : S) (ds : List D) → Grows (each f s ds) (each g s ds)
each_grows f g h s [] = same (Ok s)
each_grows f g h s (d ∷ ds) = and_then (f s d) (g s d) (λ t. each f t ds) (λ t. each g t ds) (h s d) (λ t. each_grows f g h t ds)

more : (t : PolicyPart) (i m n count : ℕ) → m ≤ n → Grows (count_in t i m count) (count_in t i n count)
unfolding count_in at_most
more t i m n count le = grind arith

items_grow : (t : PolicyPart) (i m n : ℕ) (key : List ℕ) (ms : Members) → m ≤ n → Grows (items_at t i m key ms) (items_at t i n key ms)
unfolding items_at
items_grow t i m n key ms le = grind (arith, and_then, same, more)

entries_grow : (t : PolicyPart) (i m n : ℕ) (key : List ℕ) (ms : Members) → m ≤ n → Grows (entries_at t i m key ms) (entries_at t i n key ms)
unfolding entries_at
entries_grow t i m n key ms le = grind (arith, and_then, same, more)

format_grows : (file : Members) → Grows (format_of earlier file) (format_of today file)
unfolding format_of
format_grows file = grind arith

roster_grows : (roles : List (List ℕ)) (file : Members) → Grows (roster_of earlier roles file) (roster_of today roles file)
unfolding roster_of
roster_grows roles file = grind (arith, and_then, entries_grow, same)

staff_grows : (roles : List (List ℕ)) (name : List ℕ) (file : Members) → Grows (staff_of earlier roles name file) (staff_of today roles name file)
unfolding staff_of
staff_grows roles name file = grind (arith, and_then, same, roster_grows)

start_grows : (file : Members) → Grows (start_of earlier file) (start_of today file)
unfolding start_of start_named start_with
start_grows file = grind (arith, and_then, same, staff_grows)

steps_grow : (f : ℕ) (ms : Members) → Grows (steps_named earlier f ms) (steps_named today f ms)
unfolding steps_named
steps_grow f ms = grind (arith, and_then, items_grow, same)

flow_grows : (f : ℕ) (roles : List (List ℕ)) (ms : Members) → Grows (flow_in earlier f roles ms) (flow_in today f roles ms)
unfolding flow_in
flow_grows f roles ms = and_then (steps_named earlier f ms) (steps_named today f ms) _ _ (steps_grow f ms) (λ steps. same _)

workflow_grows : (format : Format) (p : PolicyShape) (ms : Members) → Grows (workflow_in earlier format p ms) (workflow_in today format p ms)
unfolding workflow_in
workflow_grows format p ms = grind (arith, and_then, same, flow_grows)

next_grows : (format : Format) (p : PolicyShape) (entry : List ℕ × _) → Grows (next_flow earlier format p entry) (next_flow today format p entry)
unfolding next_flow
next_grows format p entry = grind (arith, and_then, same, workflow_grows)

flows_grow : (format : Format) (p : PolicyShape) (file : Members) → Grows (flows_in earlier format p file) (flows_in today format p file)
unfolding flows_in
flows_grow format p file = grind (arith, and_then, same, each_grows, next_grows)

rest_grows : (format : Format) (p : PolicyShape) (file : Members) → Grows (rest_of earlier format p file) (rest_of today format p file)
unfolding rest_of
rest_grows format p file = and_then (flows_in earlier format p file) (flows_in today format p file) _ _ (flows_grow format p file) (λ policy. same _)

policy_grows : (file : Members) → Grows (policy_in earlier file) (policy_in today file)
unfolding policy_in
policy_grows file = grind (arith, and_then, format_grows, start_grows, rest_grows)

pub old_format_reads_alike : OldFormatReadsAlike
unfolding policy_by
old_format_reads_alike bytes = and_then (document_in bytes) (document_in bytes) (policy_in earlier) (policy_in today) (same (document_in bytes)) policy_grows
