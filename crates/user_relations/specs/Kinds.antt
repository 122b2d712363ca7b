-- Why a pair is not put into a relation or not taken out of it.
use Rattle.std.specs.Prelude.{◌≡◌, ◌↔◌, ℕ, Bool, true, false, List, length, is_some, nat_le}
use Rattle.std.specs.Prelude.{Option, Some, None, Result, Err, OnErr, IsErrOf}
use Rattle.std.specs.Prelude.{if◌then◌else◌}
use Rattle.std.specs.FinSet as set
use Rattle.basics.specs.Laws.Pairs.{Pairs}
use Rattle.wf_names.specs.declared.limits.TheConstants.{PAIR_LIMIT, RELATION_LIMIT}
use Rattle.wf_names.specs.declared.table.NameFault.{NameFault}
use Rattle.wf_names.specs.declared.table.NameFault.TheVariants as names
use Rattle.wf_names.specs.Table.{place_of}
use Rattle.user_relations.specs.declared.RelationFault.{RelationFault}
use Rattle.user_relations.specs.declared.RelationFault.TheVariants.{Fixed, Already, Absent, Full}
use Rattle.user_relations.specs.declared.RelationFault.TheVariants.{NoMemory}
use Rattle.user_relations.specs.Laws.Relations.{RelationShape, RelationKind, listed, complement}
use Rattle.user_relations.specs.Laws.Relations.{kind_of, known_names}

-- a pair is put into a listed relation that lacks it and has room
abbrev pub put_fault : Option RelationKind → ℕ → ℕ → Option RelationFault
put_fault None u v = Some Fixed
put_fault (Some (complement n)) u v = Some Fixed
put_fault (Some (listed pairs)) u v =
    if set.contains pairs (u, v) then Some Already else
    (if nat_le PAIR_LIMIT (set.len pairs) then Some Full else None)

abbrev pub relate_fault : List RelationShape → ℕ → ℕ → ℕ → Option RelationFault
relate_fault relations rho u v = put_fault (kind_of relations rho) u v

-- a pair is taken out of a listed relation that has it
abbrev pub take_fault : Option RelationKind → ℕ → ℕ → Option RelationFault
take_fault None u v = Some Fixed
take_fault (Some (complement n)) u v = Some Fixed
take_fault (Some (listed pairs)) u v = if set.contains pairs (u, v) then None else Some Absent

abbrev pub unrelate_fault : List RelationShape → ℕ → ℕ → ℕ → Option RelationFault
unrelate_fault relations rho u v = take_fault (kind_of relations rho) u v

-- pairs with one more, or without it
abbrev pub changed : Bool → Pairs → ℕ × ℕ → Pairs
changed true pairs pair = set.insert pairs pair
changed false pairs pair = set.remove pairs pair

-- where there is a fault it is the answer, and else only want of memory is one
abbrev pub AnswersFault : Option RelationFault → Result (Unit {0}) RelationFault → Type 0
AnswersFault None result = OnErr result (result ≡ Err NoMemory)
AnswersFault (Some fault) result = result ≡ Err fault

-- a relation is refused as known exactly where its name is, and for want of room exactly where it
-- is not and there are as many as the limit
abbrev pub RefusesName : {A : Type 0} → List RelationShape → List ℕ → Result A NameFault → Type 0
RefusesName relations name result =
    (IsErrOf result names.Twice ↔ (is_some (place_of (known_names relations) name) ≡ true))
    × (IsErrOf result names.Full ↔ ((is_some (place_of (known_names relations) name) ≡ false)
    × (length relations ≡ RELATION_LIMIT)))
