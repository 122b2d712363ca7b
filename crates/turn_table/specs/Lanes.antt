-- What contracts see of a lane.
use Rattle.std.specs.Prelude.{◌≡◌, ℕ, Bool, true, false, List, [], ◌∷◌, ◌++◌, Option, Some, None}
use Rattle.std.specs.Prelude.{IsSome}
pub use Rattle.atomic_table.specs.Seated.{TableId}
use Rattle.turn_table.specs.Table.{longer, brought}
use Rattle.turn_table.specs.declared.view.View.{View}
use Rattle.turn_table.specs.declared.view.Hold.{Hold}
use Rattle.turn_table.specs.declared.view.Hold.TheVariants.{Free, Held}

pub record LaneShape (G I : Type 0) : Type 0 where
  -- the table that it is a lane of
  pub table : TableId
  -- its number; the first lane has none
  pub number : Option ℕ
  -- whether it has the value out
  pub out : Bool
  -- the value's fixed part, which is known in every lane
  pub fixed : Option G
  -- the value's list when the table was made
  pub opening : List (ℕ × I)
  -- what it had seen when it was made
  pub born : List (ℕ × I)
  -- what it has seen
  pub seen : List (ℕ × I)
  -- the pairs that it gave itself, in order
  pub own : List (ℕ × I)
  -- how many lanes it has made
  pub made : ℕ
  -- how many lanes the table may have
  pub lanes : ℕ
  -- the numbers of the lanes that were joined into it
  pub joined : List ℕ

module _ {G I : Type 0} where
  -- the first lane of a table
  abbrev pub first_lane : TableId → G → List (ℕ × I) → ℕ → LaneShape G I
  first_lane table fixed list lanes =
      record {
        table = table;
        number = None;
        out = false;
        fixed = Some fixed;
        opening =
            list;
        born = list;
        seen = list;
        own = [];
        made = 0;
        lanes = lanes;
        joined = [];
      }

  -- the next lane that a lane makes: it knows what its parent knows, and has given nothing
  abbrev pub next_lane : LaneShape G I → LaneShape G I
  next_lane parent = record parent {
    number = Some parent.made;
    out = false;
    born =
        parent.seen;
    own = [];
    made = 0;
    joined = [];
  }

  -- a lane into which another was joined
  abbrev pub joined_lane : LaneShape G I → LaneShape G I → LaneShape G I
  joined_lane into from = record into {
    seen = longer into.seen from.seen;
    joined =
        brought from.number from.joined ++ into.joined;
  }

  -- what a lane's contract sees of its seat's view
  abbrev pub shape_of : TableId → Bool → View G I → LaneShape G I
  shape_of table out v = record {
    table = table;
    number = v.number;
    out = out;
    fixed =
        v.fixed;
    opening = v.opening;
    born = v.born;
    seen = v.seen;
    own = v.own;
    made =
        v.made;
    lanes = v.lanes;
    joined = v.joined;
  }

-- the slots that a lane's seat has: slot 0, emptied, where the value is out
abbrev pub carried_by : {D : Type 0} → Bool → List (ℕ × Option D)
carried_by true = (0, None) ∷ []
carried_by false = []

-- how a lane stands to the lock
abbrev pub hold_of : Bool → Hold
hold_of true = Held
hold_of false = Free

-- a lane holds the lock just where it has the value out, and only a lane with a number does
pub record IsLane {D G I : Type 0} (carried : List (ℕ × Option D)) (out : Bool) (v : View G I) :
    Type 0 where
  pub live : v.live ≡ true
  pub slots : carried ≡ carried_by out
  pub hold : v.hold ≡ hold_of out
  pub numbered : out ≡ true → IsSome v.number
