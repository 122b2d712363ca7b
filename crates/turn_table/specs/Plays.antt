-- The rule of a turn table, and what each kind of step tells its caller. Word 0 is 0 where the lock
-- is free, 1 where it is held, and 2 where it is held and what the turn appends is noted. Slot 0
-- has the value.
--
-- The rule has five parts, over the views of all seats that are not spent: 1. All know one fixed
-- part and one opening list, and what each has seen begins with the opening list. 2. Where the word
-- is 0, no seat holds the lock, and the slot has the value, with that fixed part. The value's list
-- is the present list, and it begins with what each has seen. 3. Else the word is 1 or 2, and just
-- one seat holds the lock. What it has seen is the present list, which begins with what each has
-- seen. The slot is out with it, so the rule says nothing of the slot. 4. Past the opening list,
-- the present list has no pair of a number that is not yet made. Its pairs of a number that stands
-- in a view are within what that view has seen, and those of a lane's own number are the lane's own
-- pairs, in order. 5. Just one seat has no number, the first lane's. The numbers made are those
-- below its count; each stands in just one view, as its lane's number or among the joined ones, and
-- no other number stands in a view.
use Rattle.std.specs.Prelude.{◌≡◌, ◌≢◌, ◌⊎◌, ℕ, ◌+◌, ◌<◌, ◌≤◌, true, false, List, [], ◌∷◌, ◌++◌}
use Rattle.std.specs.Prelude.{length, drop, slice_index, Option, Some, None}
use Rattle.std.specs.List.{Contains}
use mathlib.Core.Option.{some}
use mathlib.Core.Option as maybe
use lib.ListN.{get_elem?}
use Rattle.atomic_table.specs.Table.{State, Me, Step}
use Rattle.turn_table.specs.Table.{StartsWith, Quiet, OwnPast, longer, shorter, brought}
use Rattle.turn_table.specs.declared.view.View.{View}
use Rattle.turn_table.specs.declared.view.Hold.{Hold}
use Rattle.turn_table.specs.declared.view.Hold.TheVariants.{Free, Held, Noted}

-- what word 0 is while a seat stands so to the lock
abbrev pub hold_word : Hold → ℕ
hold_word Free = 0
hold_word Held = 1
hold_word Noted = 2

-- the number n stands in the view: as its lane's number, or among those that were joined into it
abbrev pub StandsIn : {G I : Type 0} → ℕ → View G I → Type 0
StandsIn n v = (v.number ≡ Some n) ⊎ Contains v.joined n

module _ {G I : Type 0} where
  -- the first seat's view
  abbrev pub starting : Option G → List (ℕ × I) → ℕ → View G I
  starting fixed list lanes =
      record {
        live = true;
        number = None;
        hold = Free;
        fixed = fixed;
        opening = list;
        born =
            list;
        seen = list;
        told = [];
        own = [];
        made = 0;
        lanes = lanes;
        joined = [];
      }

  -- after the lock: the holder has seen the value's list
  abbrev pub entering : View G I → List (ℕ × I) → View G I
  entering v list = record v { hold = Held; seen = list }

  -- after the note: the holder has seen the list that it will give, and what it appended is its own
  abbrev pub noting : View G I → List (ℕ × I) → View G I
  noting v list = record v { hold = Noted; seen = list; own = v.own ++ drop (length v.seen) list }

  -- after the unlock
  abbrev pub leaving : View G I → View G I
  leaving v = record v { hold = Free }

  -- after a split: the seat that makes a lane, and the new one
  abbrev pub parent : View G I → View G I
  parent v = record v { made = v.made + 1 }

  abbrev pub newcomer : View G I → View G I
  newcomer v = record v {
    number = Some v.made;
    hold = Free;
    born = v.seen;
    told = [];
    own =
        [];
    made = 0;
    joined = [];
  }

  -- after a join: the seat that takes in another, and what is left of that one
  abbrev pub united : View G I → View G I → View G I
  united v w = record v {
    seen = longer v.seen w.seen;
    told = shorter v.seen w.seen;
    joined =
        brought w.number w.joined ++ v.joined;
  }

  abbrev pub spent : View G I
  spent = record {
    live = false;
    number = None;
    hold = Free;
    fixed = None;
    opening = [];
    born =
        [];
    seen = [];
    told = [];
    own = [];
    made = 0;
    lanes = 0;
    joined = [];
  }

-- What the rule says of one seat that is not spent, where now is the present list and the number n
-- stands at the seat owner n
pub record Fits {G I : Type 0} (g : G) (opening now : List (ℕ × I))
    (lanes made word first holder : ℕ) (owner : ℕ → ℕ) (seat : ℕ) (v : View G I) : Type 0 where
  -- part 1: all have one fixed part and one opening list, with which each seen list begins
  pub fixed : v.fixed ≡ Some g
  pub opens : v.opening ≡ opening
  pub limit : v.lanes ≡ lanes
  pub begins : StartsWith v.seen opening
  -- parts 2 and 3: one that holds the lock is the holder, and has seen the present list
  pub holds : hold_word v.hold ≢ 0 → (hold_word v.hold ≡ word) × (seat ≡ holder) × (v.seen ≡ now)
  -- parts 2, 3 and 4: the present list begins with what it has seen, and past that has no pair of a
  -- number that stands in it
  pub quiet : Quiet (λ n. (n < made) × (owner n ≡ seat)) now v.seen
  -- the present list begins with the list of which its last join tells
  pub told : StartsWith now v.told
  -- part 4: the pairs of its lane's number are its own pairs, in order: past the opening list, and
  -- past what it had seen when it was made
  pub own : (n : ℕ) → v.number ≡ Some n → OwnPast n v.seen opening v.own ×
      OwnPast n v.seen v.born v.own
  -- part 5: only the first lane's seat has no number, and it made all lanes; a number that stands
  -- in it was made, and stands at no other seat
  pub unnumbered : v.number ≡ None → (seat ≡ first) × (v.made ≡ made)
  pub numbers : (n : ℕ) → StandsIn n v → (n < made) × (owner n ≡ seat)

-- What holds of word 0, the slots and the views of all seats
pub record Kept {D G I : Type 0} (fixed_part : D → G) (list : D → List (ℕ × I))
    (g : G) (opening : List (ℕ × I)) (lanes word : ℕ) (homes : List (maybe.Option (Option D)))
    (views : List (View G I)) : Type 0 where
  -- the present list, how many lanes were made, the seat of the first lane, the seat that holds the
  -- lock if one does, and the seat at which each number stands
  pub now : List (ℕ × I)
  pub made : ℕ
  pub first : ℕ
  pub holder : ℕ
  pub owner : ℕ → ℕ
  -- part 2: where the lock is free, the slot has the value, with the fixed part, and its list is
  -- the present list
  pub free : word ≡ 0 → (x : D) × (get_elem? homes 0 ≡ some (some (Some x))) ×
      (fixed_part x ≡ g) × (list x ≡ now)
  -- part 3: else there is a holder; the word is 1, or 2 once its turn is noted
  pub held : word ≢ 0 → (v : View G I) × (get_elem? views holder ≡ some v) × (v.live ≡ true) ×
      (hold_word v.hold ≡ word)
  -- part 4: past the opening list, the present list has no pair of a number that is not yet made
  pub unmade : Quiet (λ n. made ≤ n) now opening
  -- part 5: the first lane has a seat, each number made stands at one, and no more are made than
  -- the table may have
  pub enough : made ≤ lanes
  pub has_first : (v : View G I) × (get_elem? views first ≡ some v) × (v.live ≡ true) ×
      (v.number ≡ None)
  pub seated : (n : ℕ) → n < made → (v : View G I) × (get_elem? views (owner n) ≡ some v) ×
      (v.live ≡ true) × StandsIn n v
  -- parts 1 to 5, seat by seat
  pub each_seat : (seat : ℕ) (v : View G I) → get_elem? views seat ≡ some v → v.live ≡ true →
      Fits g opening now lanes made word first holder owner seat v

-- The rule of a turn table
abbrev pub TurnRule : {D G I : Type 0} → (D → G) → (D → List (ℕ × I)) → G → List (ℕ × I) → ℕ →
    State (Option D) (View G I) → Type 0
TurnRule fixed_part list g opening lanes s = (length s.words ≡ 1) ×
    Kept fixed_part list g opening lanes (slice_index s.words 0) s.homes s.views

-- What a step tells its caller, of the step, the seat before, the number found and the seat after
module _ {D G I : Type 0} where
  -- the lock found 0: the seat has the slot with a value, which has the fixed part, and whose list
  -- goes on from what was seen with no pair of the lane's number; or the lock was held
  abbrev pub locked : (D → G) → (D → List (ℕ × I)) → Step (Option D) →
      Me (Option D) (View G I) → ℕ → Me (Option D) (View G I) → Type 0
  locked fixed_part list step before found after =
      (found ≡ 0 → (x : D) × (after ≡ (entering before.0 (list x), (0, Some x) ∷ before.1)) ×
      (Some (fixed_part x) ≡ before.0.fixed) ×
      Quiet (λ n. before.0.number ≡ Some n) (list x) before.0.seen)
      × (found ≢ 0 → after ≡ before)

  -- the note is of the value that the step announces
  abbrev pub noted : (D → List (ℕ × I)) → Step (Option D) → Me (Option D) (View G I) → ℕ →
      Me (Option D) (View G I) → Type 0
  noted list step before found after = (x : D) → step.said ≡ some (Some x) →
      after ≡ (noting before.0 (list x), before.1)

  -- the unlock gives the slot back, and the lane's own pairs are those of its number
  abbrev pub unlocked : Step (Option D) → Me (Option D) (View G I) → ℕ →
      Me (Option D) (View G I) → Type 0
  unlocked step before found after = (after ≡ (leaving before.0, [])) ×
      ((n : ℕ) → before.0.number ≡ Some n → OwnPast n before.0.seen before.0.opening
      before.0.own × OwnPast n before.0.seen before.0.born before.0.own)

  -- of the two lists that were seen before a join, the longer begins with the shorter
  abbrev pub compared : Step (Option D) → Me (Option D) (View G I) → ℕ →
      Me (Option D) (View G I) → Type 0
  compared step before found after = (after ≡ before) ×
      (length before.0.told ≤ length before.0.seen → StartsWith before.0.seen before.0.told)
