-- What was read part by part.
use Rattle.std.proofs.Common.{◌≡◌, List, [], ◌∷◌, ◌++◌, ap, ◌∙◌, append_assoc, append-nil, arith}
use Rattle.std.specs.Prelude.{Option, Some, None, option_map, option_and_then}
use Rattle.serde_json.specs.Data.{Data, Items, item}
use Rattle.entry_reader.specs.Values.{each_read}

-- ---- options

pub none_some : {Y : Type 0} (y : Y) → None ≡ Some y → ⊥
none_some y e = cc

pub some_same : {Y : Type 0} (x y : Y) → Some x ≡ Some y → x ≡ y
some_same x y e = cc

-- what was read after something else
pub record ReadThen {X Y : Type 0} (o : Option X) (next : X → Option Y) (y : Y) : Type 0 where
  pub found : X
  pub there : o ≡ Some found
  pub then_ : next found ≡ Some y

pub and_then_some : {X Y : Type 0} (o : Option X) (next : X → Option Y) (y : Y) → option_and_then next o ≡ Some y → ReadThen o next y
and_then_some o next y e = grind arith

pub record MappedFrom {X Y : Type 0} (o : Option X) (f : X → Y) (y : Y) : Type 0 where
  pub found : X
  pub there : o ≡ Some found
  pub same : f found ≡ y

pub map_some : {X Y : Type 0} (o : Option X) (f : X → Y) (y : Y) → option_map f o ≡ Some y → MappedFrom o f y
map_some o f y e = grind arith

-- ---- lists

more_mapped : {X : Type 0} (xs : List X) (x : X) (o : Option (List X)) →
    option_map (λ ys. xs ++ ys) (option_map (λ ys. x ∷ ys) o) ≡ option_map (λ ys. (xs ++ x ∷ []) ++ ys) o
more_mapped xs x o = grind (arith, append_assoc)

pub each_more : {X : Type 0} (read : Data → Option X) (whole : Option (List X)) (xs : List X) (x : X) (d : Data) (ds : Items)
    → whole ≡ option_map (λ ys. xs ++ ys) (each_read read (item d ds)) → read d ≡ Some x → whole ≡ option_map (λ ys. (xs ++ x ∷ []) ++ ys) (each_read read ds)
each_more read whole xs x d ds e there = grind (arith, more_mapped)

pub each_none : {X : Type 0} (read : Data → Option X) (whole : Option (List X)) (xs : List X) (d : Data) (ds : Items)
    → whole ≡ option_map (λ ys. xs ++ ys) (each_read read (item d ds)) → read d ≡ None → whole ≡ None
each_none read whole xs d ds e there = e ∙ ap (λ o. option_map (λ ys. xs ++ ys) (option_and_then (λ y. option_map (λ ys. y ∷ ys) (each_read read ds)) o)) there

pub each_end : {X : Type 0} (whole : Option (List X)) (xs : List X) → whole ≡ option_map (λ ys. xs ++ ys) (Some []) → whole ≡ Some xs
each_end whole xs e = e ∙ ap Some (append-nil xs)

pub each_start : {X : Type 0} (o : Option (List X)) → o ≡ option_map (λ ys. [] ++ ys) o
each_start o = grind arith
