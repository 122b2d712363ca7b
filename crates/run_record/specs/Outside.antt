-- What a run reaches, and that it stays the same.
use Rattle.std.specs.Prelude.{◌≡◌}
use Rattle.std.specs.Borrow.{MutBor}
use Rattle.run_record.specs.declared.outside.Outside.{Outside}

-- what is held is the reference that was given
pub record Holds {A : Type 0} (held given : MutBor A) : Type 0 where
  pub name : held.ghost_name ≡ given.ghost_name
  pub value : held.now ≡ given.now

-- the same shelf, source and sink are reached, whatever became of them
pub record ReachesSame {F S K : Type 0} (o after : Outside F S K) : Type 0 where
  pub shelf : after.shelf.ghost_name ≡ o.shelf.ghost_name
  pub source : after.source.ghost_name ≡ o.source.ghost_name
  pub sink : after.sink.ghost_name ≡ o.sink.ghost_name
