-- Trees as pure data: what every definition and law about trees speaks of.
use Rattle.std.specs.Prelude.{ℕ, zero, suc, ◌+◌, ◌-◌, ◌^◌, min}

mutual
  -- a tree: a step with a wrong holder, a falsified rule, or a free step with its branches
  pub data Shape : Type 0 where
    holder : ℕ → Shape
    rule : ℕ → Shape
    node : ℕ → Kids → Shape

  -- the branches of a node: of each its user, and its tree or the twin whose tree serves it too
  pub data Kids : Type 0 where
    no_kids : Kids
    tree_kid : ℕ → Shape → Kids → Kids
    twin_kid : ℕ → ℕ → Kids → Kids

-- how many branches there are
abbrev pub kid_count : Kids → ℕ
kid_count no_kids = 0
kid_count (tree_kid u t kids) = kid_count kids + 1
kid_count (twin_kid u v kids) = kid_count kids + 1

-- the branches from place i on
abbrev pub kids_from : ℕ → Kids → Kids
kids_from zero kids = kids
kids_from (suc i) no_kids = no_kids
kids_from (suc i) (tree_kid u t kids) = kids_from i kids
kids_from (suc i) (twin_kid u v kids) = kids_from i kids

-- branches, and others behind them
abbrev pub joined : Kids → Kids → Kids
joined no_kids rest = rest
joined (tree_kid u t kids) rest = tree_kid u t (joined kids rest)
joined (twin_kid u v kids) rest = twin_kid u v (joined kids rest)

abbrev mutual
  -- how many leaves and nodes a tree has, twins' leaves among them
  pub nodes_of : Shape → ℕ
  nodes_of (holder s) = 1
  nodes_of (rule k) = 1
  nodes_of (node s kids) = nodes_of_kids kids + 1

  pub nodes_of_kids : Kids → ℕ
  nodes_of_kids no_kids = 0
  nodes_of_kids (tree_kid u t kids) = nodes_of t + nodes_of_kids kids
  nodes_of_kids (twin_kid u v kids) = 1 + nodes_of_kids kids

-- a number, or the greatest one of 64 bits where it is greater
abbrev pub capped : ℕ → ℕ
capped n = min n (2 ^ 64 - 1)

abbrev mutual
  -- how deep and wide a tree is, so that what stands in a tree is smaller than the tree
  pub size_of : Shape → ℕ
  size_of (holder s) = 0
  size_of (rule k) = 0
  size_of (node s kids) = size_of_kids kids + 1

  pub size_of_kids : Kids → ℕ
  size_of_kids no_kids = 0
  size_of_kids (tree_kid u t kids) = size_of t + size_of_kids kids + 1
  size_of_kids (twin_kid u v kids) = size_of_kids kids + 1
