-- The way to a label.
use Rattle.std.specs.Prelude.{ℕ, ◌+◌, Bool, true, false, if◌then◌else◌, List, [], ◌∷◌, Option, Some, None}
use Rattle.std.specs.Str.{bytes_eq}
use Rattle.c_tree.specs.Tree as m
use Rattle.c_tree.specs.Tree.{Statement, Body, Empty, Then}
use Rattle.c_meaning.specs.Cells.{Name}
use Rattle.label_ways.specs.declared.level.Level.{Level}

-- the levels, and the place in the innermost list
abbrev pub Way : Type 0
Way = Option (List Level × ℕ)

-- the first way that is there
abbrev pub or_way : Way → Way → Way
or_way None w = w
or_way (Some p) w = Some p

abbrev pub inside : ℕ → Bool → Way → Way
inside i second None = None
inside i second (Some p) = Some (record { at = i; second = second } ∷ p.0, p.1)

abbrev pub levels : Way → List Level
levels None = []
levels (Some p) = p.0

abbrev pub last : Way → Option ℕ
last None = None
last (Some p) = Some p.1

abbrev mutual
  pub path_statement : Name → ℕ → Statement → Way
  path_statement l i (m.Label own) = if bytes_eq l own then Some ([], i) else None
  path_statement l i (m.If t a) = inside i false (path_in l 0 a)
  path_statement l i (m.While t a) = inside i false (path_in l 0 a)
  path_statement l i (m.IfElse t a b) = or_way (inside i false (path_in l 0 a)) (inside i true (path_in l 0 b))
  path_statement l i _ = None

  pub path_in : Name → ℕ → Body → Way
  path_in l i Empty = None
  path_in l i (Then s rest) = or_way (path_statement l i s) (path_in l (i + 1) rest)

abbrev pub path_of : Name → ℕ → List Statement → Way
path_of l i [] = None
path_of l i (s ∷ rest) = or_way (path_statement l i s) (path_of l (i + 1) rest)
