-- The statements that a function has still to do.
use Rattle.std.specs.Prelude.{if◌then◌else◌, List, [], ◌∷◌, Option, Some, None}
use Rattle.std.specs.Str.{bytes_eq}
use Rattle.c_tree.specs.Tree as t
use Rattle.c_tree.specs.Tree.{Statement, Body}
use Rattle.c_meaning.specs.Cells.{Name}
use Rattle.c_meaning.specs.Answer.{or_else}

-- the statements between braces, before others
unfoldable pub onto : Body → List Statement → List Statement
onto t.Empty after = after
onto (t.Then first rest) after = first ∷ onto rest after

unfoldable mutual
  -- from the label on, where it stands in a statement, and then what comes after the statement
  pub from_label : Name → Statement → List Statement → Option (List Statement)
  from_label l (t.Label own) after = if bytes_eq l own then Some (t.Label own ∷ after) else None
  from_label l (t.If test a) after = from_label_in l a after
  from_label l (t.IfElse test a b) after = or_else (from_label_in l a after) (from_label_in l b after)
  from_label l (t.While test a) after = from_label_in l a (t.While test a ∷ after)
  from_label l _ after = None

  -- the same between braces
  pub from_label_in : Name → Body → List Statement → Option (List Statement)
  from_label_in l t.Empty after = None
  from_label_in l (t.Then first rest) after = or_else (from_label l first (onto rest after)) (from_label_in l rest after)

-- the statements of a function from a label on
unfoldable pub from_label_of : Name → List Statement → Option (List Statement)
from_label_of l [] = None
from_label_of l (first ∷ rest) = or_else (from_label l first rest) (from_label_of l rest)
