-- Where a function stands in its body, and what it has still to do.
use Rattle.std.specs.Prelude.{ℕ, ◌+◌, Bool, if◌then◌else◌, List, [], ◌∷◌, ◌++◌, drop, Option, Some, None, slice_get}
use Rattle.c_tree.specs.Tree as m
use Rattle.c_tree.specs.Tree.{Statement, list_of}
use Rattle.label_ways.specs.declared.level.Level.{Level}
use Rattle.c_stepper.specs.declared.spot.Spot.{Spot}

abbrev pub branch_of : Bool → Statement → List Statement
branch_of second (m.If t a) = if second then [] else list_of a
branch_of second (m.While t a) = if second then [] else list_of a
branch_of second (m.IfElse t a b) = if second then list_of b else list_of a
branch_of second _ = []

abbrev pub branch_at : Bool → Option Statement → List Statement
branch_at second None = []
branch_at second (Some s) = branch_of second s

-- the innermost list
abbrev pub list_in : List Statement → List Level → List Statement
list_in list [] = list
list_in list (l ∷ outer) = list_in (branch_at l.second (slice_get list l.at)) outer

-- where a list goes on after a statement: a loop's test comes again
abbrev pub after_of : ℕ → Option Statement → ℕ
after_of at None = at
after_of at (Some (m.While t a)) = at
after_of at (Some _) = at + 1

-- the statements still to do, from a place of the innermost list on
abbrev pub todo_at : List Statement → List Level → ℕ → List Statement
todo_at list [] at = drop at list
todo_at list (l ∷ outer) at = todo_at (branch_at l.second (slice_get list l.at)) outer at ++ drop (after_of l.at (slice_get list l.at)) list

abbrev pub todo_of : List Statement → Spot → List Statement
todo_of body spot = todo_at body spot.outer.items spot.at
