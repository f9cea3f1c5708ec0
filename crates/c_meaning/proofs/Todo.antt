-- Lists of statements that are still to do.
use Rattle.std.proofs.Common.{◌≡◌, List, [], ◌∷◌, ◌++◌, refl, ap}
use Rattle.c_tree.specs.Tree.{Statement, Body, Empty, Then, body_of, list_of}
use Rattle.c_meaning.specs.Todo.{onto}

-- the statements between braces come first
pub onto-body_of : (all after : List Statement) → onto (body_of all) after ≡ all ++ after
unfolding onto
onto-body_of [] after = refl
onto-body_of (s ∷ rest) after = ap (λ l. s ∷ l) (onto-body_of rest after)

pub onto-list_of : (body : Body) (after : List Statement) → onto body after ≡ list_of body ++ after
unfolding onto
onto-list_of Empty after = refl
onto-list_of (Then s rest) after = ap (λ l. s ∷ l) (onto-list_of rest after)
