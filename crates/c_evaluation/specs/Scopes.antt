-- What evaluation sees, and the places that it reckons with.
use Rattle.std.specs.Prelude.{◌+◌, ◌<◌, ◌^◌, ◌++◌, length}
use Rattle.c_meaning.specs.declared.StuckKind.TheVariants as k
use Rattle.c_meaning.specs.Cells.{Tree, Block, part}
use Rattle.c_meaning.specs.Answer.{Answer, or_bad, ◌>>=◌}
use Rattle.c_meaning.specs.Values.{Value, leaf}
use Rattle.c_meaning.specs.Types as t
use Rattle.c_meaning.specs.Evaluate as e
use Rattle.c_meaning.specs.Evaluate.{View, read_as, follow_cell}
use Rattle.c_tree.specs.Tree.{ObjectType}
use Rattle.c_evaluation.specs.Values.{tree_in}
use Rattle.c_meaning.specs.States.{Names, view}
use Rattle.c_meaning.specs.Steps.{names_from}
use Rattle.c_evaluation.specs.Types.{place_type_of}
use Rattle.c_evaluation.specs.declared.scope.Scope.{Scope}
use Rattle.c_evaluation.specs.declared.place.Root.{Root}
use Rattle.c_evaluation.specs.declared.place.Root.TheVariants as r
use Rattle.c_evaluation.specs.declared.place.Site.{Site}
use Rattle.c_evaluation.specs.declared.place.Step.{Step}

-- the variables of the function with their blocks
abbrev pub names_at : Scope → Names
names_at s = names_from s.base (s.parameters.now ++ s.locals.now)

abbrev pub view_at : Scope → View
view_at s = view s.program.now s.reach (names_at s) s.memory.now

-- the numbers of the blocks are in range
abbrev pub HasRoom : Scope → Type 0
HasRoom s = s.base + (length s.parameters.now + length s.locals.now) < 2 ^ 63

abbrev pub root_of : Root → e.Root
root_of (r.Named name) = e.Named name.now
root_of (r.At block) = e.At block

abbrev pub site_of : Site → e.Site
site_of s = record { root = root_of s.root; path = s.path; of = place_type_of s.of }

abbrev pub step_of : Step → t.Step
step_of s = record { child = s.child; of = place_type_of s.of }

-- the value of a part of a tree, and of a block
abbrev pub tree_value : View → e.Site → Tree → Answer Value
tree_value v at tree = or_bad k.Mismatch (part at.path tree) >>= read_as v at.of

abbrev pub part_value : View → e.Site → Block → Answer Value
part_value v at block = tree_value v at block.tree

-- the target of a value that points to a type
abbrev pub follow_leaf : View → ObjectType → Value → Answer e.Site
follow_leaf v of x = leaf (tree_in x) >>= follow_cell v of
