-- The height of a whole text.
use Rattle.std.specs.Prelude.{ℕ, max, min, List, map, Option, Some, None}
use Rattle.pascal_tree.specs.declared.statements.Stmt.{Stmt}
use Rattle.pascal_tree.specs.declared.files.Public.{Public}
use Rattle.pascal_tree.specs.declared.files.Public.TheVariants as item
use Rattle.pascal_tree.specs.declared.files.SourceFile.{SourceFile}
use Rattle.pascal_tree.specs.declared.files.SourceFile.TheVariants as text
use Rattle.pascal_tree.specs.ExpressionHeights.{greatest}
use Rattle.pascal_tree.specs.StatementHeights.{stmts_height}
use Rattle.pascal_tree.specs.BlockHeights.{constants_height, types_height, variables_height, heading_height, declarations_height, block_height}

-- a height as a `u32`
abbrev pub capped : ℕ → ℕ
capped n = min n 4294967295

abbrev pub public_height : Public → ℕ
public_height (item.Constants constants) = constants_height constants
public_height (item.Types types) = types_height types
public_height (item.Variables variables) = variables_height variables
public_height (item.Heading heading span) = heading_height heading

abbrev pub publics_height : List Public → ℕ
publics_height all = greatest (map public_height all)

abbrev pub initial_height : Option (List Stmt) → ℕ
initial_height None = 0
initial_height (Some all) = stmts_height all

-- The greatest number of blocks, lists of formals, lists of fields, statements, types, expressions and factors on one path.
abbrev pub height : SourceFile → ℕ
height (text.Program p) = block_height p.block
height (text.UnitText u) = max (publics_height u.publics) (max (declarations_height u.declarations) (initial_height u.initial))
height (text.Module m) = max (publics_height m.publics) (declarations_height m.declarations)
