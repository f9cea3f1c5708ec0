-- How many counted nodes stand on one path of declarations and blocks. Each line gives the height of a node by those of its parts.
use Rattle.std.specs.Prelude.{ℕ, suc, max, List, map}
use Rattle.pascal_tree.specs.declared.declarations.Value.{Value}
use Rattle.pascal_tree.specs.declared.declarations.Value.TheVariants as value
use Rattle.pascal_tree.specs.declared.declarations.Heading.{Heading}
use Rattle.pascal_tree.specs.declared.declarations.Heading.TheVariants as heading
use Rattle.pascal_tree.specs.declared.declarations.ConstDefinition.{ConstDefinition}
use Rattle.pascal_tree.specs.declared.declarations.ConstPart.{ConstPart}
use Rattle.pascal_tree.specs.declared.declarations.TypeDefinition.{TypeDefinition}
use Rattle.pascal_tree.specs.declared.declarations.TypePart.{TypePart}
use Rattle.pascal_tree.specs.declared.declarations.VarSection.{VarSection}
use Rattle.pascal_tree.specs.declared.declarations.VarPart.{VarPart}
use Rattle.pascal_tree.specs.declared.declarations.Declaration.TheOpen as part
use Rattle.pascal_tree.specs.declared.declarations.Declaration.TheOpen.{Declaration-F, RoutineBody-F, Block-F, Routine-F}
use Rattle.pascal_tree.specs.declared.declarations.Declaration.{Declaration, fold-Declaration}
use Rattle.pascal_tree.specs.declared.declarations.RoutineBody.{RoutineBody, fold-RoutineBody}
use Rattle.pascal_tree.specs.declared.declarations.Block.{Block, fold-Block}
use Rattle.pascal_tree.specs.declared.declarations.Routine.{Routine, fold-Routine}
use Rattle.pascal_tree.specs.ExpressionHeights.{greatest, expr_height}
use Rattle.pascal_tree.specs.TypeHeights.{type_height, given_height}
use Rattle.pascal_tree.specs.StatementHeights.{stmts_height}

-- a constant has no counted node
abbrev pub value_height : Value → ℕ
value_height (value.Constant constant) = 0
value_height (value.Expression expr) = expr_height expr

abbrev pub definition_height : ConstDefinition → ℕ
definition_height d = value_height d.value

abbrev pub constants_height : ConstPart → ℕ
constants_height p = greatest (map definition_height p.definitions)

abbrev pub type_definition_height : TypeDefinition → ℕ
type_definition_height d = type_height d.of

abbrev pub types_height : TypePart → ℕ
types_height p = greatest (map type_definition_height p.definitions)

abbrev pub section_height : VarSection → ℕ
section_height s = type_height s.of

abbrev pub variables_height : VarPart → ℕ
variables_height p = greatest (map section_height p.sections)

abbrev pub heading_height : Heading → ℕ
heading_height (heading.Procedure name formals span) = given_height formals
heading_height (heading.Function name formals result span) = given_height formals

abbrev pub of_declaration : Declaration-F ℕ ℕ ℕ ℕ → ℕ
of_declaration (part.Labels labels) = 0
of_declaration (part.Constants constants) = constants_height constants
of_declaration (part.Types types) = types_height types
of_declaration (part.Variables variables) = variables_height variables
of_declaration (part.Routine routine) = routine

abbrev pub of_body : RoutineBody-F ℕ ℕ ℕ ℕ → ℕ
of_body (part.Block block) = block
of_body (part.Directive name) = 0

abbrev pub of_block : Block-F ℕ ℕ ℕ ℕ → ℕ
of_block b = suc (max (greatest b.declarations) (stmts_height b.body))

abbrev pub of_routine : Routine-F ℕ ℕ ℕ ℕ → ℕ
of_routine r = max (heading_height r.heading) r.body

unfoldable pub declaration_height : Declaration → ℕ
declaration_height = fold-Declaration ℕ ℕ ℕ ℕ of_declaration of_body of_block of_routine

unfoldable pub body_height : RoutineBody → ℕ
body_height = fold-RoutineBody ℕ ℕ ℕ ℕ of_declaration of_body of_block of_routine

unfoldable pub block_height : Block → ℕ
block_height = fold-Block ℕ ℕ ℕ ℕ of_declaration of_body of_block of_routine

unfoldable pub routine_height : Routine → ℕ
routine_height = fold-Routine ℕ ℕ ℕ ℕ of_declaration of_body of_block of_routine

abbrev pub declarations_height : List Declaration → ℕ
declarations_height all = greatest (map declaration_height all)
