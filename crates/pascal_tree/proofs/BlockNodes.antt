-- The height of each node of a block, by those of its parts as programs see them.
use Rattle.std.proofs.Common.{◌≡◌, ℕ, suc, max, sym, ap, ◌∙◌}
use Rattle.pascal_tree.specs.declared.names.Identifier.{Identifier}
use Rattle.pascal_tree.specs.declared.declarations.LabelPart.{LabelPart}
use Rattle.pascal_tree.specs.declared.declarations.ConstPart.{ConstPart}
use Rattle.pascal_tree.specs.declared.declarations.TypePart.{TypePart}
use Rattle.pascal_tree.specs.declared.declarations.VarPart.{VarPart}
use Rattle.pascal_tree.specs.declared.declarations.Declaration.TheOpen as part
use Rattle.pascal_tree.specs.declared.declarations.Declaration.{fold-roll-Declaration}
use Rattle.pascal_tree.specs.declared.declarations.Declaration.TheVariants as declaration
use Rattle.pascal_tree.specs.declared.declarations.RoutineBody.{fold-roll-RoutineBody}
use Rattle.pascal_tree.specs.declared.declarations.RoutineBody.TheVariants as body
use Rattle.pascal_tree.specs.declared.declarations.Block.{Block, out-Block, fold_out-Block}
use Rattle.pascal_tree.specs.declared.declarations.Routine.{Routine, out-Routine, fold_out-Routine}
use Rattle.pascal_tree.specs.StatementHeights.{stmts_height}
use Rattle.pascal_tree.specs.BlockHeights.{of_declaration, of_body, of_block, of_routine, constants_height, types_height, variables_height, heading_height, declaration_height, body_height, block_height, routine_height, declarations_height}

pub block_open : (x : Block) → block_height x ≡ suc (max (declarations_height (out-Block x).declarations) (stmts_height (out-Block x).body))
unfolding declaration_height body_height block_height routine_height
block_open x = fold_out-Block ℕ ℕ ℕ ℕ of_declaration of_body of_block of_routine x

pub routine_open : (x : Routine) → routine_height x ≡ max (heading_height (out-Routine x).heading) (body_height (out-Routine x).body)
unfolding declaration_height body_height block_height routine_height
routine_open x = fold_out-Routine ℕ ℕ ℕ ℕ of_declaration of_body of_block of_routine x

pub declaration_labels : (labels : LabelPart) → declaration_height (declaration.Labels labels) ≡ 0
unfolding declaration_height body_height block_height routine_height
declaration_labels labels = ap declaration_height (sym (declaration.rolls-Labels labels)) ∙ fold-roll-Declaration ℕ ℕ ℕ ℕ of_declaration of_body of_block of_routine (part.Labels labels)

pub declaration_constants : (constants : ConstPart) → declaration_height (declaration.Constants constants) ≡ constants_height constants
unfolding declaration_height body_height block_height routine_height
declaration_constants constants = ap declaration_height (sym (declaration.rolls-Constants constants)) ∙ fold-roll-Declaration ℕ ℕ ℕ ℕ of_declaration of_body of_block of_routine (part.Constants constants)

pub declaration_types : (types : TypePart) → declaration_height (declaration.Types types) ≡ types_height types
unfolding declaration_height body_height block_height routine_height
declaration_types types = ap declaration_height (sym (declaration.rolls-Types types)) ∙ fold-roll-Declaration ℕ ℕ ℕ ℕ of_declaration of_body of_block of_routine (part.Types types)

pub declaration_variables : (variables : VarPart) → declaration_height (declaration.Variables variables) ≡ variables_height variables
unfolding declaration_height body_height block_height routine_height
declaration_variables variables = ap declaration_height (sym (declaration.rolls-Variables variables)) ∙ fold-roll-Declaration ℕ ℕ ℕ ℕ of_declaration of_body of_block of_routine (part.Variables variables)

pub declaration_routine : (routine : Routine) → declaration_height (declaration.Routine routine) ≡ routine_height routine
unfolding declaration_height body_height block_height routine_height
declaration_routine routine = ap declaration_height (sym (declaration.rolls-Routine routine)) ∙ fold-roll-Declaration ℕ ℕ ℕ ℕ of_declaration of_body of_block of_routine (part.Routine routine)

pub body_block : (block : Block) → body_height (body.Block block) ≡ block_height block
unfolding declaration_height body_height block_height routine_height
body_block block = ap body_height (sym (body.rolls-Block block)) ∙ fold-roll-RoutineBody ℕ ℕ ℕ ℕ of_declaration of_body of_block of_routine (part.Block block)

pub body_directive : (name : Identifier) → body_height (body.Directive name) ≡ 0
unfolding declaration_height body_height block_height routine_height
body_directive name = ap body_height (sym (body.rolls-Directive name)) ∙ fold-roll-RoutineBody ℕ ℕ ℕ ℕ of_declaration of_body of_block of_routine (part.Directive name)

pub ruleset declaration_heights = (declaration_labels, declaration_constants, declaration_types, declaration_variables, declaration_routine)

pub ruleset body_heights = (body_block, body_directive)
