-- What the grammar asks of declarations, blocks and whole texts beyond the way in which they are written.
use Rattle.std.specs.Prelude.{ℕ, nat_lt, Bool, true, false, ◌&&◌, ◌||◌, ◌==◌, not, List, [], ◌∷◌, map, Option, Some, None}
use Rattle.std.specs.Option.{option_map}
use Rattle.p2c_text.specs.declared.dialect.Dialect.{Dialect}
use Rattle.dialect_lexer.specs.Dialects.{is_iso, is_turbo}
use Rattle.pascal_tree.specs.declared.names.Identifier.{Identifier}
use Rattle.pascal_tree.specs.declared.statements.Stmt.{Stmt}
use Rattle.pascal_tree.specs.declared.declarations.LabelPart.{LabelPart}
use Rattle.pascal_tree.specs.declared.declarations.Value.{Value}
use Rattle.pascal_tree.specs.declared.declarations.Value.TheVariants as value
use Rattle.pascal_tree.specs.declared.declarations.ConstDefinition.{ConstDefinition}
use Rattle.pascal_tree.specs.declared.declarations.ConstPart.{ConstPart}
use Rattle.pascal_tree.specs.declared.declarations.TypeDefinition.{TypeDefinition}
use Rattle.pascal_tree.specs.declared.declarations.TypePart.{TypePart}
use Rattle.pascal_tree.specs.declared.declarations.VarSection.{VarSection}
use Rattle.pascal_tree.specs.declared.declarations.VarPart.{VarPart}
use Rattle.pascal_tree.specs.declared.declarations.Heading.{Heading}
use Rattle.pascal_tree.specs.declared.declarations.Heading.TheVariants as heading
use Rattle.pascal_tree.specs.declared.declarations.Declaration.TheOpen as part
use Rattle.pascal_tree.specs.declared.declarations.Declaration.TheOpen.{Declaration-F, RoutineBody-F, Block-F, Routine-F}
use Rattle.pascal_tree.specs.declared.declarations.Declaration.{Declaration, fold-Declaration}
use Rattle.pascal_tree.specs.declared.declarations.RoutineBody.{RoutineBody, fold-RoutineBody}
use Rattle.pascal_tree.specs.declared.declarations.Block.{Block, fold-Block}
use Rattle.pascal_tree.specs.declared.declarations.Routine.{Routine, fold-Routine}
use Rattle.pascal_tree.specs.declared.files.Head.{Head}
use Rattle.pascal_tree.specs.declared.files.Uses.{Uses}
use Rattle.pascal_tree.specs.declared.files.Program.{Program}
use Rattle.pascal_tree.specs.declared.files.Public.{Public}
use Rattle.pascal_tree.specs.declared.files.Public.TheVariants as item
use Rattle.pascal_tree.specs.declared.files.UnitNode.{UnitNode}
use Rattle.pascal_tree.specs.declared.files.Module.{Module}
use Rattle.pascal_tree.specs.declared.files.SourceFile.{SourceFile}
use Rattle.pascal_tree.specs.declared.files.SourceFile.TheVariants as text
use Rattle.expr_parser.specs.Grammar.{IsTree, all, some_all, optional, formed_expr}
use Rattle.expr_parser.specs.ConstantNodes.{formed_label}
use Rattle.type_parser.specs.Grammar.{some_names, formed_type, formed_formals}
use Rattle.stmt_parser.specs.Grammar.{some_alone, formed_stmt}
use Rattle.unit_parser.specs.Dialects.{has_value_expressions}
use Rattle.unit_parser.specs.Writing.{write_file}

-- ---- lists are not empty, and a value is a constant or an expression, as the dialect has it

abbrev pub formed_labels : Dialect → LabelPart → Bool
formed_labels d p = some_all (map (formed_label d) p.labels)

abbrev pub formed_value : Dialect → Value → Bool
formed_value d (value.Constant constant) = not (has_value_expressions d)
formed_value d (value.Expression expr) = has_value_expressions d && formed_expr d expr

abbrev pub formed_const_definition : Dialect → ConstDefinition → Bool
formed_const_definition d x = formed_value d x.value

abbrev pub formed_constants : Dialect → ConstPart → Bool
formed_constants d p = some_all (map (formed_const_definition d) p.definitions)

abbrev pub formed_type_definition : Dialect → TypeDefinition → Bool
formed_type_definition d x = formed_type d x.of

abbrev pub formed_types : Dialect → TypePart → Bool
formed_types d p = some_all (map (formed_type_definition d) p.definitions)

abbrev pub formed_var_section : Dialect → VarSection → Bool
formed_var_section d x = some_names x.names && formed_type d x.of

abbrev pub formed_variables : Dialect → VarPart → Bool
formed_variables d p = some_all (map (formed_var_section d) p.sections)

abbrev pub formed_heading : Heading → Bool
formed_heading (heading.Procedure name formals span) = optional (option_map formed_formals formals)
formed_heading (heading.Function name formals result span) = optional (option_map formed_formals formals)

abbrev pub formed_stmts : Dialect → List Stmt → Bool
formed_stmts d statements = some_alone (map (formed_stmt d) statements)

-- ---- the order of declarations

-- whether a declaration is formed as the grammar asks, and where its kind stands in the order of Iso
pub record Judged : Type 0 where
  pub formed : Bool
  pub place : ℕ

abbrev pub judged : Bool → ℕ → Judged
judged formed place = record { formed = formed; place = place }

abbrev pub place_of_routines : ℕ
place_of_routines = 4

-- a later kind, or routines
abbrev pub may_follow : Judged → Judged → Bool
may_follow a b = nat_lt a.place b.place || b.place == place_of_routines

abbrev pub are_in_order : List Judged → Bool
are_in_order [] = true
are_in_order (a ∷ []) = true
are_in_order (a ∷ b ∷ more) = may_follow a b && are_in_order (b ∷ more)

-- in Iso labels, constants, types and variables come once at most, in this order, before the routines
abbrev pub formed_declarations : Dialect → List Judged → Bool
formed_declarations d declarations = all (map (λ (j : Judged). j.formed) declarations) && (not (is_iso d) || are_in_order declarations)

abbrev pub of_declaration : Dialect → Declaration-F Judged Bool Bool Bool → Judged
of_declaration d (part.Labels labels) = judged (formed_labels d labels) 0
of_declaration d (part.Constants constants) = judged (formed_constants d constants) 1
of_declaration d (part.Types types) = judged (formed_types d types) 2
of_declaration d (part.Variables variables) = judged (formed_variables d variables) 3
of_declaration d (part.Routine routine) = judged routine place_of_routines

abbrev pub of_body : RoutineBody-F Judged Bool Bool Bool → Bool
of_body (part.Block block) = block
of_body (part.Directive name) = true

abbrev pub of_block : Dialect → Block-F Judged Bool Bool Bool → Bool
of_block d b = formed_declarations d b.declarations && formed_stmts d b.body

abbrev pub of_routine : Routine-F Judged Bool Bool Bool → Bool
of_routine r = formed_heading r.heading && r.body

unfoldable pub judged_declaration : Dialect → Declaration → Judged
judged_declaration d = fold-Declaration Judged Bool Bool Bool (of_declaration d) of_body (of_block d) of_routine

unfoldable pub formed_body : Dialect → RoutineBody → Bool
formed_body d = fold-RoutineBody Judged Bool Bool Bool (of_declaration d) of_body (of_block d) of_routine

unfoldable pub formed_block : Dialect → Block → Bool
formed_block d = fold-Block Judged Bool Bool Bool (of_declaration d) of_body (of_block d) of_routine

unfoldable pub formed_routine : Dialect → Routine → Bool
formed_routine d = fold-Routine Judged Bool Bool Bool (of_declaration d) of_body (of_block d) of_routine

-- ---- whole texts; the head of a program may be absent in Turbo

abbrev pub formed_head : Dialect → Option Head → Bool
formed_head d None = is_turbo d
formed_head d (Some h) = optional (option_map some_names h.parameters)

abbrev pub formed_uses : Option Uses → Bool
formed_uses None = true
formed_uses (Some u) = some_names u.names

abbrev pub formed_program : Dialect → Program → Bool
formed_program d p = formed_head d p.head && formed_uses p.uses && formed_block d p.block

abbrev pub formed_public : Dialect → Public → Bool
formed_public d (item.Constants constants) = formed_constants d constants
formed_public d (item.Types types) = formed_types d types
formed_public d (item.Variables variables) = formed_variables d variables
formed_public d (item.Heading heading span) = formed_heading heading

abbrev pub formed_interface : Dialect → Option Uses → List Public → Bool
formed_interface d u publics = formed_uses u && all (map (formed_public d) publics)

abbrev pub formed_implementation : Dialect → Option Uses → List Declaration → Bool
formed_implementation d u declarations = formed_uses u && formed_declarations d (map (judged_declaration d) declarations)

abbrev pub formed_unit : Dialect → UnitNode → Bool
formed_unit d u = formed_interface d u.interface_uses u.publics && formed_implementation d u.implementation_uses u.declarations && optional (option_map (formed_stmts d) u.initial)

abbrev pub formed_module : Dialect → Module → Bool
formed_module d m = formed_interface d m.interface_uses m.publics && formed_implementation d m.implementation_uses m.declarations

abbrev pub formed_file : Dialect → SourceFile → Bool
formed_file d (text.Program p) = formed_program d p
formed_file d (text.UnitText u) = formed_unit d u
formed_file d (text.Module m) = formed_module d m

-- ---- trees of the grammar

-- The words `unit`, `module`, `uses` and `import` are tokens of their dialects alone.
abbrev pub IsFile : Dialect → SourceFile → Type 0
IsFile d f = IsTree d (write_file d) (formed_file d) f
