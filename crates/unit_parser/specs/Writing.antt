-- The grammar of declarations, blocks and whole texts: how each node is written by its parts, with a line for each alternative.
use Rattle.std.specs.Prelude.{List, map, Option, Some, None}
use Rattle.std.specs.Option.{option_map}
use Rattle.p2c_text.specs.declared.dialect.Dialect.{Dialect}
use Rattle.dialect_lexer.specs.declared.token.Word.TheVariants as word_
use Rattle.dialect_lexer.specs.declared.token.Symbol.TheVariants as mark
use Rattle.pascal_tree.specs.declared.names.Identifier.{Identifier}
use Rattle.pascal_tree.specs.declared.types.TypeName.{TypeName}
use Rattle.pascal_tree.specs.declared.statements.Stmt.{Stmt}
use Rattle.pascal_tree.specs.declared.declarations.LabelPart.{LabelPart}
use Rattle.pascal_tree.specs.declared.declarations.Value.{Value}
use Rattle.pascal_tree.specs.declared.declarations.Value.TheVariants as value
use Rattle.pascal_tree.specs.declared.declarations.ConstDefinition.{ConstDefinition}
use Rattle.pascal_tree.specs.declared.declarations.ConstPart.{ConstPart}
use Rattle.pascal_tree.specs.declared.declarations.TypeDefinition.{TypeDefinition}
use Rattle.pascal_tree.specs.declared.declarations.TypePart.{TypePart}
use Rattle.pascal_tree.specs.declared.declarations.VarSection.{VarSection}
use Rattle.pascal_tree.specs.declared.declarations.VarPart.{VarPart}
use Rattle.pascal_tree.specs.declared.declarations.Heading.{Heading}
use Rattle.pascal_tree.specs.declared.declarations.Heading.TheVariants as heading
use Rattle.pascal_tree.specs.declared.declarations.Declaration.TheOpen as part
use Rattle.pascal_tree.specs.declared.declarations.Declaration.TheOpen.{Declaration-F, RoutineBody-F, Block-F, Routine-F}
use Rattle.pascal_tree.specs.declared.declarations.Declaration.{Declaration, fold-Declaration}
use Rattle.pascal_tree.specs.declared.declarations.RoutineBody.{RoutineBody, fold-RoutineBody}
use Rattle.pascal_tree.specs.declared.declarations.Block.{Block, fold-Block}
use Rattle.pascal_tree.specs.declared.declarations.Routine.{Routine, fold-Routine}
use Rattle.pascal_tree.specs.declared.files.Head.{Head}
use Rattle.pascal_tree.specs.declared.files.Uses.{Uses}
use Rattle.pascal_tree.specs.declared.files.Program.{Program}
use Rattle.pascal_tree.specs.declared.files.Public.{Public}
use Rattle.pascal_tree.specs.declared.files.Public.TheVariants as item
use Rattle.pascal_tree.specs.declared.files.UnitNode.{UnitNode}
use Rattle.pascal_tree.specs.declared.files.Module.{Module}
use Rattle.pascal_tree.specs.declared.files.SourceFile.{SourceFile}
use Rattle.pascal_tree.specs.declared.files.SourceFile.TheVariants as text
use Rattle.expr_parser.specs.Layout.{Layout, Done, ◌&◌, word, symbol, spanned, counted, in_row, with_commas}
use Rattle.expr_parser.specs.Semicolons.{with_semicolons, optional_part}
use Rattle.expr_parser.specs.Writing.{identifier, write_expr}
use Rattle.expr_parser.specs.ConstantNodes.{write_label, write_constant}
use Rattle.type_parser.specs.Writing.{write_names, write_type_name, write_type, write_formals}
use Rattle.stmt_parser.specs.Writing.{write_stmt}
use Rattle.unit_parser.specs.Dialects.{uses_word}

-- ---- declarations

-- LabelPart = "label" Label {"," Label} ";"
abbrev pub write_labels : LabelPart → Layout
write_labels p = spanned p.span (word word_.KwLabel & with_commas (map write_label p.labels) & symbol mark.Semicolon)

-- Value = Const | Expr
abbrev pub write_value : Value → Layout
write_value (value.Constant constant) = write_constant constant
write_value (value.Expression expr) = write_expr expr

-- Id "=" Value ";"
abbrev pub write_const_definition : ConstDefinition → Layout
write_const_definition x = spanned x.span (identifier x.name & symbol mark.Equal & write_value x.value & symbol mark.Semicolon)

-- ConstPart = "const" Id "=" Value ";" {Id "=" Value ";"}
abbrev pub write_constants : ConstPart → Layout
write_constants p = spanned p.span (word word_.KwConst & in_row (map write_const_definition p.definitions))

-- Id "=" Type ";"
abbrev pub write_type_definition : TypeDefinition → Layout
write_type_definition x = spanned x.span (identifier x.name & symbol mark.Equal & write_type x.of & symbol mark.Semicolon)

-- TypePart = "type" Id "=" Type ";" {Id "=" Type ";"}
abbrev pub write_types : TypePart → Layout
write_types p = spanned p.span (word word_.KwType & in_row (map write_type_definition p.definitions))

-- Ids ":" Type ";"
abbrev pub write_var_section : VarSection → Layout
write_var_section x = spanned x.span (write_names x.names & symbol mark.Colon & write_type x.of & symbol mark.Semicolon)

-- VarPart = "var" Ids ":" Type ";" {Ids ":" Type ";"}
abbrev pub write_variables : VarPart → Layout
write_variables p = spanned p.span (word word_.KwVar & in_row (map write_var_section p.sections))

-- [":" TypeName]
abbrev pub optional_result : Option TypeName → Layout
optional_result None = Done
optional_result (Some name) = symbol mark.Colon & write_type_name name

-- Heading = "procedure" Id [Formals] | "function" Id [Formals] [":" TypeName]
abbrev pub write_heading : Heading → Layout
write_heading (heading.Procedure name formals span) = spanned span (word word_.KwProcedure & identifier name & optional_part (option_map write_formals formals))
write_heading (heading.Function name formals result span) = spanned span (word word_.KwFunction & identifier name & optional_part (option_map write_formals formals) & optional_result result)

-- Stmts = Stmt {";" Stmt}
abbrev pub write_stmts : Dialect → List Stmt → Layout
write_stmts d all = with_semicolons (map (write_stmt d) all)

-- Decl = LabelPart | ConstPart | TypePart | VarPart | Routine
abbrev pub of_declaration : Declaration-F Layout Layout Layout Layout → Layout
of_declaration (part.Labels labels) = write_labels labels
of_declaration (part.Constants constants) = write_constants constants
of_declaration (part.Types types) = write_types types
of_declaration (part.Variables variables) = write_variables variables
of_declaration (part.Routine routine) = routine

-- Block | Id
abbrev pub of_body : RoutineBody-F Layout Layout Layout Layout → Layout
of_body (part.Block block) = block
of_body (part.Directive name) = identifier name

-- Block = {Decl} "begin" Stmts "end"
abbrev pub of_block : Dialect → Block-F Layout Layout Layout Layout → Layout
of_block d b = counted (spanned b.span (in_row b.declarations & word word_.KwBegin & write_stmts d b.body & word word_.KwEnd))

-- Routine = Heading ";" (Block | Id) ";"
abbrev pub of_routine : Routine-F Layout Layout Layout Layout → Layout
of_routine r = spanned r.span (write_heading r.heading & symbol mark.Semicolon & r.body & symbol mark.Semicolon)

unfoldable pub write_declaration : Dialect → Declaration → Layout
write_declaration d = fold-Declaration Layout Layout Layout Layout of_declaration of_body (of_block d) of_routine

unfoldable pub write_body : Dialect → RoutineBody → Layout
write_body d = fold-RoutineBody Layout Layout Layout Layout of_declaration of_body (of_block d) of_routine

unfoldable pub write_block : Dialect → Block → Layout
write_block d = fold-Block Layout Layout Layout Layout of_declaration of_body (of_block d) of_routine

unfoldable pub write_routine : Dialect → Routine → Layout
write_routine d = fold-Routine Layout Layout Layout Layout of_declaration of_body (of_block d) of_routine

-- ---- whole texts

-- ["(" Ids ")"]
abbrev pub optional_parameters : Option (List Identifier) → Layout
optional_parameters None = Done
optional_parameters (Some names) = symbol mark.Open & write_names names & symbol mark.Close

-- Head = "program" Id ["(" Ids ")"] ";"
abbrev pub write_head : Head → Layout
write_head h = spanned h.span (word word_.KwProgram & identifier h.name & optional_parameters h.parameters & symbol mark.Semicolon)

-- Uses = "uses" Ids ";" in Turbo and UCSD, "import" Ids ";" in HP
abbrev pub write_uses : Dialect → Uses → Layout
write_uses d u = spanned u.span (word (uses_word d) & write_names u.names & symbol mark.Semicolon)

abbrev pub optional_uses : Dialect → Option Uses → Layout
optional_uses d u = optional_part (option_map (write_uses d) u)

-- Program = [Head] [Uses] Block "."
abbrev pub write_program : Dialect → Program → Layout
write_program d p = spanned p.span (optional_part (option_map write_head p.head) & optional_uses d p.uses & write_block d p.block & symbol mark.Dot)

-- Public = ConstPart | TypePart | VarPart | Heading ";"
abbrev pub write_public : Public → Layout
write_public (item.Constants constants) = write_constants constants
write_public (item.Types types) = write_types types
write_public (item.Variables variables) = write_variables variables
write_public (item.Heading heading span) = spanned span (write_heading heading & symbol mark.Semicolon)

-- ["begin" Stmts]
abbrev pub optional_initial : Dialect → Option (List Stmt) → Layout
optional_initial d None = Done
optional_initial d (Some all) = word word_.KwBegin & write_stmts d all

-- [Uses] {Decl}
abbrev pub write_implementation : Dialect → Option Uses → List Declaration → Layout
write_implementation d u declarations = optional_uses d u & in_row (map (write_declaration d) declarations)

-- Unit = "unit" Id ";" "interface" [Uses] {Public} "implementation" [Uses] {Decl} ["begin" Stmts] "end" "."
abbrev pub write_unit : Dialect → UnitNode → Layout
write_unit d u = spanned u.span
    (word word_.KwUnit & identifier u.name & symbol mark.Semicolon & word word_.KwInterface & optional_uses d u.interface_uses & in_row (map write_public u.publics)
    & word word_.KwImplementation & write_implementation d u.implementation_uses u.declarations & optional_initial d u.initial & word word_.KwEnd & symbol mark.Dot)

-- Module = "module" Id ";" [Uses] "export" {Public} "implement" [Uses] {Decl} "end" "."
abbrev pub write_module : Dialect → Module → Layout
write_module d m = spanned m.span
    (word word_.KwModule & identifier m.name & symbol mark.Semicolon & optional_uses d m.interface_uses & word word_.KwExport & in_row (map write_public m.publics)
    & word word_.KwImplement & write_implementation d m.implementation_uses m.declarations & word word_.KwEnd & symbol mark.Dot)

-- File = Program | Unit | Module
abbrev pub write_file : Dialect → SourceFile → Layout
write_file d (text.Program program) = write_program d program
write_file d (text.UnitText u) = write_unit d u
write_file d (text.Module m) = write_module d m
