-- Parts of declarations are read, where `expr` reads the expressions, `type` the types and `formals` the formal parameters in them. `end` is the place of the end of the text.
use Rattle.std.specs.Prelude.{Bool, true, false, List, [], ◌∷◌, ◌++◌, Option, Some, None}
use Rattle.p2c_text.specs.declared.dialect.Dialect.{Dialect}
use Rattle.p2c_text.specs.declared.place.Span.{Span}
use Rattle.dialect_lexer.specs.declared.token.Word.TheVariants as word_
use Rattle.dialect_lexer.specs.declared.token.Symbol.TheVariants as mark
use Rattle.pascal_tree.specs.declared.names.Identifier.{Identifier}
use Rattle.pascal_tree.specs.declared.names.Label.{Label}
use Rattle.pascal_tree.specs.declared.expressions.Expr.{Expr}
use Rattle.pascal_tree.specs.declared.types.TypeName.{TypeName}
use Rattle.pascal_tree.specs.declared.types.TypeNode.{TypeNode}
use Rattle.pascal_tree.specs.declared.declarations.Formals.{Formals}
use Rattle.pascal_tree.specs.declared.declarations.LabelPart.{LabelPart}
use Rattle.pascal_tree.specs.declared.declarations.Value.{Value}
use Rattle.pascal_tree.specs.declared.declarations.Value.TheVariants as value_
use Rattle.pascal_tree.specs.declared.declarations.ConstDefinition.{ConstDefinition}
use Rattle.pascal_tree.specs.declared.declarations.ConstPart.{ConstPart}
use Rattle.pascal_tree.specs.declared.declarations.TypeDefinition.{TypeDefinition}
use Rattle.pascal_tree.specs.declared.declarations.TypePart.{TypePart}
use Rattle.pascal_tree.specs.declared.declarations.VarSection.{VarSection}
use Rattle.pascal_tree.specs.declared.declarations.VarPart.{VarPart}
use Rattle.pascal_tree.specs.declared.declarations.Heading.{Heading}
use Rattle.pascal_tree.specs.declared.declarations.Heading.TheVariants as heading_
use Rattle.token_parsing.specs.Parser.{Parser, ◌>>=◌, pure, one_of, begins, either, repeat}
use Rattle.expr_parser.specs.Tokens.{Placed}
use Rattle.expr_parser.specs.Classes.{identifiers, words, symbols, expect, expect_word}
use Rattle.expr_parser.specs.Places.{made}
use Rattle.expr_parser.specs.Constants.{label, constant}
use Rattle.type_parser.specs.Names.{names}
use Rattle.type_parser.specs.Formals.{optional_formals, result}
use Rattle.unit_parser.specs.Dialects.{has_value_expressions}

-- ---- labels

-- "," Label
unfoldable pub next_label : Dialect → Span → List Label → Parser Placed (List Label)
next_label d end all = expect mark.Comma >>= λ _. label d end >>= λ l. pure (all ++ l ∷ [])

-- {"," Label}
unfoldable pub more_labels : Dialect → Span → List Label → Parser Placed (List Label)
more_labels d end = repeat (begins (symbols mark.Comma)) (next_label d end)

-- Label {"," Label}
unfoldable pub labels : Dialect → Span → Parser Placed (List Label)
labels d end = label d end >>= λ l. more_labels d end (l ∷ [])

abbrev pub label_part_of : List Label → Span → LabelPart
label_part_of all span = record { labels = all; span = span }

-- LabelPart = "label" Label {"," Label} ";"
unfoldable pub label_part : Dialect → Span → Parser Placed LabelPart
label_part d end = λ from. (expect_word word_.KwLabel >>= λ _. labels d end >>= λ all. expect mark.Semicolon >>= λ _. made end from (label_part_of all)) from

-- ---- constants

unfoldable pub constant_value : Span → Parser Placed Value
constant_value end = constant end >>= λ c. pure (value_.Constant c)

unfoldable pub expression_value : Parser Placed Expr → Parser Placed Value
expression_value expr = expr >>= λ e. pure (value_.Expression e)

-- Value = Const | Expr
unfoldable pub value : Dialect → Span → Parser Placed Expr → Parser Placed Value
value d end expr = either (λ s. has_value_expressions d) (expression_value expr) (constant_value end)

abbrev pub const_definition_of : Identifier → Value → Span → ConstDefinition
const_definition_of n v span = record { name = n; value = v; span = span }

-- Id "=" Value ";"
unfoldable pub const_definition : Dialect → Span → Parser Placed Expr → Parser Placed ConstDefinition
const_definition d end expr = λ from. (one_of identifiers >>= λ n. expect mark.Equal >>= λ _. value d end expr >>= λ v. expect mark.Semicolon >>= λ _. made end from (const_definition_of n v)) from

unfoldable pub next_const_definition : Dialect → Span → Parser Placed Expr → List ConstDefinition → Parser Placed (List ConstDefinition)
next_const_definition d end expr all = const_definition d end expr >>= λ x. pure (all ++ x ∷ [])

-- {Id "=" Value ";"}
unfoldable pub const_definitions : Dialect → Span → Parser Placed Expr → List ConstDefinition → Parser Placed (List ConstDefinition)
const_definitions d end expr = repeat (begins identifiers) (next_const_definition d end expr)

abbrev pub const_part_of : List ConstDefinition → Span → ConstPart
const_part_of all span = record { definitions = all; span = span }

-- ConstPart = "const" Id "=" Value ";" {Id "=" Value ";"}
unfoldable pub const_part : Dialect → Span → Parser Placed Expr → Parser Placed ConstPart
const_part d end expr = λ from. (expect_word word_.KwConst >>= λ _. next_const_definition d end expr [] >>= λ x. const_definitions d end expr x >>= λ all. made end from (const_part_of all)) from

-- ---- types

abbrev pub type_definition_of : Identifier → TypeNode → Span → TypeDefinition
type_definition_of n t span = record { name = n; of = t; span = span }

-- Id "=" Type ";"
unfoldable pub type_definition : Span → Parser Placed TypeNode → Parser Placed TypeDefinition
type_definition end type = λ from. (one_of identifiers >>= λ n. expect mark.Equal >>= λ _. type >>= λ t. expect mark.Semicolon >>= λ _. made end from (type_definition_of n t)) from

unfoldable pub next_type_definition : Span → Parser Placed TypeNode → List TypeDefinition → Parser Placed (List TypeDefinition)
next_type_definition end type all = type_definition end type >>= λ x. pure (all ++ x ∷ [])

-- {Id "=" Type ";"}
unfoldable pub type_definitions : Span → Parser Placed TypeNode → List TypeDefinition → Parser Placed (List TypeDefinition)
type_definitions end type = repeat (begins identifiers) (next_type_definition end type)

abbrev pub type_part_of : List TypeDefinition → Span → TypePart
type_part_of all span = record { definitions = all; span = span }

-- TypePart = "type" Id "=" Type ";" {Id "=" Type ";"}
unfoldable pub type_part : Span → Parser Placed TypeNode → Parser Placed TypePart
type_part end type = λ from. (expect_word word_.KwType >>= λ _. next_type_definition end type [] >>= λ x. type_definitions end type x >>= λ all. made end from (type_part_of all)) from

-- ---- variables

abbrev pub var_section_of : List Identifier → TypeNode → Span → VarSection
var_section_of ns t span = record { names = ns; of = t; span = span }

-- Ids ":" Type ";"
unfoldable pub var_section : Span → Parser Placed TypeNode → Parser Placed VarSection
var_section end type = λ from. (names >>= λ ns. expect mark.Colon >>= λ _. type >>= λ t. expect mark.Semicolon >>= λ _. made end from (var_section_of ns t)) from

unfoldable pub next_var_section : Span → Parser Placed TypeNode → List VarSection → Parser Placed (List VarSection)
next_var_section end type all = var_section end type >>= λ x. pure (all ++ x ∷ [])

-- {Ids ":" Type ";"}
unfoldable pub var_sections : Span → Parser Placed TypeNode → List VarSection → Parser Placed (List VarSection)
var_sections end type = repeat (begins identifiers) (next_var_section end type)

abbrev pub var_part_of : List VarSection → Span → VarPart
var_part_of all span = record { sections = all; span = span }

-- VarPart = "var" Ids ":" Type ";" {Ids ":" Type ";"}
unfoldable pub var_part : Span → Parser Placed TypeNode → Parser Placed VarPart
var_part end type = λ from. (expect_word word_.KwVar >>= λ _. next_var_section end type [] >>= λ x. var_sections end type x >>= λ all. made end from (var_part_of all)) from

-- ---- headings

-- "procedure" Id [Formals]
unfoldable pub procedure_heading : Span → Parser Placed Formals → Parser Placed Heading
procedure_heading end formals = λ from. (expect_word word_.KwProcedure >>= λ _. one_of identifiers >>= λ n. optional_formals formals >>= λ f. made end from (heading_.Procedure n f)) from

-- [":" TypeName]
unfoldable pub optional_result : Span → Parser Placed (Option TypeName)
optional_result end = either (begins (symbols mark.Colon)) (result end >>= λ t. pure (Some t)) (pure None)

-- "function" Id [Formals] [":" TypeName]
unfoldable pub function_heading : Span → Parser Placed Formals → Parser Placed Heading
function_heading end formals = λ from. (expect_word word_.KwFunction >>= λ _. one_of identifiers >>= λ n. optional_formals formals >>= λ f. optional_result end >>= λ t. made end from (heading_.Function n f t)) from

unfoldable pub heading : Span → Parser Placed Formals → Parser Placed Heading
heading end formals = either (begins (words word_.KwFunction)) (function_heading end formals) (procedure_heading end formals)
