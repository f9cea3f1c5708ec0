-- Whole texts are read, within `n` levels. `end` is the place of the end of the text.
use Rattle.std.specs.Prelude.{ℕ, Bool, true, false, ◌&&◌, not, List, [], ◌∷◌, ◌++◌, length, Option, Some, None, Ok, Err}
use Rattle.p2c_text.specs.declared.dialect.Dialect.{Dialect}
use Rattle.p2c_text.specs.declared.place.Span.{Span}
use Rattle.dialect_lexer.specs.Dialects.{is_turbo}
use Rattle.dialect_lexer.specs.declared.token.Word.{Word as WordSymbol}
use Rattle.dialect_lexer.specs.declared.token.Word.TheVariants as word_
use Rattle.dialect_lexer.specs.declared.token.Symbol.TheVariants as mark
use Rattle.pascal_tree.specs.declared.names.Identifier.{Identifier}
use Rattle.pascal_tree.specs.declared.statements.Stmt.{Stmt}
use Rattle.pascal_tree.specs.declared.declarations.Heading.{Heading}
use Rattle.pascal_tree.specs.declared.declarations.Declaration.{Declaration}
use Rattle.pascal_tree.specs.declared.declarations.Block.{Block}
use Rattle.pascal_tree.specs.declared.files.Head.{Head}
use Rattle.pascal_tree.specs.declared.files.Uses.{Uses}
use Rattle.pascal_tree.specs.declared.files.Program.{Program}
use Rattle.pascal_tree.specs.declared.files.Public.{Public}
use Rattle.pascal_tree.specs.declared.files.Public.TheVariants as item
use Rattle.pascal_tree.specs.declared.files.UnitNode.{UnitNode}
use Rattle.pascal_tree.specs.declared.files.Module.{Module}
use Rattle.pascal_tree.specs.declared.files.SourceFile.{SourceFile}
use Rattle.pascal_tree.specs.declared.files.SourceFile.TheVariants as text
use Rattle.token_parsing.specs.declared.refusal.Refusal.TheVariants.{Unexpected}
use Rattle.token_parsing.specs.Parser.{Parser, Class, ◌>>=◌, pure, one_of, begins, either, repeat}
use Rattle.expr_parser.specs.Tokens.{Placed}
use Rattle.expr_parser.specs.Classes.{identifiers, words, symbols, operator_of, expect, expect_word}
use Rattle.expr_parser.specs.Places.{made}
use Rattle.expr_parser.specs.Expressions.{expr}
use Rattle.type_parser.specs.Names.{names}
use Rattle.type_parser.specs.Levels.{type_node, formals}
use Rattle.stmt_parser.specs.Statements.{stmts}
use Rattle.stmt_parser.specs.Levels.{stmt}
use Rattle.unit_parser.specs.Dialects.{uses_word}
use Rattle.unit_parser.specs.Parts.{const_part, type_part, var_part, heading}
use Rattle.unit_parser.specs.Blocks.{declarations, block}

-- ---- what units are used

abbrev pub uses_of : List Identifier → Span → Uses
uses_of ns span = record { names = ns; span = span }

-- Uses = "uses" Ids ";" in Turbo and UCSD, "import" Ids ";" in HP
unfoldable pub uses : Dialect → Span → Parser Placed Uses
uses d end = λ from. (expect_word (uses_word d) >>= λ _. names >>= λ ns. expect mark.Semicolon >>= λ _. made end from (uses_of ns)) from

-- [Uses]
unfoldable pub optional_uses : Dialect → Span → Parser Placed (Option Uses)
optional_uses d end = either (begins (words (uses_word d))) (uses d end >>= λ u. pure (Some u)) (pure None)

-- ---- programs

-- ["(" Ids ")"]
unfoldable pub optional_parameters : Parser Placed (Option (List Identifier))
optional_parameters = either (begins (symbols mark.Open)) (expect mark.Open >>= λ _. names >>= λ ns. expect mark.Close >>= λ _. pure (Some ns)) (pure None)

abbrev pub head_of : Identifier → Option (List Identifier) → Span → Head
head_of n ns span = record { name = n; parameters = ns; span = span }

-- Head = "program" Id ["(" Ids ")"] ";"
unfoldable pub head : Span → Parser Placed Head
head end = λ from. (expect_word word_.KwProgram >>= λ _. one_of identifiers >>= λ n. optional_parameters >>= λ ns. expect mark.Semicolon >>= λ _. made end from (head_of n ns)) from

-- in Turbo a program may begin without its head
abbrev pub is_headless : Dialect → List Placed → Bool
is_headless d s = is_turbo d && not (begins (words word_.KwProgram) s)

unfoldable pub optional_head : Dialect → Span → Parser Placed (Option Head)
optional_head d end = either (is_headless d) (pure None) (head end >>= λ h. pure (Some h))

abbrev pub program_of : Option Head → Option Uses → Block → Span → Program
program_of h u b span = record { head = h; uses = u; block = b; span = span }

-- Program = [Head] [Uses] Block "."
unfoldable pub program : Dialect → Span → ℕ → Parser Placed Program
program d end n = λ from. (optional_head d end >>= λ h. optional_uses d end >>= λ u. block d end n >>= λ b. expect mark.Dot >>= λ _. made end from (program_of h u b)) from

-- ---- interfaces

unfoldable pub constants_public : Dialect → Span → ℕ → Parser Placed Public
constants_public d end n = const_part d end (expr d end n) >>= λ p. pure (item.Constants p)

unfoldable pub types_public : Dialect → Span → ℕ → Parser Placed Public
types_public d end n = type_part end (type_node d end n) >>= λ p. pure (item.Types p)

unfoldable pub variables_public : Dialect → Span → ℕ → Parser Placed Public
variables_public d end n = var_part end (type_node d end n) >>= λ p. pure (item.Variables p)

-- Heading ";"
unfoldable pub heading_public : Span → ℕ → Parser Placed Public
heading_public end n = λ from. (heading end (formals end n) >>= λ h. expect mark.Semicolon >>= λ _. made end from (item.Heading h)) from

-- Public = ConstPart | TypePart | VarPart | Heading ";"
unfoldable pub public : Dialect → Span → ℕ → Parser Placed Public
public d end n =
    either (begins (words word_.KwConst)) (constants_public d end n)
    (either (begins (words word_.KwType)) (types_public d end n)
    (either (begins (words word_.KwVar)) (variables_public d end n) (heading_public end n)))

unfoldable pub next_public : Dialect → Span → ℕ → List Public → Parser Placed (List Public)
next_public d end n all = public d end n >>= λ x. pure (all ++ x ∷ [])

abbrev pub public_word_of : WordSymbol → Option (Unit {0})
public_word_of word_.KwConst = Some tt
public_word_of word_.KwType = Some tt
public_word_of word_.KwVar = Some tt
public_word_of word_.KwProcedure = Some tt
public_word_of word_.KwFunction = Some tt
public_word_of _ = None

-- the words with which what is public begins
abbrev pub public_words : Class Placed (Unit {0})
public_words t = operator_of public_word_of (λ s. None) t.token

-- {Public}
unfoldable pub publics : Dialect → Span → ℕ → List Public → Parser Placed (List Public)
publics d end n = repeat (begins public_words) (next_public d end n)

-- ---- units and modules

-- word Id ";"
unfoldable pub name_after : WordSymbol → Parser Placed Identifier
name_after w = expect_word w >>= λ _. one_of identifiers >>= λ n. expect mark.Semicolon >>= λ _. pure n

-- "interface" [Uses] {Public}
unfoldable pub interface : Dialect → Span → ℕ → Parser Placed (Option Uses × List Public)
interface d end n = expect_word word_.KwInterface >>= λ _. optional_uses d end >>= λ u. publics d end n [] >>= λ all. pure (u, all)

-- [Uses] "export" {Public}
unfoldable pub exports : Dialect → Span → ℕ → Parser Placed (Option Uses × List Public)
exports d end n = optional_uses d end >>= λ u. expect_word word_.KwExport >>= λ _. publics d end n [] >>= λ all. pure (u, all)

-- word [Uses] {Decl}
unfoldable pub implementation : WordSymbol → Dialect → Span → ℕ → Parser Placed (Option Uses × List Declaration)
implementation w d end n = expect_word w >>= λ _. optional_uses d end >>= λ u. declarations d end n (block d end n) >>= λ all. pure (u, all)

-- ["begin" Stmts]
unfoldable pub optional_initial : Dialect → Span → ℕ → Parser Placed (Option (List Stmt))
optional_initial d end n = either (begins (words word_.KwBegin)) (expect_word word_.KwBegin >>= λ _. stmts (stmt d end n) >>= λ b. pure (Some b)) (pure None)

-- "end" "."
unfoldable pub last_end : Parser Placed (Unit {0})
last_end = expect_word word_.KwEnd >>= λ _. expect mark.Dot

abbrev pub unit_of : Identifier → Option Uses × List Public → Option Uses × List Declaration → Option (List Stmt) → Span → UnitNode
unit_of n i m b span = record { name = n; interface_uses = i.0; publics = i.1; implementation_uses = m.0; declarations = m.1; initial = b; span = span }

-- Unit = "unit" Id ";" "interface" [Uses] {Public} "implementation" [Uses] {Decl} ["begin" Stmts] "end" "."
unfoldable pub unit : Dialect → Span → ℕ → Parser Placed UnitNode
unit d end n = λ from.
    (name_after word_.KwUnit >>= λ x. interface d end n >>= λ i. implementation word_.KwImplementation d end n >>= λ m. optional_initial d end n >>= λ b.
    last_end >>= λ _. made end from (unit_of x i m b)) from

abbrev pub module_of : Identifier → Option Uses × List Public → Option Uses × List Declaration → Span → Module
module_of n i m span = record { name = n; interface_uses = i.0; publics = i.1; implementation_uses = m.0; declarations = m.1; span = span }

-- Module = "module" Id ";" [Uses] "export" {Public} "implement" [Uses] {Decl} "end" "."
unfoldable pub module_text : Dialect → Span → ℕ → Parser Placed Module
module_text d end n = λ from.
    (name_after word_.KwModule >>= λ x. exports d end n >>= λ i. implementation word_.KwImplement d end n >>= λ m. last_end >>= λ _. made end from (module_of x i m)) from

-- ---- whole texts

-- no token is left
abbrev pub end_of : {A : Type 0} → A → Parser Placed A
end_of a [] = Ok (a, [])
end_of a (t ∷ s) = Err (Unexpected (length (t ∷ s)))

unfoldable pub source_file : Dialect → Span → ℕ → Parser Placed SourceFile
source_file d end n =
    either (begins (words word_.KwUnit)) (unit d end n >>= λ u. pure (text.UnitText u))
    (either (begins (words word_.KwModule)) (module_text d end n >>= λ m. pure (text.Module m)) (program d end n >>= λ p. pure (text.Program p)))

-- File = Program | Unit | Module
unfoldable pub file : Dialect → Span → ℕ → Parser Placed SourceFile
file d end n = source_file d end n >>= end_of
