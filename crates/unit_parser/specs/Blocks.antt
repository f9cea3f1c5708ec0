-- Declarations and blocks are read. A declaration whose parts have `n` levels reads its blocks with `block`. `end` is the place of the end of the text.
use Rattle.std.specs.Prelude.{ℕ, zero, suc, Bool, true, false, List, [], ◌∷◌, ◌++◌, Option, Some, None}
use Rattle.p2c_text.specs.declared.dialect.Dialect.{Dialect}
use Rattle.p2c_text.specs.declared.place.Span.{Span}
use Rattle.dialect_lexer.specs.Dialects.{is_iso}
use Rattle.dialect_lexer.specs.declared.token.Word.{Word as WordSymbol}
use Rattle.dialect_lexer.specs.declared.token.Word.TheVariants as word_
use Rattle.dialect_lexer.specs.declared.token.Symbol.TheVariants as mark
use Rattle.pascal_tree.specs.declared.statements.Stmt.{Stmt}
use Rattle.pascal_tree.specs.declared.declarations.Heading.{Heading}
use Rattle.pascal_tree.specs.declared.declarations.RoutineBody.{RoutineBody}
use Rattle.pascal_tree.specs.declared.declarations.RoutineBody.TheVariants as body
use Rattle.pascal_tree.specs.declared.declarations.Routine.{Routine, roll-Routine}
use Rattle.pascal_tree.specs.declared.declarations.Declaration.{Declaration}
use Rattle.pascal_tree.specs.declared.declarations.Declaration.TheVariants as declaration_
use Rattle.pascal_tree.specs.declared.declarations.Block.{Block, roll-Block}
use Rattle.token_parsing.specs.Parser.{Parser, Class, ◌>>=◌, pure, stop, one_of, begins, either, repeat}
use Rattle.expr_parser.specs.Tokens.{Placed}
use Rattle.expr_parser.specs.Classes.{identifiers, words, operator_of, expect, expect_word}
use Rattle.expr_parser.specs.Places.{made}
use Rattle.expr_parser.specs.Expressions.{expr}
use Rattle.type_parser.specs.Levels.{type_node, formals}
use Rattle.stmt_parser.specs.Statements.{stmts}
use Rattle.stmt_parser.specs.Levels.{stmt}
use Rattle.unit_parser.specs.Parts.{label_part, const_part, type_part, var_part, heading}

-- ---- routines

-- Block | Id
unfoldable pub routine_body : Parser Placed Block → Parser Placed RoutineBody
routine_body block = either (begins identifiers) (one_of identifiers >>= λ n. pure (body.Directive n)) (block >>= λ b. pure (body.Block b))

abbrev pub routine_of : Heading → RoutineBody → Span → Routine
routine_of h b span = roll-Routine (record { heading = h; body = b; span = span })

-- Routine = Heading ";" (Block | Id) ";"
unfoldable pub routine : Span → ℕ → Parser Placed Block → Parser Placed Routine
routine end n block = λ from. (heading end (formals end n) >>= λ h. expect mark.Semicolon >>= λ _. routine_body block >>= λ b. expect mark.Semicolon >>= λ _. made end from (routine_of h b)) from

-- ---- declarations

unfoldable pub labels_declared : Dialect → Span → Parser Placed Declaration
labels_declared d end = label_part d end >>= λ p. pure (declaration_.Labels p)

unfoldable pub constants_declared : Dialect → Span → ℕ → Parser Placed Declaration
constants_declared d end n = const_part d end (expr d end n) >>= λ p. pure (declaration_.Constants p)

unfoldable pub types_declared : Dialect → Span → ℕ → Parser Placed Declaration
types_declared d end n = type_part end (type_node d end n) >>= λ p. pure (declaration_.Types p)

unfoldable pub variables_declared : Dialect → Span → ℕ → Parser Placed Declaration
variables_declared d end n = var_part end (type_node d end n) >>= λ p. pure (declaration_.Variables p)

unfoldable pub routine_declared : Span → ℕ → Parser Placed Block → Parser Placed Declaration
routine_declared end n block = routine end n block >>= λ r. pure (declaration_.Routine r)

-- Decl = LabelPart | ConstPart | TypePart | VarPart | Routine
unfoldable pub declaration : Dialect → Span → ℕ → Parser Placed Block → Parser Placed Declaration
declaration d end n block =
    either (begins (words word_.KwLabel)) (labels_declared d end)
    (either (begins (words word_.KwConst)) (constants_declared d end n)
    (either (begins (words word_.KwType)) (types_declared d end n)
    (either (begins (words word_.KwVar)) (variables_declared d end n) (routine_declared end n block))))

unfoldable pub next_declaration : Dialect → Span → ℕ → Parser Placed Block → List Declaration → Parser Placed (List Declaration)
next_declaration d end n block all = declaration d end n block >>= λ x. pure (all ++ x ∷ [])

abbrev pub routine_word_of : WordSymbol → Option (Unit {0})
routine_word_of word_.KwProcedure = Some tt
routine_word_of word_.KwFunction = Some tt
routine_word_of _ = None

-- the words with which a routine begins
abbrev pub routine_words : Class Placed (Unit {0})
routine_words t = operator_of routine_word_of (λ s. None) t.token

abbrev pub declaration_word_of : WordSymbol → Option (Unit {0})
declaration_word_of word_.KwLabel = Some tt
declaration_word_of word_.KwConst = Some tt
declaration_word_of word_.KwType = Some tt
declaration_word_of word_.KwVar = Some tt
declaration_word_of word_.KwProcedure = Some tt
declaration_word_of word_.KwFunction = Some tt
declaration_word_of _ = None

-- the words with which a declaration begins
abbrev pub declaration_words : Class Placed (Unit {0})
declaration_words t = operator_of declaration_word_of (λ s. None) t.token

-- {Routine}
unfoldable pub routines : Dialect → Span → ℕ → Parser Placed Block → List Declaration → Parser Placed (List Declaration)
routines d end n block = repeat (begins routine_words) (next_declaration d end n block)

-- {Decl}
unfoldable pub any_declarations : Dialect → Span → ℕ → Parser Placed Block → List Declaration → Parser Placed (List Declaration)
any_declarations d end n block = repeat (begins declaration_words) (next_declaration d end n block)

-- a declaration that begins with this word, if it is next
unfoldable pub optional_declaration : WordSymbol → Dialect → Span → ℕ → Parser Placed Block → List Declaration → Parser Placed (List Declaration)
optional_declaration w d end n block all = either (begins (words w)) (next_declaration d end n block all) (pure all)

-- [LabelPart] [ConstPart] [TypePart] [VarPart] {Routine}
unfoldable pub ordered_declarations : Dialect → Span → ℕ → Parser Placed Block → Parser Placed (List Declaration)
ordered_declarations d end n block =
    optional_declaration word_.KwLabel d end n block [] >>= λ l. optional_declaration word_.KwConst d end n block l >>= λ c.
    optional_declaration word_.KwType d end n block c >>= λ t. optional_declaration word_.KwVar d end n block t >>= routines d end n block

unfoldable pub declarations : Dialect → Span → ℕ → Parser Placed Block → Parser Placed (List Declaration)
declarations d end n block = either (λ s. is_iso d) (ordered_declarations d end n block) (any_declarations d end n block [])

-- ---- blocks

abbrev pub block_of : List Declaration → List Stmt → Span → Block
block_of all statements span = roll-Block (record { declarations = all; body = statements; span = span })

-- Block = {Decl} "begin" Stmts "end"
unfoldable pub block_by : Dialect → Span → ℕ → Parser Placed Block → Parser Placed Block
block_by d end n block = λ from. (declarations d end n block >>= λ all. expect_word word_.KwBegin >>= λ _. stmts (stmt d end n) >>= λ b. expect_word word_.KwEnd >>= λ _. made end from (block_of all b)) from

-- with so many levels left; a block is one, above the types, formal parameters, blocks, statements and expressions in it
unfoldable pub block : Dialect → Span → ℕ → Parser Placed Block
block d end zero = stop
block d end (suc n) = block_by d end n (block d end n)
