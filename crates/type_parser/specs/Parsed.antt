-- What types and formal parameters are read as.
use Rattle.std.specs.Prelude.{ℕ, List, Result}
use Rattle.p2c_text.specs.declared.dialect.Dialect.{Dialect}
use Rattle.dialect_lexer.specs.FileTokens.{FileTokens}
use Rattle.pascal_tree.specs.declared.types.TypeNode.{TypeNode}
use Rattle.pascal_tree.specs.declared.declarations.Formals.{Formals}
use Rattle.expr_parser.specs.declared.fault.SyntaxFault.{SyntaxFault}
use Rattle.expr_parser.specs.Parsed.{IsReadAs}
use Rattle.type_parser.specs.Writing.{write_type, write_formals}
use Rattle.type_parser.specs.Grammar.{formed_type, formed_formals}

-- the type from the token with the number `at` on, whose node is of this level
abbrev pub IsTypeRead : Dialect → List ℕ → FileTokens → (at level : ℕ) → Result (TypeNode × ℕ) SyntaxFault → Type 0
IsTypeRead d bytes list at level result = IsReadAs d write_type (formed_type d) bytes list at level result

-- the formal parameters there
abbrev pub AreFormalsRead : Dialect → List ℕ → FileTokens → (at level : ℕ) → Result (Formals × ℕ) SyntaxFault → Type 0
AreFormalsRead d bytes list at level result = IsReadAs d write_formals formed_formals bytes list at level result
