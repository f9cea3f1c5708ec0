-- Types, lists of fields and formal parameters are read, within so many levels.
use Rattle.std.specs.Prelude.{ℕ, zero, suc}
use Rattle.p2c_text.specs.declared.dialect.Dialect.{Dialect}
use Rattle.p2c_text.specs.declared.place.Span.{Span}
use Rattle.pascal_tree.specs.declared.types.TypeNode.{TypeNode}
use Rattle.pascal_tree.specs.declared.types.Fields.{Fields}
use Rattle.pascal_tree.specs.declared.declarations.Formals.{Formals}
use Rattle.token_parsing.specs.Parser.{Parser, stop}
use Rattle.expr_parser.specs.Tokens.{Placed}
use Rattle.type_parser.specs.Types.{type_by}
use Rattle.type_parser.specs.Fields.{fields_by}
use Rattle.type_parser.specs.Formals.{formals_by}

-- with so many levels left; a type and a list of fields are one each
unfoldable mutual
  pub type_node : Dialect → Span → ℕ → Parser Placed TypeNode
  type_node d end zero = stop
  type_node d end (suc n) = type_by end (type_node d end n) (fields d end n)

  pub fields : Dialect → Span → ℕ → Parser Placed Fields
  fields d end zero = stop
  fields d end (suc n) = fields_by d end (type_node d end n) (fields d end n)

-- formal parameters are one level, and those of a formal parameter another
unfoldable pub formals : Span → ℕ → Parser Placed Formals
formals end zero = stop
formals end (suc n) = formals_by end (formals end n)
