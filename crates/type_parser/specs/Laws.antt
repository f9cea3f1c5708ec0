-- Laws of the parsers of types and of formal parameters.
use Rattle.expr_parser.specs.Text.{AreUnique, ReadsLongest}
use Rattle.type_parser.specs.Writing.{write_type, write_formals}
use Rattle.type_parser.specs.Grammar.{formed_type, formed_formals}
use Rattle.type_parser.specs.Levels.{type_node, formals}

-- A type's tokens have one tree.
abbrev pub TypeIsUnique : Type 0
TypeIsUnique = AreUnique (λ d. write_type) formed_type

-- Where the longest run has a tree within the levels, that tree is read.
abbrev pub LongestTypeIsRead : Type 0
LongestTypeIsRead = ReadsLongest (λ d. write_type) formed_type type_node

-- The same of formal parameters.
abbrev pub FormalsAreUnique : Type 0
FormalsAreUnique = AreUnique (λ d. write_formals) (λ d. formed_formals)

abbrev pub LongestFormalsAreRead : Type 0
LongestFormalsAreRead = ReadsLongest (λ d. write_formals) (λ d. formed_formals) (λ d. formals)
