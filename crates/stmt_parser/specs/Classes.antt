-- Which way a `for` counts, where a token says it.
use Rattle.std.specs.Prelude.{Option, Some, None}
use Rattle.dialect_lexer.specs.declared.token.Word.{Word as WordSymbol}
use Rattle.dialect_lexer.specs.declared.token.Word.TheVariants as word_
use Rattle.pascal_tree.specs.declared.statements.Direction.{Direction}
use Rattle.pascal_tree.specs.declared.statements.Direction.TheVariants.{Up, Down}
use Rattle.token_parsing.specs.Parser.{Class}
use Rattle.expr_parser.specs.Tokens.{Placed}
use Rattle.expr_parser.specs.Classes.{operator_of}

abbrev pub direction_of : WordSymbol → Option Direction
direction_of word_.KwTo = Some Up
direction_of word_.KwDownto = Some Down
direction_of _ = None

abbrev pub directions : Class Placed Direction
directions t = operator_of direction_of (λ s. None) t.token
