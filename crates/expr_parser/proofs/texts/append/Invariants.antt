use Rattle.std.proofs.Common.{◌≡◌, ◌++◌, map, length}
use Rattle.dialect_lexer.specs.Values.{bytes_from}
use Rattle.expr_parser.specs.Texts.{cap, reading_of}
use Rattle.expr_parser.specs.Tokens.{stood_for}
use Rattle.expr_parser.proofs.texts.append.Given as goal

abbrev pub invariant-loop-rest : goal.invariant-loop-rest
invariant-loop-rest l = l.out.items ++ map cap (bytes_from (reading_of l.reading) l.rest) ≡ l.fn.out.items ++ stood_for l.fn.text

abbrev pub decreases-loop-rest : goal.decreases-loop-rest
decreases-loop-rest l = length l.rest
