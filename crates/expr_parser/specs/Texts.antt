-- The bytes of a text as they are read one by one: numbers after `#` stop at 255.
use Rattle.std.specs.Prelude.{ℕ, min}
use Rattle.dialect_lexer.specs.declared.bytes.Base.TheVariants as base
use Rattle.dialect_lexer.specs.Values as values
use Rattle.dialect_lexer.specs.Values.{completed, completed_at_end}
use Rattle.expr_parser.specs.declared.texts.Reading.{Reading}
use Rattle.expr_parser.specs.declared.texts.Reading.TheVariants as code

abbrev pub cap : ℕ → ℕ
cap n = min n 255

abbrev pub capped : values.Reading → values.Reading
capped values.Before = values.Before
capped values.Inside = values.Inside
capped values.Quoted = values.Quoted
capped (values.Coded b v) = values.Coded b (cap v)

-- which reading the code's is
abbrev pub reading_of : Reading → values.Reading
reading_of code.Before = values.Before
reading_of code.Inside = values.Inside
reading_of code.Quoted = values.Quoted
reading_of (code.Decimal v) = values.Coded base.Decimal v
reading_of (code.Hexadecimal v) = values.Coded base.Hexadecimal v
