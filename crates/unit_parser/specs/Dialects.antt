-- What each dialect has.
use Rattle.std.specs.Prelude.{Bool, true, false}
use Rattle.p2c_text.specs.declared.dialect.Dialect.{Dialect}
use Rattle.p2c_text.specs.declared.dialect.Dialect.TheVariants.{Iso, Turbo, Ucsd, Hp}
use Rattle.dialect_lexer.specs.declared.token.Word.{Word as WordSymbol}
use Rattle.dialect_lexer.specs.declared.token.Word.TheVariants.{KwUses, KwImport}

-- the value of a constant is an expression
abbrev pub has_value_expressions : Dialect → Bool
has_value_expressions Iso = false
has_value_expressions Turbo = true
has_value_expressions Ucsd = false
has_value_expressions Hp = true

-- The word before the names of units. In Iso it is no word, so nothing is used there.
abbrev pub uses_word : Dialect → WordSymbol
uses_word Iso = KwUses
uses_word Turbo = KwUses
uses_word Ucsd = KwUses
uses_word Hp = KwImport
