-- What clauses see of a list of tokens: the number of its file, and the tokens.
use Rattle.std.specs.Prelude.{ℕ, List}
use Rattle.dialect_lexer.specs.declared.token.Token.{Token}

pub record FileTokens : Type 0 where
  pub file : ℕ
  pub tokens : List Token
