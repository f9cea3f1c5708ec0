-- What a function that parses gives back.
use Rattle.std.proofs.Common.{Bor}
use Rattle.std.specs.Prelude.{ℕ, List, Result}
use Rattle.dialect_lexer.specs.declared.token.Token.{Token as LexedToken}
use Rattle.token_parsing.specs.declared.refusal.ParseError.{ParseError}
use Rattle.token_parsing.specs.Parser.{Parser, Gives}
use Rattle.expr_parser.specs.declared.source.Source.{Source}
use Rattle.expr_parser.specs.Tokens.{Placed, seen}

-- What was read of these tokens of the source, and the tokens after it, are what the production gives, unless memory ran out.
abbrev pub Parses : {A : Type 0} → Source → List LexedToken → Result (A × Bor (List LexedToken)) ParseError → Parser Placed A → Type 0
Parses source tokens result production = Gives (λ x. (x.0, seen source.bytes.now x.1.now)) result (production (seen source.bytes.now tokens))
