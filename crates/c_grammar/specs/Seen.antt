-- Which tokens of the grammar those of the code are.
use Rattle.std.specs.Prelude.{List, map}
use Rattle.std.specs.List.{AllByRecursion}
use Rattle.std.specs.Str.Parse.{digits_value}
use Rattle.c_grammar.specs.declared.token.CToken.{CToken}
use Rattle.c_grammar.specs.declared.token.CToken.TheVariants as code
use Rattle.c_grammar.specs.Token.{Token, Identifier, Numeral, Quoted, Sign}
use Rattle.c_grammar.specs.Grammar.{IsName}

abbrev pub token_of : CToken → Token
token_of (code.Identifier name) = Identifier name.now
token_of (code.Numeral digits) = Numeral (digits_value 10 digits.now)
token_of (code.Quoted w) = Quoted w
token_of (code.Sign m) = Sign m

abbrev pub tokens_of : List CToken → List Token
tokens_of tokens = map token_of tokens

-- a token that some bytes are: a name is an identifier
abbrev pub IsToken : Token → Type 0
IsToken (Identifier name) = IsName name
IsToken (Numeral n) = Unit {0}
IsToken (Quoted w) = Unit {0}
IsToken (Sign m) = Unit {0}

abbrev pub AreTokens : List Token → Type 0
AreTokens tokens = AllByRecursion IsToken tokens
