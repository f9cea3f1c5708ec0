-- What a token says, where it is of some class.
use Rattle.std.specs.Prelude.{ℕ, ℤ, Bool, true, false, List, Option, Some, None}
use denote.Enum.Bare.{sameb}
use Rattle.p2c_text.specs.declared.place.Span.{Span}
use Rattle.dialect_lexer.specs.declared.token.Word.{Word as WordSymbol}
use Rattle.dialect_lexer.specs.declared.token.Word.TheVariants as word
use Rattle.dialect_lexer.specs.declared.token.Symbol.{Symbol as SpecialSymbol}
use Rattle.dialect_lexer.specs.declared.token.Symbol.TheVariants as mark
use Rattle.dialect_lexer.specs.contracts.token.Word as the_words
use Rattle.dialect_lexer.specs.contracts.token.Symbol as the_symbols
use Rattle.pascal_tree.specs.declared.constants.Sign.{Sign}
use Rattle.pascal_tree.specs.declared.constants.Sign.TheVariants.{Plus, Minus}
use Rattle.pascal_tree.specs.declared.names.Identifier.{Identifier}
use Rattle.pascal_tree.specs.declared.expressions.Relation.{Relation}
use Rattle.pascal_tree.specs.declared.expressions.Relation.TheVariants as relation
use Rattle.pascal_tree.specs.declared.expressions.Adding.{Adding}
use Rattle.pascal_tree.specs.declared.expressions.Adding.TheVariants as adding
use Rattle.pascal_tree.specs.declared.expressions.Multiplying.{Multiplying}
use Rattle.pascal_tree.specs.declared.expressions.Multiplying.TheVariants as multiplying
use Rattle.token_parsing.specs.Parser.{Class, Parser, one_of}
use Rattle.expr_parser.specs.Tokens.{Token, Placed, Name, Number, Text, Word, Symbol}

-- `==` on words and on symbols
unfoldable pub same_word : WordSymbol → WordSymbol → Bool
same_word = sameb the_words.the_type

unfoldable pub same_symbol : SpecialSymbol → SpecialSymbol → Bool
same_symbol = sameb the_symbols.the_type

abbrev pub if_true : {A : Type 0} → A → Bool → Option A
if_true a true = Some a
if_true a false = None

abbrev pub identifier_of : Token → Span → Option Identifier
identifier_of (Name n) span = Some (record { name = n; span = span })
identifier_of (Number v) span = None
identifier_of (Text bs) span = None
identifier_of (Word w) span = None
identifier_of (Symbol s) span = None

abbrev pub number_of : Token → Option ℤ
number_of (Name n) = None
number_of (Number v) = Some v
number_of (Text bs) = None
number_of (Word w) = None
number_of (Symbol s) = None

abbrev pub text_of : Token → Option (List ℕ)
text_of (Name n) = None
text_of (Number v) = None
text_of (Text bs) = Some bs
text_of (Word w) = None
text_of (Symbol s) = None

abbrev pub word_of : WordSymbol → Token → Option (Unit {0})
word_of wanted (Name n) = None
word_of wanted (Number v) = None
word_of wanted (Text bs) = None
word_of wanted (Word w) = if_true tt (same_word w wanted)
word_of wanted (Symbol s) = None

abbrev pub symbol_of : SpecialSymbol → Token → Option (Unit {0})
symbol_of wanted (Name n) = None
symbol_of wanted (Number v) = None
symbol_of wanted (Text bs) = None
symbol_of wanted (Word w) = None
symbol_of wanted (Symbol s) = if_true tt (same_symbol s wanted)

-- ---- operators

abbrev pub sign_of : SpecialSymbol → Option Sign
sign_of mark.Plus = Some Plus
sign_of mark.Minus = Some Minus
sign_of _ = None

abbrev pub relation_of_symbol : SpecialSymbol → Option Relation
relation_of_symbol mark.Equal = Some relation.Equal
relation_of_symbol mark.NotEqual = Some relation.NotEqual
relation_of_symbol mark.Less = Some relation.Less
relation_of_symbol mark.Greater = Some relation.Greater
relation_of_symbol mark.AtMost = Some relation.AtMost
relation_of_symbol mark.AtLeast = Some relation.AtLeast
relation_of_symbol _ = None

abbrev pub relation_of_word : WordSymbol → Option Relation
relation_of_word word.KwIn = Some relation.In
relation_of_word _ = None

abbrev pub adding_of_symbol : SpecialSymbol → Option Adding
adding_of_symbol mark.Plus = Some adding.Add
adding_of_symbol mark.Minus = Some adding.Subtract
adding_of_symbol _ = None

abbrev pub adding_of_word : WordSymbol → Option Adding
adding_of_word word.KwOr = Some adding.Or
adding_of_word word.KwXor = Some adding.Xor
adding_of_word _ = None

abbrev pub multiplying_of_symbol : SpecialSymbol → Option Multiplying
multiplying_of_symbol mark.Star = Some multiplying.Multiply
multiplying_of_symbol mark.Slash = Some multiplying.Divide
multiplying_of_symbol _ = None

abbrev pub multiplying_of_word : WordSymbol → Option Multiplying
multiplying_of_word word.KwDiv = Some multiplying.Div
multiplying_of_word word.KwMod = Some multiplying.Mod
multiplying_of_word word.KwAnd = Some multiplying.And
multiplying_of_word word.KwShl = Some multiplying.Shl
multiplying_of_word word.KwShr = Some multiplying.Shr
multiplying_of_word _ = None

-- an operator that is a word or a symbol
abbrev pub operator_of : {A : Type 0} → (WordSymbol → Option A) → (SpecialSymbol → Option A) → Token → Option A
operator_of of_word of_symbol (Name n) = None
operator_of of_word of_symbol (Number v) = None
operator_of of_word of_symbol (Text bs) = None
operator_of of_word of_symbol (Word w) = of_word w
operator_of of_word of_symbol (Symbol s) = of_symbol s

-- ---- classes

abbrev pub identifiers : Class Placed Identifier
identifiers t = identifier_of t.token t.span

abbrev pub numbers : Class Placed ℤ
numbers t = number_of t.token

abbrev pub texts : Class Placed (List ℕ)
texts t = text_of t.token

abbrev pub words : WordSymbol → Class Placed (Unit {0})
words w t = word_of w t.token

abbrev pub symbols : SpecialSymbol → Class Placed (Unit {0})
symbols s t = symbol_of s t.token

abbrev pub signs : Class Placed Sign
signs t = operator_of (λ w. None) sign_of t.token

abbrev pub relations : Class Placed Relation
relations t = operator_of relation_of_word relation_of_symbol t.token

abbrev pub addings : Class Placed Adding
addings t = operator_of adding_of_word adding_of_symbol t.token

abbrev pub multiplyings : Class Placed Multiplying
multiplyings t = operator_of multiplying_of_word multiplying_of_symbol t.token

abbrev pub expect : SpecialSymbol → Parser Placed (Unit {0})
expect s = one_of (symbols s)

abbrev pub expect_word : WordSymbol → Parser Placed (Unit {0})
expect_word w = one_of (words w)
