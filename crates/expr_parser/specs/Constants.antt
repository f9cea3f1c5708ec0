-- Labels and constants are read. `end` is the place of the end of the text.
use Rattle.std.specs.Prelude.{Bool, ◌&&◌, ◌||◌, List, [], ◌∷◌, ◌++◌, Option, Some, None}
use Rattle.p2c_text.specs.declared.dialect.Dialect.{Dialect}
use Rattle.p2c_text.specs.declared.place.Span.{Span}
use Rattle.dialect_lexer.specs.declared.token.Symbol.TheVariants as mark
use Rattle.pascal_tree.specs.declared.names.Label.{Label}
use Rattle.pascal_tree.specs.declared.names.Label.TheVariants as a_label
use Rattle.pascal_tree.specs.declared.constants.Sign.{Sign}
use Rattle.pascal_tree.specs.declared.constants.Constant.{Constant}
use Rattle.pascal_tree.specs.declared.constants.Constant.TheVariants as a_constant
use Rattle.pascal_tree.specs.declared.constants.CaseLabel.{CaseLabel}
use Rattle.token_parsing.specs.Parser.{Parser, ◌>>=◌, pure, one_of, begins, either, repeat, rest}
use Rattle.expr_parser.specs.Tokens.{Placed}
use Rattle.expr_parser.specs.Classes.{identifiers, numbers, texts, signs, symbols, expect}
use Rattle.expr_parser.specs.Places.{made}
use Rattle.expr_parser.specs.Expressions.{optional_sign}
use Rattle.expr_parser.specs.Dialects.{has_named_labels, has_label_ranges}

-- ---- labels of statements

unfoldable pub named_label : Parser Placed Label
named_label = one_of identifiers >>= λ n. pure (a_label.Name n)

unfoldable pub number_label : Span → Parser Placed Label
number_label end = λ from. (one_of numbers >>= λ v. made end from (a_label.Number v)) from

abbrev pub begins_named_label : Dialect → List Placed → Bool
begins_named_label d s = has_named_labels d && begins identifiers s

-- Label = number | Id
unfoldable pub label : Dialect → Span → Parser Placed Label
label d end = either (begins_named_label d) named_label (number_label end)

-- a number, or a name before a colon
abbrev pub begins_label : Dialect → List Placed → Bool
begins_label d s = begins numbers s || (begins_named_label d s && begins (symbols mark.Colon) (rest s))

-- [Label ":"]
unfoldable pub optional_label : Dialect → Span → Parser Placed (Option Label)
optional_label d end = either (begins_label d) (label d end >>= λ l. expect mark.Colon >>= λ _. pure (Some l)) (pure None)

-- ---- constants

unfoldable pub text_constant : Span → Parser Placed Constant
text_constant end = λ from. (one_of texts >>= λ bs. made end from (a_constant.Text bs)) from

unfoldable pub name_constant : Span → List Placed → Option Sign → Parser Placed Constant
name_constant end from s = one_of identifiers >>= λ n. made end from (a_constant.Name s n)

unfoldable pub number_constant : Span → List Placed → Option Sign → Parser Placed Constant
number_constant end from s = one_of numbers >>= λ v. made end from (a_constant.Number s v)

-- a constant after its sign, where that stands at the tokens `from`
unfoldable pub unsigned_constant : Span → List Placed → Option Sign → Parser Placed Constant
unsigned_constant end from s = either (begins identifiers) (name_constant end from s) (number_constant end from s)

unfoldable pub signed_constant : Span → Parser Placed Constant
signed_constant end = λ from. (optional_sign >>= λ s. unsigned_constant end from s) from

-- Const = ["+" | "-"] number | ["+" | "-"] Id | text
unfoldable pub constant : Span → Parser Placed Constant
constant end = either (begins texts) (text_constant end) (signed_constant end)

abbrev pub begins_constant : List Placed → Bool
begins_constant s = begins signs s || begins identifiers s || begins numbers s || begins texts s

-- ---- labels of a `case`

abbrev pub begins_range : Dialect → List Placed → Bool
begins_range d s = has_label_ranges d && begins (symbols mark.DotDot) s

-- [".." Const]
unfoldable pub optional_last : Dialect → Span → Parser Placed (Option Constant)
optional_last d end = either (begins_range d) (expect mark.DotDot >>= λ _. constant end >>= λ c. pure (Some c)) (pure None)

abbrev pub case_label_of : Constant → Option Constant → Span → CaseLabel
case_label_of first last span = record { first = first; last = last; span = span }

-- Label1 = Const [".." Const]
unfoldable pub case_label : Dialect → Span → Parser Placed CaseLabel
case_label d end = λ from. (constant end >>= λ a. optional_last d end >>= λ b. made end from (case_label_of a b)) from

-- "," Label1
unfoldable pub next_case_label : Dialect → Span → List CaseLabel → Parser Placed (List CaseLabel)
next_case_label d end all = expect mark.Comma >>= λ _. case_label d end >>= λ l. pure (all ++ l ∷ [])

-- {"," Label1}
unfoldable pub more_case_labels : Dialect → Span → List CaseLabel → Parser Placed (List CaseLabel)
more_case_labels d end = repeat (begins (symbols mark.Comma)) (next_case_label d end)

-- Label1 {"," Label1}
unfoldable pub case_labels : Dialect → Span → Parser Placed (List CaseLabel)
case_labels d end = case_label d end >>= λ l. more_case_labels d end (l ∷ [])
