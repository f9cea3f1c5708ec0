-- The grammar of expressions and places: how each node is written by its parts, with a line for each alternative.
use Rattle.std.specs.Prelude.{Option, Some, None}
use Rattle.dialect_lexer.specs.declared.token.Word.TheVariants as word
use Rattle.dialect_lexer.specs.declared.token.Symbol.{Symbol as SpecialSymbol}
use Rattle.dialect_lexer.specs.declared.token.Symbol.TheVariants as mark
use Rattle.pascal_tree.specs.declared.constants.Sign.{Sign}
use Rattle.pascal_tree.specs.declared.constants.Sign.TheVariants.{Plus, Minus}
use Rattle.pascal_tree.specs.declared.names.Identifier.{Identifier}
use Rattle.pascal_tree.specs.declared.expressions.Relation.{Relation}
use Rattle.pascal_tree.specs.declared.expressions.Relation.TheVariants as relation
use Rattle.pascal_tree.specs.declared.expressions.Adding.{Adding}
use Rattle.pascal_tree.specs.declared.expressions.Adding.TheVariants as adding
use Rattle.pascal_tree.specs.declared.expressions.Multiplying.{Multiplying}
use Rattle.pascal_tree.specs.declared.expressions.Multiplying.TheVariants as multiplying
use Rattle.pascal_tree.specs.declared.expressions.Arg.TheOpen as part
use Rattle.pascal_tree.specs.declared.expressions.Arg.TheOpen.{Arg-F, Factor-F, Selector-F, AddedTerm-F, Args-F, Elem-F, Expr-F, MultipliedFactor-F, Place-F, Simple-F, Term-F}
use Rattle.pascal_tree.specs.declared.expressions.Arg.{Arg, fold-Arg}
use Rattle.pascal_tree.specs.declared.expressions.Factor.{Factor, fold-Factor}
use Rattle.pascal_tree.specs.declared.expressions.Selector.{Selector, fold-Selector}
use Rattle.pascal_tree.specs.declared.expressions.AddedTerm.{AddedTerm, fold-AddedTerm}
use Rattle.pascal_tree.specs.declared.expressions.Args.{Args, fold-Args}
use Rattle.pascal_tree.specs.declared.expressions.Elem.{Elem, fold-Elem}
use Rattle.pascal_tree.specs.declared.expressions.Expr.{Expr, fold-Expr}
use Rattle.pascal_tree.specs.declared.expressions.MultipliedFactor.{MultipliedFactor, fold-MultipliedFactor}
use Rattle.pascal_tree.specs.declared.expressions.Place.{Place, fold-Place}
use Rattle.pascal_tree.specs.declared.expressions.Simple.{Simple, fold-Simple}
use Rattle.pascal_tree.specs.declared.expressions.Term.{Term, fold-Term}
use Rattle.expr_parser.specs.Tokens.{Token, Name, Number, Text, Word, Symbol}
use Rattle.expr_parser.specs.Layout.{Layout, Done, ◌&◌, token, word, symbol, spanned, counted, in_row, with_commas}

-- ---- operators

abbrev pub sign_token : Sign → Token
sign_token Plus = Symbol mark.Plus
sign_token Minus = Symbol mark.Minus

abbrev pub relation_token : Relation → Token
relation_token relation.Equal = Symbol mark.Equal
relation_token relation.NotEqual = Symbol mark.NotEqual
relation_token relation.Less = Symbol mark.Less
relation_token relation.Greater = Symbol mark.Greater
relation_token relation.AtMost = Symbol mark.AtMost
relation_token relation.AtLeast = Symbol mark.AtLeast
relation_token relation.In = Word word.KwIn

abbrev pub adding_token : Adding → Token
adding_token adding.Add = Symbol mark.Plus
adding_token adding.Subtract = Symbol mark.Minus
adding_token adding.Or = Word word.KwOr
adding_token adding.Xor = Word word.KwXor

abbrev pub multiplying_token : Multiplying → Token
multiplying_token multiplying.Multiply = Symbol mark.Star
multiplying_token multiplying.Divide = Symbol mark.Slash
multiplying_token multiplying.Div = Word word.KwDiv
multiplying_token multiplying.Mod = Word word.KwMod
multiplying_token multiplying.And = Word word.KwAnd
multiplying_token multiplying.Shl = Word word.KwShl
multiplying_token multiplying.Shr = Word word.KwShr

-- ---- parts

-- Id
abbrev pub identifier : Identifier → Layout
identifier i = spanned i.span (token (Name i.name))

-- ["+" | "-"]
abbrev pub optional_sign : Option Sign → Layout
optional_sign None = Done
optional_sign (Some s) = token (sign_token s)

-- [mark A]
abbrev pub optional_after : SpecialSymbol → Option Layout → Layout
optional_after m None = Done
optional_after m (Some a) = symbol m & a

-- [relation Simple]
abbrev pub compared : Option (Relation × Layout) → Layout
compared None = Done
compared (Some r) = token (relation_token r.0) & r.1

-- ---- nodes, of which the parts are written so

abbrev pub Written : (Type 0 → Type 0 → Type 0 → Type 0 → Type 0 → Type 0 → Type 0 → Type 0 → Type 0 → Type 0 → Type 0 → Type 0) → Type 0
Written F = F Layout Layout Layout Layout Layout Layout Layout Layout Layout Layout Layout

-- Arg = Expr [":" Expr [":" Expr]] | "program"
abbrev pub of_arg : Written Arg-F → Layout
of_arg (part.Value value width decimals span) = spanned span (value & optional_after mark.Colon width & optional_after mark.Colon decimals)
of_arg (part.Program span) = spanned span (word word.KwProgram)

-- Factor = number | text | "nil" | Place | Id Args | "(" Expr ")" | "not" Factor | "[" [Elem {"," Elem}] "]"
abbrev pub of_factor : Written Factor-F → Layout
of_factor (part.Number value span) = counted (spanned span (token (Number value)))
of_factor (part.Text bytes span) = counted (spanned span (token (Text bytes)))
of_factor (part.Nil span) = counted (spanned span (word word.KwNil))
of_factor (part.Place place) = counted place
of_factor (part.Call name args span) = counted (spanned span (identifier name & args))
of_factor (part.Group inner span) = counted (spanned span (symbol mark.Open & inner & symbol mark.Close))
of_factor (part.Not operand span) = counted (spanned span (word word.KwNot & operand))
of_factor (part.Set elements span) = counted (spanned span (symbol mark.OpenBracket & with_commas elements & symbol mark.CloseBracket))

-- "[" Expr {"," Expr} "]" | "." Id | "^"
abbrev pub of_selector : Written Selector-F → Layout
of_selector (part.Index indexes span) = spanned span (symbol mark.OpenBracket & with_commas indexes & symbol mark.CloseBracket)
of_selector (part.Field name span) = spanned span (symbol mark.Dot & identifier name)
of_selector (part.Follow span) = spanned span (symbol mark.Caret)

-- ("+" | "-" | "or" | "xor") Term
abbrev pub of_added : Written AddedTerm-F → Layout
of_added a = token (adding_token a.operator) & a.term

-- Args = "(" Arg {"," Arg} ")"
abbrev pub of_args : Written Args-F → Layout
of_args a = spanned a.span (symbol mark.Open & with_commas a.list & symbol mark.Close)

-- Elem = Expr [".." Expr]
abbrev pub of_elem : Written Elem-F → Layout
of_elem e = spanned e.span (e.first & optional_after mark.DotDot e.last)

-- Expr = Simple [("=" | "<>" | "<" | ">" | "<=" | ">=" | "in") Simple]
abbrev pub of_expr : Written Expr-F → Layout
of_expr e = counted (spanned e.span (e.left & compared e.right))

-- ("*" | "/" | "div" | "mod" | "and" | "shl" | "shr") Factor
abbrev pub of_multiplied : Written MultipliedFactor-F → Layout
of_multiplied m = token (multiplying_token m.operator) & m.factor

-- Place = Id {"[" Expr {"," Expr} "]" | "." Id | "^"}
abbrev pub of_place : Written Place-F → Layout
of_place p = spanned p.span (identifier p.name & in_row p.selectors)

-- Simple = ["+" | "-"] Term {("+" | "-" | "or" | "xor") Term}
abbrev pub of_simple : Written Simple-F → Layout
of_simple s = spanned s.span (optional_sign s.sign & s.first & in_row s.rest)

-- Term = Factor {("*" | "/" | "div" | "mod" | "and" | "shl" | "shr") Factor}
abbrev pub of_term : Written Term-F → Layout
of_term t = spanned t.span (t.first & in_row t.rest)

-- ---- trees

unfoldable pub write_arg : Arg → Layout
write_arg = fold-Arg Layout Layout Layout Layout Layout Layout Layout Layout Layout Layout Layout of_arg of_factor of_selector of_added of_args of_elem of_expr of_multiplied of_place of_simple of_term

unfoldable pub write_factor : Factor → Layout
write_factor = fold-Factor Layout Layout Layout Layout Layout Layout Layout Layout Layout Layout Layout of_arg of_factor of_selector of_added of_args of_elem of_expr of_multiplied of_place of_simple of_term

unfoldable pub write_selector : Selector → Layout
write_selector = fold-Selector Layout Layout Layout Layout Layout Layout Layout Layout Layout Layout Layout of_arg of_factor of_selector of_added of_args of_elem of_expr of_multiplied of_place of_simple of_term

unfoldable pub write_added : AddedTerm → Layout
write_added = fold-AddedTerm Layout Layout Layout Layout Layout Layout Layout Layout Layout Layout Layout of_arg of_factor of_selector of_added of_args of_elem of_expr of_multiplied of_place of_simple of_term

unfoldable pub write_args : Args → Layout
write_args = fold-Args Layout Layout Layout Layout Layout Layout Layout Layout Layout Layout Layout of_arg of_factor of_selector of_added of_args of_elem of_expr of_multiplied of_place of_simple of_term

unfoldable pub write_elem : Elem → Layout
write_elem = fold-Elem Layout Layout Layout Layout Layout Layout Layout Layout Layout Layout Layout of_arg of_factor of_selector of_added of_args of_elem of_expr of_multiplied of_place of_simple of_term

unfoldable pub write_expr : Expr → Layout
write_expr = fold-Expr Layout Layout Layout Layout Layout Layout Layout Layout Layout Layout Layout of_arg of_factor of_selector of_added of_args of_elem of_expr of_multiplied of_place of_simple of_term

unfoldable pub write_multiplied : MultipliedFactor → Layout
write_multiplied = fold-MultipliedFactor Layout Layout Layout Layout Layout Layout Layout Layout Layout Layout Layout of_arg of_factor of_selector of_added of_args of_elem of_expr of_multiplied of_place of_simple of_term

unfoldable pub write_place : Place → Layout
write_place = fold-Place Layout Layout Layout Layout Layout Layout Layout Layout Layout Layout Layout of_arg of_factor of_selector of_added of_args of_elem of_expr of_multiplied of_place of_simple of_term

unfoldable pub write_simple : Simple → Layout
write_simple = fold-Simple Layout Layout Layout Layout Layout Layout Layout Layout Layout Layout Layout of_arg of_factor of_selector of_added of_args of_elem of_expr of_multiplied of_place of_simple of_term

unfoldable pub write_term : Term → Layout
write_term = fold-Term Layout Layout Layout Layout Layout Layout Layout Layout Layout Layout Layout of_arg of_factor of_selector of_added of_args of_elem of_expr of_multiplied of_place of_simple of_term
