-- Labels and constants: how each is written by its parts, and what the grammar asks of it beyond that.
use Rattle.std.specs.Prelude.{Bool, true, Option, Some, None}
use Rattle.std.specs.Option.{option_map}
use Rattle.p2c_text.specs.declared.dialect.Dialect.{Dialect}
use Rattle.dialect_lexer.specs.declared.token.Symbol.TheVariants as mark
use Rattle.pascal_tree.specs.declared.names.Label.{Label}
use Rattle.pascal_tree.specs.declared.names.Label.TheVariants as label
use Rattle.pascal_tree.specs.declared.constants.Constant.{Constant}
use Rattle.pascal_tree.specs.declared.constants.Constant.TheVariants as constant
use Rattle.pascal_tree.specs.declared.constants.CaseLabel.{CaseLabel}
use Rattle.expr_parser.specs.Tokens.{Number, Text}
use Rattle.expr_parser.specs.Layout.{Layout, ◌&◌, token, spanned}
use Rattle.expr_parser.specs.Writing.{identifier, optional_sign, optional_after}
use Rattle.expr_parser.specs.Dialects.{has_named_labels, has_label_ranges}

-- Label = number | Id
abbrev pub write_label : Label → Layout
write_label (label.Number value span) = spanned span (token (Number value))
write_label (label.Name name) = identifier name

-- Const = ["+" | "-"] number | ["+" | "-"] Id | text
abbrev pub write_constant : Constant → Layout
write_constant (constant.Number sign value span) = spanned span (optional_sign sign & token (Number value))
write_constant (constant.Name sign name span) = spanned span (optional_sign sign & identifier name)
write_constant (constant.Text bytes span) = spanned span (token (Text bytes))

-- Label1 = Const [".." Const]
abbrev pub write_case_label : CaseLabel → Layout
write_case_label l = spanned l.span (write_constant l.first & optional_after mark.DotDot (option_map write_constant l.last))

-- a label that is a name is in Turbo alone
abbrev pub formed_label : Dialect → Label → Bool
formed_label d (label.Number value span) = true
formed_label d (label.Name name) = has_named_labels d

abbrev pub formed_last : Dialect → Option Constant → Bool
formed_last d None = true
formed_last d (Some c) = has_label_ranges d

abbrev pub formed_case_label : Dialect → CaseLabel → Bool
formed_case_label d l = formed_last d l.last
