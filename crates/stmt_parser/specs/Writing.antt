-- The grammar of statements: how each node is written by its parts, with a line for each alternative.
use Rattle.std.specs.Prelude.{map, Option, Some, None}
use Rattle.p2c_text.specs.declared.dialect.Dialect.{Dialect}
use Rattle.p2c_text.specs.declared.dialect.Dialect.TheVariants as dialect
use Rattle.dialect_lexer.specs.declared.token.Word.{Word as WordSymbol}
use Rattle.dialect_lexer.specs.declared.token.Word.TheVariants as word_
use Rattle.dialect_lexer.specs.declared.token.Symbol.TheVariants as mark
use Rattle.pascal_tree.specs.declared.names.Label.{Label}
use Rattle.pascal_tree.specs.declared.expressions.Args.{Args}
use Rattle.pascal_tree.specs.declared.statements.Direction.{Direction}
use Rattle.pascal_tree.specs.declared.statements.Direction.TheVariants.{Up, Down}
use Rattle.pascal_tree.specs.declared.statements.Plain.TheOpen as part
use Rattle.pascal_tree.specs.declared.statements.Plain.TheOpen.{Plain-F, Arm-F, Rest-F, Stmt-F}
use Rattle.pascal_tree.specs.declared.statements.Plain.{Plain, fold-Plain}
use Rattle.pascal_tree.specs.declared.statements.Arm.{Arm, fold-Arm}
use Rattle.pascal_tree.specs.declared.statements.Rest.{Rest, fold-Rest}
use Rattle.pascal_tree.specs.declared.statements.Stmt.{Stmt, fold-Stmt}
use Rattle.expr_parser.specs.Layout.{Layout, Done, ◌&◌, word, symbol, spanned, counted, with_commas}
use Rattle.expr_parser.specs.Writing.{identifier, write_args, write_expr, write_place}
use Rattle.expr_parser.specs.ConstantNodes.{write_label, write_case_label}
use Rattle.expr_parser.specs.Semicolons.{optional_part, optional_semicolon, with_semicolons}

-- ---- parts

-- [Args]
abbrev pub optional_args : Option Args → Layout
optional_args None = Done
optional_args (Some a) = write_args a

-- ["else" A]
abbrev pub optional_else : Option Layout → Layout
optional_else None = Done
optional_else (Some a) = word word_.KwElse & a

-- [Label ":"]
abbrev pub optional_label : Option Label → Layout
optional_label None = Done
optional_label (Some l) = write_label l & symbol mark.Colon

-- "to" | "downto"
abbrev pub direction_word : Direction → WordSymbol
direction_word Up = word_.KwTo
direction_word Down = word_.KwDownto

-- the word before what a `case` does without a matching label
abbrev pub rest_word : Dialect → WordSymbol
rest_word dialect.Iso = word_.KwElse
rest_word dialect.Turbo = word_.KwElse
rest_word dialect.Ucsd = word_.KwElse
rest_word dialect.Hp = word_.KwOtherwise

-- ---- nodes, of which the parts are written so

-- Plain = nothing | Place ":=" Expr | Id [Args] | "goto" Label | "begin" Stmts "end" | "if" Expr "then" Stmt ["else" Stmt]
--       | "case" Expr "of" Arm {";" Arm} [";"] [Rest] "end" | "while" Expr "do" Stmt | "repeat" Stmts "until" Expr
--       | "for" Id ":=" Expr ("to" | "downto") Expr "do" Stmt | "with" Place {"," Place} "do" Stmt | "try" Stmts "recover" Stmt
abbrev pub of_plain : Plain-F Layout Layout Layout Layout → Layout
of_plain (part.Nothing span) = spanned span Done
of_plain (part.Assign target value span) = spanned span (write_place target & symbol mark.Assign & write_expr value)
of_plain (part.Call name args span) = spanned span (identifier name & optional_args args)
of_plain (part.Goto label span) = spanned span (word word_.KwGoto & write_label label)
of_plain (part.Compound body span) = spanned span (word word_.KwBegin & with_semicolons body & word word_.KwEnd)
of_plain (part.If condition then_part else_part span) = spanned span (word word_.KwIf & write_expr condition & word word_.KwThen & then_part & optional_else else_part)
of_plain (part.Case selector arms closed rest span) = spanned span (word word_.KwCase & write_expr selector & word word_.KwOf & with_semicolons arms & optional_semicolon closed & optional_part rest & word word_.KwEnd)
of_plain (part.While condition body span) = spanned span (word word_.KwWhile & write_expr condition & word word_.KwDo & body)
of_plain (part.Repeat body until span) = spanned span (word word_.KwRepeat & with_semicolons body & word word_.KwUntil & write_expr until)
of_plain (part.For variable first direction last body span) = spanned span (word word_.KwFor & identifier variable & symbol mark.Assign & write_expr first & word (direction_word direction) & write_expr last & word word_.KwDo & body)
of_plain (part.With places body span) = spanned span (word word_.KwWith & with_commas (map write_place places) & word word_.KwDo & body)
of_plain (part.Try body recover span) = spanned span (word word_.KwTry & with_semicolons body & word word_.KwRecover & recover)

-- Arm = Label1 {"," Label1} ":" Stmt
abbrev pub of_arm : Arm-F Layout Layout Layout Layout → Layout
of_arm a = spanned a.span (with_commas (map write_case_label a.labels) & symbol mark.Colon & a.body)

-- Rest = "else" Stmts in Turbo, "otherwise" Stmts in HP
abbrev pub of_rest : Dialect → Rest-F Layout Layout Layout Layout → Layout
of_rest d r = spanned r.span (word (rest_word d) & with_semicolons r.body)

-- Stmt = [Label ":"] Plain
abbrev pub of_stmt : Stmt-F Layout Layout Layout Layout → Layout
of_stmt s = counted (spanned s.span (optional_label s.label & s.plain))

-- ---- trees

unfoldable pub write_plain : Dialect → Plain → Layout
write_plain d = fold-Plain Layout Layout Layout Layout of_plain of_arm (of_rest d) of_stmt

unfoldable pub write_arm : Dialect → Arm → Layout
write_arm d = fold-Arm Layout Layout Layout Layout of_plain of_arm (of_rest d) of_stmt

unfoldable pub write_rest : Dialect → Rest → Layout
write_rest d = fold-Rest Layout Layout Layout Layout of_plain of_arm (of_rest d) of_stmt

unfoldable pub write_stmt : Dialect → Stmt → Layout
write_stmt d = fold-Stmt Layout Layout Layout Layout of_plain of_arm (of_rest d) of_stmt
