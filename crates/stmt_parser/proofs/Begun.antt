-- What follows a test of the next token takes that token.
use Rattle.std.proofs.Common.{List, Some, Ok}
use Rattle.p2c_text.specs.declared.dialect.Dialect.{Dialect}
use Rattle.p2c_text.specs.declared.place.Span.{Span}
use Rattle.dialect_lexer.specs.declared.token.Word.{Word as WordSymbol}
use Rattle.dialect_lexer.specs.declared.token.Word.TheVariants as word_
use Rattle.dialect_lexer.specs.declared.token.Symbol.TheVariants as mark
use Rattle.pascal_tree.specs.declared.names.Identifier.{Identifier}
use Rattle.pascal_tree.specs.declared.expressions.Expr.{Expr}
use Rattle.pascal_tree.specs.declared.statements.Stmt.{Stmt}
use Rattle.token_parsing.specs.Parser.{Parser, and_then, begins}
use Rattle.token_parsing.proofs.Tracked.{Shrinks, short_then, one_shrinks, then_shrinks, pure_shrinks}
use Rattle.expr_parser.specs.Tokens.{Placed}
use Rattle.expr_parser.specs.Classes.{identifiers, words, symbols, expect_word}
use Rattle.expr_parser.specs.Places.{args}
use Rattle.expr_parser.proofs.Shrinks.{listed_args_shrinks}
use Rattle.expr_parser.proofs.Followed.{Begun, begun_token}
use Rattle.stmt_parser.specs.Statements.{between, goto, call_with, named, compound, conditional, while_loop, repeat_loop, for_loop, with_places, try_block}
use Rattle.stmt_parser.specs.Cases.{case_of}
use Rattle.expr_parser.proofs.ConstantShrinks.{label_shrinks}
use Rattle.stmt_parser.proofs.Shrinks.{after_name_shrinks, limits_shrinks, places_shrinks, stmts_shrinks, optional_else_shrinks, arms_shrinks, semicolon_shrinks, optional_rest_shrinks}

module _ (d : Dialect) (end : Span) (child : Parser Placed Expr) (h : Shrinks child) where
  pub between_begun : (opening closing : WordSymbol) → Begun (begins (words opening)) (between opening closing child)
  unfolding between
  between_begun opening closing s e = begun_token (words opening) s e (λ _. then_shrinks h (λ e. then_shrinks (one_shrinks _) (λ _. pure_shrinks _)))

  pub goto_begun : Begun (begins (words word_.KwGoto)) (goto d end)
  unfolding goto
  goto_begun s e = begun_token (words word_.KwGoto) s e (λ _. then_shrinks (label_shrinks d end) (λ x. λ n r k. pure_shrinks _ n r k))

  pub call_begun : (from : List Placed) (i : Identifier) → Begun (begins (symbols mark.Open)) (call_with d end child from i)
  unfolding call_with args
  call_begun from i s e =
      short_then (begun_token (symbols mark.Open) s e (λ _. then_shrinks (listed_args_shrinks d end child h) (λ all. then_shrinks (one_shrinks _) (λ u. λ n r k. pure_shrinks _ n r k)))) (λ a. λ n r k. pure_shrinks _ n r k)

  pub named_begun : Begun (begins identifiers) (named d end child)
  unfolding named
  named_begun s e = begun_token identifiers s e (λ i. after_name_shrinks d end child h s i)

  module _ (inner : Parser Placed Stmt) (g : Shrinks inner) where
    pub compound_begun : Begun (begins (words word_.KwBegin)) (compound end inner)
    unfolding compound
    compound_begun s e = begun_token (words word_.KwBegin) s e (λ _. then_shrinks (stmts_shrinks d end child h inner g) (λ all. then_shrinks (one_shrinks _) (λ _. λ n r k. pure_shrinks _ n r k)))

    pub else_begun : Begun (begins (words word_.KwElse)) (λ s. and_then (expect_word word_.KwElse s) (λ _ s. and_then (inner s) (λ x s. Ok (Some x, s))))
    else_begun s e = begun_token (words word_.KwElse) s e (λ _. then_shrinks g (λ s. pure_shrinks _))

    pub conditional_begun : Begun (begins (words word_.KwIf)) (conditional end child inner)
    unfolding conditional
    conditional_begun s e = short_then (between_begun word_.KwIf word_.KwThen s e) (λ c. then_shrinks g (λ a. then_shrinks (optional_else_shrinks d end child h inner g) (λ b. λ n r k. pure_shrinks _ n r k)))

    pub while_begun : Begun (begins (words word_.KwWhile)) (while_loop end child inner)
    unfolding while_loop
    while_begun s e = short_then (between_begun word_.KwWhile word_.KwDo s e) (λ c. then_shrinks g (λ x. λ n r k. pure_shrinks _ n r k))

    pub repeat_begun : Begun (begins (words word_.KwRepeat)) (repeat_loop end child inner)
    unfolding repeat_loop
    repeat_begun s e = begun_token (words word_.KwRepeat) s e (λ _. then_shrinks (stmts_shrinks d end child h inner g) (λ all. then_shrinks (one_shrinks _) (λ _. then_shrinks h (λ c. λ n r k. pure_shrinks _ n r k))))

    pub for_begun : Begun (begins (words word_.KwFor)) (for_loop end child inner)
    unfolding for_loop
    for_begun s e = begun_token (words word_.KwFor) s e (λ _. then_shrinks (one_shrinks _) (λ i. then_shrinks (limits_shrinks d end child h) (λ x. then_shrinks g (λ y. λ n r k. pure_shrinks _ n r k))))

    pub with_begun : Begun (begins (words word_.KwWith)) (with_places end child inner)
    unfolding with_places
    with_begun s e = begun_token (words word_.KwWith) s e (λ _. then_shrinks (places_shrinks d end child h) (λ all. then_shrinks (one_shrinks _) (λ _. then_shrinks g (λ x. λ n r k. pure_shrinks _ n r k))))

    pub try_begun : Begun (begins (words word_.KwTry)) (try_block end inner)
    unfolding try_block
    try_begun s e = begun_token (words word_.KwTry) s e (λ _. then_shrinks (stmts_shrinks d end child h inner g) (λ all. then_shrinks (one_shrinks _) (λ _. then_shrinks g (λ x. λ n r k. pure_shrinks _ n r k))))

    pub case_begun : Begun (begins (words word_.KwCase)) (case_of d end child inner)
    unfolding case_of
    case_begun s e =
        short_then (between_begun word_.KwCase word_.KwOf s e) (λ x. then_shrinks (arms_shrinks d end child h inner g) (λ all. then_shrinks (semicolon_shrinks d end child h inner g) (λ closed.
        then_shrinks (optional_rest_shrinks d end child h inner g) (λ r. then_shrinks (one_shrinks _) (λ _. λ n r k. pure_shrinks _ n r k)))))
