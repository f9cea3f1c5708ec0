-- What may follow a statement: a token with which it does not go on.
use Rattle.std.proofs.Common.{◌≡◌, Bool, true, false, List, [], ◌∷◌, refl}
use Rattle.dialect_lexer.specs.declared.token.Word.TheVariants as word_
use Rattle.dialect_lexer.specs.declared.token.Symbol.TheVariants as mark
use Rattle.expr_parser.specs.Tokens.{Token, Word, Symbol}
use Rattle.expr_parser.specs.Classes.{same_word, same_symbol}
use Rattle.expr_parser.proofs.Followed.{on_first}
use Rattle.expr_parser.proofs.Lookahead.{on_name, on_number, on_symbol, on_word, ExprEnds}

-- no statement that begins with a word
pub record NoWords (w : List Token) : Type 0 where
  pub no_goto : on_first (on_word word_.KwGoto) w ≡ false
  pub no_begin : on_first (on_word word_.KwBegin) w ≡ false
  pub no_if : on_first (on_word word_.KwIf) w ≡ false
  pub no_case : on_first (on_word word_.KwCase) w ≡ false
  pub no_while : on_first (on_word word_.KwWhile) w ≡ false
  pub no_repeat : on_first (on_word word_.KwRepeat) w ≡ false
  pub no_for : on_first (on_word word_.KwFor) w ≡ false
  pub no_with : on_first (on_word word_.KwWith) w ≡ false
  pub no_try : on_first (on_word word_.KwTry) w ≡ false

-- Where `follows` holds, an `else` follows, else none.
pub record StmtEnds (follows : Bool) (w : List Token) : Type 0 where
  pub expr : ExprEnds w
  pub assign : on_first (on_symbol mark.Assign) w ≡ false
  pub colon : on_first (on_symbol mark.Colon) w ≡ false
  pub name : on_first on_name w ≡ false
  pub number : on_first on_number w ≡ false
  pub no_words : NoWords w
  pub on_else : on_first (on_word word_.KwElse) w ≡ follows

pub nothing_ends : StmtEnds false []
nothing_ends = record { expr = record { simple = record { term = record { factor = record { arguments = refl; selector = refl }; multiplying = refl }; adding = refl }; relation = refl }; assign = refl; colon = refl; name = refl; number = refl; no_words = record { no_goto = refl; no_begin = refl; no_if = refl; no_case = refl; no_while = refl; no_repeat = refl; no_for = refl; no_with = refl; no_try = refl }; on_else = refl }

pub semicolon_ends : (w : List Token) → StmtEnds false (Symbol mark.Semicolon ∷ w)
unfolding same_symbol
semicolon_ends w = record { expr = record { simple = record { term = record { factor = record { arguments = refl; selector = refl }; multiplying = refl }; adding = refl }; relation = refl }; assign = refl; colon = refl; name = refl; number = refl; no_words = record { no_goto = refl; no_begin = refl; no_if = refl; no_case = refl; no_while = refl; no_repeat = refl; no_for = refl; no_with = refl; no_try = refl }; on_else = refl }

pub end_ends : (w : List Token) → StmtEnds false (Word word_.KwEnd ∷ w)
unfolding same_word
end_ends w = record { expr = record { simple = record { term = record { factor = record { arguments = refl; selector = refl }; multiplying = refl }; adding = refl }; relation = refl }; assign = refl; colon = refl; name = refl; number = refl; no_words = record { no_goto = refl; no_begin = refl; no_if = refl; no_case = refl; no_while = refl; no_repeat = refl; no_for = refl; no_with = refl; no_try = refl }; on_else = refl }

pub until_ends : (w : List Token) → StmtEnds false (Word word_.KwUntil ∷ w)
unfolding same_word
until_ends w = record { expr = record { simple = record { term = record { factor = record { arguments = refl; selector = refl }; multiplying = refl }; adding = refl }; relation = refl }; assign = refl; colon = refl; name = refl; number = refl; no_words = record { no_goto = refl; no_begin = refl; no_if = refl; no_case = refl; no_while = refl; no_repeat = refl; no_for = refl; no_with = refl; no_try = refl }; on_else = refl }

pub recover_ends : (w : List Token) → StmtEnds false (Word word_.KwRecover ∷ w)
unfolding same_word
recover_ends w = record { expr = record { simple = record { term = record { factor = record { arguments = refl; selector = refl }; multiplying = refl }; adding = refl }; relation = refl }; assign = refl; colon = refl; name = refl; number = refl; no_words = record { no_goto = refl; no_begin = refl; no_if = refl; no_case = refl; no_while = refl; no_repeat = refl; no_for = refl; no_with = refl; no_try = refl }; on_else = refl }

pub otherwise_ends : (w : List Token) → StmtEnds false (Word word_.KwOtherwise ∷ w)
unfolding same_word
otherwise_ends w = record { expr = record { simple = record { term = record { factor = record { arguments = refl; selector = refl }; multiplying = refl }; adding = refl }; relation = refl }; assign = refl; colon = refl; name = refl; number = refl; no_words = record { no_goto = refl; no_begin = refl; no_if = refl; no_case = refl; no_while = refl; no_repeat = refl; no_for = refl; no_with = refl; no_try = refl }; on_else = refl }

pub else_ends : (w : List Token) → StmtEnds true (Word word_.KwElse ∷ w)
unfolding same_word
else_ends w = record { expr = record { simple = record { term = record { factor = record { arguments = refl; selector = refl }; multiplying = refl }; adding = refl }; relation = refl }; assign = refl; colon = refl; name = refl; number = refl; no_words = record { no_goto = refl; no_begin = refl; no_if = refl; no_case = refl; no_while = refl; no_repeat = refl; no_for = refl; no_with = refl; no_try = refl }; on_else = refl }

-- ---- what may follow an expression in a statement

pub then_ends : (w : List Token) → ExprEnds (Word word_.KwThen ∷ w)
unfolding same_word
then_ends w = record { simple = record { term = record { factor = record { arguments = refl; selector = refl }; multiplying = refl }; adding = refl }; relation = refl }

pub of_ends : (w : List Token) → ExprEnds (Word word_.KwOf ∷ w)
unfolding same_word
of_ends w = record { simple = record { term = record { factor = record { arguments = refl; selector = refl }; multiplying = refl }; adding = refl }; relation = refl }

pub do_ends : (w : List Token) → ExprEnds (Word word_.KwDo ∷ w)
unfolding same_word
do_ends w = record { simple = record { term = record { factor = record { arguments = refl; selector = refl }; multiplying = refl }; adding = refl }; relation = refl }

pub to_ends : (w : List Token) → ExprEnds (Word word_.KwTo ∷ w)
unfolding same_word
to_ends w = record { simple = record { term = record { factor = record { arguments = refl; selector = refl }; multiplying = refl }; adding = refl }; relation = refl }

pub downto_ends : (w : List Token) → ExprEnds (Word word_.KwDownto ∷ w)
unfolding same_word
downto_ends w = record { simple = record { term = record { factor = record { arguments = refl; selector = refl }; multiplying = refl }; adding = refl }; relation = refl }
