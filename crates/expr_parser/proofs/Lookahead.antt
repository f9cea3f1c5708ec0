-- What the tests of the next token see, and with which tokens parts begin and end.
use Rattle.std.proofs.Common.{◌≡◌, ℕ, ℤ, Bool, true, false, ◌&&◌, List, [], ◌∷◌, Some, None, refl, ap, ◌∙◌}
use denote.Enum.Bare.{true_same}
use Rattle.p2c_text.specs.declared.dialect.Dialect.{Dialect}
use Rattle.p2c_text.specs.declared.dialect.Dialect.TheVariants as dialect
use Rattle.p2c_text.specs.declared.place.Span.{Span}
use Rattle.dialect_lexer.specs.Dialects.{is_ucsd}
use Rattle.dialect_lexer.specs.declared.token.Word.{Word as WordSymbol}
use Rattle.dialect_lexer.specs.declared.token.Word.TheVariants as word
use Rattle.dialect_lexer.specs.declared.token.Symbol.{Symbol as SpecialSymbol}
use Rattle.dialect_lexer.specs.declared.token.Symbol.TheVariants as mark
use Rattle.dialect_lexer.specs.contracts.token.Word as the_words
use Rattle.dialect_lexer.specs.contracts.token.Symbol as the_symbols
use Rattle.pascal_tree.specs.declared.constants.Sign.{Sign}
use Rattle.pascal_tree.specs.declared.constants.Sign.TheVariants as sign
use Rattle.pascal_tree.specs.declared.expressions.Relation.{Relation}
use Rattle.pascal_tree.specs.declared.expressions.Relation.TheVariants as relation
use Rattle.pascal_tree.specs.declared.expressions.Adding.{Adding}
use Rattle.pascal_tree.specs.declared.expressions.Adding.TheVariants as adding
use Rattle.pascal_tree.specs.declared.expressions.Multiplying.{Multiplying}
use Rattle.pascal_tree.specs.declared.expressions.Multiplying.TheVariants as multiplying
use Rattle.token_parsing.specs.Parser.{is_some, begins}
use Rattle.expr_parser.specs.Tokens.{Token, Name, Number, Text, Word, Symbol}
use Rattle.expr_parser.specs.Classes.{same_word, same_symbol, if_true, identifier_of, number_of, text_of, word_of, symbol_of, sign_of, relation_of_symbol, relation_of_word, adding_of_symbol, adding_of_word, multiplying_of_symbol, multiplying_of_word, operator_of, identifiers, numbers, texts, words, symbols, signs, relations, addings, multiplyings}
use Rattle.expr_parser.specs.Writing.{sign_token, relation_token, adding_token, multiplying_token}
use Rattle.expr_parser.specs.Places.{begins_selector, begins_program}
use Rattle.expr_parser.proofs.Followed.{Looks, on_first, Says, Accepts}

-- ---- tests

abbrev pub on_name : Token → Bool
on_name (Name n) = true
on_name (Number v) = false
on_name (Text bs) = false
on_name (Word w) = false
on_name (Symbol s) = false

abbrev pub on_number : Token → Bool
on_number x = is_some (number_of x)

abbrev pub on_text : Token → Bool
on_text x = is_some (text_of x)

abbrev pub on_word : WordSymbol → Token → Bool
on_word w x = is_some (word_of w x)

abbrev pub on_symbol : SpecialSymbol → Token → Bool
on_symbol m x = is_some (symbol_of m x)

abbrev pub on_sign : Token → Bool
on_sign x = is_some (operator_of (λ w. None) sign_of x)

abbrev pub on_relation : Token → Bool
on_relation x = is_some (operator_of relation_of_word relation_of_symbol x)

abbrev pub on_adding : Token → Bool
on_adding x = is_some (operator_of adding_of_word adding_of_symbol x)

abbrev pub on_multiplying : Token → Bool
on_multiplying x = is_some (operator_of multiplying_of_word multiplying_of_symbol x)

abbrev pub on_selector : Token → Bool
on_selector x = elim (on_symbol mark.Dot x) [ true ↦ true | false ↦ elim (on_symbol mark.Caret x) [ true ↦ true | false ↦ on_symbol mark.OpenBracket x ] ]

abbrev pub on_program : Dialect → Token → Bool
on_program d x = is_ucsd d && on_word word.KwProgram x

some_name : (x : Token) (span : Span) → is_some (identifier_of x span) ≡ on_name x
some_name (Name n) span = refl
some_name (Number v) span = refl
some_name (Text bs) span = refl
some_name (Word w) span = refl
some_name (Symbol s) span = refl

pub looks_name : Looks (begins identifiers) on_name
unfolding begins
looks_name = record { none = refl; some = λ t s. some_name t.token t.span }

pub looks_number : Looks (begins numbers) on_number
unfolding begins
looks_number = record { none = refl; some = λ t s. refl }

pub looks_text : Looks (begins texts) on_text
unfolding begins
looks_text = record { none = refl; some = λ t s. refl }

pub looks_word : (w : WordSymbol) → Looks (begins (words w)) (on_word w)
unfolding begins
looks_word w = record { none = refl; some = λ t s. refl }

pub looks_symbol : (m : SpecialSymbol) → Looks (begins (symbols m)) (on_symbol m)
unfolding begins
looks_symbol m = record { none = refl; some = λ t s. refl }

pub looks_sign : Looks (begins signs) on_sign
unfolding begins
looks_sign = record { none = refl; some = λ t s. refl }

pub looks_relation : Looks (begins relations) on_relation
unfolding begins
looks_relation = record { none = refl; some = λ t s. refl }

pub looks_adding : Looks (begins addings) on_adding
unfolding begins
looks_adding = record { none = refl; some = λ t s. refl }

pub looks_multiplying : Looks (begins multiplyings) on_multiplying
unfolding begins
looks_multiplying = record { none = refl; some = λ t s. refl }

pub looks_selector : Looks begins_selector on_selector
unfolding begins
looks_selector = record { none = refl; some = λ t s. refl }

no_program : (d : Dialect) → (is_ucsd d && false) ≡ false
no_program dialect.Iso = refl
no_program dialect.Turbo = refl
no_program dialect.Ucsd = refl
no_program dialect.Hp = refl

pub looks_program : (d : Dialect) → Looks (begins_program d) (on_program d)
unfolding begins
looks_program d = record { none = no_program d; some = λ t s. refl }

pub not_program : (d : Dialect) (w : List Token) → on_first (on_word word.KwProgram) w ≡ false → on_first (on_program d) w ≡ false
not_program d [] e = refl
not_program d (x ∷ w) e = ap (λ b. is_ucsd d && b) e ∙ no_program d

-- ---- tokens of classes

pub says_symbol : (m : SpecialSymbol) → Says (symbols m) (Symbol m) tt
unfolding same_symbol
says_symbol m t e = ap (symbol_of m) e ∙ ap (if_true tt) (true_same the_symbols.the_type m m refl)

pub accepts_symbol : (m : SpecialSymbol) → Accepts (symbols m) (Symbol m)
accepts_symbol m t e = (tt, says_symbol m t e)

pub says_word : (w : WordSymbol) → Says (words w) (Word w) tt
unfolding same_word
says_word w t e = ap (word_of w) e ∙ ap (if_true tt) (true_same the_words.the_type w w refl)

pub accepts_word : (w : WordSymbol) → Accepts (words w) (Word w)
accepts_word w t e = (tt, says_word w t e)

pub accepts_name : (n : List ℕ) → Accepts identifiers (Name n)
accepts_name n t e = (record { name = n; span = t.span }, ap (λ x. identifier_of x t.span) e)

pub says_number : (v : ℤ) → Says numbers (Number v) v
says_number v t e = ap number_of e

pub accepts_number : (v : ℤ) → Accepts numbers (Number v)
accepts_number v t e = (v, says_number v t e)

pub says_text : (bs : List ℕ) → Says texts (Text bs) bs
says_text bs t e = ap text_of e

pub accepts_text : (bs : List ℕ) → Accepts texts (Text bs)
accepts_text bs t e = (bs, says_text bs t e)

sign_here : (op : Sign) → operator_of (λ w. None) sign_of (sign_token op) ≡ Some op
sign_here sign.Plus = refl
sign_here sign.Minus = refl

pub says_sign : (op : Sign) → Says signs (sign_token op) op
says_sign op t e = ap (operator_of (λ w. None) sign_of) e ∙ sign_here op

pub accepts_sign : (op : Sign) → Accepts signs (sign_token op)
accepts_sign op t e = (op, says_sign op t e)

relation_here : (op : Relation) → operator_of relation_of_word relation_of_symbol (relation_token op) ≡ Some op
relation_here relation.Equal = refl
relation_here relation.NotEqual = refl
relation_here relation.Less = refl
relation_here relation.Greater = refl
relation_here relation.AtMost = refl
relation_here relation.AtLeast = refl
relation_here relation.In = refl

pub says_relation : (op : Relation) → Says relations (relation_token op) op
says_relation op t e = ap (operator_of relation_of_word relation_of_symbol) e ∙ relation_here op

pub accepts_relation : (op : Relation) → Accepts relations (relation_token op)
accepts_relation op t e = (op, says_relation op t e)

adding_here : (op : Adding) → operator_of adding_of_word adding_of_symbol (adding_token op) ≡ Some op
adding_here adding.Add = refl
adding_here adding.Subtract = refl
adding_here adding.Or = refl
adding_here adding.Xor = refl

pub says_adding : (op : Adding) → Says addings (adding_token op) op
says_adding op t e = ap (operator_of adding_of_word adding_of_symbol) e ∙ adding_here op

pub accepts_adding : (op : Adding) → Accepts addings (adding_token op)
accepts_adding op t e = (op, says_adding op t e)

multiplying_here : (op : Multiplying) → operator_of multiplying_of_word multiplying_of_symbol (multiplying_token op) ≡ Some op
multiplying_here multiplying.Multiply = refl
multiplying_here multiplying.Divide = refl
multiplying_here multiplying.Div = refl
multiplying_here multiplying.Mod = refl
multiplying_here multiplying.And = refl
multiplying_here multiplying.Shl = refl
multiplying_here multiplying.Shr = refl

pub says_multiplying : (op : Multiplying) → Says multiplyings (multiplying_token op) op
says_multiplying op t e = ap (operator_of multiplying_of_word multiplying_of_symbol) e ∙ multiplying_here op

pub accepts_multiplying : (op : Multiplying) → Accepts multiplyings (multiplying_token op)
accepts_multiplying op t e = (op, says_multiplying op t e)

pub on_symbol_here : (m : SpecialSymbol) → on_symbol m (Symbol m) ≡ true
unfolding same_symbol
on_symbol_here m = ap (λ b. is_some (if_true tt b)) (true_same the_symbols.the_type m m refl)

pub on_word_here : (w : WordSymbol) → on_word w (Word w) ≡ true
unfolding same_word
on_word_here w = ap (λ b. is_some (if_true tt b)) (true_same the_words.the_type w w refl)

pub on_sign_here : (op : Sign) → on_sign (sign_token op) ≡ true
on_sign_here op = ap is_some (sign_here op)

pub on_relation_here : (op : Relation) → on_relation (relation_token op) ≡ true
on_relation_here op = ap is_some (relation_here op)

pub on_adding_here : (op : Adding) → on_adding (adding_token op) ≡ true
on_adding_here op = ap is_some (adding_here op)

pub on_multiplying_here : (op : Multiplying) → on_multiplying (multiplying_token op) ≡ true
on_multiplying_here op = ap is_some (multiplying_here op)

-- ---- what may follow a part: a token with which it does not go on

pub record FactorEnds (w : List Token) : Type 0 where
  pub arguments : on_first (on_symbol mark.Open) w ≡ false
  pub selector : on_first on_selector w ≡ false

pub record TermEnds (w : List Token) : Type 0 where
  pub factor : FactorEnds w
  pub multiplying : on_first on_multiplying w ≡ false

pub record SimpleEnds (w : List Token) : Type 0 where
  pub term : TermEnds w
  pub adding : on_first on_adding w ≡ false

pub record ExprEnds (w : List Token) : Type 0 where
  pub simple : SimpleEnds w
  pub relation : on_first on_relation w ≡ false

pub nothing_ends : ExprEnds []
nothing_ends = record { simple = record { term = record { factor = record { arguments = refl; selector = refl }; multiplying = refl }; adding = refl }; relation = refl }

pub multiplying_ends : (op : Multiplying) (w : List Token) → FactorEnds (multiplying_token op ∷ w)
unfolding same_symbol
multiplying_ends multiplying.Multiply w = record { arguments = refl; selector = refl }
multiplying_ends multiplying.Divide w = record { arguments = refl; selector = refl }
multiplying_ends multiplying.Div w = record { arguments = refl; selector = refl }
multiplying_ends multiplying.Mod w = record { arguments = refl; selector = refl }
multiplying_ends multiplying.And w = record { arguments = refl; selector = refl }
multiplying_ends multiplying.Shl w = record { arguments = refl; selector = refl }
multiplying_ends multiplying.Shr w = record { arguments = refl; selector = refl }

pub adding_ends : (op : Adding) (w : List Token) → TermEnds (adding_token op ∷ w)
unfolding same_symbol
adding_ends adding.Add w = record { factor = record { arguments = refl; selector = refl }; multiplying = refl }
adding_ends adding.Subtract w = record { factor = record { arguments = refl; selector = refl }; multiplying = refl }
adding_ends adding.Or w = record { factor = record { arguments = refl; selector = refl }; multiplying = refl }
adding_ends adding.Xor w = record { factor = record { arguments = refl; selector = refl }; multiplying = refl }

pub relation_ends : (op : Relation) (w : List Token) → SimpleEnds (relation_token op ∷ w)
unfolding same_symbol
relation_ends relation.Equal w = record { term = record { factor = record { arguments = refl; selector = refl }; multiplying = refl }; adding = refl }
relation_ends relation.NotEqual w = record { term = record { factor = record { arguments = refl; selector = refl }; multiplying = refl }; adding = refl }
relation_ends relation.Less w = record { term = record { factor = record { arguments = refl; selector = refl }; multiplying = refl }; adding = refl }
relation_ends relation.Greater w = record { term = record { factor = record { arguments = refl; selector = refl }; multiplying = refl }; adding = refl }
relation_ends relation.AtMost w = record { term = record { factor = record { arguments = refl; selector = refl }; multiplying = refl }; adding = refl }
relation_ends relation.AtLeast w = record { term = record { factor = record { arguments = refl; selector = refl }; multiplying = refl }; adding = refl }
relation_ends relation.In w = record { term = record { factor = record { arguments = refl; selector = refl }; multiplying = refl }; adding = refl }

abbrev expr_ends : SpecialSymbol → List Token → Type 0
expr_ends m w = ExprEnds (Symbol m ∷ w)

pub mark_ends : (w : List Token) → expr_ends mark.Close w × expr_ends mark.CloseBracket w × expr_ends mark.Comma w × expr_ends mark.Colon w × expr_ends mark.DotDot w
unfolding same_symbol
mark_ends w = (ended mark.Close refl refl refl refl refl, ended mark.CloseBracket refl refl refl refl refl, ended mark.Comma refl refl refl refl refl, ended mark.Colon refl refl refl refl refl, ended mark.DotDot refl refl refl refl refl)
  where
    ended : (m : SpecialSymbol) → on_symbol mark.Open (Symbol m) ≡ false → on_selector (Symbol m) ≡ false → on_multiplying (Symbol m) ≡ false → on_adding (Symbol m) ≡ false → on_relation (Symbol m) ≡ false → expr_ends m w
    ended m a b c d e = record { simple = record { term = record { factor = record { arguments = a; selector = b }; multiplying = c }; adding = d }; relation = e }
