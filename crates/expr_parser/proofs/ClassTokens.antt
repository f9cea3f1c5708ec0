-- Which token is of which class.
use Rattle.std.proofs.Common.{◌≡◌, ℕ, ℤ, Bool, true, false, List, Some, None, refl, sym, ap, ◌∙◌, rules}
use denote.Enum.Bare.{same_true}
use Rattle.p2c_text.specs.declared.place.Span.{Span}
use Rattle.dialect_lexer.specs.declared.token.Word.{Word as WordSymbol}
use Rattle.dialect_lexer.specs.declared.token.Word.TheVariants as word
use Rattle.dialect_lexer.specs.declared.token.Symbol.{Symbol as SpecialSymbol}
use Rattle.dialect_lexer.specs.declared.token.Symbol.TheVariants as mark
use Rattle.dialect_lexer.specs.contracts.token.Word as the_words
use Rattle.dialect_lexer.specs.contracts.token.Symbol as the_symbols
use Rattle.pascal_tree.specs.declared.constants.Sign.{Sign}
use Rattle.pascal_tree.specs.declared.constants.Sign.TheVariants as sign
use Rattle.pascal_tree.specs.declared.names.Identifier.{Identifier}
use Rattle.pascal_tree.specs.declared.expressions.Relation.{Relation}
use Rattle.pascal_tree.specs.declared.expressions.Relation.TheVariants as relation
use Rattle.pascal_tree.specs.declared.expressions.Adding.{Adding}
use Rattle.pascal_tree.specs.declared.expressions.Adding.TheVariants as adding
use Rattle.pascal_tree.specs.declared.expressions.Multiplying.{Multiplying}
use Rattle.pascal_tree.specs.declared.expressions.Multiplying.TheVariants as multiplying
use Rattle.expr_parser.specs.Tokens.{Token, Name, Number, Text, Word, Symbol}
use Rattle.expr_parser.specs.Classes.{same_word, same_symbol, if_true, identifier_of, number_of, text_of, word_of, symbol_of, sign_of, relation_of_symbol, relation_of_word, adding_of_symbol, adding_of_word, multiplying_of_symbol, multiplying_of_word, operator_of}
use Rattle.expr_parser.specs.Writing.{sign_token, relation_token, adding_token, multiplying_token}

if_true_is : {A : Type 0} (x a : A) (b : Bool) → if_true x b ≡ Some a → b ≡ true
if_true_is x a true e = refl
if_true_is x a false e = absurd cc

pub some_is : {A : Type 0} (f : A → Token) (t : Token) (a b : A) → Some a ≡ Some b → t ≡ f a → t ≡ f b
some_is f t a b e h = let same : a ≡ b = cc in h ∙ ap f same

pub symbol_is : (m : SpecialSymbol) (t : Token) (a : Unit {0}) → symbol_of m t ≡ Some a → t ≡ Symbol m
unfolding same_symbol
symbol_is m (Symbol found) a e = ap (λ x. Symbol x) (same_true the_symbols.the_type (search rules) found m (if_true_is tt a (same_symbol found m) e))
symbol_is m (Name n) a e = absurd cc
symbol_is m (Number v) a e = absurd cc
symbol_is m (Text bs) a e = absurd cc
symbol_is m (Word w) a e = absurd cc

pub word_is : (w : WordSymbol) (t : Token) (a : Unit {0}) → word_of w t ≡ Some a → t ≡ Word w
unfolding same_word
word_is w (Word found) a e = ap (λ x. Word x) (same_true the_words.the_type (search rules) found w (if_true_is tt a (same_word found w) e))
word_is w (Name n) a e = absurd cc
word_is w (Number v) a e = absurd cc
word_is w (Text bs) a e = absurd cc
word_is w (Symbol s) a e = absurd cc

pub identifier_is : (t : Token) (span : Span) (i : Identifier) → identifier_of t span ≡ Some i → (t ≡ Name i.name) × (i.span ≡ span)
identifier_is (Name n) span i e = let same : record { name = n; span = span } ≡ i = cc in (ap (λ (x : Identifier). Name x.name) same, sym (ap (λ (x : Identifier). x.span) same))
identifier_is (Number v) span i e = absurd cc
identifier_is (Text bs) span i e = absurd cc
identifier_is (Word w) span i e = absurd cc
identifier_is (Symbol s) span i e = absurd cc

pub number_is : (t : Token) (v : ℤ) → number_of t ≡ Some v → t ≡ Number v
number_is (Number x) v e = some_is (λ z. Number z) (Number x) x v e refl
number_is (Name n) v e = absurd cc
number_is (Text bs) v e = absurd cc
number_is (Word w) v e = absurd cc
number_is (Symbol s) v e = absurd cc

pub text_is : (t : Token) (bs : List ℕ) → text_of t ≡ Some bs → t ≡ Text bs
text_is (Text x) bs e = some_is (λ z. Text z) (Text x) x bs e refl
text_is (Name n) bs e = absurd cc
text_is (Number v) bs e = absurd cc
text_is (Word w) bs e = absurd cc
text_is (Symbol s) bs e = absurd cc

-- ---- operators

sign_symbol_is : (s : SpecialSymbol) (op : Sign) → sign_of s ≡ Some op → Symbol s ≡ sign_token op
sign_symbol_is mark.Plus op e = some_is sign_token (Symbol mark.Plus) sign.Plus op e refl
sign_symbol_is mark.Minus op e = some_is sign_token (Symbol mark.Minus) sign.Minus op e refl
sign_symbol_is _ op e = absurd cc

pub sign_is : (t : Token) (op : Sign) → operator_of (λ w. None) sign_of t ≡ Some op → t ≡ sign_token op
sign_is (Symbol s) op e = sign_symbol_is s op e
sign_is (Word w) op e = absurd cc
sign_is (Name n) op e = absurd cc
sign_is (Number v) op e = absurd cc
sign_is (Text bs) op e = absurd cc

relation_symbol_is : (s : SpecialSymbol) (op : Relation) → relation_of_symbol s ≡ Some op → Symbol s ≡ relation_token op
relation_symbol_is mark.Equal op e = some_is relation_token (Symbol mark.Equal) relation.Equal op e refl
relation_symbol_is mark.NotEqual op e = some_is relation_token (Symbol mark.NotEqual) relation.NotEqual op e refl
relation_symbol_is mark.Less op e = some_is relation_token (Symbol mark.Less) relation.Less op e refl
relation_symbol_is mark.Greater op e = some_is relation_token (Symbol mark.Greater) relation.Greater op e refl
relation_symbol_is mark.AtMost op e = some_is relation_token (Symbol mark.AtMost) relation.AtMost op e refl
relation_symbol_is mark.AtLeast op e = some_is relation_token (Symbol mark.AtLeast) relation.AtLeast op e refl
relation_symbol_is _ op e = absurd cc

relation_word_is : (w : WordSymbol) (op : Relation) → relation_of_word w ≡ Some op → Word w ≡ relation_token op
relation_word_is word.KwIn op e = some_is relation_token (Word word.KwIn) relation.In op e refl
relation_word_is _ op e = absurd cc

pub relation_is : (t : Token) (op : Relation) → operator_of relation_of_word relation_of_symbol t ≡ Some op → t ≡ relation_token op
relation_is (Symbol s) op e = relation_symbol_is s op e
relation_is (Word w) op e = relation_word_is w op e
relation_is (Name n) op e = absurd cc
relation_is (Number v) op e = absurd cc
relation_is (Text bs) op e = absurd cc

adding_symbol_is : (s : SpecialSymbol) (op : Adding) → adding_of_symbol s ≡ Some op → Symbol s ≡ adding_token op
adding_symbol_is mark.Plus op e = some_is adding_token (Symbol mark.Plus) adding.Add op e refl
adding_symbol_is mark.Minus op e = some_is adding_token (Symbol mark.Minus) adding.Subtract op e refl
adding_symbol_is _ op e = absurd cc

adding_word_is : (w : WordSymbol) (op : Adding) → adding_of_word w ≡ Some op → Word w ≡ adding_token op
adding_word_is word.KwOr op e = some_is adding_token (Word word.KwOr) adding.Or op e refl
adding_word_is word.KwXor op e = some_is adding_token (Word word.KwXor) adding.Xor op e refl
adding_word_is _ op e = absurd cc

pub adding_is : (t : Token) (op : Adding) → operator_of adding_of_word adding_of_symbol t ≡ Some op → t ≡ adding_token op
adding_is (Symbol s) op e = adding_symbol_is s op e
adding_is (Word w) op e = adding_word_is w op e
adding_is (Name n) op e = absurd cc
adding_is (Number v) op e = absurd cc
adding_is (Text bs) op e = absurd cc

multiplying_symbol_is : (s : SpecialSymbol) (op : Multiplying) → multiplying_of_symbol s ≡ Some op → Symbol s ≡ multiplying_token op
multiplying_symbol_is mark.Star op e = some_is multiplying_token (Symbol mark.Star) multiplying.Multiply op e refl
multiplying_symbol_is mark.Slash op e = some_is multiplying_token (Symbol mark.Slash) multiplying.Divide op e refl
multiplying_symbol_is _ op e = absurd cc

multiplying_word_is : (w : WordSymbol) (op : Multiplying) → multiplying_of_word w ≡ Some op → Word w ≡ multiplying_token op
multiplying_word_is word.KwDiv op e = some_is multiplying_token (Word word.KwDiv) multiplying.Div op e refl
multiplying_word_is word.KwMod op e = some_is multiplying_token (Word word.KwMod) multiplying.Mod op e refl
multiplying_word_is word.KwAnd op e = some_is multiplying_token (Word word.KwAnd) multiplying.And op e refl
multiplying_word_is word.KwShl op e = some_is multiplying_token (Word word.KwShl) multiplying.Shl op e refl
multiplying_word_is word.KwShr op e = some_is multiplying_token (Word word.KwShr) multiplying.Shr op e refl
multiplying_word_is _ op e = absurd cc

pub multiplying_is : (t : Token) (op : Multiplying) → operator_of multiplying_of_word multiplying_of_symbol t ≡ Some op → t ≡ multiplying_token op
multiplying_is (Symbol s) op e = multiplying_symbol_is s op e
multiplying_is (Word w) op e = multiplying_word_is w op e
multiplying_is (Name n) op e = absurd cc
multiplying_is (Number v) op e = absurd cc
multiplying_is (Text bs) op e = absurd cc
