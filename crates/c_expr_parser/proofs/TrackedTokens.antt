-- Tokens of a text that is followed.
use Rattle.std.proofs.Common.{◌≡◌, ℕ, ◌≤◌, List, ◌∷◌, Some, refl, ap}
use Rattle.std.proofs.lemmas.Bool.{le-leb}
use denote.Enum.Bare.{true_same}
use Rattle.c_grammar.specs.contracts.token.Word as the_words
use Rattle.c_grammar.specs.contracts.token.Mark as the_marks
use Rattle.c_tree.specs.declared.operators.CUnary.{CUnary}
use Rattle.c_tree.specs.declared.operators.CUnary.TheVariants as unary
use Rattle.c_tree.specs.declared.operators.CBinary.{CBinary}
use Rattle.c_tree.specs.declared.operators.CBinary.TheVariants as binary
use Rattle.c_grammar.specs.declared.token.Word.{Word as QuotedWord}
use Rattle.c_grammar.specs.declared.token.Mark.{Mark}
use Rattle.c_grammar.specs.Token.{Token, Identifier, Numeral, Quoted, Sign}
use Rattle.c_grammar.specs.Spelling.{unary_mark, binary_mark}
use Rattle.token_parsing.specs.Parser.{Parser, and_then, one_of}
use Rattle.token_parsing.proofs.Tracked.{Shrinks, Along, Tracked, track_token}
use Rattle.c_expr_parser.specs.Classes.{same_word, same_mark, if_true, names, numbers, words, marks, unaries, binaries, expect, expect_word}

mark_here : (m : Mark) → marks m (Sign m) ≡ Some tt
unfolding same_mark
mark_here m = ap (if_true tt) (true_same the_marks.the_type m m refl)

word_here : (w : QuotedWord) → words w (Quoted w) ≡ Some tt
unfolding same_word
word_here w = ap (if_true tt) (true_same the_words.the_type w w refl)

number_here : (most n : ℕ) → n ≤ most → numbers most (Numeral n) ≡ Some n
number_here most n h = ap (if_true n) (le-leb n most h)

unary_here : (op : CUnary) → unaries (Sign (unary_mark op)) ≡ Some op
unary_here unary.Minus = refl
unary_here unary.Not = refl
unary_here unary.Complement = refl

binary_here : (op : CBinary) → binaries (Sign (binary_mark op)) ≡ Some op
binary_here binary.Add = refl
binary_here binary.Subtract = refl
binary_here binary.Multiply = refl
binary_here binary.Divide = refl
binary_here binary.Remainder = refl
binary_here binary.Equal = refl
binary_here binary.NotEqual = refl
binary_here binary.Less = refl
binary_here binary.AtMost = refl
binary_here binary.Greater = refl
binary_here binary.AtLeast = refl
binary_here binary.And = refl
binary_here binary.Or = refl
binary_here binary.BitAnd = refl
binary_here binary.BitOr = refl
binary_here binary.BitXor = refl
binary_here binary.ShiftLeft = refl
binary_here binary.ShiftRight = refl

module _ {n : ℕ} {W : Type 0} {B : Type 0} {y : B} {rest' : List Token} where
  pub mark_tracked : (m : Mark) {f : Unit {0} → Parser Token B} {w s : List Token} → Along n (Sign m ∷ w) s → ((a : Unit {0}) → Shrinks (f a)) → ((r : List Token) → Along n w r → Tracked n W y rest' (f tt r))
      → Tracked n W y rest' (and_then (expect m s) f)
  mark_tracked m h shrinks k = track_token (marks m) tt (mark_here m) h shrinks k

  pub word_tracked : (w : QuotedWord) {f : Unit {0} → Parser Token B} {text s : List Token} → Along n (Quoted w ∷ text) s → ((a : Unit {0}) → Shrinks (f a)) → ((r : List Token) → Along n text r → Tracked n W y rest' (f tt r))
      → Tracked n W y rest' (and_then (expect_word w s) f)
  word_tracked w h shrinks k = track_token (words w) tt (word_here w) h shrinks k

  pub name_tracked : (name : List ℕ) {f : List ℕ → Parser Token B} {w s : List Token} → Along n (Identifier name ∷ w) s → ((a : List ℕ) → Shrinks (f a)) → ((r : List Token) → Along n w r → Tracked n W y rest' (f name r))
      → Tracked n W y rest' (and_then (one_of names s) f)
  name_tracked name h shrinks k = track_token names name refl h shrinks k

  pub number_tracked : (most m : ℕ) → m ≤ most → {f : ℕ → Parser Token B} {w s : List Token} → Along n (Numeral m ∷ w) s → ((a : ℕ) → Shrinks (f a)) → ((r : List Token) → Along n w r → Tracked n W y rest' (f m r))
      → Tracked n W y rest' (and_then (one_of (numbers most) s) f)
  number_tracked most m small h shrinks k = track_token (numbers most) m (number_here most m small) h shrinks k

  pub unary_tracked : (op : CUnary) {f : CUnary → Parser Token B} {w s : List Token} → Along n (Sign (unary_mark op) ∷ w) s → ((a : CUnary) → Shrinks (f a)) → ((r : List Token) → Along n w r → Tracked n W y rest' (f op r))
      → Tracked n W y rest' (and_then (one_of unaries s) f)
  unary_tracked op h shrinks k = track_token unaries op (unary_here op) h shrinks k

  pub binary_tracked : (op : CBinary) {f : CBinary → Parser Token B} {w s : List Token} → Along n (Sign (binary_mark op) ∷ w) s → ((a : CBinary) → Shrinks (f a)) → ((r : List Token) → Along n w r → Tracked n W y rest' (f op r))
      → Tracked n W y rest' (and_then (one_of binaries s) f)
  binary_tracked op h shrinks k = track_token binaries op (binary_here op) h shrinks k
