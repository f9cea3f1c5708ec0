-- What a token says, where it is of some class.
use Rattle.std.specs.Prelude.{ℕ, nat_le, Bool, true, false, List, Option, Some, None}
use denote.Enum.Bare.{sameb}
use Rattle.c_tree.specs.declared.operators.CUnary.{CUnary}
use Rattle.c_tree.specs.declared.operators.CUnary.TheVariants as unary
use Rattle.c_tree.specs.declared.operators.CBinary.{CBinary}
use Rattle.c_tree.specs.declared.operators.CBinary.TheVariants as binary
use Rattle.c_tree.specs.declared.operators.CCast.{CCast}
use Rattle.c_tree.specs.declared.operators.CCast.TheVariants as cast
use Rattle.c_tree.specs.Tree.{ObjectType, Int, Word}
use Rattle.c_grammar.specs.declared.token.Word.{Word as QuotedWord}
use Rattle.c_grammar.specs.declared.token.Word.TheVariants as word
use Rattle.c_grammar.specs.declared.token.Mark.{Mark}
use Rattle.c_grammar.specs.declared.token.Mark.TheVariants as mark
use Rattle.c_grammar.specs.contracts.token.Word as the_words
use Rattle.c_grammar.specs.contracts.token.Mark as the_marks
use Rattle.c_grammar.specs.Token.{Token, Identifier, Numeral, Quoted, Sign}
use Rattle.token_parsing.specs.Parser.{Class, Parser, one_of}

-- `==` on words and on marks
unfoldable pub same_word : QuotedWord → QuotedWord → Bool
same_word = sameb the_words.the_type

unfoldable pub same_mark : Mark → Mark → Bool
same_mark = sameb the_marks.the_type

abbrev pub if_true : {A : Type 0} → A → Bool → Option A
if_true a true = Some a
if_true a false = None

abbrev pub names : Class Token (List ℕ)
names (Identifier n) = Some n
names (Numeral n) = None
names (Quoted w) = None
names (Sign m) = None

-- a number that is at most so large
abbrev pub numbers : ℕ → Class Token ℕ
numbers most (Numeral n) = if_true n (nat_le n most)
numbers most (Identifier n) = None
numbers most (Quoted w) = None
numbers most (Sign m) = None

abbrev pub words : QuotedWord → Class Token (Unit {0})
words wanted (Quoted w) = if_true tt (same_word w wanted)
words wanted (Identifier n) = None
words wanted (Numeral n) = None
words wanted (Sign m) = None

abbrev pub marks : Mark → Class Token (Unit {0})
marks wanted (Sign m) = if_true tt (same_mark m wanted)
marks wanted (Identifier n) = None
marks wanted (Numeral n) = None
marks wanted (Quoted w) = None

abbrev pub expect : Mark → Parser Token (Unit {0})
expect m = one_of (marks m)

abbrev pub expect_word : QuotedWord → Parser Token (Unit {0})
expect_word w = one_of (words w)

-- ---- operators

abbrev pub unary_of : Mark → Option CUnary
unary_of mark.Minus = Some unary.Minus
unary_of mark.Exclamation = Some unary.Not
unary_of mark.Tilde = Some unary.Complement
unary_of _ = None

abbrev pub binary_of : Mark → Option CBinary
binary_of mark.Plus = Some binary.Add
binary_of mark.Minus = Some binary.Subtract
binary_of mark.Star = Some binary.Multiply
binary_of mark.Slash = Some binary.Divide
binary_of mark.Percent = Some binary.Remainder
binary_of mark.Equal = Some binary.Equal
binary_of mark.NotEqual = Some binary.NotEqual
binary_of mark.Less = Some binary.Less
binary_of mark.AtMost = Some binary.AtMost
binary_of mark.Greater = Some binary.Greater
binary_of mark.AtLeast = Some binary.AtLeast
binary_of mark.AndAnd = Some binary.And
binary_of mark.OrOr = Some binary.Or
binary_of mark.Ampersand = Some binary.BitAnd
binary_of mark.Bar = Some binary.BitOr
binary_of mark.Caret = Some binary.BitXor
binary_of mark.ShiftLeft = Some binary.ShiftLeft
binary_of mark.ShiftRight = Some binary.ShiftRight
binary_of _ = None

abbrev pub unaries : Class Token CUnary
unaries (Sign m) = unary_of m
unaries (Identifier n) = None
unaries (Numeral n) = None
unaries (Quoted w) = None

abbrev pub binaries : Class Token CBinary
binaries (Sign m) = binary_of m
binaries (Identifier n) = None
binaries (Numeral n) = None
binaries (Quoted w) = None

-- ---- the words of types and casts

abbrev pub scalar_of : QuotedWord → Option ObjectType
scalar_of word.Int64Type = Some Int
scalar_of word.Uint64Type = Some Word
scalar_of _ = None

-- a type that is one word
abbrev pub scalars : Class Token ObjectType
scalars (Quoted w) = scalar_of w
scalars (Identifier n) = None
scalars (Numeral n) = None
scalars (Sign m) = None

abbrev pub scalar_cast_of : QuotedWord → Option CCast
scalar_cast_of word.Int64Type = Some cast.Int
scalar_cast_of word.Uint64Type = Some cast.Word
scalar_cast_of _ = None

abbrev pub scalar_casts : Class Token CCast
scalar_casts (Quoted w) = scalar_cast_of w
scalar_casts (Identifier n) = None
scalar_casts (Numeral n) = None
scalar_casts (Sign m) = None

abbrev pub cast_word_of : QuotedWord → Option (Unit {0})
cast_word_of word.Int64Type = Some tt
cast_word_of word.Uint64Type = Some tt
cast_word_of word.Void = Some tt
cast_word_of word.Struct = Some tt
cast_word_of _ = None

-- the words with which a cast begins
abbrev pub cast_words : Class Token (Unit {0})
cast_words (Quoted w) = cast_word_of w
cast_words (Identifier n) = None
cast_words (Numeral n) = None
cast_words (Sign m) = None
