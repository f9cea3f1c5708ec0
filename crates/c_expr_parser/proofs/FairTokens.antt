-- Tokens that are read: what they are, and that what is before them begins a text.
use Rattle.std.proofs.Common.{◌≡◌, ℕ, ◌≤◌, Bool, true, false, List, [], ◌∷◌, ◌++◌, Some, refl, ap, subst, ◌∙◌, rules}
use Rattle.std.specs.Prelude.{nat_le}
use Rattle.std.proofs.lemmas.Bool.{leb-true}
use denote.Enum.Bare.{same_true}
use Rattle.c_grammar.specs.contracts.token.Word as the_words
use Rattle.c_grammar.specs.contracts.token.Mark as the_marks
use Rattle.c_tree.specs.declared.operators.CUnary.{CUnary}
use Rattle.c_tree.specs.declared.operators.CUnary.TheVariants as unary
use Rattle.c_tree.specs.declared.operators.CBinary.{CBinary}
use Rattle.c_tree.specs.declared.operators.CBinary.TheVariants as binary
use Rattle.c_grammar.specs.declared.token.Word.{Word as QuotedWord}
use Rattle.c_grammar.specs.declared.token.Mark.{Mark}
use Rattle.c_grammar.specs.declared.token.Mark.TheVariants as mark
use Rattle.c_grammar.specs.Token.{Token, Identifier, Numeral, Quoted, Sign, form_by}
use Rattle.c_grammar.specs.Spelling.{unary_mark, binary_mark}
use Rattle.c_grammar.specs.Grammar.{IsName}
use Rattle.c_grammar.specs.Seen.{IsToken, AreTokens}
use Rattle.c_grammar.specs.Text.{Begins, MayBegin}
use Rattle.token_parsing.specs.Parser.{Parser, Outcome, and_then, one_of}
use Rattle.token_parsing.proofs.Fair.{Fair, At, fair_spelled}
use Rattle.c_expr_parser.specs.Classes.{same_word, same_mark, if_true, names, numbers, words, marks, expect, expect_word, unary_of, binary_of, unaries, binaries}

-- ---- which token is of which class

if_true_is : {A : Type 0} (x a : A) (b : Bool) → if_true x b ≡ Some a → (b ≡ true) × (x ≡ a)
if_true_is x a true e = (refl, cc)
if_true_is x a false e = absurd cc

pub mark_is : (m : Mark) (t : Token) (a : Unit {0}) → marks m t ≡ Some a → t ≡ Sign m
unfolding same_mark
mark_is m (Sign found) a e = ap (λ x. Sign x) (same_true the_marks.the_type (search rules) found m ((if_true_is tt a (same_mark found m) e).0))
mark_is m (Identifier n) a e = absurd cc
mark_is m (Numeral n) a e = absurd cc
mark_is m (Quoted w) a e = absurd cc

pub word_is : (w : QuotedWord) (t : Token) (a : Unit {0}) → words w t ≡ Some a → t ≡ Quoted w
unfolding same_word
word_is w (Quoted found) a e = ap (λ x. Quoted x) (same_true the_words.the_type (search rules) found w ((if_true_is tt a (same_word found w) e).0))
word_is w (Identifier n) a e = absurd cc
word_is w (Numeral n) a e = absurd cc
word_is w (Sign m) a e = absurd cc

pub name_is : (t : Token) (n : List ℕ) → names t ≡ Some n → t ≡ Identifier n
name_is (Identifier n) a e = cc
name_is (Numeral n) a e = absurd cc
name_is (Quoted w) a e = absurd cc
name_is (Sign m) a e = absurd cc

pub number_is : (most : ℕ) (t : Token) (n : ℕ) → numbers most t ≡ Some n → t ≡ Numeral n
number_is most (Numeral n) a e = ap (λ x. Numeral x) ((if_true_is n a (nat_le n most) e).1)
number_is most (Identifier n) a e = absurd cc
number_is most (Quoted w) a e = absurd cc
number_is most (Sign m) a e = absurd cc

pub number_most : (most : ℕ) (t : Token) (n : ℕ) → numbers most t ≡ Some n → n ≤ most
number_most most (Numeral n) a e = let both = if_true_is n a (nat_le n most) e in subst (λ x. x ≤ most) both.1 (leb-true n most both.0)
number_most most (Identifier n) a e = absurd cc
number_most most (Quoted w) a e = absurd cc
number_most most (Sign m) a e = absurd cc

unary_mark_is : (m : Mark) (op : CUnary) → unary_of m ≡ Some op → m ≡ unary_mark op
unary_mark_is mark.Minus unary.Minus e = refl
unary_mark_is mark.Exclamation unary.Not e = refl
unary_mark_is mark.Tilde unary.Complement e = refl
unary_mark_is _ _ e = absurd cc

pub unary_is : (t : Token) (op : CUnary) → unaries t ≡ Some op → t ≡ Sign (unary_mark op)
unary_is (Sign m) op e = ap (λ x. Sign x) (unary_mark_is m op e)
unary_is (Identifier n) op e = absurd cc
unary_is (Numeral n) op e = absurd cc
unary_is (Quoted w) op e = absurd cc

some_is : {A B : Type 0} (f : A → B) (m : B) (a b : A) → Some a ≡ Some b → m ≡ f a → m ≡ f b
some_is f m a b e h = let same : a ≡ b = cc in h ∙ ap f same

binary_mark_is : (m : Mark) (op : CBinary) → binary_of m ≡ Some op → m ≡ binary_mark op
binary_mark_is mark.Plus op e = some_is binary_mark mark.Plus binary.Add op e refl
binary_mark_is mark.Minus op e = some_is binary_mark mark.Minus binary.Subtract op e refl
binary_mark_is mark.Star op e = some_is binary_mark mark.Star binary.Multiply op e refl
binary_mark_is mark.Slash op e = some_is binary_mark mark.Slash binary.Divide op e refl
binary_mark_is mark.Percent op e = some_is binary_mark mark.Percent binary.Remainder op e refl
binary_mark_is mark.Equal op e = some_is binary_mark mark.Equal binary.Equal op e refl
binary_mark_is mark.NotEqual op e = some_is binary_mark mark.NotEqual binary.NotEqual op e refl
binary_mark_is mark.Less op e = some_is binary_mark mark.Less binary.Less op e refl
binary_mark_is mark.AtMost op e = some_is binary_mark mark.AtMost binary.AtMost op e refl
binary_mark_is mark.Greater op e = some_is binary_mark mark.Greater binary.Greater op e refl
binary_mark_is mark.AtLeast op e = some_is binary_mark mark.AtLeast binary.AtLeast op e refl
binary_mark_is mark.AndAnd op e = some_is binary_mark mark.AndAnd binary.And op e refl
binary_mark_is mark.OrOr op e = some_is binary_mark mark.OrOr binary.Or op e refl
binary_mark_is mark.Ampersand op e = some_is binary_mark mark.Ampersand binary.BitAnd op e refl
binary_mark_is mark.Bar op e = some_is binary_mark mark.Bar binary.BitOr op e refl
binary_mark_is mark.Caret op e = some_is binary_mark mark.Caret binary.BitXor op e refl
binary_mark_is mark.ShiftLeft op e = some_is binary_mark mark.ShiftLeft binary.ShiftLeft op e refl
binary_mark_is mark.ShiftRight op e = some_is binary_mark mark.ShiftRight binary.ShiftRight op e refl
binary_mark_is _ op e = absurd cc

pub binary_is : (t : Token) (op : CBinary) → binaries t ≡ Some op → t ≡ Sign (binary_mark op)
binary_is (Sign m) op e = ap (λ x. Sign x) (binary_mark_is m op e)
binary_is (Identifier n) op e = absurd cc
binary_is (Numeral n) op e = absurd cc
binary_is (Quoted w) op e = absurd cc

-- ---- tokens that are read

-- Of all tokens: those before an unexpected one begin a text, and after those before what is too deep something of the level 2,401 may begin.
abbrev pub FairC : {A : Type 0} → List Token → (A → List Token → Type 0) → Outcome Token A → Type 0
FairC all P o = Fair all Begins (MayBegin 2401) P o

pub mark_fair : {B : Type 0} {all : List Token} {Q : B → List Token → Type 0} {front : List Token → List Token} (m : Mark) (s : List Token) {f : Unit {0} → Parser Token B}
    → At all front s → Begins (front []) → ((a : Unit {0}) (r : List Token) → At all (λ u. front (Sign m ∷ u)) r → FairC all Q (f a r)) → FairC all Q (and_then (expect m s) f)
mark_fair m s at h k = fair_spelled (marks m) (λ _. Sign m) (mark_is m) s at h (λ a r e at1. k a r at1)

pub word_fair : {B : Type 0} {all : List Token} {Q : B → List Token → Type 0} {front : List Token → List Token} (w : QuotedWord) (s : List Token) {f : Unit {0} → Parser Token B}
    → At all front s → Begins (front []) → ((a : Unit {0}) (r : List Token) → At all (λ u. front (Quoted w ∷ u)) r → FairC all Q (f a r)) → FairC all Q (and_then (expect_word w s) f)
word_fair w s at h k = fair_spelled (words w) (λ _. Quoted w) (word_is w) s at h (λ a r e at1. k a r at1)

token_among : (front : List Token) (t : Token) (r : List Token) → AreTokens (front ++ t ∷ r) → IsToken t
token_among [] t r h = h.0
token_among (x ∷ front) t r h = token_among front t r h.1

pub name_fair : {B : Type 0} {all : List Token} {Q : B → List Token → Type 0} {front : List Token → List Token} → AreTokens all → (s : List Token) {f : List ℕ → Parser Token B}
    → At all front s → Begins (front []) → ((n : List ℕ) (r : List Token) → IsName n → At all (λ u. front (Identifier n ∷ u)) r → FairC all Q (f n r)) → FairC all Q (and_then (one_of names s) f)
name_fair {front} formed s at h k = fair_spelled names (λ n. Identifier n) name_is s at h
    (λ n r e at1. k n r (token_among (front []) (Identifier n) r (subst AreTokens (at.is ∙ at.law s ∙ ap (λ z. front [] ++ z) e) formed)) at1)

-- ---- a name

abbrev pub a_name : List ℕ
a_name = 97 ∷ []

pub a_name_is : IsName a_name
unfolding form_by
a_name_is = refl
