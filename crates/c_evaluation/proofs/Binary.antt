-- Operators on two values, one step after another.
use Rattle.std.proofs.Common.{◌≡◌, ℕ, ◌<◌, ◌^◌, ◌-◌, Bool, true, false, List, refl, ap, ◌∙◌, arith}
use Rattle.std.specs.Prelude.{ℤ, pos, negsuc, neg_ℤ, ◌<ℤ◌, ◌≤ℤ◌, nat_lt, not}
use Rattle.std.proofs.lemmas.Int.{ints}
use Rattle.std.proofs.lemmas.Bool.Decides.{nat_tests}
use Rattle.c_tree.specs.declared.program.CDeclaration.{CDeclaration}
use Rattle.c_meaning.specs.declared.StuckKind.{StuckKind}
use Rattle.c_meaning.specs.declared.StuckKind.TheVariants as k
use Rattle.c_meaning.specs.Cells.{Cell, Empty, Int, Word, Byte, Null, Pointer, Function, Leaf}
use Rattle.c_tree.specs.Tree as t
use Rattle.c_tree.specs.declared.operators.CUnary.TheVariants as u
use Rattle.c_tree.specs.declared.operators.CBinary.TheVariants as b
use Rattle.c_evaluation.specs.Operators.{shift_of}
use Rattle.c_meaning.specs.Answer.{Answer, Got, Bad, ◌>>=◌, when}
use Rattle.c_meaning.specs.Types.{alike, Of}
use Rattle.c_meaning.specs.Values.{Value, Typed, leaf, as_int, as_word, word, cell_eq, equal, on_ints, on_words, shift_count, shifted, shift, truth, truth_of, is_zero, exact, complement, unary, binary}
use Rattle.c_evaluation.specs.Values.{tree_in, type_in}

-- it is no number of 64 bits
abbrev pub IsOther : Cell → Type 0
IsOther (Int z) = ⊥
IsOther (Word n) = ⊥
IsOther _ = Unit {0}

pub bind_got : {A B : Type 0} (a : Answer A) (x : A) (f : A → Answer B) → a ≡ Got x → a >>= f ≡ f x
unfolding ◌>>=◌
bind_got a x f h = ap (λ a. a >>= f) h

pub bind_bad : {A B : Type 0} (a : Answer A) (kind : StuckKind) (f : A → Answer B) → a ≡ Bad kind → a >>= f ≡ Bad kind
unfolding ◌>>=◌
bind_bad a kind f h = ap (λ a. a >>= f) h

pub equal_unlike : (ds : List CDeclaration) (x y : Value) → alike ds (type_in x) (type_in y) ≡ false → equal ds x y ≡ Bad k.Mismatch
unfolding equal when
equal_unlike ds (Typed of x) (Typed of' y) h = ap (λ q. when q k.Mismatch (leaf x >>= (λ a. leaf y >>= (λ c. cell_eq a c)))) h

equal_alike : (ds : List CDeclaration) (x y : Value) → alike ds (type_in x) (type_in y) ≡ true → equal ds x y ≡ leaf (tree_in x) >>= (λ a. leaf (tree_in y) >>= (λ c. cell_eq a c))
unfolding equal when
equal_alike ds (Typed of x) (Typed of' y) h = ap (λ q. when q k.Mismatch (leaf x >>= (λ a. leaf y >>= (λ c. cell_eq a c)))) h

pub equal_left : (ds : List CDeclaration) (x y : Value) (kind : StuckKind) → alike ds (type_in x) (type_in y) ≡ true → leaf (tree_in x) ≡ Bad kind → equal ds x y ≡ Bad kind
equal_left ds x y kind h l = equal_alike ds x y h ∙ bind_bad (leaf (tree_in x)) kind _ l

pub equal_right : (ds : List CDeclaration) (x y : Value) (a : Cell) (kind : StuckKind) → alike ds (type_in x) (type_in y) ≡ true → leaf (tree_in x) ≡ Got a → leaf (tree_in y) ≡ Bad kind → equal ds x y ≡ Bad kind
equal_right ds x y a kind h l r = equal_alike ds x y h ∙ bind_got (leaf (tree_in x)) a _ l ∙ bind_bad (leaf (tree_in y)) kind _ r

pub equal_both : (ds : List CDeclaration) (x y : Value) (a b : Cell) → alike ds (type_in x) (type_in y) ≡ true → leaf (tree_in x) ≡ Got a → leaf (tree_in y) ≡ Got b → equal ds x y ≡ cell_eq a b
equal_both ds x y a b h l r = equal_alike ds x y h ∙ bind_got (leaf (tree_in x)) a _ l ∙ bind_got (leaf (tree_in y)) b _ r

module _ (f : ℤ → ℤ → Answer Value) (x y : Value) where
  pub ints_left : (kind : StuckKind) → as_int x ≡ Bad kind → on_ints f x y ≡ Bad kind
  unfolding on_ints
  ints_left kind h = bind_bad (as_int x) kind _ h

  pub ints_right : (a : ℤ) (kind : StuckKind) → as_int x ≡ Got a → as_int y ≡ Bad kind → on_ints f x y ≡ Bad kind
  unfolding on_ints
  ints_right a kind h l = bind_got (as_int x) a _ h ∙ bind_bad (as_int y) kind _ l

  pub ints_both : (a b : ℤ) → as_int x ≡ Got a → as_int y ≡ Got b → on_ints f x y ≡ f a b
  unfolding on_ints
  ints_both a b h l = bind_got (as_int x) a _ h ∙ bind_got (as_int y) b _ l

module _ (f : ℕ → ℕ → ℕ) (x y : Value) where
  pub words_left : (kind : StuckKind) → as_word x ≡ Bad kind → on_words f x y ≡ Bad kind
  unfolding on_words
  words_left kind h = bind_bad (as_word x) kind _ h

  pub words_right : (a : ℕ) (kind : StuckKind) → as_word x ≡ Got a → as_word y ≡ Bad kind → on_words f x y ≡ Bad kind
  unfolding on_words
  words_right a kind h l = bind_got (as_word x) a _ h ∙ bind_bad (as_word y) kind _ l

  pub words_both : (a b : ℕ) → as_word x ≡ Got a → as_word y ≡ Got b → on_words f x y ≡ Got (Typed (Of t.Word) (Leaf (Word (f a b))))
  unfolding on_words word
  words_both a b h l = bind_got (as_word x) a _ h ∙ bind_got (as_word y) b _ l

module _ (f : ℕ → ℕ → ℕ) (a : ℕ) where
  pub shift_within : (z : ℤ) (n : ℕ) → z ≡ pos n → n < 64 → shift_of f a z ≡ Got (Typed (Of t.Word) (Leaf (Word (f a n))))
  unfolding shift_count when ◌>>=◌ word
  shift_within z n e h =
      let below : nat_lt n 64 ≡ true = grind (arith, nat_tests) in
      ap (shift_of f a) e ∙ ap (λ q. when q k.BadShift (Got n) >>= (λ n. Got (word (f a n)))) below

  pub shift_below : (z : ℤ) → z <ℤ pos 0 → shift_of f a z ≡ Bad k.BadShift
  unfolding shift_count ◌>>=◌
  shift_below (pos n) h = absurd (omega (arith, ints))
  shift_below (negsuc n) h = refl

  pub shift_above : (z : ℤ) → pos 64 ≤ℤ z → shift_of f a z ≡ Bad k.BadShift
  unfolding shift_count when ◌>>=◌
  shift_above (pos n) h =
      let above : nat_lt n 64 ≡ false = grind (arith, ints, nat_tests) in
      ap (λ q. when q k.BadShift (Got n) >>= (λ n. Got (word (f a n)))) above
  shift_above (negsuc n) h = refl

module _ (f : ℕ → ℕ → ℕ) (x y : Value) where
  shift_is : shift f x y ≡ leaf (tree_in x) >>= (λ a. shifted f a y)
  unfolding shift
  shift_is = elim x as (λ x. shift f x y ≡ leaf (tree_in x) >>= (λ a. shifted f a y)) [ Typed of tree ↦ refl ]

  pub shift_none : (kind : StuckKind) → leaf (tree_in x) ≡ Bad kind → shift f x y ≡ Bad kind
  shift_none kind h = shift_is ∙ bind_bad (leaf (tree_in x)) kind _ h

  pub shift_cell : (c : Cell) → leaf (tree_in x) ≡ Got c → shift f x y ≡ shifted f c y
  shift_cell c h = shift_is ∙ bind_got (leaf (tree_in x)) c _ h

  pub shift_int : (z : ℤ) → leaf (tree_in x) ≡ Got (Int z) → shift f x y ≡ Bad k.BadShift
  unfolding shifted
  shift_int z h = shift_cell (Int z) h

  pub shift_other : (c : Cell) → leaf (tree_in x) ≡ Got c → IsOther c → shift f x y ≡ Bad k.Mismatch
  unfolding shifted
  shift_other Empty h o = shift_cell Empty h
  shift_other (Int z) h o = absurd o
  shift_other (Word n) h o = absurd o
  shift_other (Byte n) h o = shift_cell (Byte n) h
  shift_other Null h o = shift_cell Null h
  shift_other (Pointer n p) h o = shift_cell (Pointer n p) h
  shift_other (Function g) h o = shift_cell (Function g) h

module _ (f : ℕ → ℕ → ℕ) (n : ℕ) (y : Value) where
  pub word_count_none : (kind : StuckKind) → as_int y ≡ Bad kind → shifted f (Word n) y ≡ Bad kind
  unfolding shifted ◌>>=◌
  word_count_none kind l = ap (λ a. a >>= shift_count >>= (λ n'. Got (word (f n n')))) l

  pub word_count : (z : ℤ) → as_int y ≡ Got z → shifted f (Word n) y ≡ shift_of f n z
  unfolding shifted ◌>>=◌
  word_count z l = ap (λ a. a >>= shift_count >>= (λ n'. Got (word (f n n')))) l

module _ (x : Value) where
  pub truth_none : (kind : StuckKind) → as_int x ≡ Bad kind → truth_of x ≡ Bad kind
  unfolding truth_of
  truth_none kind h = bind_bad (as_int x) kind _ h

  pub truth_some : (z : ℤ) → as_int x ≡ Got z → truth_of x ≡ Got (truth (not (is_zero z)))
  unfolding truth_of
  truth_some z h = bind_got (as_int x) z _ h

  pub minus_none : (kind : StuckKind) → as_int x ≡ Bad kind → unary u.Minus x ≡ Bad kind
  unfolding unary
  minus_none kind h = bind_bad (as_int x) kind _ h

  pub minus_some : (z : ℤ) → as_int x ≡ Got z → unary u.Minus x ≡ exact (neg_ℤ z)
  unfolding unary
  minus_some z h = bind_got (as_int x) z _ h

  pub not_none : (kind : StuckKind) → as_int x ≡ Bad kind → unary u.Not x ≡ Bad kind
  unfolding unary
  not_none kind h = bind_bad (as_int x) kind _ h

  pub not_some : (z : ℤ) → as_int x ≡ Got z → unary u.Not x ≡ Got (truth (is_zero z))
  unfolding unary
  not_some z h = bind_got (as_int x) z _ h

  pub complement_none : (kind : StuckKind) → as_word x ≡ Bad kind → unary u.Complement x ≡ Bad kind
  unfolding unary
  complement_none kind h = bind_bad (as_word x) kind _ h

  pub complement_some : (n : ℕ) → as_word x ≡ Got n → unary u.Complement x ≡ Got (Typed (Of t.Word) (Leaf (Word (2 ^ 64 - 1 - n))))
  unfolding unary word complement
  complement_some n h = bind_got (as_word x) n _ h

module _ (ds : List CDeclaration) (x y : Value) where
  pub same_none : (kind : StuckKind) → equal ds x y ≡ Bad kind → binary ds b.Equal x y ≡ Bad kind
  unfolding binary
  same_none kind h = bind_bad (equal ds x y) kind _ h

  pub same_some : (r : Bool) → equal ds x y ≡ Got r → binary ds b.Equal x y ≡ Got (truth r)
  unfolding binary
  same_some r h = bind_got (equal ds x y) r _ h

  pub other_none : (kind : StuckKind) → equal ds x y ≡ Bad kind → binary ds b.NotEqual x y ≡ Bad kind
  unfolding binary
  other_none kind h = bind_bad (equal ds x y) kind _ h

  pub other_some : (r : Bool) → equal ds x y ≡ Got r → binary ds b.NotEqual x y ≡ Got (truth (not r))
  unfolding binary
  other_some r h = bind_got (equal ds x y) r _ h
