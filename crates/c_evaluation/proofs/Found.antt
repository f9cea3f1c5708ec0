-- Numbers that are found at once.
use Rattle.std.proofs.Common.{◌≡◌, ℕ, List, w64, Bool, Option, Some, None, refl, ap, subst, ◌∙◌}
use Rattle.std.specs.Prelude.{ℤ, pos, IfSome, ◌+ℤ◌, ◌-ℤ◌, ◌*ℤ◌, FitsSigned, int_lt, int_le, not}
use Rattle.c_tree.specs.Tree as t
use Rattle.c_tree.specs.declared.operators.CBinary.{CBinary}
use Rattle.c_tree.specs.declared.operators.CBinary.TheVariants as b
use Rattle.c_tree.specs.declared.program.CDeclaration.{CDeclaration}
use Rattle.c_meaning.specs.Cells.{Int, Tree, Leaf}
use Rattle.c_meaning.specs.Answer.{Answer, Got, ◌>>=◌, when}
use Rattle.c_meaning.specs.Types.{alike, type_eq}
use Rattle.c_meaning.specs.Values.{Value, int, truth, leaf, int_cell, as_int, joined, binary, on_ints, ordered, equal, cell_eq, value_of}
use Rattle.c_meaning.specs.Evaluate.{View, value, read_cell, read_tree}
use Rattle.c_evaluation.proofs.Exact.{fits}

abbrev pub Gives : Option ℤ → Answer Value → Type 0
Gives o a = IfSome o (λ z. a ≡ Got (int z))

pub read_int : (v : View) (of : t.ObjectType) (tree : Tree) (o : Option ℤ) → of ≡ t.Int → IfSome o (λ z. tree ≡ Leaf (Int z)) → Gives o (read_tree v of tree)
unfolding read_tree leaf ◌>>=◌ read_cell value_of int
read_int v of tree None h l = tt
read_int v of tree (Some z) h l = ap (λ o. read_tree v o tree) h ∙ ap (read_tree v t.Int) l

pub written : (v : View) (n : ℕ) (z : ℤ) → pos n ≡ z → value v (t.Number n) ≡ Got (int z)
unfolding value
written v n z h = ap (λ z. Got (int z)) h

-- ---- operators

module _ (ds : List CDeclaration) (x y : ℤ) where
  pub add : FitsSigned w64 (x +ℤ y) → joined ds b.Add (int x) (Got (int y)) ≡ Got (int (x +ℤ y))
  unfolding joined binary on_ints as_int leaf int_cell int ◌>>=◌
  add h = fits (x +ℤ y) h

  pub subtract : FitsSigned w64 (x -ℤ y) → joined ds b.Subtract (int x) (Got (int y)) ≡ Got (int (x -ℤ y))
  unfolding joined binary on_ints as_int leaf int_cell int ◌>>=◌
  subtract h = fits (x -ℤ y) h

  pub multiply : FitsSigned w64 (x *ℤ y) → joined ds b.Multiply (int x) (Got (int y)) ≡ Got (int (x *ℤ y))
  unfolding joined binary on_ints as_int leaf int_cell int ◌>>=◌
  multiply h = fits (x *ℤ y) h

  pub less : joined ds b.Less (int x) (Got (int y)) ≡ Got (truth (int_lt x y))
  unfolding joined binary ordered on_ints as_int leaf int_cell int ◌>>=◌
  less = refl

  pub at_most : joined ds b.AtMost (int x) (Got (int y)) ≡ Got (truth (int_le x y))
  unfolding joined binary ordered on_ints as_int leaf int_cell int ◌>>=◌
  at_most = refl

  pub greater : joined ds b.Greater (int x) (Got (int y)) ≡ Got (truth (int_lt y x))
  unfolding joined binary ordered on_ints as_int leaf int_cell int ◌>>=◌
  greater = refl

  pub at_least : joined ds b.AtLeast (int x) (Got (int y)) ≡ Got (truth (int_le y x))
  unfolding joined binary ordered on_ints as_int leaf int_cell int ◌>>=◌
  at_least = refl

  same : equal ds (int x) (int y) ≡ cell_eq (Int x) (Int y)
  unfolding equal alike type_eq when leaf int ◌>>=◌
  same = refl

  pub equals : (r : Bool) → cell_eq (Int x) (Int y) ≡ Got r → joined ds b.Equal (int x) (Got (int y)) ≡ Got (truth r)
  unfolding joined binary ◌>>=◌
  equals r h = ap (λ a. a >>= (λ r. Got (truth r))) (same ∙ h)

  pub differs : (r : Bool) → cell_eq (Int x) (Int y) ≡ Got r → joined ds b.NotEqual (int x) (Got (int y)) ≡ Got (truth (not r))
  unfolding joined binary ◌>>=◌
  differs r h = ap (λ a. a >>= (λ r. Got (truth (not r)))) (same ∙ h)

pub compared : (ds : List CDeclaration) (op : CBinary) (x y : ℤ) (q : Bool) (o : Option ℤ) → joined ds op (int x) (Got (int y)) ≡ Got (truth q) → IfSome o (λ z. truth q ≡ int z) → Gives o (joined ds op (int x) (Got (int y)))
compared ds op x y q None h l = tt
compared ds op x y q (Some z) h l = h ∙ ap Got l

-- the operator and the numbers by other names
pub at_op : (ds : List CDeclaration) (op op' : CBinary) (x y x' y' : ℤ) (o : Option ℤ) → op' ≡ op → x ≡ x' → y ≡ y' → Gives o (joined ds op' (int x) (Got (int y))) → Gives o (joined ds op (int x') (Got (int y')))
at_op ds op op' x y x' y' o e h l g =
    subst (λ (p : CBinary). Gives o (joined ds p (int x') (Got (int y')))) e (subst (λ (z : ℤ). Gives o (joined ds op' (int z) (Got (int y')))) h (subst (λ (z : ℤ). Gives o (joined ds op' (int x) (Got (int z)))) l g))

pub two_given : (v : View) (op : CBinary) (a c : t.Expr) (x y : ℤ) (o : Option ℤ) → value v a ≡ Got (int x) → value v c ≡ Got (int y) → Gives o (joined v.declared op (int x) (Got (int y))) → Gives o (value v (t.Binary op a c))
unfolding value ◌>>=◌
two_given v op a c x y None h l g = tt
two_given v op a c x y (Some z) h l g = ap (λ r. r >>= (λ x. joined v.declared op x (value v c))) h ∙ ap (joined v.declared op (int x)) l ∙ g
