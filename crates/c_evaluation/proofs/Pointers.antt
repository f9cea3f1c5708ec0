-- Types are one where they have as many pointers around one base.
use Rattle.std.proofs.Common.{◌≡◌, ◌≢◌, ℕ, zero, suc, false, refl, ap}
use Rattle.c_tree.specs.types.View.{pointers}
use Rattle.c_meaning.specs.Types.{type_eq}
use Rattle.c_evaluation.specs.declared.types.Base.{Base}
use Rattle.c_evaluation.specs.declared.types.Base.TheVariants as b
use Rattle.c_evaluation.specs.Types.{base_of}

pub same_pointers : (m n : ℕ) (x y : Base) → m ≡ n → type_eq (pointers m (base_of x)) (pointers n (base_of y)) ≡ type_eq (base_of x) (base_of y)
unfolding type_eq
same_pointers zero zero x y e = refl
same_pointers zero (suc n) x y e = cc
same_pointers (suc m) zero x y e = cc
same_pointers (suc m) (suc n) x y e = same_pointers m n x y (cc)

pub other_pointers : (m n : ℕ) (x y : Base) → m ≢ n → type_eq (pointers m (base_of x)) (pointers n (base_of y)) ≡ false
unfolding type_eq
other_pointers zero zero x y d = absurd (d refl)
other_pointers zero (suc n) b.Int y d = refl
other_pointers zero (suc n) b.Word y d = refl
other_pointers zero (suc n) b.Byte y d = refl
other_pointers zero (suc n) b.VoidPointer y d = refl
other_pointers zero (suc n) (b.Struct s) y d = refl
other_pointers zero (suc n) (b.Named s) y d = refl
other_pointers (suc m) zero x b.Int d = refl
other_pointers (suc m) zero x b.Word d = refl
other_pointers (suc m) zero x b.Byte d = refl
other_pointers (suc m) zero x b.VoidPointer d = refl
other_pointers (suc m) zero x (b.Struct s) d = refl
other_pointers (suc m) zero x (b.Named s) d = refl
other_pointers (suc m) (suc n) x y d = other_pointers m n x y (λ e. d (ap suc e))
