-- Operators and casts to numbers.
use Rattle.std.proofs.Common.{◌≡◌, ℕ, List, [], ◌∷◌, refl}
use Rattle.c_tree.specs.Tree as t
use Rattle.c_tree.specs.Tree.{Expr}
use Rattle.c_tree.specs.declared.operators.CUnary.TheVariants as un
use Rattle.c_tree.specs.declared.operators.CBinary.TheVariants as op
use Rattle.c_tree.specs.declared.operators.CCast.TheVariants as to
use Rattle.c_meaning.specs.declared.StuckKind.{StuckKind}
use Rattle.c_meaning.specs.declared.StuckKind.TheVariants as k
use Rattle.c_meaning.specs.Whole.{run}
use Rattle.c_meaning.proofs.Examples.Build as e
use Rattle.c_meaning.proofs.Examples.Build.{read, num}

-- expressions with their values: each operator, and each cast to a number
valued : List (Expr × ℕ)
valued =
    (t.Binary op.Add (num 2) (num 3), 5)
    ∷ (t.Binary op.Subtract (num 7) (num 3), 4)
    ∷ (t.Binary op.Multiply (num 6) (num 7), 42)
    ∷ (t.Binary op.Equal (t.Binary op.Divide (t.Unary un.Minus (num 7)) (num 2)) (t.Unary un.Minus (num 3)), 1)
    ∷ (t.Binary op.Equal (t.Binary op.Remainder (t.Unary un.Minus (num 7)) (num 2)) (t.Unary un.Minus (num 1)), 1)
    ∷ (t.Binary op.Remainder (num 7) (t.Unary un.Minus (num 2)), 1)
    ∷ (t.Binary op.Remainder (t.Binary op.Subtract (t.Unary un.Minus (num 9223372036854775807)) (num 1)) (t.Unary un.Minus (num 1)), 0)
    ∷ (t.Binary op.Equal (num 3) (num 3), 1)
    ∷ (t.Binary op.NotEqual (num 3) (num 3), 0)
    ∷ (t.Binary op.Less (t.Unary un.Minus (num 3)) (num 3), 1)
    ∷ (t.Binary op.AtMost (num 3) (num 3), 1)
    ∷ (t.Binary op.Greater (num 3) (num 3), 0)
    ∷ (t.Binary op.AtLeast (num 3) (t.Unary un.Minus (num 4)), 1)
    ∷ (t.Binary op.And (num 3) (num 0), 0)
    ∷ (t.Binary op.And (num 3) (num 4), 1)
    ∷ (t.Binary op.Or (num 0) (num 0), 0)
    ∷ (t.Binary op.Or (num 0) (num 5), 1)
    ∷ (t.Binary op.And (num 0) (t.Binary op.Divide (num 1) (num 0)), 0)
    ∷ (t.Binary op.Or (num 2) (t.Binary op.Divide (num 1) (num 0)), 1)
    ∷ (t.Unary un.Not (num 0), 1)
    ∷ (t.Unary un.Not (num 8), 0)
    ∷ (t.Cast to.Int (t.Binary op.BitAnd (t.WordNumber 12) (t.WordNumber 10)), 8)
    ∷ (t.Cast to.Int (t.Binary op.BitOr (t.WordNumber 12) (t.WordNumber 10)), 14)
    ∷ (t.Cast to.Int (t.Binary op.BitXor (t.WordNumber 12) (t.WordNumber 10)), 6)
    ∷ (t.Binary op.Equal (t.Unary un.Complement (t.WordNumber 0)) (t.WordNumber 18446744073709551615), 1)
    ∷ (t.Cast to.Int (t.Binary op.ShiftLeft (t.WordNumber 3) (num 4)), 48)
    ∷ (t.Cast to.Int (t.Binary op.ShiftRight (t.WordNumber 200) (num 3)), 25)
    ∷ (t.Binary op.Equal (t.Binary op.ShiftLeft (t.WordNumber 18446744073709551615) (num 63)) (t.WordNumber 9223372036854775808), 1)
    ∷ (t.Binary op.Equal (t.Binary op.ShiftRight (t.WordNumber 18446744073709551615) (num 63)) (t.WordNumber 1), 1)
    ∷ (t.Binary op.Equal (t.Cast to.Word (t.Unary un.Minus (num 1))) (t.WordNumber 18446744073709551615), 1)
    ∷ (t.Binary op.Equal (t.Cast to.Int (t.WordNumber 18446744073709551615)) (t.Unary un.Minus (num 1)), 1)
    ∷ (t.Binary op.Equal (t.Cast to.Int (t.WordNumber 9223372036854775808)) (t.Binary op.Subtract (t.Unary un.Minus (num 9223372036854775807)) (num 1)), 1)
    ∷ (t.Binary op.Equal (t.Cast to.Word (t.Binary op.Subtract (t.Unary un.Minus (num 9223372036854775807)) (num 1))) (t.WordNumber 9223372036854775808), 1)
    ∷ (t.Cast to.Int (num 9), 9)
    ∷ (t.Binary op.Equal (t.Cast to.Word (t.WordNumber 9)) (t.WordNumber 9), 1)
    ∷ (t.Binary op.Equal t.Null t.Null, 1)
    ∷ (t.Binary op.NotEqual (t.WordNumber 3) (t.WordNumber 4), 1)
    ∷ (t.Unary un.Minus (t.Unary un.Minus (num 4)), 4)
    ∷ []

gives_values : e.expressions valued ≡ e.statuses valued
unfolding run valued
gives_values = refl

-- expressions that have none, with the first kind that is met
failing : List (Expr × StuckKind)
failing =
    (t.Binary op.Add (num 9223372036854775807) (num 1), k.Overflow)
    ∷ (t.Binary op.Subtract (t.Binary op.Subtract (t.Unary un.Minus (num 9223372036854775807)) (num 1)) (num 1), k.Overflow)
    ∷ (t.Binary op.Multiply (num 9223372036854775807) (num 2), k.Overflow)
    ∷ (t.Unary un.Minus (t.Binary op.Subtract (t.Unary un.Minus (num 9223372036854775807)) (num 1)), k.Overflow)
    ∷ (t.Binary op.Divide (t.Binary op.Subtract (t.Unary un.Minus (num 9223372036854775807)) (num 1)) (t.Unary un.Minus (num 1)), k.Overflow)
    ∷ (t.Binary op.Divide (num 1) (num 0), k.ZeroDivide)
    ∷ (t.Binary op.Remainder (num 1) (num 0), k.ZeroDivide)
    ∷ (t.Binary op.ShiftLeft (t.WordNumber 1) (num 64), k.BadShift)
    ∷ (t.Binary op.ShiftRight (t.WordNumber 1) (t.Unary un.Minus (num 1)), k.BadShift)
    ∷ (t.Binary op.ShiftLeft (num 1) (num 1), k.BadShift)
    ∷ (t.Binary op.ShiftLeft (t.WordNumber 1) (t.WordNumber 1), k.Mismatch)
    ∷ (t.Binary op.ShiftLeft t.Null (num 1), k.Mismatch)
    ∷ (t.Binary op.BitAnd (num 1) (num 1), k.Mismatch)
    ∷ (t.Binary op.BitOr (num 1) (num 1), k.Mismatch)
    ∷ (t.Binary op.BitXor (num 1) (num 1), k.Mismatch)
    ∷ (t.Unary un.Complement (num 1), k.Mismatch)
    ∷ (t.Binary op.Add (num 1) (t.WordNumber 1), k.Mismatch)
    ∷ (t.Binary op.Equal (num 1) (t.WordNumber 1), k.Mismatch)
    ∷ (t.Binary op.Equal (num 0) t.Null, k.Mismatch)
    ∷ (t.Binary op.Less (t.WordNumber 1) (t.WordNumber 2), k.Mismatch)
    ∷ (t.Unary un.Minus (t.WordNumber 1), k.Mismatch)
    ∷ (t.Unary un.Not t.Null, k.Mismatch)
    ∷ (t.Binary op.And (t.WordNumber 1) (num 1), k.Mismatch)
    ∷ (t.Binary op.And (num 1) (t.WordNumber 1), k.Mismatch)
    ∷ (t.Binary op.Or (num 0) t.Null, k.Mismatch)
    ∷ (t.Cast to.Int t.Null, k.Mismatch)
    ∷ (t.Cast to.VoidPointer (num 0), k.Mismatch)
    ∷ (t.Cast (to.StructPointer e.s_t) (num 0), k.Mismatch)
    ∷ (t.WordNumber 3, k.Mismatch)
    ∷ (t.Unary un.Minus (num 3), k.BadStatus)
    ∷ (read e.a, k.UnknownName)
    ∷ (t.Binary op.Add (t.Binary op.Divide (num 1) (num 0)) (read e.a), k.ZeroDivide)
    ∷ (t.Binary op.Add (t.WordNumber 1) (t.Binary op.Divide (num 1) (num 0)), k.ZeroDivide)
    ∷ []

gives_kinds : e.stuck_expressions failing ≡ e.kinds failing
unfolding run failing
gives_kinds = refl
