-- More digits make no smaller number.
use Rattle.std.proofs.Common.{◌≡◌, ℕ, ◌+◌, ◌*◌, ◌<◌, ◌≤◌, List, [], ◌∷◌, length, arith, ap, sym, None}
use Rattle.std.specs.Prelude.{nat_le}
use lib.ListN.{get_or}
use Rattle.std.proofs.lemmas.Bool.{lt-leb}
use Rattle.std.specs.Str.Parse.{digits_value_after}
use Rattle.std.specs.Char.{digit_value}
use Rattle.c_expr_parser.specs.Classes.{if_true}

grows : (n : ℕ) (digits : List ℕ) → n ≤ digits_value_after 10 n digits
grows n [] = omega arith
grows n (d ∷ more) = omega (arith, grows (n * 10 + digit_value d) more)

-- the first of the digits makes the number too large
pub too_large : (n most value d : ℕ) (digits : List ℕ) → d ≡ digit_value (get_or digits 0 0) → 1 ≤ length digits → most < n * 10 + d → value ≡ digits_value_after 10 n digits → None ≡ if_true value (nat_le value most)
too_large n most value d [] same some h e = absurd (omega (arith, some))
too_large n most value d (x ∷ more) same some h e =
    let large = grows (n * 10 + digit_value x) more in
    let first : d ≡ digit_value x = same in
    ap (if_true value) (sym (lt-leb value most (omega (arith, large, e, h, first))))
