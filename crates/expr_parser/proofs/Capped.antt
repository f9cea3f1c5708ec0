-- Numbers after `#` may stop at 255 as they are read.
use Rattle.std.proofs.Common.{◌≡◌, ℕ, ◌+◌, ◌*◌, Bool, true, false, ◌||◌, ◌==◌, if◌then◌else◌, List, [], ◌∷◌, ◌++◌, map, refl, sym, ap, ◌∙◌, append_assoc, arith}
use Rattle.std.proofs.lemmas.List.{map-append}
use Rattle.dialect_lexer.specs.Bytes.{base_number, digit_value}
use Rattle.dialect_lexer.specs.declared.bytes.Base.{Base}
use Rattle.dialect_lexer.specs.declared.bytes.Base.TheVariants.{Decimal, Hexadecimal}
use Rattle.dialect_lexer.specs.Values.{Reading, Before, Inside, Quoted, Coded, next_reading, completed, bytes_from}
use Rattle.expr_parser.specs.Texts.{cap, capped}

grown : (base : Base) (v w d : ℕ) → cap v ≡ cap w → cap (v * base_number base + d) ≡ cap (w * base_number base + d)
grown Decimal v w d h = omega arith
grown Hexadecimal v w d h = omega arith

same_code : (base : Base) (v w : ℕ) (bytes : List ℕ) → cap v ≡ cap w → map cap (bytes_from (Coded base v) bytes) ≡ map cap (bytes_from (Coded base w) bytes)
unfolding bytes_from
same_code base v w [] h = ap (λ n. n ∷ []) h
same_code base v w (b ∷ more) h = by (same_code base (v * base_number base + digit_value b) (w * base_number base + digit_value b) more (grown base v w (digit_value b) h)) (b == 39) (b == 35) (b == 36)
  where
    by : map cap (bytes_from (Coded base (v * base_number base + digit_value b)) more) ≡ map cap (bytes_from (Coded base (w * base_number base + digit_value b)) more) → (quote hash dollar : Bool)
        → map cap ((if quote || hash then v ∷ [] else []) ++ bytes_from (if quote then Inside else if hash then Coded Decimal 0 else (if dollar then Coded Hexadecimal 0 else Coded base (v * base_number base + digit_value b))) more)
        ≡ map cap ((if quote || hash then w ∷ [] else []) ++ bytes_from (if quote then Inside else if hash then Coded Decimal 0 else (if dollar then Coded Hexadecimal 0 else Coded base (w * base_number base + digit_value b))) more)
    by same true hash dollar = ap (λ n. n ∷ map cap (bytes_from Inside more)) h
    by same false true dollar = ap (λ n. n ∷ map cap (bytes_from (Coded Decimal 0) more)) h
    by same false false true = refl
    by same false false false = same

same_capped : (r : Reading) (bytes : List ℕ) → map cap (bytes_from r bytes) ≡ map cap (bytes_from (capped r) bytes)
same_capped Before bytes = refl
same_capped Inside bytes = refl
same_capped Quoted bytes = refl
same_capped (Coded base v) bytes = same_code base v (cap v) bytes (omega arith)

-- one byte more
pub one_more : (r : Reading) (b : ℕ) (more : List ℕ) → map cap (bytes_from r (b ∷ more)) ≡ map cap (completed r b) ++ map cap (bytes_from (capped (next_reading r b)) more)
unfolding bytes_from
one_more r b more = map-append cap (completed r b) (bytes_from (next_reading r b) more) ∙ ap (λ x. map cap (completed r b) ++ x) (same_capped (next_reading r b) more)

-- a byte was read, and what it completes is put behind the others
pub pushed : (out new whole : List ℕ) (r next : Reading) (b : ℕ) (rest more : List ℕ) → out ++ map cap (bytes_from r rest) ≡ whole → rest ≡ b ∷ more → new ≡ out ++ map cap (completed r b) → next ≡ capped (next_reading r b)
    → new ++ map cap (bytes_from next more) ≡ whole
pushed out new whole r next b rest more before is put step =
    ap (λ z. z ++ map cap (bytes_from next more)) put ∙ ap (λ z. (out ++ map cap (completed r b)) ++ map cap (bytes_from z more)) step
    ∙ append_assoc out (map cap (completed r b)) (map cap (bytes_from (capped (next_reading r b)) more)) ∙ ap (λ z. out ++ z) (sym (one_more r b more)) ∙ ap (λ z. out ++ map cap (bytes_from r z)) (sym is) ∙ before
