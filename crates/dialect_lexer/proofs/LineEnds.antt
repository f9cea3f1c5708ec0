-- A piece that is no separator holds no line end.
use Rattle.std.proofs.Common.{◌≡◌, ℕ, Bool, true, false, ◌&&◌, ◌==◌, List, [], ◌∷◌, length, take, Option, Some, None, refl, sym, ap, arith, inl, inr}
use Rattle.std.specs.List.{list_all}
use Rattle.p2c_text.specs.declared.dialect.Dialect.{Dialect}
use Rattle.dialect_lexer.specs.declared.bytes.Start.{Start}
use Rattle.dialect_lexer.specs.declared.bytes.Start.TheVariants as start
use Rattle.dialect_lexer.specs.declared.piece.PieceKind.{PieceKind}
use Rattle.dialect_lexer.specs.declared.piece.PieceKind.TheVariants.{Separator, Part, Token}
use Rattle.dialect_lexer.specs.declared.ends.Closer.TheVariants.{Dollar}
use Rattle.dialect_lexer.specs.declared.token.Symbol.TheVariants as mark
use Rattle.dialect_lexer.specs.declared.token.TokenKind.TheVariants as token
use Rattle.dialect_lexer.specs.Bytes.{is_line_end, is_digit, is_name_byte, is_hexadecimal_digit, start_of}
use Rattle.dialect_lexer.specs.Ends.{quote_end, closing_end, closer_of_brace, closer_of_star}
use Rattle.dialect_lexer.specs.Forms.{piece_where, is_nil, is_end, are_hexadecimal, is_code, symbol_2, symbol, parenthesis, form_by, form}
use Rattle.dialect_lexer.specs.Patterns.{IsPiece}
use Rattle.dialect_lexer.specs.Tokens.{line_ends, is_separator, line_ends_of}
use Rattle.dialect_lexer.proofs.Fronts.{decide, further_some}

all_free : (test : ℕ → Bool) (s : List ℕ) → test 10 ≡ false → list_all test s ≡ true → line_ends s ≡ 0
all_free test [] f h = refl
all_free test (b ∷ s) f h =
    elim (decide (test b)) [
      | inl e ↦ elim (decide (b == 10)) [
        | inl ten ↦ absurd (let same : b ≡ 10 = grind arith in cc)
        | inr other ↦ rw other (all_free test s f (rw e at h))
      ]
      | inr e ↦ absurd (let k = rw e at h in cc)
    ]

-- one byte more, which is no line end
one_more : (b : ℕ) (s : List ℕ) → (b == 10) ≡ false → line_ends s ≡ 0 → line_ends (b ∷ s) ≡ 0
one_more b s other h = rw other h

quote_mark : (b : ℕ) → b == 39 ≡ true → (b == 10) ≡ false
quote_mark b q = grind arith

in_line : (b : ℕ) → is_line_end b ≡ false → (b == 10) ≡ false
in_line b r = elim (decide (b == 10)) [ inl e ↦ absurd (let k = rw e at r in cc) | inr e ↦ e ]

quote_free : (s : List ℕ) (n : ℕ) → quote_end s ≡ Some n → n ≡ length s → line_ends s ≡ 0
unfolding quote_end
quote_free [] n e l = refl
quote_free (b ∷ []) n e l = elim (decide (b == 39)) [
  | inl q ↦ one_more b [] (quote_mark b q) refl
  | inr q ↦ absurd (let e' = rw q at e in cc)
]
quote_free (b ∷ c ∷ s) n e l = elim (decide (b == 39)) [
  | inl q ↦ elim (decide (c == 39)) [
    | inl r ↦
        let w = further_some 2 (quote_end s) n (rw (q, r) at e) in
        one_more b (c ∷ s) (quote_mark b q) (one_more c s (quote_mark c r) (quote_free s w.0 w.1 (omega (arith, w.2))))
    | inr r ↦ let k : 1 ≡ n = let e' = rw (q, r) at e in cc in absurd (omega arith)
  ]
  | inr q ↦ elim (decide (is_line_end b)) [
    | inl r ↦ absurd (let e' = rw (q, r) at e in cc)
    | inr r ↦
        let w = further_some 1 (quote_end (c ∷ s)) n (rw (q, r) at e) in
        one_more b (c ∷ s) (in_line b r) (quote_free (c ∷ s) w.0 w.1 (omega (arith, w.2)))
  ]
]

-- ---- the forms

and_false : (x : Bool) → (x && false) ≡ false
and_false true = refl
and_false false = refl

no_second : (b : ℕ) → symbol_2 b 10 ≡ None
no_second b = rw (and_false (b == 60), and_false (b == 62), and_false (b == 58), and_false (b == 46)) refl

symbol_free : (d : Dialect) (b : ℕ) (s : List ℕ) (kind : PieceKind) → (b == 10) ≡ false → symbol d b s ≡ Some kind → line_ends (b ∷ s) ≡ 0
unfolding symbol
symbol_free d b [] kind other e = one_more b [] other refl
symbol_free d b (c ∷ []) kind other e = elim (decide (c == 10)) [
  | inl ten ↦ absurd (let same : c ≡ 10 = grind arith in let k = rw (same, no_second b) at e in cc)
  | inr more ↦ one_more b (c ∷ []) other (one_more c [] more refl)
]
symbol_free d b (c ∷ e ∷ more) kind other h = absurd cc

where_is : (holds : Bool) (k kind : PieceKind) → piece_where holds k ≡ Some kind → (holds ≡ true) × (k ≡ kind)
where_is true k kind e = (refl, cc)
where_is false k kind e = absurd cc

-- what is a separator is none that has no line end
separator : (holds : Bool) (kind : PieceKind) → piece_where holds Separator ≡ Some kind → is_separator kind ≡ false → ⊥
separator holds kind e h = let w = where_is holds Separator kind e in let k = rw (sym w.1) at h in cc

end_is_length : (s : List ℕ) (end : Option ℕ) → is_end s end ≡ true → end ≡ Some (length s)
end_is_length s None e = absurd cc
end_is_length s (Some n) e = ap Some (grind arith)

hexadecimal_free : (s : List ℕ) → are_hexadecimal s ≡ true → line_ends s ≡ 0
hexadecimal_free [] e = refl
hexadecimal_free (b ∷ s) e = all_free is_hexadecimal_digit (b ∷ s) refl e

dot_free : (c : ℕ) (s : List ℕ) → (c == 46 && is_nil s) ≡ true → line_ends (c ∷ s) ≡ 0
dot_free c [] e = elim (decide (c == 46)) [ inl dot ↦ one_more c [] (grind arith) refl | inr other ↦ absurd (let k = rw other at e in cc) ]
dot_free c (b ∷ s) e = absurd (let k = rw (and_false (c == 46)) at e in cc)

no_name : (d : Dialect) → is_name_byte d 10 ≡ false
no_name d = refl

space : (d : Dialect) (s : List ℕ) (kind : PieceKind) → form_by d start.Space 10 s ≡ Some kind → is_separator kind ≡ false → ⊥
unfolding form_by
space d s kind e h = separator (is_nil s) kind e h

code_free : (s : List ℕ) → is_code s ≡ true → line_ends s ≡ 0
code_free [] e = refl
code_free (b ∷ s) e = elim (decide (b == 36)) [
  | inl dollar ↦ one_more b s (grind arith) (hexadecimal_free s (rw dollar at e))
  | inr other ↦ all_free is_digit (b ∷ s) refl (rw other at e)
]

parenthesis_free : (d : Dialect) (s : List ℕ) (kind : PieceKind) → parenthesis d s ≡ Some kind → is_separator kind ≡ false → line_ends s ≡ 0
unfolding parenthesis
parenthesis_free d [] kind e h = refl
parenthesis_free d (c ∷ s) kind e h = elim (decide (c == 42)) [
  | inl star ↦ absurd (separator (is_end s (closing_end (closer_of_star d) s)) kind (rw star at e) h)
  | inr other ↦ let w = where_is (c == 46 && is_nil s) (Token (token.Symbol mark.OpenBracket)) kind (rw other at e) in dot_free c s w.0
]

by_start : (d : Dialect) (x : Start) (b : ℕ) (s : List ℕ) (kind : PieceKind) → (b == 10) ≡ false → form_by d x b s ≡ Some kind → is_separator kind ≡ false → line_ends (b ∷ s) ≡ 0
unfolding form_by
by_start d start.Name b s kind other e h = one_more b s other (all_free (is_name_byte d) s (no_name d) (where_is (list_all (is_name_byte d) s) _ kind e).0)
by_start d start.Decimal b s kind other e h = one_more b s other (all_free is_digit s refl (where_is (list_all is_digit s) _ kind e).0)
by_start d start.Space b s kind other e h = absurd (separator (is_nil s) kind e h)
by_start d start.Quote b s kind other e h =
    let w = where_is (is_end s (quote_end s)) Part kind e in
    one_more b s other (quote_free s (length s) (end_is_length s (quote_end s) w.0) refl)
by_start d start.Brace b s kind other e h = absurd (separator (is_end s (closing_end (closer_of_brace d) s)) kind e h)
by_start d start.Parenthesis b s kind other e h = one_more b s other (parenthesis_free d s kind e h)
by_start d start.Hexadecimal b s kind other e h = one_more b s other (hexadecimal_free s (where_is (are_hexadecimal s) _ kind e).0)
by_start d start.Directive b s kind other e h = absurd (separator (is_end s (closing_end Dollar s)) kind e h)
by_start d start.Code b s kind other e h = one_more b s other (code_free s (where_is (is_code s) Part kind e).0)
by_start d start.Other b s kind other e h = symbol_free d b s kind other e

begins_space : (d : Dialect) → start_of d 10 ≡ start.Space
unfolding start_of
begins_space d = refl

no_line_ends : (d : Dialect) (bytes : List ℕ) (kind : PieceKind) → form d bytes ≡ Some kind → is_separator kind ≡ false → line_ends bytes ≡ 0
no_line_ends d [] kind e h = refl
no_line_ends d (b ∷ s) kind e h = elim (decide (b == 10)) [
  | inl ten ↦ absurd (let same : b ≡ 10 = grind arith in space d s kind (rw (same, begins_space d) at e) h)
  | inr other ↦ by_start d (start_of d b) b s kind other e h
]

-- the line ends of a piece are those that are counted for its kind
pub counted : (d : Dialect) (bytes : List ℕ) (n : ℕ) (kind : PieceKind) → IsPiece d bytes n kind → line_ends_of kind (take n bytes) ≡ line_ends (take n bytes)
counted d bytes n Separator p = refl
counted d bytes n Part p = sym (no_line_ends d (take n bytes) Part p.longest.is refl)
counted d bytes n (Token kind) p = sym (no_line_ends d (take n bytes) (Token kind) p.longest.is refl)
