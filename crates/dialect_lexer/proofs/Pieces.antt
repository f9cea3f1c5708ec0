-- What is cut off is the longest form here, with no pattern, or the fault of the least pattern.
use Rattle.std.proofs.Common.{◌≡◌, ℕ, zero, suc, ◌+◌, ◌≤◌, ◌<◌, Bool, true, false, ◌&&◌, ◌==◌, if◌then◌else◌, List, ◌∷◌, length, take, Some, None, Ok, Err, refl, sym, ap, subst, ◌∙◌, arith, inl, inr}
use Rattle.p2c_text.specs.declared.dialect.Dialect.{Dialect}
use Rattle.dialect_lexer.specs.Dialects.{is_turbo, is_hp}
use Rattle.dialect_lexer.specs.declared.bytes.Start.{Start}
use Rattle.dialect_lexer.specs.declared.bytes.Start.TheVariants as start
use Rattle.dialect_lexer.specs.declared.fault.LexKind.{LexKind}
use Rattle.dialect_lexer.specs.declared.fault.LexKind.TheVariants as fault
use Rattle.dialect_lexer.specs.declared.piece.PieceKind.{PieceKind}
use Rattle.dialect_lexer.specs.Bytes.{is_letter, is_digit, is_space, start_dollar, start_of}
use Rattle.dialect_lexer.specs.Forms.{form}
use Rattle.dialect_lexer.specs.Patterns.{IsBadByte, Pattern, IsPiece, IsFront}
use Rattle.dialect_lexer.specs.Cut.{Found, cut_by, cut}
use Rattle.dialect_lexer.proofs.Fronts.{decide}
use Rattle.dialect_lexer.proofs.Meets.{IsPieceBy, IsBadBy, PatternBy, MeetsBy, name_meets, space_meets, quote_meets, brace_meets, directive_meets, parenthesis_meets, symbol_meets}
use Rattle.dialect_lexer.proofs.Numbers.{decimal_meets, hexadecimal_meets, code_meets}

-- what is known of the byte with which numbers begin
abbrev StartFits : ℕ → Start → Type 0
StartFits b start.Name = Unit {0}
StartFits b start.Decimal = is_digit b ≡ true
StartFits b start.Space = Unit {0}
StartFits b start.Quote = Unit {0}
StartFits b start.Brace = Unit {0}
StartFits b start.Parenthesis = Unit {0}
StartFits b start.Hexadecimal = (b == 36) ≡ true
StartFits b start.Directive = Unit {0}
StartFits b start.Code = Unit {0}
StartFits b start.Other = Unit {0}

dollar_fits : (d : Dialect) (b : ℕ) → (b == 36) ≡ true → StartFits b (start_dollar d)
dollar_fits d b h = elim (decide (is_turbo d)) [
  | inl q ↦ rw q h
  | inr q ↦ elim (decide (is_hp d)) [ inl r ↦ rw (q, r) tt | inr r ↦ rw (q, r) tt ]
]

-- a choice fits where each of its sides does
choice_fits : (b : ℕ) (x : Bool) (p q : Start) → (x ≡ true → StartFits b p) → StartFits b q → StartFits b (if x then p else q)
choice_fits b true p q h k = h refl
choice_fits b false p q h k = k

start_fits : (d : Dialect) (b : ℕ) → StartFits b (start_of d b)
unfolding start_of
start_fits d b =
    choice_fits b (is_letter b) start.Name _ (λ e. tt)
    (choice_fits b (is_digit b) start.Decimal _ (λ e. e)
    (choice_fits b (is_space b) start.Space _ (λ e. tt)
    (choice_fits b (b == 39) start.Quote _ (λ e. tt)
    (choice_fits b (b == 123) start.Brace _ (λ e. tt)
    (choice_fits b (b == 40) start.Parenthesis _ (λ e. tt)
    (choice_fits b (b == 36) (start_dollar d) _ (λ e. dollar_fits d b e)
    (choice_fits b (b == 35 && is_turbo d) start.Code start.Other (λ e. tt) tt)))))))

by_start : (d : Dialect) (b : ℕ) (s : List ℕ) (x : Start) → StartFits b x → MeetsBy d x b s (cut_by d x b s)
unfolding cut_by
by_start d b s start.Name h = name_meets d b s
by_start d b s start.Decimal h = decimal_meets d b s h
by_start d b s start.Space h = space_meets d b s
by_start d b s start.Quote h = quote_meets d b s
by_start d b s start.Brace h = brace_meets d b s
by_start d b s start.Parenthesis h = parenthesis_meets d b s
by_start d b s start.Hexadecimal h = hexadecimal_meets d b s h
by_start d b s start.Directive h = directive_meets d b s
by_start d b s start.Code h = code_meets d b s
by_start d b s start.Other h = symbol_meets d b s

-- ---- from what begins with the first byte to all bytes

piece_of : (d : Dialect) (b : ℕ) (s : List ℕ) (j : ℕ) (kind : PieceKind) → IsPieceBy d (start_of d b) b s j kind → IsPiece d (b ∷ s) (suc j) kind
piece_of d b s j kind h = record {
  longest = record { some = omega arith; within = omega (arith, h.within); is = h.is; no_longer = longer };
  no_pattern = h.no_pattern;
}
  where
    longer : (m : ℕ) → suc j < m → m ≤ suc (length s) → form d (take m (b ∷ s)) ≡ None
    longer zero lt le = absurd (omega arith)
    longer (suc m) lt le = h.no_longer m (omega arith) (omega arith)

bad_of : (d : Dialect) (b : ℕ) (s : List ℕ) → IsBadBy d (start_of d b) b s → IsBadByte d (b ∷ s)
bad_of d b s h = record { some = omega arith; no_form = none; no_pattern = h.no_pattern }
  where
    none : (m : ℕ) → form d (take m (b ∷ s)) ≡ None
    none zero = refl
    none (suc m) = h.no_form m

pattern_of : (d : Dialect) (b : ℕ) (s : List ℕ) (j n : ℕ) (kind : LexKind) → n ≡ 1 + j → PatternBy d kind (start_of d b) b s j → Pattern d kind (b ∷ s) n
pattern_of d b s j n fault.BadByte e h = (bad_of d b s h.0, omega (arith, h.1))
pattern_of d b s j n fault.OpenComment e h = h ∙ ap Some (sym e)
pattern_of d b s j n fault.OpenString e h = h ∙ ap Some (sym e)
pattern_of d b s j n fault.NumberTooBig e h = h ∙ ap Some (sym e)
pattern_of d b s j n fault.RealLiteral e h = h ∙ ap Some (sym e)
pattern_of d b s j n fault.IncludeFile e h = h ∙ ap Some (sym e)

front_of : (d : Dialect) (b : ℕ) (s : List ℕ) (found : Found) → MeetsBy d (start_of d b) b s found → IsFront d (b ∷ s) found
front_of d b s (Ok p) (j, e, h) = let k : suc j ≡ p.len = omega arith in subst (λ n. IsPiece d (b ∷ s) n p.kind) k (piece_of d b s j p.kind h)
front_of d b s (Err f) (j, e, h) = record { begins = pattern_of d b s j f.len f.kind e h.begins; within = omega (arith, h.within); least = h.least }

pub cut_front : (d : Dialect) (b : ℕ) (s : List ℕ) → IsFront d (b ∷ s) (cut d b s)
cut_front d b s = front_of d b s (cut d b s) (by_start d b s (start_of d b) (start_fits d b))
