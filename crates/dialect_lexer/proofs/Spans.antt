-- The places of tokens lie in their bytes.
use Rattle.std.proofs.Common.{◌≡◌, ℕ, ◌+◌, ◌-◌, ◌≤◌, Bool, true, false, List, [], length, Option, Some, None, refl, sym, subst, ◌∙◌, arith, inl, inr}
use Rattle.std.specs.Prelude.{◌==◌, ◌&&◌, fold, slice_get, All}
use Rattle.std.proofs.lemmas.List.Elements.{All-nil, All-push, All-set, All-same, All-get_or}
use Rattle.std.proofs.lemmas.Option.{slice_get_cases}
use Rattle.p2c_text.specs.declared.dialect.Dialect.{Dialect}
use Rattle.p2c_text.specs.declared.place.Span.{Span}
use Rattle.dialect_lexer.specs.declared.piece.PieceKind.{PieceKind}
use Rattle.dialect_lexer.specs.declared.piece.PieceKind.TheVariants as piece_kind
use Rattle.dialect_lexer.specs.declared.token.Token.{Token}
use Rattle.dialect_lexer.specs.declared.token.TokenKind.{TokenKind}
use Rattle.dialect_lexer.specs.declared.token.TokenKind.TheVariants as token
use Rattle.dialect_lexer.specs.Tokens.{Placed, placed, Cut, nothing, piece, is_text, is_touched, with_token, with_part_after, with_piece, with_placed, tokens_of}
use Rattle.dialect_lexer.specs.Laws.{IsInside, TokensAreInside}
use Rattle.dialect_lexer.proofs.Cutting.{length_drop}
use Rattle.dialect_lexer.proofs.Fronts.{decide}

record Lies (file size : ℕ) (place : Span) : Type 0 where
  in_file : place.file ≡ file
  ordered : place.start ≤ place.end
  within : place.end ≤ size

token_inside : (file size : ℕ) (before : List Token) (kind : TokenKind) (place : Span) → All (IsInside file size) before → Lies file size place → All (IsInside file size) (with_token before kind place)
token_inside file size before kind place h l = All-push (IsInside file size) before (record { kind = kind; span = place }) h (record { in_file = l.in_file; ordered = l.ordered; within = l.within })

same_place : (a b : ℕ) → (a == b) ≡ true → a ≡ b
same_place a b h = grind arith

touched : (t : Token) (place : Span) → is_touched t place ≡ true → t.span.end ≡ place.start
touched t place h = same_place t.span.end place.start (second (is_text t.kind) (t.span.end == place.start) h)
  where
    second : (x y : Bool) → (x && y) ≡ true → y ≡ true
    second true y e = e
    second false y e = absurd cc

last_inside : (file size : ℕ) (before : List Token) (t : Token) → slice_get before (length before - 1) ≡ Some t → All (IsInside file size) before → IsInside file size t
last_inside file size before t e h = elim (slice_get_cases before (length before - 1)).1 [
  | inl w ↦
      let g = sym w.2 ∙ e in
      let same : w.0 ≡ t = cc in
      subst (λ z. IsInside file size z) (w.3 ∙ same) (All-get_or (IsInside file size) before (length before - 1) w.0 w.1 h)
  | inr w ↦ let g = sym w.1 ∙ e in absurd cc
]

joined_inside : (file size : ℕ) (t : Token) (place : Span) → is_touched t place ≡ true → IsInside file size t → Lies file size place → IsInside file size (record { kind = token.Text; span = record t.span { end = place.end } })
joined_inside file size t place q i l = let same = touched t place q in record { in_file = i.in_file; ordered = omega (arith, same, i.ordered, l.ordered); within = l.within }

part_inside : (file size : ℕ) (before : List Token) (last : Option Token) (place : Span) → slice_get before (length before - 1) ≡ last → All (IsInside file size) before → Lies file size place
    → All (IsInside file size) (with_part_after before last place)
part_inside file size before None place e h l = token_inside file size before token.Text place h l
part_inside file size before (Some t) place e h l = elim (decide (is_touched t place)) [
  | inl q ↦ rw q (All-set (IsInside file size) before (length before - 1) (record { kind = token.Text; span = record t.span { end = place.end } })
      (joined_inside file size t place q (last_inside file size before t e h) l) h)
  | inr q ↦ rw q (token_inside file size before token.Text place h l)
]

piece_inside : (file size : ℕ) (before : List Token) (kind : PieceKind) (place : Span) → All (IsInside file size) before → Lies file size place → All (IsInside file size) (with_piece before kind place)
piece_inside file size before piece_kind.Separator place h l = h
piece_inside file size before piece_kind.Part place h l = part_inside file size before (slice_get before (length before - 1)) place refl h l
piece_inside file size before (piece_kind.Token kind) place h l = token_inside file size before kind place h l

cut_inside : (d : Dialect) (file : ℕ) (bytes : List ℕ) {at : ℕ} {whole rest : List ℕ} {pieces : List Placed} → Cut d at whole pieces rest → at + length whole ≡ length bytes → (before : List Token)
    → All (IsInside file (length bytes)) before → All (IsInside file (length bytes)) (fold (with_placed file bytes) before pieces)
cut_inside d file bytes (nothing at rest) e before h = h
cut_inside d file bytes (piece at whole n kind more rest p c) e before h =
    let l = length_drop n whole p.longest.within in
    cut_inside d file bytes c (omega arith) (with_placed file bytes before (placed kind at (at + n)))
    (piece_inside file (length bytes) before kind _ h (record { in_file = refl; ordered = omega arith; within = omega (arith, p.longest.within) }))

pub inside : TokensAreInside
inside d bytes list (pieces, c, e) = All-same (IsInside list.file (length bytes)) list.tokens (tokens_of list.file bytes pieces) e (cut_inside d list.file bytes c (omega arith) [] (All-nil (IsInside list.file (length bytes))))
