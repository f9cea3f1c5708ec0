-- Each word symbol that a text has is one of its dialect.
use Rattle.std.proofs.Common.{◌≡◌, ℕ, zero, suc, ◌+◌, ◌<◌, Bool, true, false, ◌&&◌, if◌then◌else◌, ◌==◌, List, [], ◌∷◌, ◌++◌, length, take, Option, Some, None, refl, sym, ap, subst, ◌∙◌, arith}
use Rattle.std.specs.Prelude.{cond, find, fold, slice_set, slice_index_or}
use Rattle.std.specs.Str.{bytes_eq, str_to_ascii_lowercase}
use Rattle.std.specs.Char.{to_ascii_lowercase}
use Rattle.std.specs.List.{AllByRecursion}
use Rattle.p2c_text.specs.declared.dialect.Dialect.{Dialect}
use Rattle.p2c_text.specs.declared.place.Span.{Span}
use Rattle.dialect_lexer.specs.Bytes.{start_of}
use Rattle.dialect_lexer.specs.Words.{word_bytes, is_word_in, words_with, word_of}
use Rattle.dialect_lexer.specs.Forms.{piece_where, named, as_piece, symbol, parenthesis, form_by, form}
use Rattle.dialect_lexer.specs.Tokens.{Placed as CutPiece, Cut, nothing, piece, span_of, is_touched, with_part_after, with_piece, with_placed}
use Rattle.dialect_lexer.specs.declared.bytes.Start.{Start}
use Rattle.dialect_lexer.specs.declared.bytes.Start.TheVariants as start
use Rattle.dialect_lexer.specs.declared.piece.PieceKind.{PieceKind}
use Rattle.dialect_lexer.specs.declared.piece.PieceKind.TheVariants as piece_kind
use Rattle.dialect_lexer.specs.declared.token.TokenKind.{TokenKind}
use Rattle.dialect_lexer.specs.declared.token.TokenKind.TheVariants as kind
use Rattle.dialect_lexer.specs.declared.token.Token.{Token as LexedToken}
use Rattle.dialect_lexer.specs.declared.token.Word.{Word as WordSymbol}
use Rattle.dialect_lexer.specs.declared.token.Symbol.{Symbol as SpecialSymbol}
use Rattle.expr_parser.specs.Tokens.{Word, token_of, spelling_of, seen, plain}
use Rattle.expr_parser.specs.Grammar.{IsToken}
use Rattle.expr_parser.proofs.FollowedParts.{and_out}

-- ---- pieces

chosen : {A : Type 0} (p : A → Bool) (y x : A) (more : Option A) → (more ≡ Some x → p x ≡ true) → (b : Bool) → p y ≡ b → cond b (Some y) more ≡ Some x → p x ≡ true
chosen p y x more later true h e = let same : y ≡ x = cc in ap p (sym same) ∙ h
chosen p y x more later false h e = later e

-- what is found passes the test
found : {A : Type 0} (p : A → Bool) (xs : List A) (x : A) → find p xs ≡ Some x → p x ≡ true
found p [] x e = absurd cc
found p (y ∷ xs) x e = chosen p y x (find p xs) (found p xs x) (p y) refl e

where_is : (b : Bool) (k other : PieceKind) → piece_where b k ≡ Some other → k ≡ other
where_is true k other e = cc
where_is false k other e = absurd cc

named_is : (o : Option WordSymbol) (w : WordSymbol) → piece_kind.Token (named o) ≡ piece_kind.Token (kind.Word w) → o ≡ Some w
named_is None w e = absurd cc
named_is (Some v) w e = cc

no_symbol : (o : Option SpecialSymbol) (w : WordSymbol) → as_piece o ≡ Some (piece_kind.Token (kind.Word w)) → ⊥
no_symbol None w e = absurd cc
no_symbol (Some s) w e = absurd cc

no_parenthesis : (d : Dialect) (more : List ℕ) (w : WordSymbol) → parenthesis d more ≡ Some (piece_kind.Token (kind.Word w)) → ⊥
unfolding parenthesis
no_parenthesis d [] w e = absurd cc
no_parenthesis d (c ∷ more) w e = by (c == 42) _ _ _ e
  where
    by : (b x y : Bool) (s : SpecialSymbol) → (if b then piece_where x piece_kind.Separator else piece_where y (piece_kind.Token (kind.Symbol s))) ≡ Some (piece_kind.Token (kind.Word w)) → ⊥
    by true x y s e = let h = where_is x _ _ e in absurd cc
    by false x y s e = let h = where_is y _ _ e in absurd cc

no_mark : (d : Dialect) (b : ℕ) (more : List ℕ) (w : WordSymbol) → symbol d b more ≡ Some (piece_kind.Token (kind.Word w)) → ⊥
unfolding symbol
no_mark d b [] w e = no_symbol _ w e
no_mark d b (c ∷ []) w e = no_symbol _ w e
no_mark d b (c ∷ x ∷ more) w e = absurd cc

word_form : (d : Dialect) (x : Start) (b : ℕ) (more : List ℕ) (w : WordSymbol) → form_by d x b more ≡ Some (piece_kind.Token (kind.Word w)) → is_word_in d w ≡ true
unfolding form_by word_of
word_form d start.Name b more w e =
    let test : WordSymbol → Bool = λ v. is_word_in d v && bytes_eq (word_bytes v) (str_to_ascii_lowercase (b ∷ more)) in
    (and_out (is_word_in d w) (bytes_eq (word_bytes w) (str_to_ascii_lowercase (b ∷ more))) (found test (words_with (to_ascii_lowercase b)) w (named_is (word_of d b more) w (where_is _ _ _ e)))).0
word_form d start.Decimal b more w e = let h = where_is _ _ _ e in absurd cc
word_form d start.Space b more w e = let h = where_is _ _ _ e in absurd cc
word_form d start.Quote b more w e = let h = where_is _ _ _ e in absurd cc
word_form d start.Brace b more w e = let h = where_is _ _ _ e in absurd cc
word_form d start.Parenthesis b more w e = absurd (no_parenthesis d more w e)
word_form d start.Hexadecimal b more w e = let h = where_is _ _ _ e in absurd cc
word_form d start.Directive b more w e = let h = where_is _ _ _ e in absurd cc
word_form d start.Code b more w e = let h = where_is _ _ _ e in absurd cc
word_form d start.Other b more w e = absurd (no_mark d b more w e)

form_fits : (d : Dialect) (s : List ℕ) (w : WordSymbol) → form d s ≡ Some (piece_kind.Token (kind.Word w)) → is_word_in d w ≡ true
form_fits d [] w e = absurd cc
form_fits d (b ∷ more) w e = word_form d (start_of d b) b more w e

-- ---- tokens

module _ (d : Dialect) where
  -- a word that the token is, is one of the dialect
  abbrev Fits : LexedToken → Type 0
  Fits t = (w : WordSymbol) → t.kind ≡ kind.Word w → is_word_in d w ≡ true

  abbrev AllFit : List LexedToken → Type 0
  AllFit ts = AllByRecursion Fits ts

  push_fits : (ts : List LexedToken) (t : LexedToken) → AllFit ts → Fits t → AllFit (ts ++ t ∷ [])
  push_fits [] t h k = (k, tt)
  push_fits (x ∷ ts) t h k = (h.0, push_fits ts t h.1 k)

  set_fits : (ts : List LexedToken) (i : ℕ) (t : LexedToken) → AllFit ts → Fits t → AllFit (slice_set ts i t)
  set_fits [] i t h k = h
  set_fits (x ∷ ts) zero t h k = (k, h.1)
  set_fits (x ∷ ts) (suc i) t h k = (h.0, set_fits ts i t h.1 k)

  part_fits : (ts : List LexedToken) (last : Option LexedToken) (place : Span) → AllFit ts → AllFit (with_part_after ts last place)
  part_fits ts None place h = push_fits ts _ h (λ w e. absurd cc)
  part_fits ts (Some last) place h = by (is_touched last place) _ _ _ (λ w e. absurd cc) (λ w e. absurd cc)
    where
      by : (b : Bool) (i : ℕ) (t u : LexedToken) → Fits t → Fits u → AllFit (if b then slice_set ts i t else (ts ++ u ∷ []))
      by true i t u k l = set_fits ts i t h k
      by false i t u k l = push_fits ts u h l

  piece_fits : (ts : List LexedToken) (k : PieceKind) (place : Span) → AllFit ts → ((w : WordSymbol) → k ≡ piece_kind.Token (kind.Word w) → is_word_in d w ≡ true) → AllFit (with_piece ts k place)
  piece_fits ts piece_kind.Separator place h k = h
  piece_fits ts piece_kind.Part place h k = part_fits ts _ place h
  piece_fits ts (piece_kind.Token kind) place h k = push_fits ts _ h (λ w e. k w (ap piece_kind.Token e))

  cut_fits : {at : ℕ} {bytes rest : List ℕ} {pieces : List CutPiece} (file : ℕ) (all : List ℕ) (ts : List LexedToken) → Cut d at bytes pieces rest → AllFit ts → AllFit (fold (with_placed file all) ts pieces)
  cut_fits file all ts (nothing at rest) h = h
  cut_fits file all ts (piece at bytes n kind more rest is cut) h =
      cut_fits file all _ cut (piece_fits ts kind (span_of file all at (at + n)) h (λ w e. form_fits d (take n bytes) w (is.longest.is ∙ ap Some e)))

  kind_is : (k : TokenKind) (spelling : List ℕ) (w : WordSymbol) → token_of k spelling ≡ Word w → k ≡ kind.Word w
  kind_is (kind.Word v) spelling w e = cc
  kind_is kind.Name spelling w e = absurd cc
  kind_is (kind.Number n) spelling w e = absurd cc
  kind_is kind.Text spelling w e = absurd cc
  kind_is (kind.Symbol s) spelling w e = absurd cc

  seen_fits : (bytes : List ℕ) (ts : List LexedToken) → AllFit ts → (w : WordSymbol) (k : ℕ) → k < length (plain (seen bytes ts)) → slice_index_or (plain (seen bytes ts)) k (Word w) ≡ Word w → is_word_in d w ≡ true
  seen_fits bytes [] h w k below e = absurd (omega (arith, below))
  seen_fits bytes (t ∷ ts) h w zero below e = h.0 w (kind_is t.kind (spelling_of bytes t.span) w e)
  seen_fits bytes (t ∷ ts) h w (suc k) below e = seen_fits bytes ts h.1 w k (omega (arith, below)) e

  pub word_of_dialect : (w : WordSymbol) → IsToken d (Word w) → is_word_in d w ≡ true
  word_of_dialect w (bytes, list, (pieces, cut, is), (k, below, e)) =
      seen_fits bytes list.tokens (subst AllFit (sym is) (cut_fits list.file bytes [] cut tt)) w k below e
