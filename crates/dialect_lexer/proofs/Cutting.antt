-- One more piece behind those that are cut.
use Rattle.std.proofs.Common.{◌≡◌, ℕ, zero, suc, ◌+◌, ◌-◌, get_or, ◌≤◌, List, [], ◌∷◌, ◌++◌, length, take, drop, refl, sym, ap, subst, ◌∙◌, add_assoc, arith}
use Rattle.std.specs.Prelude.{◌==◌, cond, fold, count_by}
use Rattle.std.proofs.Math.Seq.{take-add, take-length}
use Rattle.std.proofs.lemmas.List.{drop-drop}
use Rattle.std.proofs.lemmas.List.Sums.{sum_by-append}
use Rattle.p2c_text.specs.declared.dialect.Dialect.{Dialect}
use Rattle.dialect_lexer.specs.declared.piece.PieceKind.{PieceKind}
use Rattle.dialect_lexer.specs.Patterns.{IsPiece}
use Rattle.dialect_lexer.specs.declared.token.Token.{Token}
use Rattle.dialect_lexer.specs.Tokens.{Placed, placed, Cut, nothing, piece, line_at, with_piece, with_placed, tokens_of}

pub length_drop : (n : ℕ) (s : List ℕ) → n ≤ length s → n + length (drop n s) ≡ length s
length_drop zero s h = omega arith
length_drop (suc n) [] h = absurd (omega arith)
length_drop (suc n) (b ∷ s) h = let e = length_drop n s (omega arith) in omega arith

pub cut_then : (d : Dialect) (at : ℕ) (bytes : List ℕ) (pieces : List Placed) (rest : List ℕ) → Cut d at bytes pieces rest
    → (here n : ℕ) (kind : PieceKind) → here + length rest ≡ at + length bytes → IsPiece d rest n kind → Cut d at bytes (pieces ++ placed kind here (here + n) ∷ []) (drop n rest)
cut_then d at bytes pieces rest (nothing start after) here n kind e h =
    let same : start ≡ here = omega arith in
    subst (λ x. Cut d start after (placed kind x (x + n) ∷ []) (drop n after)) same (piece start after n kind [] (drop n after) h (nothing (start + n) (drop n after)))
cut_then d at bytes pieces rest (piece start whole m first more after p c) here n kind e h =
    let l = length_drop m whole p.longest.within in
    piece start whole m first (more ++ placed kind here (here + n) ∷ []) (drop n after) p (cut_then d (start + m) (drop m whole) more after c here n kind (omega arith) h)

pub fold_then : {A B : Type 0} (f : B → A → B) (a : B) (xs : List A) (x : A) → fold f a (xs ++ x ∷ []) ≡ f (fold f a xs) x
fold_then f a [] x = refl
fold_then f a (y ∷ xs) x = fold_then f (f a y) xs x

pub drop_then : (at n : ℕ) (bytes : List ℕ) → drop n (drop at bytes) ≡ drop (at + n) bytes
drop_then at n bytes = drop-drop n at bytes

pub line_then : (bytes : List ℕ) (at n : ℕ) → line_at bytes (at + n) ≡ line_at bytes at + count_by (λ b. b == 10) (take n (drop at bytes))
line_then bytes at n =
    let e = sum_by-append (λ b. cond (b == 10) 1 0) (take at bytes) (take n (drop at bytes)) in
    let t = ap (λ w. 1 + count_by (λ b. b == 10) w) (take-add at n bytes) in
    t ∙ ap (λ k. 1 + k) e ∙ sym (add_assoc 1 (count_by (λ b. b == 10) (take at bytes)) (count_by (λ b. b == 10) (take n (drop at bytes))))

-- bytes that begin with one, as a pattern takes them apart
pub first_and_after : (bytes : List ℕ) → 1 ≤ length bytes → get_or bytes 0 0 ∷ take (length bytes - 1) (drop 1 bytes) ≡ bytes
first_and_after [] h = absurd (omega arith)
first_and_after (b ∷ more) h = ap (λ w. b ∷ w) (rw (front (length more)) (take-length more))
  where
    front : (n : ℕ) → suc n - 1 ≡ n
    front n = omega arith

-- one more turn: the piece at the front of the rest is put behind those that are cut
pub turn : (d : Dialect) (file : ℕ) (bytes rest others : List ℕ) (tokens more : List Token) (at line n : ℕ) (kind : PieceKind)
    → (pieces : List Placed) × Cut d 0 bytes pieces rest × (tokens ≡ tokens_of file bytes pieces)
    → at + length rest ≡ length bytes → line ≡ line_at bytes at → IsPiece d rest n kind
    → more ≡ with_piece tokens kind (record { file = file; start = at; end = at + n; line = line })
    → others ≡ drop n rest
    → (pieces : List Placed) × Cut d 0 bytes pieces others × (more ≡ tokens_of file bytes pieces)
turn d file bytes rest others tokens more at line n kind (pieces, cut, known) within lines h put left = (
  pieces ++ placed kind at (at + n) ∷ [],
  subst (λ z. Cut d 0 bytes (pieces ++ placed kind at (at + n) ∷ []) z) (sym left) (cut_then d 0 bytes pieces rest cut at n kind (omega arith) h),
  put ∙ ap (λ l. with_piece tokens kind (record { file = file; start = at; end = at + n; line = l })) lines
      ∙ ap (λ t. with_placed file bytes t (placed kind at (at + n))) known
      ∙ sym (fold_then (with_placed file bytes) [] pieces (placed kind at (at + n))),
)
