-- The bytes determine how they are cut, and where that fails.
use Rattle.std.proofs.Common.{◌≡◌, ℕ, zero, suc, ◌+◌, ◌≤◌, ◌<◌, ◌⊎◌, inl, inr, List, [], ◌∷◌, length, take, drop, None, refl, sym, ap, subst, ◌∙◌, arith}
use Rattle.p2c_text.specs.declared.dialect.Dialect.{Dialect}
use Rattle.dialect_lexer.specs.declared.fault.LexKind.{LexKind}
use Rattle.dialect_lexer.specs.declared.fault.LexKind.TheVariants as fault
use Rattle.dialect_lexer.specs.declared.piece.PieceKind.{PieceKind}
use Rattle.dialect_lexer.specs.Forms.{form, IsLongest}
use Rattle.dialect_lexer.specs.Patterns.{pattern, Pattern, kind_number, IsFault, IsPiece}
use Rattle.dialect_lexer.specs.Tokens.{Placed, placed, Cut, nothing, piece, tokens_of}
use Rattle.dialect_lexer.specs.Laws.{TokensAreUnique, FaultsHaveNoTokens, FaultsAreUnique}
use Rattle.dialect_lexer.proofs.Cutting.{length_drop}

-- ---- the longest form is one

below_or_above : (n m : ℕ) → (n ≡ m) ⊎ ((n < m) ⊎ (m < n))
below_or_above zero zero = inl refl
below_or_above zero (suc m) = inr (inl (omega arith))
below_or_above (suc n) zero = inr (inr (omega arith))
below_or_above (suc n) (suc m) = elim (below_or_above n m) [ inl e ↦ inl (ap suc e) | inr w ↦ elim w [ inl h ↦ inr (inl (omega arith)) | inr h ↦ inr (inr (omega arith)) ] ]

not_longer : (d : Dialect) (bytes : List ℕ) (n m : ℕ) (k l : PieceKind) → IsLongest d bytes n k → IsLongest d bytes m l → ¬ (n < m)
not_longer d bytes n m k l a b h = let e = sym (a.no_longer m h b.within) ∙ b.is in absurd cc

same_length : (d : Dialect) (bytes : List ℕ) (n m : ℕ) (k l : PieceKind) → IsLongest d bytes n k → IsLongest d bytes m l → n ≡ m
same_length d bytes n m k l a b = elim (below_or_above n m) [
  | inl e ↦ e
  | inr w ↦ elim w [ inl h ↦ absurd (not_longer d bytes n m k l a b h) | inr h ↦ absurd (not_longer d bytes m n l k b a h) ]
]

same_kind : (d : Dialect) (bytes : List ℕ) (n m : ℕ) (k l : PieceKind) → n ≡ m → IsLongest d bytes n k → IsLongest d bytes m l → k ≡ l
same_kind d bytes n m k l e a b = let q = sym a.is ∙ ap (λ x. form d (take x bytes)) e ∙ b.is in cc

-- ---- one cutting

-- no piece is here
abbrev Stops : Dialect → List ℕ → Type 0
Stops d bytes = (n : ℕ) (kind : PieceKind) → ¬ IsPiece d bytes n kind

end_stops : (d : Dialect) → Stops d []
end_stops d n kind p = let a = p.longest.some in let b = p.longest.within in omega arith

same_cut : (d : Dialect) {n m : ℕ} {x y r s : List ℕ} {a b : List Placed} → Cut d n x a r → Cut d m y b s → n ≡ m → x ≡ y → Stops d r → Stops d s → (a ≡ b) × (r ≡ s)
same_cut d (nothing n x) (nothing m y) en ex hr hs = (refl, ex)
same_cut d (nothing n x) (piece m y j k more s p c) en ex hr hs = absurd (hr j k (subst (λ z. IsPiece d z j k) (sym ex) p))
same_cut d (piece n x i k more r p c) (nothing m y) en ex hr hs = absurd (hs i k (subst (λ z. IsPiece d z i k) ex p))
same_cut d (piece n x i k more r p c) (piece m y j l others s q e) en ex hr hs =
    let q' = subst (λ z. IsPiece d z j l) (sym ex) q in
    let len = same_length d x i j k l p.longest q'.longest in
    let kinds = same_kind d x i j k l len p.longest q'.longest in
    let rest = same_cut d c e (λ t. en t + len t) (λ t. drop (len t) (ex t)) hr hs in
    ((λ t. placed (kinds t) (en t) (en t + len t) ∷ rest.0 t), rest.1)

pub same_tokens : TokensAreUnique
same_tokens d bytes a b (ps, c, e) (qs, f, g) h =
    let same = same_cut d c f refl refl (end_stops d) (end_stops d) in
    e ∙ (λ t. tokens_of (h t) bytes (same.0 t)) ∙ sym g

-- ---- one fault

no_piece_at : (d : Dialect) (bytes : List ℕ) (n : ℕ) (kind : LexKind) → Pattern d kind bytes n → Stops d bytes
no_piece_at d bytes n fault.BadByte h m k p = let e = sym (h.0.no_form m) ∙ p.longest.is in absurd cc
no_piece_at d bytes n fault.OpenComment h m k p = let e = sym (p.no_pattern fault.OpenComment) ∙ h in absurd cc
no_piece_at d bytes n fault.OpenString h m k p = let e = sym (p.no_pattern fault.OpenString) ∙ h in absurd cc
no_piece_at d bytes n fault.NumberTooBig h m k p = let e = sym (p.no_pattern fault.NumberTooBig) ∙ h in absurd cc
no_piece_at d bytes n fault.RealLiteral h m k p = let e = sym (p.no_pattern fault.RealLiteral) ∙ h in absurd cc
no_piece_at d bytes n fault.IncludeFile h m k p = let e = sym (p.no_pattern fault.IncludeFile) ∙ h in absurd cc

pub no_tokens : FaultsHaveNoTokens
no_tokens d bytes list kind at (ps, c, e) (n, f) =
    let same = same_cut d c f.cut refl refl (end_stops d) (no_piece_at d (drop at bytes) n kind f.fault.begins) in
    let l = length_drop at bytes (omega (arith, f.inside)) in
    let z = ap length same.1 in
    omega (arith, l, z, f.inside)

-- a pattern of any kind but BadByte that begins is one of those that are looked for
no_pattern_at : (d : Dialect) (bytes : List ℕ) (n : ℕ) (kind : LexKind) → 1 < kind_number kind → Pattern d kind bytes n → ¬ (pattern d kind bytes ≡ None)
no_pattern_at d bytes n fault.BadByte lt h e = omega arith
no_pattern_at d bytes n fault.OpenComment lt h e = let q = sym h ∙ e in absurd cc
no_pattern_at d bytes n fault.OpenString lt h e = let q = sym h ∙ e in absurd cc
no_pattern_at d bytes n fault.NumberTooBig lt h e = let q = sym h ∙ e in absurd cc
no_pattern_at d bytes n fault.RealLiteral lt h e = let q = sym h ∙ e in absurd cc
no_pattern_at d bytes n fault.IncludeFile lt h e = let q = sym h ∙ e in absurd cc

at_least_one : (kind : LexKind) → 1 ≤ kind_number kind
at_least_one fault.BadByte = omega arith
at_least_one fault.OpenComment = omega arith
at_least_one fault.OpenString = omega arith
at_least_one fault.NumberTooBig = omega arith
at_least_one fault.RealLiteral = omega arith
at_least_one fault.IncludeFile = omega arith

no_bad_byte : (d : Dialect) (bytes : List ℕ) (n m : ℕ) (other : LexKind) → 1 < kind_number other → Pattern d other bytes m → ¬ Pattern d fault.BadByte bytes n
no_bad_byte d bytes n m other lt h bad = no_pattern_at d bytes m other lt h (bad.0.no_pattern other)

-- two kinds at one place: a lesser one is excluded by its greater one
not_less : (d : Dialect) (bytes : List ℕ) (n m : ℕ) (kind other : LexKind) → IsFault d bytes n kind → IsFault d bytes m other → ¬ (kind_number kind < kind_number other)
not_less d bytes n m fault.BadByte other a b lt = no_bad_byte d bytes n m other lt b.begins a.begins
not_less d bytes n m fault.OpenComment other a b lt = no_pattern_at d bytes n fault.OpenComment (omega arith) a.begins (b.least fault.OpenComment lt)
not_less d bytes n m fault.OpenString other a b lt = no_pattern_at d bytes n fault.OpenString (omega arith) a.begins (b.least fault.OpenString lt)
not_less d bytes n m fault.NumberTooBig other a b lt = no_pattern_at d bytes n fault.NumberTooBig (omega arith) a.begins (b.least fault.NumberTooBig lt)
not_less d bytes n m fault.RealLiteral other a b lt = no_pattern_at d bytes n fault.RealLiteral (omega arith) a.begins (b.least fault.RealLiteral lt)
not_less d bytes n m fault.IncludeFile other a b lt = no_pattern_at d bytes n fault.IncludeFile (omega arith) a.begins (b.least fault.IncludeFile lt)

same_number : (kind other : LexKind) → kind_number kind ≡ kind_number other → kind ≡ other
same_number fault.BadByte fault.BadByte e = refl
same_number fault.OpenComment fault.OpenComment e = refl
same_number fault.OpenString fault.OpenString e = refl
same_number fault.NumberTooBig fault.NumberTooBig e = refl
same_number fault.RealLiteral fault.RealLiteral e = refl
same_number fault.IncludeFile fault.IncludeFile e = refl
same_number kind other e = absurd (omega arith)

one_kind : (d : Dialect) (bytes : List ℕ) (n m : ℕ) (kind other : LexKind) → IsFault d bytes n kind → IsFault d bytes m other → kind ≡ other
one_kind d bytes n m kind other a b = same_number kind other (elim (below_or_above (kind_number kind) (kind_number other)) [
  | inl e ↦ e
  | inr w ↦ elim w [ inl h ↦ absurd (not_less d bytes n m kind other a b h) | inr h ↦ absurd (not_less d bytes m n other kind b a h) ]
])

pub same_fault : FaultsAreUnique
same_fault d bytes kind other at there (n, f) (m, g) =
    let same = same_cut d f.cut g.cut refl refl (no_piece_at d (drop at bytes) n kind f.fault.begins) (no_piece_at d (drop there bytes) m other g.fault.begins) in
    let l = length_drop at bytes (omega (arith, f.inside)) in
    let k = length_drop there bytes (omega (arith, g.inside)) in
    let z = ap length same.1 in
    (one_kind d (drop at bytes) n m kind other f.fault (subst (λ w. IsFault d w m other) (sym same.1) g.fault), omega (arith, l, k, z))
