-- Layouts one after the other, and layouts with one part left open.
use Rattle.std.proofs.Common.{◌≡◌, ℕ, suc, ◌+◌, max, List, [], ◌∷◌, ◌++◌, length, refl, sym, ap, subst, ◌∙◌, append_assoc, arith, length-append}
use Rattle.std.proofs.lemmas.List.{map-append}
use Rattle.p2c_text.specs.declared.place.Span.{Span}
use Rattle.expr_parser.specs.Tokens.{Token, Placed, plain}
use Rattle.expr_parser.specs.Layout.{Layout, Done, Leaf, Spanned, Counted, ◌&◌, tokens_of, height_of, levels_of, IsWritten}

pub tokens_join : (a b : Layout) → tokens_of (a & b) ≡ tokens_of a ++ tokens_of b
tokens_join Done b = refl
tokens_join (Leaf t x) b = ap (λ z. t ∷ z) (tokens_join x b)
tokens_join (Spanned s i x) b = ap (λ z. tokens_of i ++ z) (tokens_join x b) ∙ sym (append_assoc (tokens_of i) (tokens_of x) (tokens_of b))
tokens_join (Counted i x) b = ap (λ z. tokens_of i ++ z) (tokens_join x b) ∙ sym (append_assoc (tokens_of i) (tokens_of x) (tokens_of b))

pub height_join : (a b : Layout) → height_of (a & b) ≡ max (height_of a) (height_of b)
height_join Done b = omega arith
height_join (Leaf t x) b = height_join x b
height_join (Spanned s i x) b = omega (arith, height_join x b)
height_join (Counted i x) b = omega (arith, height_join x b)

pub join_done : (a : Layout) → a & Done ≡ a
join_done Done = refl
join_done (Leaf t x) = ap (λ z. Leaf t z) (join_done x)
join_done (Spanned s i x) = ap (λ z. Spanned s i z) (join_done x)
join_done (Counted i x) = ap (λ z. Counted i z) (join_done x)

pub join_assoc : (a b c : Layout) → (a & b) & c ≡ a & b & c
join_assoc Done b c = refl
join_assoc (Leaf t x) b c = ap (λ z. Leaf t z) (join_assoc x b c)
join_assoc (Spanned s i x) b c = ap (λ z. Spanned s i z) (join_assoc x b c)
join_assoc (Counted i x) b c = ap (λ z. Counted i z) (join_assoc x b c)

-- ---- what is written

pub written_join : (end : Span) (a b : Layout) (s m r : List Placed) → IsWritten end a s m → IsWritten end b m r → IsWritten end (a & b) s r
written_join end Done b s m r h k = subst (λ z. IsWritten end b z r) (sym h) k
written_join end (Leaf t x) b s m r (first, more, is, same, h) k = (first, more, is, same, written_join end x b more m r h k)
written_join end (Spanned span i x) b s m r (middle, is, inside, h) k = (middle, is, inside, written_join end x b middle m r h k)
written_join end (Counted i x) b s m r (middle, inside, h) k = (middle, inside, written_join end x b middle m r h k)

-- the tokens that were taken
pub record Taken (l : Layout) (s r : List Placed) : Type 0 where
  pub tokens : List Placed
  pub is : s ≡ tokens ++ r
  pub are : plain tokens ≡ tokens_of l

joined : (a b : Layout) {s m r : List Placed} (ts : List Token) → Taken a s m → Taken b m r → ts ≡ tokens_of a ++ tokens_of b → (taken : List Placed) × (s ≡ taken ++ r) × (plain taken ≡ ts)
joined a b {r} ts h k e = (h.tokens ++ k.tokens, h.is ∙ ap (λ z. h.tokens ++ z) k.is ∙ sym (append_assoc h.tokens k.tokens r), map-append (λ (t : Placed). t.token) h.tokens k.tokens ∙ ap (λ z. z ++ plain k.tokens) h.are ∙ ap (λ z. tokens_of a ++ z) k.are ∙ sym e)

pub written_taken : (end : Span) (l : Layout) (s r : List Placed) → IsWritten end l s r → Taken l s r
written_taken end Done s r h = record { tokens = []; is = h; are = refl }
written_taken end (Leaf t x) s r (first, more, is, same, h) =
    let k = written_taken end x more r h in record { tokens = first ∷ k.tokens; is = is ∙ ap (λ z. first ∷ z) k.is; are = ap (λ z. z ∷ plain k.tokens) same ∙ ap (λ z. t ∷ z) k.are }
written_taken end (Spanned span i x) s r (middle, is, inside, h) =
    let j = joined i x (tokens_of i ++ tokens_of x) (written_taken end i s middle inside) (written_taken end x middle r h) refl in record { tokens = j.0; is = j.1; are = j.2 }
written_taken end (Counted i x) s r (middle, inside, h) =
    let j = joined i x (tokens_of i ++ tokens_of x) (written_taken end i s middle inside) (written_taken end x middle r h) refl in record { tokens = j.0; is = j.1; are = j.2 }

-- ---- levels

later : (outer before : ℕ) (i x b : Layout) → levels_of outer (before + length (tokens_of i)) (x & b) ≡ levels_of outer (before + length (tokens_of i)) x ++ levels_of outer (before + length (tokens_of i) + length (tokens_of x)) b
    → levels_of outer (before + length (tokens_of i)) (x & b) ≡ levels_of outer (before + length (tokens_of i)) x ++ levels_of outer (before + length (tokens_of i ++ tokens_of x)) b
later outer before i x b h =
    let more : before + length (tokens_of i) + length (tokens_of x) ≡ before + length (tokens_of i ++ tokens_of x) = omega (arith, length-append (tokens_of i) (tokens_of x)) in
    h ∙ ap (λ n. levels_of outer (before + length (tokens_of i)) x ++ levels_of outer n b) more

pub levels_join : (outer before : ℕ) (a b : Layout) → levels_of outer before (a & b) ≡ levels_of outer before a ++ levels_of outer (before + length (tokens_of a)) b
levels_join outer before Done b = let none : before ≡ before + 0 = omega arith in ap (λ n. levels_of outer n b) none
levels_join outer before (Leaf t x) b =
    let more : suc before + length (tokens_of x) ≡ before + suc (length (tokens_of x)) = omega arith in levels_join outer (suc before) x b ∙ ap (λ n. levels_of outer (suc before) x ++ levels_of outer n b) more
levels_join outer before (Spanned s i x) b = ap (λ z. levels_of outer before i ++ z) (later outer before i x b (levels_join outer (before + length (tokens_of i)) x b)) ∙ sym (append_assoc (levels_of outer before i) _ _)
levels_join outer before (Counted i x) b =
    ap (λ z. (before, outer) ∷ levels_of (suc outer) before i ++ z) (later outer before i x b (levels_join outer (before + length (tokens_of i)) x b)) ∙ ap (λ z. (before, outer) ∷ z) (sym (append_assoc (levels_of (suc outer) before i) _ _))

-- ---- the tokens of a layout, and then others

abbrev pub spell : Layout → List Token → List Token
spell Done rest = rest
spell (Leaf t x) rest = t ∷ spell x rest
spell (Spanned s i x) rest = spell i (spell x rest)
spell (Counted i x) rest = spell i (spell x rest)

pub spell_join : (a b : Layout) (rest : List Token) → spell (a & b) rest ≡ spell a (spell b rest)
spell_join Done b rest = refl
spell_join (Leaf t x) b rest = ap (λ z. t ∷ z) (spell_join x b rest)
spell_join (Spanned s i x) b rest = ap (λ z. spell i z) (spell_join x b rest)
spell_join (Counted i x) b rest = ap (λ z. spell i z) (spell_join x b rest)

pub spell_tokens : (a : Layout) (rest : List Token) → spell a rest ≡ tokens_of a ++ rest
spell_tokens Done rest = refl
spell_tokens (Leaf t x) rest = ap (λ z. t ∷ z) (spell_tokens x rest)
spell_tokens (Spanned s i x) rest = spell_tokens i (spell x rest) ∙ ap (λ z. tokens_of i ++ z) (spell_tokens x rest) ∙ sym (append_assoc (tokens_of i) (tokens_of x) rest)
spell_tokens (Counted i x) rest = spell_tokens i (spell x rest) ∙ ap (λ z. tokens_of i ++ z) (spell_tokens x rest) ∙ sym (append_assoc (tokens_of i) (tokens_of x) rest)
