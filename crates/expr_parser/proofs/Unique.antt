-- Where a parser reads each tree that is written to the end of the tokens, tokens have one tree, and the tree of the longest run is read.
use Rattle.std.proofs.Common.{◌≡◌, ℕ, zero, suc, ◌-◌, max, ◌<◌, Bool, true, false, List, [], ◌∷◌, ◌++◌, length, Option, None, Ok, Err, refl, sym, ap, subst, ◌∙◌, append_assoc, arith, length-append, lt-ltb}
use Rattle.std.specs.Prelude.{nat_lt, slice_get}
use Rattle.std.specs.Option.{option_map}
use Rattle.std.proofs.lemmas.Bool.{le-ltb, ltb-true, ltb-false}
use Rattle.std.proofs.lemmas.List.{append_cancel_right}
use Rattle.p2c_text.specs.declared.dialect.Dialect.{Dialect}
use Rattle.p2c_text.specs.declared.place.Span.{Span}
use Rattle.token_parsing.specs.declared.refusal.Refusal.TheVariants.{Unexpected, TooDeep}
use Rattle.token_parsing.specs.Parser.{Outcome, Parser}
use Rattle.expr_parser.specs.Tokens.{Placed, plain}
use Rattle.expr_parser.specs.Spans.{next_place, last_of, up_to_end, span_between}
use Rattle.expr_parser.specs.Layout.{Layout, Done, Leaf, Spanned, Counted, tokens_of, IsWritten}
use Rattle.expr_parser.specs.Grammar.{AreTokens}
use Rattle.expr_parser.specs.Text.{IsDerived, IsLongest}
use Rattle.expr_parser.proofs.Layouts.{spell, written_taken}
use Rattle.expr_parser.proofs.Followed.{Until, Along, Followed}
use Rattle.expr_parser.proofs.FollowedParts.{Part}
use Rattle.expr_parser.proofs.Spots.{Answer, Reads}
use Rattle.expr_parser.proofs.Longest.{tree_of, plain_join, longer_front, read_is_longest, unexpected_is_after, too_deep_is_deep}

-- ---- what is written up to some rest is written without it to the end, where the next token of the rest is

front_get : (u rest : List Placed) (i : ℕ) → i < length u → slice_get (u ++ rest) i ≡ slice_get u i
front_get [] rest i h = absurd (omega (arith, h))
front_get (t ∷ u) rest zero h = refl
front_get (t ∷ u) rest (suc i) h = front_get u rest i (omega (arith, h))

abbrev last_by : Bool → List Placed → ℕ → Option Placed
last_by b all n = elim b [ true ↦ slice_get all n | false ↦ None ]

last_cut : (u w rest : List Placed) → last_of (u ++ rest) (w ++ rest) ≡ last_of u w
last_cut u w rest = by (nat_lt (length w) (length u)) refl
  where
    by : (b : Bool) → nat_lt (length w) (length u) ≡ b → last_of (u ++ rest) (w ++ rest) ≡ last_of u w
    by true e =
        let below = ltb-true (length w) (length u) e in
        let a = length-append u rest in let c = length-append w rest in
        let long : nat_lt (length (w ++ rest)) (length (u ++ rest)) ≡ true = lt-ltb (length (w ++ rest)) (length (u ++ rest)) (omega (arith, a, c, below)) in
        let same : length (u ++ rest) - length (w ++ rest) - 1 ≡ length u - length w - 1 = omega (arith, a, c) in
        ap (λ b. last_by b (u ++ rest) (length (u ++ rest) - length (w ++ rest) - 1)) long ∙ ap (λ n. slice_get (u ++ rest) n) same ∙ front_get u rest (length u - length w - 1) (omega (arith, below))
        ∙ ap (λ b. last_by b u (length u - length w - 1)) (sym e)
    by false e =
        let over = ltb-false (length w) (length u) e in
        let a = length-append u rest in let c = length-append w rest in
        let none : nat_lt (length (w ++ rest)) (length (u ++ rest)) ≡ false = le-ltb (length (w ++ rest)) (length (u ++ rest)) (omega (arith, a, c, over)) in
        ap (λ b. last_by b (u ++ rest) (length (u ++ rest) - length (w ++ rest) - 1)) none ∙ ap (λ b. last_by b u (length u - length w - 1)) (sym e)

place_cut : (end : Span) (u rest : List Placed) → next_place end (u ++ rest) ≡ next_place (next_place end rest) u
place_cut end [] rest = refl
place_cut end (t ∷ u) rest = refl

span_cut : (end : Span) (u w rest : List Placed) → span_between end (u ++ rest) (w ++ rest) ≡ span_between (next_place end rest) u w
unfolding span_between
span_cut end u w rest =
    ap (λ z. up_to_end z (option_map (λ (t : Placed). t.span.end) (last_of (u ++ rest) (w ++ rest)))) (place_cut end u rest)
    ∙ ap (λ z. up_to_end (next_place (next_place end rest) u) (option_map (λ (t : Placed). t.span.end) z)) (last_cut u w rest)

-- the tokens of a part, and then those of another
front_of : (end : Span) (x : Layout) (m r v rest : List Placed) → IsWritten end x m r → r ≡ v ++ rest → (w : List Placed) × (m ≡ w ++ rest)
front_of end x m r v rest h e = let t = written_taken end x m r h in (t.tokens ++ v, t.is ∙ ap (λ z. t.tokens ++ z) e ∙ sym (append_assoc t.tokens v rest))

written_cut : (end : Span) (rest : List Placed) (l : Layout) (u v s r : List Placed) → s ≡ u ++ rest → r ≡ v ++ rest → IsWritten end l s r → IsWritten (next_place end rest) l u v
written_cut end rest Done u v s r is_s is_r h = append_cancel_right u v rest (sym is_s ∙ h ∙ is_r)
written_cut end rest (Leaf t x) [] v s r is_s is_r (first, more, is, same, h) =
    let (w, is_more) = front_of end x more r v rest h is_r in let long = length-append w rest in let a = ap length is_more in let b = ap length (sym is_s ∙ is) in absurd (omega (arith, long, a, b))
written_cut end rest (Leaf t x) (y ∷ u) v s r is_s is_r (first, more, is, same, h) =
    let e : y ∷ u ++ rest ≡ first ∷ more = sym is_s ∙ is in
    let head : y ≡ first = cc in let tail : u ++ rest ≡ more = cc in (y, u, refl, ap (λ (z : Placed). z.token) head ∙ same, written_cut end rest x u v more r (sym tail) is_r h)
written_cut end rest (Spanned span i x) u v s r is_s is_r (middle, is, inside, h) =
    let (w, is_w) = front_of end x middle r v rest h is_r in
    (w, is ∙ ap (λ z. span_between end z middle) is_s ∙ ap (λ z. span_between end (u ++ rest) z) is_w ∙ span_cut end u w rest, written_cut end rest i u w s middle is_s is_w inside, written_cut end rest x w v middle r is_w is_r h)
written_cut end rest (Counted i x) u v s r is_s is_r (middle, inside, h) =
    let (w, is_w) = front_of end x middle r v rest h is_r in (w, written_cut end rest i u w s middle is_s is_w inside, written_cut end rest x w v middle r is_w is_r h)

-- ---- splits of a list

same_rest : (u rest v other : List Placed) → u ++ rest ≡ v ++ other → length rest ≡ length other → rest ≡ other
same_rest [] rest [] other e long = e
same_rest [] rest (y ∷ v) other e long = absurd (let a = ap length e in let b = length-append v other in omega (arith, a, b, long))
same_rest (x ∷ u) rest [] other e long = absurd (let a = ap length e in let b = length-append u rest in omega (arith, a, b, long))
same_rest (x ∷ u) rest (y ∷ v) other e long = let tails : u ++ rest ≡ v ++ other = cc in same_rest u rest v other tails long

module _ (d : Dialect) {C : Type 0} (layout : C → Layout) (form : C → Bool) where
  -- no longest run is shorter than another
  no_shorter : (from u rest v other : List Placed) → IsLongest d layout form from u rest → IsLongest d layout form from v other → length other < length rest → ⊥
  no_shorter from u rest v other h k below =
      let (t, more, between, is, split) = longer_front u rest v other (sym h.is ∙ k.is) below in
      let (c, after, tree, spelled) = k.begins in
      let split' : plain v ≡ plain (u ++ t ∷ []) ++ plain between = ap plain split ∙ plain_join (u ++ t ∷ []) between in
      h.no_longer t more is (c, plain between ++ after, tree, spelled ∙ ap (λ z. z ++ after) split' ∙ append_assoc (plain (u ++ t ∷ [])) (plain between) after)

  pub longest_is_unique : (from u rest v other : List Placed) → IsLongest d layout form from u rest → IsLongest d layout form from v other → (u ≡ v) × (rest ≡ other)
  longest_is_unique from u rest v other h k = by (nat_lt (length rest) (length other)) (nat_lt (length other) (length rest)) refl refl
    where
      by : (b c : Bool) → nat_lt (length rest) (length other) ≡ b → nat_lt (length other) (length rest) ≡ c → (u ≡ v) × (rest ≡ other)
      by true c e f = absurd (no_shorter from v other u rest k h (ltb-true (length rest) (length other) e))
      by false true e f = absurd (no_shorter from u rest v other h k (ltb-true (length other) (length rest) f))
      by false false e f =
          let a = ltb-false (length rest) (length other) e in let b = ltb-false (length other) (length rest) f in
          let same = same_rest u rest v other (sym h.is ∙ k.is) (omega (arith, a, b)) in (append_cancel_right u v rest (sym h.is ∙ k.is ∙ ap (λ z. v ++ z) (sym same)), same)

  -- ---- a parser that reads each tree that is written to the end of the tokens

  module _ (p : Span → ℕ → Parser Placed C)
      (exact : (end : Span) (k : ℕ) (c : C) → Part (Unit {0}) k (layout c) (form c) → (s : List Placed) → IsWritten end (layout c) s [] → p end k s ≡ Ok (c, [])) where
    pub derived_is_unique : (end : Span) (m n : ℕ) (a b : C) (from rest : List Placed) → IsDerived d layout form end m a from rest → IsDerived d layout form end n b from rest → a ≡ b
    derived_is_unique end m n a b from rest h k =
        let t = written_taken end (layout a) from rest h.written in let here = next_place end rest in
        let first : p here (max m n) t.tokens ≡ Ok (a, []) =
        exact here (max m n) a (record { formed = h.of_grammar.formed; fits = λ _. let fits = h.fits in omega (arith, fits) }) t.tokens (written_cut end rest (layout a) t.tokens [] from rest t.is refl h.written) in
        let second : p here (max m n) t.tokens ≡ Ok (b, []) =
        exact here (max m n) b (record { formed = k.of_grammar.formed; fits = λ _. let fits = k.fits in omega (arith, fits) }) t.tokens (written_cut end rest (layout b) t.tokens [] from rest t.is refl k.written) in
        ap (tree_of a) (sym first ∙ second)

    -- ---- and whose answers are those of the grammar

    module _ (end : Span) (k : ℕ)
        (sound : (outer : ℕ) (from : List Placed) → AreTokens d (plain from) → Answer d layout form end outer k from (Reads d layout form end outer k from layout form k from) (p end k from))
        (follows : (n : Until) (W : Type 0) (c : C) → Part W k (layout c) (form c) → (s : List Placed) → Along n (spell (layout c) []) s → Followed n W [] (p end k s)) where
      pub longest_is_read : (from run rest : List Placed) (c : C) → AreTokens d (plain from) → IsLongest d layout form from run rest → IsDerived d layout form end k c from rest → p end k from ≡ Ok (c, rest)
      longest_is_read from run rest c known longest tree = by (p end k from) refl
        where
          spelled : tokens_of (layout c) ≡ plain run
          spelled =
              let t = written_taken end (layout c) from rest tree.written in
              let same : t.tokens ≡ run = append_cancel_right t.tokens run rest (sym t.is ∙ longest.is) in sym t.are ∙ ap plain same

          by : (o : Outcome Placed C) → p end k from ≡ o → o ≡ Ok (c, rest)
          by (Ok (a, other)) is =
              let (derived, run', longest') = read_is_longest d layout form end k (p end k) sound follows from other a known is in
              let same = (longest_is_unique from run' other run rest longest' longest).1 in
              let tree' = subst (λ z. IsDerived d layout form end k a from z) same derived in
              ap (λ z. Ok (a, z)) same ∙ ap (λ z. Ok (z, rest)) (derived_is_unique end k k a c from rest tree' tree)
          by (Err (Unexpected left)) is =
              let (run', rest', longest', long, none) = unexpected_is_after d layout form end k (p end k) sound follows left from known is in
              absurd (none c tree.of_grammar (spelled ∙ ap plain (sym (longest_is_unique from run' rest' run rest longest' longest).0)))
          by (Err (TooDeep left)) is =
              let (may, none) = too_deep_is_deep d layout form end k (p end k) sound follows 0 left from known is in absurd (none run rest longest c tree.of_grammar spelled tree.fits)
