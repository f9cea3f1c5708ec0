-- Tokens that are read, and that what is before a refused one begins an expression.
use Rattle.std.proofs.Common.{◌≡◌, ℕ, ◌-◌, Bool, true, false, List, [], ◌∷◌, length, Option, Some, None, refl, sym, ap, subst, ◌∙◌, arith, lt-ltb}
use Rattle.std.specs.Prelude.{nat_lt, slice_get}
use Rattle.std.specs.Option.{option_map}
use Rattle.p2c_text.specs.declared.dialect.Dialect.{Dialect}
use Rattle.p2c_text.specs.declared.place.Span.{Span}
use Rattle.dialect_lexer.specs.declared.token.Word.{Word as WordSymbol}
use Rattle.dialect_lexer.specs.declared.token.Symbol.{Symbol as SpecialSymbol}
use Rattle.pascal_tree.specs.declared.names.Identifier.{Identifier}
use Rattle.token_parsing.specs.Parser.{Parser, Class, and_then, take_of, one_of, is_some, begins}
use Rattle.token_parsing.proofs.Fair.{refuses}
use Rattle.expr_parser.specs.Tokens.{Token, Placed, Name, Word, Symbol}
use Rattle.expr_parser.specs.Spans.{last_of, up_to_end, span_between}
use Rattle.expr_parser.specs.Layout.{Layout, token, word, symbol, spanned, counted, IsWritten}
use Rattle.expr_parser.specs.Writing.{identifier}
use Rattle.expr_parser.specs.Text.{Begins}
use Rattle.expr_parser.specs.Classes.{words, symbols, expect, expect_word}
use Rattle.expr_parser.proofs.ClassTokens.{symbol_is, word_is}
use Rattle.expr_parser.proofs.Openings.{Opening}
use Rattle.expr_parser.proofs.Spots.{Answer, Spot}

-- ---- spans

last_is : (t : Placed) (r : List Placed) → last_of (t ∷ r) r ≡ Some t
last_is t r = by (nat_lt (length r) (length (t ∷ r))) (lt-ltb (length r) (length (t ∷ r)) (omega arith))
  where
    first : (n : ℕ) → n ≡ 0 → slice_get (t ∷ r) n ≡ Some t
    first n e = subst (λ k. slice_get (t ∷ r) k ≡ Some t) (sym e) refl

    by : (b : Bool) → b ≡ true → elim b [ true ↦ slice_get (t ∷ r) (length (t ∷ r) - length r - 1) | false ↦ None ] ≡ Some t
    by true e = first (length (t ∷ r) - length r - 1) (omega arith)
    by false e = absurd cc

-- the span of one token
pub one_span : (end : Span) (t : Placed) (r : List Placed) → span_between end (t ∷ r) r ≡ t.span
unfolding span_between
one_span end t r = ap (λ last. up_to_end t.span (option_map (λ (x : Placed). x.span.end) last)) (last_is t r)

-- a node with its span
pub written_node : (end : Span) (l : Layout) (s r : List Placed) → IsWritten end l s r → IsWritten end (spanned (span_between end s r) l) s r
written_node end l s r h = (r, refl, h, refl)

pub written_counted : (end : Span) (l : Layout) (s r : List Placed) → IsWritten end l s r → IsWritten end (counted l) s r
written_counted end l s r h = (r, h, refl)

pub written_both : (end : Span) (l : Layout) (s r : List Placed) → IsWritten end l s r → IsWritten end (counted (spanned (span_between end s r) l)) s r
written_both end l s r h = (r, (r, refl, h, refl), refl)

pub written_token : (end : Span) (x : Token) (t : Placed) (r : List Placed) {s : List Placed} → s ≡ t ∷ r → t.token ≡ x → IsWritten end (token x) s r
written_token end x t r e same = (t, r, e, same, refl)

pub written_name : (end : Span) (i : Identifier) (t : Placed) (r : List Placed) {s : List Placed} → s ≡ t ∷ r → (t.token ≡ Name i.name) × (i.span ≡ t.span) → IsWritten end (identifier i) s r
written_name end i t r e h =
    (r, h.1 ∙ sym (one_span end t r) ∙ ap (λ z. span_between end z r) (sym e), (t, r, e, h.0, refl), refl)

-- ---- tokens

module _ (d : Dialect) {C : Type 0} (layout : C → Layout) (form : C → Bool) (end : Span) (outer levels : ℕ) (all : List Placed) where
  taking : {A B : Type 0} {Q : B → List Placed → Type 0} {o : Opening} (found : Option A) (t : Placed) (r : List Placed) (f : A → Parser Placed B) → Spot d layout form end outer levels all o (t ∷ r) → Begins d layout form o.left
      → ((a : A) → found ≡ Some a → Answer d layout form end outer levels all Q (f a r)) → Answer d layout form end outer levels all Q (and_then (take_of found (t ∷ r)) f)
  taking None t r f spot begun k = refuses spot.front (t ∷ r) spot.is (subst (Begins d layout form) (sym spot.spelled) begun)
  taking (Some a) t r f spot begun k = k a refl

  -- a token of a class
  pub answer_token : {A B : Type 0} {Q : B → List Placed → Type 0} (class : Class Placed A) {o : Opening} (s : List Placed) {f : A → Parser Placed B} → Spot d layout form end outer levels all o s → Begins d layout form o.left
      → ((t : Placed) (a : A) (r : List Placed) → class t ≡ Some a → s ≡ t ∷ r → Answer d layout form end outer levels all Q (f a r)) → Answer d layout form end outer levels all Q (and_then (one_of class s) f)
  unfolding one_of
  answer_token class [] spot begun k = refuses spot.front [] spot.is (subst (Begins d layout form) (sym spot.spelled) begun)
  answer_token class (t ∷ r) {f} spot begun k = taking (class t) t r f spot begun (λ a e. k t a r e refl)

  pub answer_symbol : {B : Type 0} {Q : B → List Placed → Type 0} (m : SpecialSymbol) {o : Opening} (s : List Placed) {f : Unit {0} → Parser Placed B} → Spot d layout form end outer levels all o s → Begins d layout form o.left
      → ((a : Unit {0}) (r : List Placed) → IsWritten end (symbol m) s r → Answer d layout form end outer levels all Q (f a r)) → Answer d layout form end outer levels all Q (and_then (expect m s) f)
  answer_symbol m s spot begun k = answer_token (symbols m) s spot begun (λ t a r is e. k a r (written_token end (Symbol m) t r e (symbol_is m t.token a is)))

  -- a token that is there, as a test has shown
  known : {A B : Type 0} {Q : B → List Placed → Type 0} (found : Option A) (t : Placed) (r : List Placed) (f : A → Parser Placed B) → is_some found ≡ true
      → ((a : A) → found ≡ Some a → Answer d layout form end outer levels all Q (f a r)) → Answer d layout form end outer levels all Q (and_then (take_of found (t ∷ r)) f)
  known None t r f e k = absurd cc
  known (Some a) t r f e k = k a refl

  pub answer_begun : {A B : Type 0} {Q : B → List Placed → Type 0} (class : Class Placed A) (s : List Placed) {f : A → Parser Placed B} → begins class s ≡ true
      → ((t : Placed) (a : A) (r : List Placed) → class t ≡ Some a → s ≡ t ∷ r → Answer d layout form end outer levels all Q (f a r)) → Answer d layout form end outer levels all Q (and_then (one_of class s) f)
  unfolding one_of begins
  answer_begun class [] e k = absurd cc
  answer_begun class (t ∷ r) {f} e k = known (class t) t r f e (λ a is. k t a r is refl)

  pub answer_word : {B : Type 0} {Q : B → List Placed → Type 0} (w : WordSymbol) (s : List Placed) {f : Unit {0} → Parser Placed B} → begins (words w) s ≡ true
      → ((a : Unit {0}) (r : List Placed) → IsWritten end (word w) s r → Answer d layout form end outer levels all Q (f a r)) → Answer d layout form end outer levels all Q (and_then (expect_word w s) f)
  answer_word w s e k = answer_begun (words w) s e (λ t a r is e. k a r (written_token end (Word w) t r e (word_is w t.token a is)))

  pub answer_mark : {B : Type 0} {Q : B → List Placed → Type 0} (m : SpecialSymbol) (s : List Placed) {f : Unit {0} → Parser Placed B} → begins (symbols m) s ≡ true
      → ((a : Unit {0}) (r : List Placed) → IsWritten end (symbol m) s r → Answer d layout form end outer levels all Q (f a r)) → Answer d layout form end outer levels all Q (and_then (expect m s) f)
  answer_mark m s e k = answer_begun (symbols m) s e (λ t a r is e. k a r (written_token end (Symbol m) t r e (symbol_is m t.token a is)))
