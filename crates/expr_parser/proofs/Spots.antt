-- Where a parser stands in a tree that may still become one, and what its answers are there.
use Rattle.std.proofs.Common.{◌≡◌, ℕ, ◌+◌, ◌≤◌, Bool, List, [], ◌∷◌, ◌++◌, length, Err, refl, sym, ap, subst, ◌∙◌, append_assoc, arith}
use Rattle.std.specs.Prelude.{IsTrue}
use Rattle.std.specs.List.{Contains}
use Rattle.std.proofs.lemmas.List.{append-nil, map-append}
use Rattle.p2c_text.specs.declared.dialect.Dialect.{Dialect}
use Rattle.p2c_text.specs.declared.place.Span.{Span}
use Rattle.token_parsing.specs.declared.refusal.Refusal.TheVariants.{TooDeep}
use Rattle.token_parsing.specs.Parser.{Parser, Outcome}
use Rattle.token_parsing.proofs.Fair.{Fair, stops}
use Rattle.expr_parser.specs.Tokens.{Token, Placed, plain}
use Rattle.expr_parser.specs.Layout.{Layout, ◌&◌, tokens_of, height_of, levels_of, IsWritten}
use Rattle.expr_parser.specs.Grammar.{AreTokens}
use Rattle.expr_parser.specs.Text.{Begins, MayBeginIn}
use Rattle.expr_parser.proofs.Layouts.{tokens_join, written_taken}
use Rattle.expr_parser.proofs.Openings.{Opening, within, behind, Hole, hole_begins}

pub are_both : (d : Dialect) (a b : List Token) → AreTokens d a → AreTokens d b → AreTokens d (a ++ b)
are_both d [] b h k = k
are_both d (t ∷ a) b h k = (h.0, are_both d a b h.1 k)

pub are_first : (d : Dialect) (a b : List Token) → AreTokens d (a ++ b) → AreTokens d a
are_first d [] b h = tt
are_first d (t ∷ a) b h = (h.0, are_first d a b h.1)

pub are_last : (d : Dialect) (a b : List Token) → AreTokens d (a ++ b) → AreTokens d b
are_last d [] b h = h
are_last d (t ∷ a) b h = are_last d a b h.1

pub are_joined : (d : Dialect) (a b : Layout) → AreTokens d (tokens_of a) → AreTokens d (tokens_of b) → AreTokens d (tokens_of (a & b))
are_joined d a b h k = subst (AreTokens d) (sym (tokens_join a b)) (are_both d (tokens_of a) (tokens_of b) h k)

module _ (d : Dialect) {C : Type 0} (layout : C → Layout) (form : C → Bool) (end : Span) (outer levels : ℕ) (all : List Placed) where
  -- before an unexpected token a tree begins, and before what is too deep a node of the next level may begin
  abbrev pub Answer : {A : Type 0} → (A → List Placed → Type 0) → Outcome Placed A → Type 0
  Answer P o = Fair all (λ v. Begins d layout form (plain v)) (λ v. MayBeginIn d layout form outer (outer + levels) (plain v)) P o

  -- the open part of the tree begins here
  pub record Spot (o : Opening) (s : List Placed) : Type 0 where
    pub front : List Placed
    pub is : all ≡ front ++ s
    pub spelled : plain front ≡ o.left
    pub known : AreTokens d o.left
    pub closing : AreTokens d o.right

  -- what a parser read from s up to r
  pub record Reads {A : Type 0} (write : A → Layout) (shape : A → Bool) (k : ℕ) (s : List Placed) (a : A) (r : List Placed) : Type 0 where
    pub written : IsWritten end (write a) s r
    pub formed : IsTrue (shape a)
    pub fits : height_of (write a) ≤ k

  -- a parser of such parts with k levels left
  abbrev pub Good : {A : Type 0} → (A → Layout) → (A → Bool) → ℕ → Parser Placed A → Type 0
  Good {A} write formed k p = (o : Opening) (s : List Placed) → Spot o s → Hole d layout form write formed o → o.depth + k ≡ levels → Answer (Reads write formed k s) (p s)

  -- ---- moving on

  -- behind what was written
  pub spot_behind : (formed : AreTokens d (plain all)) {o : Opening} {s r : List Placed} (l : Layout) → Spot o s → IsWritten end l s r → Spot (within o (behind l)) r
  spot_behind formed {o} {s} {r} l spot h =
      let t = written_taken end l s r h in
      let is : all ≡ (spot.front ++ t.tokens) ++ r = spot.is ∙ ap (λ z. spot.front ++ z) t.is ∙ sym (append_assoc spot.front t.tokens r) in
      let spelled : plain (spot.front ++ t.tokens) ≡ o.left ++ tokens_of l = map-append (λ (x : Placed). x.token) spot.front t.tokens ∙ ap (λ z. z ++ plain t.tokens) spot.spelled ∙ ap (λ z. o.left ++ z) t.are in
      let parts : plain all ≡ plain (spot.front ++ t.tokens) ++ plain r = ap plain is ∙ map-append (λ (x : Placed). x.token) (spot.front ++ t.tokens) r in
      record {
        front = spot.front ++ t.tokens;
        is = is;
        spelled = spelled;
        known = subst (AreTokens d) spelled (are_first d (plain (spot.front ++ t.tokens)) (plain r) (subst (AreTokens d) parts formed));
        closing = spot.closing;
      }

  -- an inner opening at the same place
  pub spot_within : {o : Opening} {s : List Placed} (p : Opening) → Spot o s → p.left ≡ [] → AreTokens d p.right → Spot (within o p) s
  spot_within {o} p spot none closing =
      let same : o.left ≡ o.left ++ p.left = sym (append-nil o.left) ∙ ap (λ z. o.left ++ z) (sym none) in
      record {
        front = spot.front;
        is = spot.is;
        spelled = spot.spelled ∙ same;
        known = subst (AreTokens d) same spot.known;
        closing = are_both d p.right o.right closing spot.closing;
      }

  -- a tree begins with what is before a hole
  pub begins_at : {A : Type 0} {write : A → Layout} {formed : A → Bool} {o : Opening} {s : List Placed} → Spot o s → Hole d layout form write formed o → (a : A) → IsTrue (formed a) → AreTokens d (tokens_of (write a)) → Begins d layout form o.left
  begins_at {write} {o} spot hole a ok known =
      hole_begins o hole a ok o.left (tokens_of (write a) ++ o.right) (are_both d o.left (tokens_of (write a) ++ o.right) spot.known (are_both d (tokens_of (write a)) o.right known spot.closing)) refl

  -- a node of the level of the hole may begin there
  pub deep_at : {A : Type 0} {write : A → Layout} {formed : A → Bool} {o : Opening} {s : List Placed} → Spot o s → Hole d layout form write formed o → o.depth + 0 ≡ levels → (a : A) → IsTrue (formed a) → AreTokens d (tokens_of (write a))
      → Contains (levels_of (outer + o.depth) (0 + length o.left) (write a)) (0 + length o.left, outer + o.depth) → {B : Type 0} {P : B → List Placed → Type 0} → Answer P (Err (TooDeep (length s)))
  deep_at {write} {o} {s} spot hole left a ok known has =
      let (c, formed, written) = hole.at a ok in
      let more = tokens_of (write a) ++ o.right in
      let spelled : tokens_of (layout c) ≡ o.left ++ more = ap tokens_of written ∙ o.tokens (write a) in
      let are = are_both d o.left more spot.known (are_both d (tokens_of (write a)) o.right known spot.closing) in
      let here : Contains (levels_of outer 0 (layout c)) (0 + length o.left, outer + o.depth) = subst (λ l. Contains (levels_of outer 0 l) (0 + length o.left, outer + o.depth)) (sym written) (o.levels (write a) outer 0 (0 + length o.left) (outer + o.depth) has) in
      let may : MayBeginIn d layout form outer (outer + o.depth) o.left = (c, more, record { formed = formed; of_dialect = subst (AreTokens d) (sym spelled) are }, spelled, subst (λ n. Contains (levels_of outer 0 (layout c)) (n, outer + o.depth)) (omega arith) here) in
      stops spot.front s spot.is (subst (λ v. MayBeginIn d layout form outer (outer + levels) v) (sym spot.spelled) (subst (λ n. MayBeginIn d layout form outer n o.left) (deep outer o.depth levels left) may))
    where
      deep : (outer depth levels : ℕ) → depth + 0 ≡ levels → outer + depth ≡ outer + levels
      deep outer depth levels e = omega arith
