-- Places in trees where any part of some kind may stand.
use Rattle.std.proofs.Common.{◌≡◌, ℕ, suc, ◌+◌, List, [], ◌∷◌, ◌++◌, length, refl, sym, ap, subst, ◌∙◌, append_assoc, arith, length-append}
use Rattle.std.specs.Prelude.{IsTrue, Bool}
use Rattle.std.specs.List.{Contains}
use Rattle.std.proofs.lemmas.List.{append-nil}
use Rattle.std.proofs.lemmas.List.Elements.{Contains-append_left, Contains-append_right}
use Rattle.p2c_text.specs.declared.dialect.Dialect.{Dialect}
use Rattle.p2c_text.specs.declared.place.Span.{Span}
use Rattle.expr_parser.specs.Tokens.{Token}
use Rattle.expr_parser.specs.Layout.{Layout, ◌&◌, spanned, counted, tokens_of, levels_of}
use Rattle.expr_parser.specs.Grammar.{AreTokens}
use Rattle.expr_parser.specs.Text.{Begins}
use Rattle.expr_parser.proofs.Layouts.{tokens_join, levels_join}

-- a layout with one part left open: the tokens on both sides of it, and how many counted nodes are around it
pub record Opening : Type 0 where
  pub plug : Layout → Layout
  pub left : List Token
  pub right : List Token
  pub depth : ℕ
  pub tokens : (x : Layout) → tokens_of (plug x) ≡ left ++ (tokens_of x ++ right)
  pub levels : (x : Layout) (outer before n l : ℕ) → Contains (levels_of (outer + depth) (before + length left) x) (n, l) → Contains (levels_of outer before (plug x)) (n, l)

pub same_levels : (x : Layout) {a b c d : ℕ} {p : ℕ × ℕ} → a ≡ b → c ≡ d → Contains (levels_of a c x) p → Contains (levels_of b d x) p
same_levels x {a} {b} {c} {d} {p} e f h = subst (λ n. Contains (levels_of b n x) p) f (subst (λ n. Contains (levels_of n c x) p) e h)

pub regroup : (a b c d e : List Token) → a ++ ((b ++ (c ++ d)) ++ e) ≡ (a ++ b) ++ (c ++ (d ++ e))
regroup a b c d e = simp append_assoc

pub deeper : {q : ℕ × ℕ} (all : List (ℕ × ℕ)) {p : ℕ × ℕ} → Contains all p → Contains (q ∷ all) p
deeper all h = let (k, below, e) = h in (suc k, omega arith, e)

-- the whole
abbrev pub whole : Opening
whole = record {
  plug = λ x. x;
  left = [];
  right = [];
  depth = 0;
  tokens = λ x. sym (append-nil (tokens_of x));
  levels = λ x outer before n l h. same_levels x (omega arith) (omega arith) h;
}

-- an opening in the part that is open
abbrev pub within : Opening → Opening → Opening
within o p = record {
  plug = λ x. o.plug (p.plug x);
  left = o.left ++ p.left;
  right = p.right ++ o.right;
  depth = o.depth + p.depth;
  tokens = λ x. o.tokens (p.plug x) ∙ ap (λ z. o.left ++ (z ++ o.right)) (p.tokens x) ∙ regroup o.left p.left (tokens_of x) p.right o.right;
  levels = λ x outer before n l h.
      o.levels (p.plug x) outer before n l
      (p.levels x (outer + o.depth) (before + length o.left) n l (same_levels x (omega arith) (omega (arith, length-append o.left p.left)) h));
}

abbrev pub in_counted : Opening
in_counted = record {
  plug = counted;
  left = [];
  right = [];
  depth = 1;
  tokens = λ x. refl;
  levels = λ x outer before n l h. deeper _ (Contains-append_left _ _ (n, l) (same_levels x (omega arith) (omega arith) h));
}

abbrev pub in_spanned : Span → Opening
in_spanned span = record {
  plug = spanned span;
  left = [];
  right = [];
  depth = 0;
  tokens = λ x. refl;
  levels = λ x outer before n l h. Contains-append_left _ _ (n, l) (same_levels x (omega arith) (omega arith) h);
}

-- behind a layout
abbrev pub behind : Layout → Opening
behind a = record {
  plug = λ x. a & x;
  left = tokens_of a;
  right = [];
  depth = 0;
  tokens = λ x. tokens_join a x ∙ ap (λ z. tokens_of a ++ z) (sym (append-nil (tokens_of x)));
  levels = λ x outer before n l h. subst (λ z. Contains z (n, l)) (sym (levels_join outer before a x)) (Contains-append_right (levels_of outer before a) _ (n, l) (same_levels x (omega arith) refl h));
}

-- in front of a layout
abbrev pub before : Layout → Opening
before b = record {
  plug = λ x. x & b;
  left = [];
  right = tokens_of b;
  depth = 0;
  tokens = λ x. tokens_join x b;
  levels = λ x outer before n l h. subst (λ z. Contains z (n, l)) (sym (levels_join outer before x b)) (Contains-append_left _ _ (n, l) (same_levels x (omega arith) (omega arith) h));
}

-- ---- holes

-- some tree of a kind has this layout
abbrev pub Filled : {C : Type 0} → (C → Layout) → (C → Bool) → Layout → Type 0
Filled {C} layout form l = (c : C) × IsTrue (form c) × (layout c ≡ l)

pub filled_as : {C : Type 0} (layout : C → Layout) (form : C → Bool) {a b : Layout} → a ≡ b → Filled layout form a → Filled layout form b
filled_as layout form e h = let (c, formed, is) = h in (c, formed, is ∙ e)

-- whatever stands in the opening, the whole is the layout of a tree of some kind
pub record Hole {C A : Type 0} (d : Dialect) (layout : C → Layout) (form : C → Bool) (write : A → Layout) (formed : A → Bool) (o : Opening) : Type 0 where
  pub at : (a : A) → IsTrue (formed a) → Filled layout form (o.plug (write a))

-- a tree begins with the tokens before some place in what stands in the opening
pub hole_begins : {C A : Type 0} {d : Dialect} {layout : C → Layout} {form : C → Bool} {write : A → Layout} {formed : A → Bool} (o : Opening) → Hole d layout form write formed o → (a : A) → IsTrue (formed a) → (v more : List Token)
    → AreTokens d (v ++ more) → o.left ++ (tokens_of (write a) ++ o.right) ≡ v ++ more → Begins d layout form v
hole_begins {d} {layout} {write} o hole a ok v more are is =
    let (c, formed, written) = hole.at a ok in
    let spelled : tokens_of (layout c) ≡ v ++ more = ap tokens_of written ∙ o.tokens (write a) ∙ is in
    (c, more, record { formed = formed; of_dialect = subst (AreTokens d) (sym spelled) are }, spelled)
