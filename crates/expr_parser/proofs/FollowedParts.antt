-- What is asked of a part of a tree whose text is followed, and rows of such parts.
use Rattle.std.proofs.Common.{◌≡◌, ℕ, suc, ◌≤◌, Bool, true, false, ◌&&◌, List, refl, sym, subst, arith, true≢false}
use Rattle.std.specs.Prelude.{IsTrue}
use Rattle.p2c_text.specs.declared.dialect.Dialect.{Dialect}
use Rattle.p2c_text.specs.declared.place.Span.{Span}
use Rattle.pascal_tree.specs.declared.expressions.Expr.{Expr}
use Rattle.pascal_tree.specs.declared.expressions.Factor.{Factor}
use Rattle.token_parsing.specs.Parser.{Parser}
use Rattle.expr_parser.specs.Tokens.{Token, Placed}
use Rattle.expr_parser.specs.Layout.{Layout, ◌&◌, spanned, counted, height_of}
use Rattle.expr_parser.specs.Writing.{write_factor, write_expr}
use Rattle.expr_parser.specs.Grammar.{formed_factor, formed_expr}
use Rattle.expr_parser.proofs.Layouts.{spell, height_join}
use Rattle.expr_parser.proofs.Followed.{Until, Along, Followed}
use Rattle.expr_parser.proofs.Lookahead.{FactorEnds, ExprEnds}

pub and_out : (x y : Bool) → IsTrue (x && y) → IsTrue x × IsTrue y
and_out true y t = (refl, t)
and_out false y t = absurd (true≢false (sym t))

pub and_in : (x y : Bool) → IsTrue x → IsTrue y → IsTrue (x && y)
and_in true y s t = t
and_in false y s t = s

pub along_as : {n : Until} {v w : List Token} {s : List Placed} → v ≡ w → Along n v s → Along n w s
along_as {n} {s} e h = subst (λ z. Along n z s) e h

-- a part as the grammar asks, whose counted nodes are no more than k on a path where W holds
pub record Part (W : Type 0) (k : ℕ) (l : Layout) (ok : Bool) : Type 0 where
  pub formed : IsTrue ok
  pub fits : W → height_of l ≤ k

pub part_as : {W : Type 0} {k : ℕ} {l m : Layout} {b c : Bool} → l ≡ m → b ≡ c → Part W k l b → Part W k m c
part_as {W} {k} {m} {b} e f h = subst (λ z. Part W k m z) f (subst (λ z. Part W k z b) e h)

pub part_first : {W : Type 0} {k : ℕ} (l m : Layout) (b c : Bool) → Part W k (l & m) (b && c) → Part W k l b
part_first l m b c h = record { formed = (and_out b c h.formed).0; fits = λ w. let all = h.fits w in omega (arith, height_join l m, all) }

pub part_second : {W : Type 0} {k : ℕ} (l m : Layout) (b c : Bool) → Part W k (l & m) (b && c) → Part W k m c
part_second l m b c h = record { formed = (and_out b c h.formed).1; fits = λ w. let all = h.fits w in omega (arith, height_join l m, all) }

-- the other parts say nothing of how it is formed
pub part_left : {W : Type 0} {k : ℕ} (l m : Layout) {b : Bool} → Part W k (l & m) b → Part W k l b
part_left l m h = record { formed = h.formed; fits = λ w. let all = h.fits w in omega (arith, height_join l m, all) }

pub part_right : {W : Type 0} {k : ℕ} (l m : Layout) {b : Bool} → Part W k (l & m) b → Part W k m b
part_right l m h = record { formed = h.formed; fits = λ w. let all = h.fits w in omega (arith, height_join l m, all) }

-- inside of a node
pub part_inside : {W : Type 0} {k : ℕ} {span : Span} (l : Layout) {b : Bool} → Part W k (spanned span l) b → Part W k l b
part_inside l h = record { formed = h.formed; fits = λ w. let all = h.fits w in omega (arith, all) }

-- inside of a node that counts
pub part_counted : {W : Type 0} {k : ℕ} (l : Layout) {b : Bool} → Part W (suc k) (counted l) b → Part W k l b
part_counted l h = record { formed = h.formed; fits = λ w. let all = h.fits w in omega (arith, all) }

-- ---- what it is to follow expressions and factors

module _ (n : Until) (W : Type 0) (d : Dialect) (k : ℕ) where
  abbrev pub ExprFollowed : Parser Placed Expr → Type 0
  ExprFollowed p = (e : Expr) → Part W k (write_expr e) (formed_expr d e) → (rest : List Token) → ExprEnds rest → (s : List Placed) → Along n (spell (write_expr e) rest) s → Followed n W rest (p s)

  abbrev pub FactorFollowed : Parser Placed Factor → Type 0
  FactorFollowed p = (f : Factor) → Part W k (write_factor f) (formed_factor d f) → (rest : List Token) → FactorEnds rest → (s : List Placed) → Along n (spell (write_factor f) rest) s → Followed n W rest (p s)
