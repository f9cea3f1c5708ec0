-- Places in texts where any tree of some kind may stand, with what it demands of levels.
use Rattle.std.proofs.Common.{◌≡◌, ℕ, zero, suc, ◌+◌, List, [], ◌∷◌, ◌++◌, length, Option, refl, ap, subst, ◌∙◌, arith, length-append}
use Rattle.std.specs.List.{Contains}
use Rattle.std.proofs.lemmas.List.Elements.{Contains-append_left, Contains-append_right}
use Rattle.std.specs.Option.{IfSome}
use Rattle.c_tree.specs.Tree.{ObjectType, Expr, Read, Null, Place}
use Rattle.c_tree.specs.declared.operators.CCast.{CCast}
use Rattle.c_tree.specs.declared.program.CProgram.{CProgram}
use Rattle.c_grammar.specs.Token.{Token}
use Rattle.c_grammar.specs.Spelling.{spell_type, spell_result, spell_cast, spell_expr, spell_place, program_tokens}
use Rattle.c_grammar.specs.Grammar.{IsObjectType, IsCast, IsExpr, IsPlace, IsProgram}
use Rattle.c_grammar.specs.Types.{Known}
use Rattle.c_grammar.specs.Demands.{Demand, Demands, Level, after, expr_demands, place_demands, program_demands}
use Rattle.c_grammar.specs.Text.{Begins, MayBegin}
use Rattle.token_parsing.proofs.Fair.{At}

-- ---- where a level stands among demands

pub record Among (all : Demands) (n l : ℕ) : Type 0 where
  pub is : Contains all (n, Level l)

pub in_first : {a : Demands} {n l : ℕ} (b : Demands) → Among a n l → Among (a ++ b) n l
in_first {a} {n} {l} b h = record { is = Contains-append_left a b (n, Level l) h.is }

pub in_second : {b : Demands} {n l : ℕ} (a : Demands) → Among b n l → Among (a ++ b) n l
in_second {b} {n} {l} a h = record { is = Contains-append_right a b (n, Level l) h.is }

pub in_later : {d : ℕ × Demand} {a : Demands} {n l : ℕ} → Among a n l → Among (d ∷ a) n l
in_later h = let (k, below, e) = h.is in record { is = (suc k, omega arith, e) }

pub level_here : {a : Demands} {l : ℕ} → Among ((0, Level l) ∷ a) 0 l
level_here = record { is = (0, omega arith, refl) }

contains_after : (m n to : ℕ) (d : Demand) (all : Demands) → m + n ≡ to → Contains all (n, d) → Contains (after m all) (to, d)
contains_after m n to d [] e (k, h, f) = absurd (grind arith)
contains_after m n to d (x ∷ all) e (zero, h, f) = (0, omega arith, λ i. let y = f i in ((ap (λ q. m + q.0) f ∙ e) i, y.1))
contains_after m n to d (x ∷ all) e (suc k, h, f) = let (j, below, same) = contains_after m n to d all e (k, omega arith, f) in (suc j, omega arith, same)

pub in_after : {a : Demands} {n l : ℕ} (m : ℕ) → Among a n l → Among (after m a) (m + n) l
in_after {a} {n} {l} m h = record { is = contains_after m n (m + n) (Level l) a refl h.is }

-- ---- holes

abbrev pub Law : (List Token → List Token) → Type 0
Law front = (u : List Token) → front u ≡ front [] ++ u

-- a text of the grammar with a tree at this place, where the levels that the tree has stand among what the text demands
pub record Filled (front spelled : List Token → List Token) (Has : ℕ → ℕ → Type 0) : Type 0 where
  pub c : CProgram
  pub more : List Token
  pub of_grammar : IsProgram c
  pub is_spelled : program_tokens c ≡ front (spelled more)
  pub kept : (n l : ℕ) → Has n l → Among (program_demands c) (length (front []) + n) l

-- what is before a place in the tree begins a text
pub begins_by : {all : List Token} {front front' spelled : List Token → List Token} {Has : ℕ → ℕ → Type 0} {s : List Token} → At all front' s
    → (f : Filled front spelled Has) (x : List Token) → front (spelled f.more) ≡ front' x → Begins (front' [])
begins_by at f x e = (f.c, x, record { of_grammar = f.of_grammar; spelled = f.is_spelled ∙ e ∙ at.law x })

moved : (front before : List Token → List Token) (m n : ℕ) → Law front → m ≡ length (before []) → length (front []) + (m + n) ≡ length (front (before [])) + n
moved front before m n law e =
    let long = ap length (law (before [])) ∙ length-append (front []) (before []) in omega (arith, long, e)

-- a part of the tree
pub inner : {front spelled : List Token → List Token} {Has : ℕ → ℕ → Type 0} → Law front → (before : List Token → List Token) (m : ℕ) → m ≡ length (before [])
    → {spelled' : List Token → List Token} {Has' : ℕ → ℕ → Type 0} (f : Filled front spelled Has) (more : List Token) → spelled f.more ≡ before (spelled' more)
    → ((n l : ℕ) → Has' n l → Has (m + n) l) → Filled (λ u. front (before u)) spelled' Has'
inner {front} law before m long f more e has = record {
  c = f.c;
  more = more;
  of_grammar = f.of_grammar;
  is_spelled = f.is_spelled ∙ ap front e;
  kept = λ n l h. subst (λ k. Among (program_demands f.c) k l) (moved front before m n law long) (f.kept (m + n) l (has n l h));
}

-- ---- types and casts, which have no levels

abbrev pub NoLevel : ℕ → ℕ → Type 0
NoLevel n l = ⊥

abbrev pub TypeHole : (List Token → List Token) → Type 0
TypeHole front = (of : ObjectType) → IsObjectType of → Filled front (spell_type of) NoLevel

abbrev pub ResultHole : (List Token → List Token) → Type 0
ResultHole front = (of : Option ObjectType) → IfSome of IsObjectType → Filled front (spell_result of) NoLevel

abbrev pub CastHole : (List Token → List Token) → Type 0
CastHole front = (to : CCast) → IsCast to → Filled front (spell_cast to) NoLevel

-- ---- expressions and places

abbrev pub ExprHas : ℕ → Expr → ℕ → ℕ → Type 0
ExprHas level e n l = (k : Known) → Among (expr_demands k level e) n l

abbrev pub PlaceHas : ℕ → Place → ℕ → ℕ → Type 0
PlaceHas level p n l = (k : Known) → Among (place_demands k level p) n l

abbrev pub ExprHole : ℕ → (List Token → List Token) → Type 0
ExprHole level front = (e : Expr) → IsExpr e → Filled front (spell_expr e) (ExprHas level e)

-- the expressions of the place have this level
abbrev pub PlaceHole : ℕ → (List Token → List Token) → Type 0
PlaceHole level front = (p : Place) → IsPlace p → Filled front (spell_place p) (PlaceHas level p)

pub read_hole : {front : List Token → List Token} (level : ℕ) → ExprHole level front → PlaceHole (suc level) front
read_hole level hole p is = let f = hole (Read p) is in record { c = f.c; more = f.more; of_grammar = f.of_grammar; is_spelled = f.is_spelled; kept = λ n l h. f.kept n l (λ k. in_later (h k)) }

-- an expression of the level of the hole may begin there
pub may_begin : {all : List Token} {front : List Token → List Token} {s : List Token} (level : ℕ) → At all front s → ExprHole level front → MayBegin level (front [])
may_begin {front} level at hole =
    let f = hole Null tt in
    let same : length (front []) + 0 ≡ length (front []) = omega arith in
    let has = f.kept 0 level (λ k. level_here) in
    let begun = begins_by at f (spell_expr Null f.more) refl in
    (f.c, spell_expr Null f.more, record { of_grammar = f.of_grammar; spelled = f.is_spelled ∙ at.law (spell_expr Null f.more) }, (subst (λ k. Among (program_demands f.c) k level) same has).is)
