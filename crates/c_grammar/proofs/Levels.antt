-- Levels rise by one: where a statement or expression of some level stands, there are ones of each lower level.
use Rattle.std.proofs.Common.{◌≡◌, ◌⊎◌, ℕ, zero, suc, ◌≤◌, [], ◌∷◌, ◌++◌, ap, inl, inr, arith}
use Rattle.std.specs.List.{Contains}
use Rattle.c_grammar.specs.Demands.{Demand, Level, Leads, Differs, Declared, Length, Cells, Demands, after}

-- a statement or expression of this level is among them
abbrev pub HasLevel : ℕ → Demands → Type 0
HasLevel l [] = ⊥
HasLevel l ((n, Level m) ∷ more) = (m ≡ l) ⊎ HasLevel l more
HasLevel l ((n, Leads label labels) ∷ more) = HasLevel l more
HasLevel l ((n, Differs name others) ∷ more) = HasLevel l more
HasLevel l ((n, Declared name above) ∷ more) = HasLevel l more
HasLevel l ((n, Length k) ∷ more) = HasLevel l more
HasLevel l ((n, Cells k) ∷ more) = HasLevel l more

pub in_first : (l : ℕ) (a b : Demands) → HasLevel l a → HasLevel l (a ++ b)
in_first l [] b h = absurd h
in_first l ((n, Level m) ∷ a) b (inl e) = inl e
in_first l ((n, Level m) ∷ a) b (inr h) = inr (in_first l a b h)
in_first l ((n, Leads label labels) ∷ a) b h = in_first l a b h
in_first l ((n, Differs name others) ∷ a) b h = in_first l a b h
in_first l ((n, Declared name above) ∷ a) b h = in_first l a b h
in_first l ((n, Length k) ∷ a) b h = in_first l a b h
in_first l ((n, Cells k) ∷ a) b h = in_first l a b h

in_second : (l : ℕ) (a b : Demands) → HasLevel l b → HasLevel l (a ++ b)
in_second l [] b h = h
in_second l ((n, Level m) ∷ a) b h = inr (in_second l a b h)
in_second l ((n, Leads label labels) ∷ a) b h = in_second l a b h
in_second l ((n, Differs name others) ∷ a) b h = in_second l a b h
in_second l ((n, Declared name above) ∷ a) b h = in_second l a b h
in_second l ((n, Length k) ∷ a) b h = in_second l a b h
in_second l ((n, Cells k) ∷ a) b h = in_second l a b h

in_either : (l : ℕ) (a b : Demands) → HasLevel l (a ++ b) → HasLevel l a ⊎ HasLevel l b
in_either l [] b h = inr h
in_either l ((n, Level m) ∷ a) b (inl e) = inl (inl e)
in_either l ((n, Level m) ∷ a) b (inr h) = elim (in_either l a b h) [ inl x ↦ inl (inr x) | inr y ↦ inr y ]
in_either l ((n, Leads label labels) ∷ a) b h = in_either l a b h
in_either l ((n, Differs name others) ∷ a) b h = in_either l a b h
in_either l ((n, Declared name above) ∷ a) b h = in_either l a b h
in_either l ((n, Length k) ∷ a) b h = in_either l a b h
in_either l ((n, Cells k) ∷ a) b h = in_either l a b h

moved : (l m : ℕ) (a : Demands) → HasLevel l a → HasLevel l (after m a)
moved l m [] h = h
moved l m ((n, Level k) ∷ a) (inl e) = inl e
moved l m ((n, Level k) ∷ a) (inr h) = inr (moved l m a h)
moved l m ((n, Leads label labels) ∷ a) h = moved l m a h
moved l m ((n, Differs name others) ∷ a) h = moved l m a h
moved l m ((n, Declared name above) ∷ a) h = moved l m a h
moved l m ((n, Length k) ∷ a) h = moved l m a h
moved l m ((n, Cells k) ∷ a) h = moved l m a h

moved_back : (l m : ℕ) (a : Demands) → HasLevel l (after m a) → HasLevel l a
moved_back l m [] h = h
moved_back l m ((n, Level k) ∷ a) (inl e) = inl e
moved_back l m ((n, Level k) ∷ a) (inr h) = inr (moved_back l m a h)
moved_back l m ((n, Leads label labels) ∷ a) h = moved_back l m a h
moved_back l m ((n, Differs name others) ∷ a) h = moved_back l m a h
moved_back l m ((n, Declared name above) ∷ a) h = moved_back l m a h
moved_back l m ((n, Length k) ∷ a) h = moved_back l m a h
moved_back l m ((n, Cells k) ∷ a) h = moved_back l m a h

-- with a level each lower one from the base on is among them
pub record Falls (base : ℕ) (all : Demands) : Type 0 where
  pub lower : (l t : ℕ) → HasLevel l all → base ≤ t → t ≤ l → HasLevel t all

pub empty : {base : ℕ} → Falls base []
empty = record { lower = λ l t h a b. h }

pub both : {base : ℕ} {a b : Demands} → Falls base a → Falls base b → Falls base (a ++ b)
both {base} {a} {b} f g = record {
  lower = λ l t h low high. elim (in_either l a b h) [ inl x ↦ in_first t a b (f.lower l t x low high) | inr y ↦ in_second t a b (g.lower l t y low high) ];
}

pub later : {base : ℕ} {a : Demands} (m : ℕ) → Falls base a → Falls base (after m a)
later {base} {a} m f = record { lower = λ l t h low high. moved t m a (f.lower l t (moved_back l m a h) low high) }

same_or_above : (base t : ℕ) → base ≤ t → (base ≡ t) ⊎ (suc base ≤ t)
same_or_above base t h = grind arith

pub node : {base : ℕ} {a : Demands} → Falls (suc base) a → Falls base ((0, Level base) ∷ a)
node {base} {a} f = record { lower = lowered }
  where
    below : (l t : ℕ) → HasLevel l ((0, Level base) ∷ a) → t ≤ l → (base ≡ t) ⊎ (suc base ≤ t) → HasLevel t ((0, Level base) ∷ a)
    below l t h high (inl e) = inl e
    below l t (inl e) high (inr low) = absurd (grind arith)
    below l t (inr h) high (inr low) = inr (f.lower l t h low high)

    lowered : (l t : ℕ) → HasLevel l ((0, Level base) ∷ a) → base ≤ t → t ≤ l → HasLevel t ((0, Level base) ∷ a)
    lowered l t h low high = grind arith

-- ---- with places

abbrev level_of : Demand → ℕ
level_of (Level l) = l
level_of _ = 0

pub among_levels : (n l : ℕ) (all : Demands) → Contains all (n, Level l) → HasLevel l all
among_levels n l [] (k, h, e) = absurd (grind arith)
among_levels n l ((m, Level j) ∷ all) (zero, h, e) = let same : Level j ≡ Level l = ap (λ (p : ℕ × Demand). p.1) e in inl (ap level_of same)
among_levels n l ((m, Level j) ∷ all) (suc k, h, e) = inr (among_levels n l all (k, omega arith, e))
among_levels n l ((m, Leads label labels) ∷ all) (zero, h, e) = let same : Leads label labels ≡ Level l = ap (λ (p : ℕ × Demand). p.1) e in absurd (cc)
among_levels n l ((m, Leads label labels) ∷ all) (suc k, h, e) = among_levels n l all (k, omega arith, e)
among_levels n l ((m, Differs name others) ∷ all) (zero, h, e) = let same : Differs name others ≡ Level l = ap (λ (p : ℕ × Demand). p.1) e in absurd (cc)
among_levels n l ((m, Differs name others) ∷ all) (suc k, h, e) = among_levels n l all (k, omega arith, e)
among_levels n l ((m, Declared name above) ∷ all) (zero, h, e) = let same : Declared name above ≡ Level l = ap (λ (p : ℕ × Demand). p.1) e in absurd (cc)
among_levels n l ((m, Declared name above) ∷ all) (suc k, h, e) = among_levels n l all (k, omega arith, e)
among_levels n l ((m, Length j) ∷ all) (zero, h, e) = let same : Length j ≡ Level l = ap (λ (p : ℕ × Demand). p.1) e in absurd (cc)
among_levels n l ((m, Length j) ∷ all) (suc k, h, e) = among_levels n l all (k, omega arith, e)
among_levels n l ((m, Cells j) ∷ all) (zero, h, e) = let same : Cells j ≡ Level l = ap (λ (p : ℕ × Demand). p.1) e in absurd (cc)
among_levels n l ((m, Cells j) ∷ all) (suc k, h, e) = among_levels n l all (k, omega arith, e)

-- where it stands
abbrev pub Somewhere : ℕ → Demands → Type 0
Somewhere l all = (n : ℕ) × Contains all (n, Level l)

next : (l : ℕ) (d : ℕ × Demand) (all : Demands) → Somewhere l all → Somewhere l (d ∷ all)
next l d all (n, (k, h, e)) = (n, (suc k, omega arith, e))

pub somewhere : (l : ℕ) (all : Demands) → HasLevel l all → Somewhere l all
somewhere l [] h = absurd h
somewhere l ((n, Level m) ∷ all) (inl e) = (n, (0, omega arith, λ i. (n, Level (e i))))
somewhere l ((n, Level m) ∷ all) (inr h) = next l (n, Level m) all (somewhere l all h)
somewhere l ((n, Leads label labels) ∷ all) h = next l (n, Leads label labels) all (somewhere l all h)
somewhere l ((n, Differs name others) ∷ all) h = next l (n, Differs name others) all (somewhere l all h)
somewhere l ((n, Declared name above) ∷ all) h = next l (n, Declared name above) all (somewhere l all h)
somewhere l ((n, Length k) ∷ all) h = next l (n, Length k) all (somewhere l all h)
somewhere l ((n, Cells k) ∷ all) h = next l (n, Cells k) all (somewhere l all h)
