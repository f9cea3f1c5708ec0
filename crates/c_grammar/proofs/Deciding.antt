-- Whether a demand holds, as a test; for worked examples.
use Rattle.std.proofs.Common.{◌≡◌, ℕ, Bool, true, false, ◌&&◌, not, List, [], ◌∷◌, refl, arith}
use Rattle.std.specs.Prelude.{nat_le, cond}
use Rattle.c_grammar.specs.declared.fault.CTextKind.{CTextKind}
use Rattle.c_grammar.specs.Demands.{Demand, Level, Leads, Differs, Declared, Length, Cells, Demands, Holds, HoldAll, among, kind_of}

abbrev pub holds : Demand → Bool
holds (Level n) = nat_le n 2400
holds (Leads label labels) = among label labels
holds (Differs name others) = not (among name others)
holds (Declared name above) = among name above
holds (Length n) = nat_le 1 n && nat_le n 16777216
holds (Cells n) = nat_le n 16777216

-- the demands that do not hold, as places and kinds
abbrev pub failing : Demands → List (ℕ × CTextKind)
failing [] = []
failing (d ∷ more) = cond (holds d.1) (failing more) ((d.0, kind_of d.1) ∷ failing more)

pub holding : (d : Demand) → holds d ≡ true → Holds d
holding (Level n) h = grind arith
holding (Leads label labels) h = h
holding (Differs name others) h = by (among name others) h
  where
    by : (b : Bool) → not b ≡ true → b ≡ false
    by true h = cc
    by false h = refl
holding (Declared name above) h = h
holding (Length n) h = (grind arith, grind arith)
holding (Cells n) h = grind arith

pub not_holding : (d : Demand) → holds d ≡ false → Holds d → ⊥
not_holding (Level n) h = λ q. grind arith
not_holding (Leads label labels) h = λ q. cc
not_holding (Differs name others) h = λ q. cc
not_holding (Declared name above) h = λ q. cc
not_holding (Length n) h = λ q. grind arith
not_holding (Cells n) h = λ q. grind arith

pub none_failing : (all : Demands) → failing all ≡ [] → HoldAll all
none_failing [] e = tt
none_failing (d ∷ more) e = by (holds d.1) refl (none_failing more) e
  where
    by : (b : Bool) → holds d.1 ≡ b → (failing more ≡ [] → HoldAll more) → cond b (failing more) ((d.0, kind_of d.1) ∷ failing more) ≡ [] → HoldAll (d ∷ more)
    by true h others e = (holding d.1 h, others e)
    by false h others e = absurd (cc)
