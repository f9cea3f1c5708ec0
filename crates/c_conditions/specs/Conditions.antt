-- When the further conditions of a program hold, those of levels left aside.
use Rattle.std.specs.Prelude.{◌≡◌, ℕ}
use Rattle.std.specs.List.{AllByRecursion, Contains}
use Rattle.c_grammar.specs.declared.fault.CTextKind.{CTextKind}
use Rattle.c_grammar.specs.Demands.{Demand, Level, Leads, Differs, Declared, Length, Cells, Demands, Holds, kind_of}
use Rattle.c_conditions.specs.declared.fault.ConditionFault.{ConditionFault}
use Rattle.c_conditions.specs.declared.fault.ConditionFault.TheVariants.{At, Memory}

-- whoever builds the tree sees to its levels
abbrev pub HoldsButLevel : Demand → Type 0
HoldsButLevel (Level n) = Unit {0}
HoldsButLevel (Leads label labels) = Holds (Leads label labels)
HoldsButLevel (Differs name others) = Holds (Differs name others)
HoldsButLevel (Declared name above) = Holds (Declared name above)
HoldsButLevel (Length n) = Holds (Length n)
HoldsButLevel (Cells n) = Holds (Cells n)

-- each demand that is no level's holds
abbrev pub HoldAllButLevels : Demands → Type 0
HoldAllButLevels all = AllByRecursion (λ (d : ℕ × Demand). HoldsButLevel d.1) all

-- a demand of this kind fails at this token
pub record FailsAt (all : Demands) (kind : CTextKind) (token : ℕ) : Type 0 where
  pub demand : Demand
  pub among : Contains all (token, demand)
  pub of_kind : kind_of demand ≡ kind
  pub fails : Holds demand → ⊥

abbrev pub IsFailure : Demands → ConditionFault → Type 0
IsFailure all (At kind token) = FailsAt all kind token
IsFailure all (Memory e) = Unit {0}
