-- Laws of the relations.
use Rattle.std.specs.Prelude.{◌≡◌, ℕ, true}
use Rattle.p2c_text.specs.declared.dialect.Dialect.{Dialect}
use Rattle.typed_tree.specs.declared.types.Types.{Types}
use Rattle.type_rules.specs.Relations.{Compatible, Assignable}

abbrev pub CompatibleIsSymmetric : Type 0
CompatibleIsSymmetric = (types : Types) (a b : ℕ) → Compatible types a b ≡ Compatible types b a

abbrev pub CompatibleIsReflexive : Type 0
CompatibleIsReflexive = (types : Types) (t : ℕ) → Compatible types t t ≡ true

abbrev pub CompatibleIsAssignable : Type 0
CompatibleIsAssignable = (d : Dialect) (types : Types) (a b : ℕ) → Compatible types a b ≡ true → Assignable d types a b ≡ true
