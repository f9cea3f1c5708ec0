-- The values of ordinal types.
use Rattle.std.specs.Prelude.{ℕ, ℤ, Option, Some, None, slice_get}
use Rattle.typed_tree.specs.declared.types.Host.{Host}
use Rattle.typed_tree.specs.declared.types.PasType.{PasType}
use Rattle.typed_tree.specs.declared.types.PasType.TheVariants as type
use Rattle.typed_tree.specs.declared.types.Types.{Types}

-- the type with this number
unfoldable pub type_at : Types → ℕ → Option PasType
type_at types t = slice_get types.list t

unfoldable pub range_of : Option PasType → Option (ℤ × ℤ)
range_of (Some (type.Ordinal host first last)) = Some (first, last)
range_of _ = None

-- the least and the greatest value of a type; None exactly for a type that is not ordinal
unfoldable pub Range : Types → ℕ → Option (ℤ × ℤ)
Range types t = range_of (type_at types t)

unfoldable pub host_of : Option PasType → Option Host
host_of (Some (type.Ordinal host first last)) = Some host
host_of _ = None

-- the host of a type; None exactly for a type that is not ordinal
unfoldable pub Hosted : Types → ℕ → Option Host
Hosted types t = host_of (type_at types t)
