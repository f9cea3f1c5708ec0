-- Which types are the same, which are compatible, and what can be assigned to what.
use Rattle.std.specs.Prelude.{ℕ, ℤ, pos, Bool, true, false, ◌&&◌, ◌||◌, not, nat_eq, is_some, Option, Some, None, if◌then◌else◌}
use Rattle.std.specs.Ordering.{int_eq}
use Rattle.std.specs.Int.Signed.{le_z as int_le}
use Rattle.p2c_text.specs.declared.dialect.Dialect.{Dialect}
use Rattle.p2c_text.specs.declared.dialect.Dialect.TheVariants.{Iso}
use Rattle.typed_tree.specs.Ranges.{type_at, Hosted}
use Rattle.typed_tree.specs.declared.types.Host.{Host}
use Rattle.typed_tree.specs.declared.types.Host.TheVariants as host
use Rattle.typed_tree.specs.declared.types.Packing.{Packing}
use Rattle.typed_tree.specs.declared.types.Packing.TheVariants as packing
use Rattle.typed_tree.specs.declared.types.PasType.{PasType}
use Rattle.typed_tree.specs.declared.types.PasType.TheVariants as type
use Rattle.typed_tree.specs.declared.types.Types.{Types}

-- A type name, the names made equal to it and the parts of one declaration have one number, so the same type is the same number.
abbrev pub Same : Types → ℕ → ℕ → Bool
Same types a b = nat_eq a b

-- ---- ordinal types

abbrev pub same_host : Host → Host → Bool
same_host host.Whole host.Whole = true
same_host host.Char host.Char = true
same_host host.Bool host.Bool = true
same_host (host.Enumeration m) (host.Enumeration n) = nat_eq m n
same_host _ _ = false

abbrev pub one_host : Option Host → Option Host → Bool
one_host (Some a) (Some b) = same_host a b
one_host _ _ = false

-- ordinal types of one host
abbrev pub AreOrdinals : Types → ℕ → ℕ → Bool
AreOrdinals types a b = one_host (Hosted types a) (Hosted types b)

-- ---- set types

-- a set constructor is either
abbrev pub one_packing : Packing → Packing → Bool
one_packing packing.Packed packing.Unpacked = false
one_packing packing.Unpacked packing.Packed = false
one_packing _ _ = true

-- the empty set has no base
abbrev pub compatible_bases : Types → Option ℕ → Option ℕ → Bool
compatible_bases types (Some a) (Some b) = AreOrdinals types a b
compatible_bases types _ _ = true

-- packing and base of a set type
abbrev pub set_of : Option PasType → Option (Packing × Option ℕ)
set_of (Some (type.SetOf packing base)) = Some (packing, base)
set_of _ = None

abbrev pub are_sets : Types → Option (Packing × Option ℕ) → Option (Packing × Option ℕ) → Bool
are_sets types (Some a) (Some b) = one_packing a.0 b.0 && compatible_bases types a.1 b.1
are_sets types _ _ = false

-- set types over compatible bases, both packed or both unpacked
abbrev pub AreSets : Types → ℕ → ℕ → Bool
AreSets types a b = are_sets types (set_of (type_at types a)) (set_of (type_at types b))

-- ---- fixed strings

-- all characters
abbrev pub is_char : Option PasType → Bool
is_char (Some (type.Ordinal host.Char first last)) = int_eq first (pos 0) && int_eq last (pos 255)
is_char _ = false

-- the n of the whole numbers 1..n, where n is at least 2
abbrev pub counted : Option PasType → Option ℤ
counted (Some (type.Ordinal host.Whole first last)) = if int_eq first (pos 1) && int_le (pos 2) last then Some last else None
counted _ = None

abbrev pub array_length : Types → Bool → (index component : ℕ) → Option ℤ
array_length types packed index component = if packed && is_char (type_at types component) then counted (type_at types index) else None

-- the length of a fixed string, which is a packed array [1..n] of char or a literal
abbrev pub fixed_length : Types → Option PasType → Option ℤ
fixed_length types (Some (type.Array packed index component)) = array_length types packed index component
fixed_length types (Some (type.Literal length)) = Some (pos length)
fixed_length types _ = None

abbrev pub FixedLength : Types → ℕ → Option ℤ
FixedLength types t = fixed_length types (type_at types t)

abbrev pub equal_lengths : Option ℤ → Option ℤ → Bool
equal_lengths (Some m) (Some n) = int_eq m n
equal_lengths _ _ = false

-- fixed strings of equal length
abbrev pub AreFixedStrings : Types → ℕ → ℕ → Bool
AreFixedStrings types a b = equal_lengths (FixedLength types a) (FixedLength types b)

-- ---- compatible types

abbrev pub Compatible : Types → ℕ → ℕ → Bool
Compatible types a b = Same types a b || AreOrdinals types a b || AreSets types a b || AreFixedStrings types a b

-- ---- assignable values

abbrev pub is_iso : Dialect → Bool
is_iso Iso = true
is_iso _ = false

abbrev pub is_text : Types → Option PasType → Bool
is_text types (Some (type.Ordinal host.Char first last)) = true
is_text types (Some (type.DynString limit)) = true
is_text types (Some type.TextValue) = true
is_text types t = is_some (fixed_length types t)

abbrev pub IsText : Types → ℕ → Bool
IsText types t = is_text types (type_at types t)

abbrev pub is_nil : Option PasType → Bool
is_nil (Some type.NilType) = true
is_nil _ = false

abbrev pub takes : Dialect → Types → Option PasType → ℕ → Bool
takes d types (Some (type.Pointer domain)) value = is_nil (type_at types value)
takes d types (Some (type.DynString limit)) value = not (is_iso d) && IsText types value
takes d types _ value = false

-- nil for a pointer, or a text for a dynamic string
abbrev pub Takes : Dialect → Types → (target value : ℕ) → Bool
Takes d types target value = takes d types (type_at types target) value

abbrev pub Assignable : Dialect → Types → (target value : ℕ) → Bool
Assignable d types target value = Compatible types target value || Takes d types target value
