-- The laws of the relations.
use Rattle.std.proofs.Common.{◌≡◌, ℕ, ℤ, true, nat_eq, Option, Some, None, refl, arith}
use Rattle.std.specs.Ordering.{int_eq}
use Rattle.typed_tree.specs.Ranges.{type_at, Hosted}
use Rattle.typed_tree.specs.declared.types.Host.{Host}
use Rattle.typed_tree.specs.declared.types.Host.TheVariants as host
use Rattle.typed_tree.specs.declared.types.Packing.{Packing}
use Rattle.typed_tree.specs.declared.types.Packing.TheVariants as packing
use Rattle.typed_tree.specs.declared.types.Types.{Types}
use Rattle.type_rules.specs.Relations.{same_host, one_host, one_packing, compatible_bases, set_of, are_sets, FixedLength, equal_lengths}
use Rattle.type_rules.specs.Laws.{CompatibleIsSymmetric, CompatibleIsReflexive, CompatibleIsAssignable}

one_number : (m n : ℕ) → nat_eq m n ≡ nat_eq n m
one_number m n = grind arith

one_integer : (m n : ℤ) → int_eq m n ≡ int_eq n m
one_integer m n = grind arith

hosts : (a b : Host) → same_host a b ≡ same_host b a
hosts host.Whole host.Whole = refl
hosts host.Whole host.Char = refl
hosts host.Whole host.Bool = refl
hosts host.Whole (host.Enumeration n) = refl
hosts host.Char host.Whole = refl
hosts host.Char host.Char = refl
hosts host.Char host.Bool = refl
hosts host.Char (host.Enumeration n) = refl
hosts host.Bool host.Whole = refl
hosts host.Bool host.Char = refl
hosts host.Bool host.Bool = refl
hosts host.Bool (host.Enumeration n) = refl
hosts (host.Enumeration m) host.Whole = refl
hosts (host.Enumeration m) host.Char = refl
hosts (host.Enumeration m) host.Bool = refl
hosts (host.Enumeration m) (host.Enumeration n) = one_number m n

optional_hosts : (a b : Option Host) → one_host a b ≡ one_host b a
optional_hosts None None = refl
optional_hosts None (Some b) = refl
optional_hosts (Some a) None = refl
optional_hosts (Some a) (Some b) = hosts a b

packings : (a b : Packing) → one_packing a b ≡ one_packing b a
packings packing.Packed packing.Packed = refl
packings packing.Packed packing.Unpacked = refl
packings packing.Packed packing.Either = refl
packings packing.Unpacked packing.Packed = refl
packings packing.Unpacked packing.Unpacked = refl
packings packing.Unpacked packing.Either = refl
packings packing.Either packing.Packed = refl
packings packing.Either packing.Unpacked = refl
packings packing.Either packing.Either = refl

bases : (types : Types) (a b : Option ℕ) → compatible_bases types a b ≡ compatible_bases types b a
bases types None None = refl
bases types None (Some b) = refl
bases types (Some a) None = refl
bases types (Some a) (Some b) = optional_hosts (Hosted types a) (Hosted types b)

sets : (types : Types) (a b : Option (Packing × Option ℕ)) → are_sets types a b ≡ are_sets types b a
sets types None None = refl
sets types None (Some b) = refl
sets types (Some a) None = refl
sets types (Some a) (Some b) = rw (packings a.0 b.0, bases types a.1 b.1) refl

lengths : (a b : Option ℤ) → equal_lengths a b ≡ equal_lengths b a
lengths None None = refl
lengths None (Some n) = refl
lengths (Some m) None = refl
lengths (Some m) (Some n) = one_integer m n

pub compatible_is_symmetric : CompatibleIsSymmetric
compatible_is_symmetric types a b =
    rw (one_number a b, optional_hosts (Hosted types a) (Hosted types b), sets types (set_of (type_at types a)) (set_of (type_at types b)), lengths (FixedLength types a) (FixedLength types b)) refl

pub compatible_is_reflexive : CompatibleIsReflexive
compatible_is_reflexive types t = rw (same t) refl
  where
    same : (n : ℕ) → nat_eq n n ≡ true
    same n = grind arith

pub compatible_is_assignable : CompatibleIsAssignable
compatible_is_assignable d types a b h = rw h refl
