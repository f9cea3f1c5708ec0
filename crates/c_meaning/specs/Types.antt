-- Types of places and of values, and what the declarations say of them.
use Rattle.std.specs.Prelude.{ℕ, zero, suc, ◌+◌, Bool, true, false, ◌&&◌, if◌then◌else◌, List, [], ◌∷◌, Option, Some, None, nat_lt}
use Rattle.std.specs.Str.{bytes_eq}
use Rattle.c_tree.specs.Tree as t
use Rattle.c_tree.specs.Tree.{ObjectType}
use Rattle.c_tree.specs.declared.program.CMember.{CMember}
use Rattle.c_tree.specs.declared.program.CDeclaration.{CDeclaration}
use Rattle.c_tree.specs.declared.program.CDeclaration.TheVariants as d
use Rattle.c_meaning.specs.Cells.{Name}

-- the type of a place: only a member is an array
pub data PlaceType : Type 0 where
  Plain : (of : ObjectType) → PlaceType
  Array : (length : ℕ) (of : ObjectType) → PlaceType

-- the result and the parameters of a function; None: `void`
pub record Signature : Type 0 where
  pub result : Option ObjectType
  pub parameters : List ObjectType

-- the type of a value: `NULL` and the name of a function fit several
pub data ValueType : Type 0 where
  Of : (of : ObjectType) → ValueType
  AnyPointer : ValueType
  Routine : (of : Signature) → ValueType

-- ---- equal types

-- whether two types are one
unfoldable pub type_eq : ObjectType → ObjectType → Bool
type_eq t.Int t.Int = true
type_eq t.Word t.Word = true
type_eq t.Byte t.Byte = true
type_eq (t.Struct a) (t.Struct b) = bytes_eq a b
type_eq (t.Named a) (t.Named b) = bytes_eq a b
type_eq t.VoidPointer t.VoidPointer = true
type_eq (t.Pointer a) (t.Pointer b) = type_eq a b
type_eq _ _ = false

-- whether two results are one
unfoldable pub result_eq : Option ObjectType → Option ObjectType → Bool
result_eq None None = true
result_eq (Some a) (Some b) = type_eq a b
result_eq _ _ = false

-- whether two lists of types are one
unfoldable pub types_eq : List ObjectType → List ObjectType → Bool
types_eq [] [] = true
types_eq (a ∷ as') (b ∷ bs) = type_eq a b && types_eq as' bs
types_eq _ _ = false

-- whether two signatures are one
unfoldable pub signature_eq : Signature → Signature → Bool
signature_eq a b = result_eq a.result b.result && types_eq a.parameters b.parameters

-- ---- declarations

-- the members of a struct
unfoldable pub members_of : Name → List CDeclaration → Option (List CMember)
members_of n [] = None
members_of n (d.Struct s ∷ rest) = if bytes_eq n s.name then Some s.members else members_of n rest
members_of n (d.Typedef f ∷ rest) = members_of n rest

-- the signature that a typedef's name stands for
unfoldable pub typedef_of : Name → List CDeclaration → Option Signature
typedef_of n [] = None
typedef_of n (d.Struct s ∷ rest) = typedef_of n rest
typedef_of n (d.Typedef f ∷ rest) = if bytes_eq n f.name then Some (record { result = f.result; parameters = f.parameters }) else typedef_of n rest

-- the type of a member: of its type, or an array of it
unfoldable pub member_type : ObjectType → Option ℕ → PlaceType
member_type of None = Plain of
member_type of (Some n) = Array n of

-- a part of a place: which child it is, and its type
pub record Step : Type 0 where
  pub child : ℕ
  pub of : PlaceType

-- the member with a name, counted from i
unfoldable pub member_from : ℕ → Name → List CMember → Option Step
member_from i n [] = None
member_from i n (q ∷ rest) = if bytes_eq n q.name then Some (record { child = i; of = member_type q.of q.length }) else member_from (i + 1) n rest

-- the type of the member at a place
unfoldable pub type_at : List CMember → ℕ → Option PlaceType
type_at [] i = None
type_at (q ∷ rest) zero = Some (member_type q.of q.length)
type_at (q ∷ rest) (suc i) = type_at rest i

-- the type of a child of a place
unfoldable pub child_type_in : Option (List CMember) → ℕ → Option PlaceType
child_type_in None i = None
child_type_in (Some members) i = type_at members i

-- the element of an array, or the member of a struct
unfoldable pub child_type : List CDeclaration → PlaceType → ℕ → Option PlaceType
child_type ds (Array n of) i = if nat_lt i n then Some (Plain of) else None
child_type ds (Plain (t.Struct s)) i = child_type_in (members_of s ds) i
child_type ds (Plain _) i = None

-- the type of the part at a path of a place
unfoldable pub part_type : List CDeclaration → List ℕ → Option PlaceType → Option PlaceType
part_type ds path None = None
part_type ds [] (Some of) = Some of
part_type ds (i ∷ path) (Some of) = part_type ds path (child_type ds of i)

-- ---- types that fit

-- whether `NULL` has the type
unfoldable pub is_pointer : ObjectType → Bool
is_pointer (t.Pointer a) = true
is_pointer t.VoidPointer = true
is_pointer (t.Named n) = true
is_pointer _ = false

-- whether a function with the signature has the type of a typedef
unfoldable pub names_signature : Option Signature → Signature → Bool
names_signature None s = false
names_signature (Some r) s = signature_eq r s

-- whether values of two types are alike: a function's name has each typedef's type with its signature
unfoldable pub alike : List CDeclaration → ValueType → ValueType → Bool
alike ds (Of a) (Of b) = type_eq a b
alike ds (Of a) AnyPointer = is_pointer a
alike ds AnyPointer (Of b) = is_pointer b
alike ds (Of (t.Named n)) (Routine s) = names_signature (typedef_of n ds) s
alike ds (Routine s) (Of (t.Named n)) = names_signature (typedef_of n ds) s
alike ds (Routine s) (Routine r) = signature_eq s r
alike ds AnyPointer AnyPointer = true
alike ds AnyPointer (Routine s) = true
alike ds (Routine s) AnyPointer = true
alike ds _ _ = false

-- whether the value is a pointer to an object
unfoldable pub points_to_object : ValueType → Bool
points_to_object (Of (t.Pointer a)) = true
points_to_object (Of t.VoidPointer) = true
points_to_object AnyPointer = true
points_to_object _ = false
