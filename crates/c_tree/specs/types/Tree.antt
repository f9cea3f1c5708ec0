-- Types, as contracts see them.
use Rattle.std.specs.Prelude.{ℕ, List}

-- `int64_t`, `uint64_t`, `unsigned char`, `struct n`, the typedef name n, `void *`, and a pointer to another of these
pub data ObjectType : Type 0 where
  Int : ObjectType
  Word : ObjectType
  Byte : ObjectType
  Struct : (name : List ℕ) → ObjectType
  Named : (name : List ℕ) → ObjectType
  VoidPointer : ObjectType
  Pointer : (of : ObjectType) → ObjectType
