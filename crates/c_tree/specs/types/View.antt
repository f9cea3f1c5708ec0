-- What a type is seen as.
use Rattle.std.specs.Prelude.{ℕ, zero, suc}
use Rattle.c_tree.specs.types.Tree as tree
use Rattle.c_tree.specs.types.Tree.{ObjectType}
use Rattle.c_tree.specs.declared.types.CBaseType.{CBaseType}
use Rattle.c_tree.specs.declared.types.CBaseType.TheVariants as base

-- a type before its stars
abbrev pub base_of : CBaseType → ObjectType
base_of base.Int = tree.Int
base_of base.Word = tree.Word
base_of base.Byte = tree.Byte
base_of (base.Struct name) = tree.Struct name
base_of (base.Named name) = tree.Named name
base_of base.VoidPointer = tree.VoidPointer

-- a type with so many stars after it
abbrev pub pointers : ℕ → ObjectType → ObjectType
pointers zero of = of
pointers (suc stars) of = tree.Pointer (pointers stars of)
