-- The types that the runner reckons with, as types of the meaning.
use Rattle.std.specs.Prelude.{map, Option, Some, None, Bool, true, false}
use Rattle.c_tree.specs.Tree as t
use Rattle.c_tree.specs.Tree.{ObjectType}
use Rattle.c_tree.specs.types.View.{pointers}
use Rattle.c_tree.specs.declared.program.CTypedef.{CTypedef}
use Rattle.c_meaning.specs.Types as m
use Rattle.c_meaning.specs.States.{variable_type}
use Rattle.c_evaluation.specs.declared.types.Base.{Base}
use Rattle.c_evaluation.specs.declared.types.Base.TheVariants as b
use Rattle.c_evaluation.specs.declared.types.Object.{Object}
use Rattle.c_evaluation.specs.declared.types.Layer.{Layer}
use Rattle.c_evaluation.specs.declared.types.Layer.TheVariants as l
use Rattle.c_evaluation.specs.declared.types.PlaceType.{PlaceType}
use Rattle.c_evaluation.specs.declared.types.PlaceType.TheVariants as p
use Rattle.c_evaluation.specs.declared.types.Signature.{Signature}
use Rattle.c_evaluation.specs.declared.types.ValueType.{ValueType}
use Rattle.c_evaluation.specs.declared.types.ValueType.TheVariants as v

abbrev pub base_of : Base → ObjectType
base_of b.Int = t.Int
base_of b.Word = t.Word
base_of b.Byte = t.Byte
base_of b.VoidPointer = t.VoidPointer
base_of (b.Struct name) = t.Struct name.now
base_of (b.Named name) = t.Named name.now

abbrev pub object_of : Object → ObjectType
object_of o = pointers o.pointers (base_of o.base)

abbrev pub layer_of : Layer → ObjectType
layer_of l.Int = t.Int
layer_of l.Word = t.Word
layer_of l.Byte = t.Byte
layer_of l.VoidPointer = t.VoidPointer
layer_of (l.Struct name) = t.Struct name.now
layer_of (l.Named name) = t.Named name.now
layer_of (l.Pointer o) = t.Pointer (object_of o)

abbrev pub place_type_of : PlaceType → m.PlaceType
place_type_of (p.Plain o) = m.Plain (object_of o)
place_type_of (p.Array n o) = m.Array n (object_of o)

abbrev pub signature_of : Signature → m.Signature
signature_of s = record { result = s.result.now; parameters = map variable_type s.parameters.now }

abbrev pub value_type_of : ValueType → m.ValueType
value_type_of (v.Of o) = m.Of (object_of o)
value_type_of v.AnyPointer = m.AnyPointer
value_type_of (v.Routine s) = m.Routine (signature_of s)

-- the signature that a typedef's name stands for
abbrev pub typedef_signature : CTypedef → m.Signature
typedef_signature f = record { result = f.result; parameters = f.parameters }

-- to what pointers of a type lead
abbrev pub target_of : ObjectType → Option ObjectType
target_of (t.Pointer of) = Some of
target_of _ = None

-- whether it is `unsigned char`
abbrev pub is_byte : ObjectType → Bool
is_byte t.Byte = true
is_byte _ = false
