-- The values that the runner reckons with, as values of the meaning.
use Rattle.std.proofs.Common.{Bor}
use Rattle.std.specs.Prelude.{List, map}
use Rattle.c_tree.specs.Tree as t
use Rattle.c_meaning.specs.Cells as c
use Rattle.c_meaning.specs.Types as m
use Rattle.c_meaning.specs.Values as n
use Rattle.c_meaning.specs.Values.{Typed}
use Rattle.c_evaluation.specs.Types.{object_of, value_type_of}
use Rattle.c_evaluation.specs.declared.value.Value.{Value}
use Rattle.c_evaluation.specs.declared.value.Value.TheVariants as v
use Rattle.c_evaluation.specs.declared.value.Content.{Content}
use Rattle.c_evaluation.specs.declared.value.Content.TheVariants as k

abbrev pub value_of : Value → n.Value
value_of (v.Int z) = Typed (m.Of t.Int) (c.Leaf (c.Int z))
value_of (v.Word n) = Typed (m.Of t.Word) (c.Leaf (c.Word n))
value_of (v.Scalar of cell) = Typed (value_type_of of) (c.Leaf cell)
value_of (v.Tree of tree) = Typed (m.Of (object_of of)) tree.now

-- what a value holds, and its type
abbrev pub tree_in : n.Value → c.Tree
tree_in (Typed of tree) = tree

abbrev pub type_in : n.Value → m.ValueType
type_in (Typed of tree) = of

-- what a scalar holds
abbrev pub content_of : Content → c.Cell
content_of k.Empty = c.Empty
content_of (k.Int z) = c.Int z
content_of (k.Word n) = c.Word n
content_of (k.Byte n) = c.Byte n
content_of k.Null = c.Null
content_of (k.Pointer block path) = c.Pointer block path.now
content_of (k.Function name) = c.Function name.now

-- what a reference leads to
abbrev pub now_of : {A : Type 0} → Bor A → A
now_of r = r.now

-- values one after another
abbrev pub values_of : List Value → List n.Value
values_of = map value_of
