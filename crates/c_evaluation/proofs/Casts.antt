-- A cast, one step after another.
use Rattle.std.proofs.Common.{◌≡◌, true, false, ◌||◌, refl, ap, ◌∙◌}
use Rattle.c_tree.specs.Tree as t
use Rattle.c_tree.specs.declared.operators.CCast.{CCast}
use Rattle.c_tree.specs.declared.operators.CCast.TheVariants as to
use Rattle.c_meaning.specs.declared.StuckKind.{StuckKind}
use Rattle.c_meaning.specs.declared.StuckKind.TheVariants as k
use Rattle.c_meaning.specs.Cells.{Cell}
use Rattle.c_meaning.specs.Answer.{Got, Bad, ◌>>=◌, when}
use Rattle.c_meaning.specs.Types.{points_to_object}
use Rattle.c_meaning.specs.Values.{Value, Typed, leaf}
use Rattle.c_meaning.specs.Evaluate.{View, retyped, struct_pointer, cast}
use Rattle.c_evaluation.specs.Values.{tree_in, type_in}
use Rattle.c_evaluation.specs.Casts.{is_number, cast_cell}
use Rattle.c_evaluation.proofs.Binary.{bind_got, bind_bad}

module _ (v : View) where
  cast_is : (of : CCast) (x : Value) → is_number of || points_to_object (type_in x) ≡ true → cast v of x ≡ leaf (tree_in x) >>= cast_cell v of
  unfolding cast when
  cast_is to.Int (Typed from tree) h = refl
  cast_is to.Word (Typed from tree) h = refl
  cast_is to.VoidPointer (Typed from tree) h = ap (λ q. when q k.Mismatch (leaf tree >>= retyped t.VoidPointer)) h
  cast_is (to.StructPointer s) (Typed from tree) h = ap (λ q. when q k.Mismatch (leaf tree >>= struct_pointer v s)) h

  pub unlike : (of : CCast) (x : Value) → is_number of || points_to_object (type_in x) ≡ false → cast v of x ≡ Bad k.Mismatch
  unfolding cast when
  unlike to.Int (Typed from tree) h = cc
  unlike to.Word (Typed from tree) h = cc
  unlike to.VoidPointer (Typed from tree) h = ap (λ q. when q k.Mismatch (leaf tree >>= retyped t.VoidPointer)) h
  unlike (to.StructPointer s) (Typed from tree) h = ap (λ q. when q k.Mismatch (leaf tree >>= struct_pointer v s)) h

  pub no_scalar : (of : CCast) (x : Value) (kind : StuckKind) → is_number of || points_to_object (type_in x) ≡ true → leaf (tree_in x) ≡ Bad kind → cast v of x ≡ Bad kind
  no_scalar of x kind h l = cast_is of x h ∙ bind_bad (leaf (tree_in x)) kind (cast_cell v of) l

  pub scalar : (of : CCast) (x : Value) (c : Cell) → is_number of || points_to_object (type_in x) ≡ true → leaf (tree_in x) ≡ Got c → cast v of x ≡ cast_cell v of c
  scalar of x c h l = cast_is of x h ∙ bind_got (leaf (tree_in x)) c (cast_cell v of) l
