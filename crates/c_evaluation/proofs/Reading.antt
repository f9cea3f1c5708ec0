-- Reading cells.
use Rattle.std.proofs.Common.{◌≡◌, ℕ, List, [], ◌∷◌, Some, None, refl, ap, ◌∙◌}
use Rattle.c_tree.specs.Tree as t
use Rattle.c_tree.specs.Tree.{ObjectType}
use Rattle.c_meaning.specs.declared.StuckKind.{StuckKind}
use Rattle.c_meaning.specs.declared.StuckKind.TheVariants as k
use Rattle.c_meaning.specs.Cells.{Cell, Pointer, Block, Tree, Leaf, child, of_part, part}
use Rattle.c_meaning.specs.Answer.{Got, Bad, ◌>>=◌, or_bad}
use Rattle.c_meaning.specs.Values.{Value, Typed, leaf, value_of}
use Rattle.c_meaning.specs.Evaluate.{View, Site, At, read_cell, read_as, root_block, root_number, load, follow_cell, follow, pointer_to, address}
use Rattle.c_meaning.specs.Types.{Plain, Signature, Of, AnyPointer, Routine}
use Rattle.c_evaluation.specs.Values.{type_in}
use Rattle.c_evaluation.specs.Scopes.{part_value, tree_value, follow_leaf}
use Rattle.c_evaluation.specs.Types.{target_of}

module _ (v : View) (of : ObjectType) (n : ℕ) (path : List ℕ) where
  pub read_gone : (kind : StuckKind) → or_bad k.GoneUse (v.block n) ≡ Bad kind → read_cell v of (Pointer n path) ≡ Bad kind
  unfolding read_cell ◌>>=◌
  read_gone kind h = ap (λ a. a >>= (λ block. Got (value_of of (Leaf (Pointer n path))))) h

  pub read_there : (b : Block) → or_bad k.GoneUse (v.block n) ≡ Got b → read_cell v of (Pointer n path) ≡ Got (value_of of (Leaf (Pointer n path)))
  unfolding read_cell ◌>>=◌
  read_there b h = ap (λ a. a >>= (λ block. Got (value_of of (Leaf (Pointer n path))))) h

module _ (v : View) (at : Site) where
  pub part_none : (whole : Tree) → part at.path whole ≡ None → tree_value v at whole ≡ Bad k.Mismatch
  unfolding or_bad ◌>>=◌
  part_none whole h = ap (λ o. or_bad k.Mismatch o >>= read_as v at.of) h

  pub part_some : (whole tree : Tree) → part at.path whole ≡ Some tree → tree_value v at whole ≡ read_as v at.of tree
  unfolding or_bad ◌>>=◌
  part_some whole tree h = ap (λ o. or_bad k.Mismatch o >>= read_as v at.of) h

  -- a scalar has no parts
  pub whole_int : (cell : Cell) → at.path ≡ [] → tree_value v at (Leaf cell) ≡ read_as v at.of (Leaf cell)
  unfolding part or_bad ◌>>=◌
  whole_int cell h = ap (λ path. or_bad k.Mismatch (part path (Leaf cell)) >>= read_as v at.of) h

  pub no_part_of_int : (cell : Cell) (i : ℕ) (rest : List ℕ) → at.path ≡ i ∷ rest → tree_value v at (Leaf cell) ≡ Bad k.Mismatch
  unfolding part child of_part or_bad ◌>>=◌
  no_part_of_int cell i rest h = ap (λ path. or_bad k.Mismatch (part path (Leaf cell)) >>= read_as v at.of) h

  pub load_gone : (kind : StuckKind) → root_block v at.root ≡ Bad kind → load v at ≡ Bad kind
  unfolding load ◌>>=◌
  load_gone kind h = ap (λ a. a >>= (λ block. or_bad k.Mismatch (part at.path block.tree) >>= read_as v at.of)) h

  pub load_there : (block : Block) → root_block v at.root ≡ Got block → load v at ≡ part_value v at block
  unfolding load ◌>>=◌
  load_there block h = ap (λ a. a >>= (λ block. or_bad k.Mismatch (part at.path block.tree) >>= read_as v at.of)) h

module _ (v : View) (of : ObjectType) (n : ℕ) (path : List ℕ) where
  pub follow_gone : (kind : StuckKind) → or_bad k.GoneUse (v.block n) ≡ Bad kind → follow_cell v of (Pointer n path) ≡ Bad kind
  unfolding follow_cell ◌>>=◌
  follow_gone kind h = ap (λ a. a >>= (λ block. Got (record { root = At n; path = path; of = Plain of }))) h

  pub follow_there : (b : Block) → or_bad k.GoneUse (v.block n) ≡ Got b → follow_cell v of (Pointer n path) ≡ Got (record { root = At n; path = path; of = Plain of })
  unfolding follow_cell ◌>>=◌
  follow_there b h = ap (λ a. a >>= (λ block. Got (record { root = At n; path = path; of = Plain of }))) h

type_followed : (v : View) (of to : ObjectType) (tree : Tree) → target_of of ≡ Some to → follow v (Typed (Of of) tree) ≡ leaf tree >>= follow_cell v to
unfolding follow
type_followed v (t.Pointer of) to tree h = let e : of ≡ to = cc in ap (λ o. leaf tree >>= follow_cell v o) e
type_followed v t.Int to tree h = cc
type_followed v t.Word to tree h = cc
type_followed v t.Byte to tree h = cc
type_followed v (t.Struct n) to tree h = cc
type_followed v (t.Named n) to tree h = cc
type_followed v t.VoidPointer to tree h = cc

type_not_followed : (v : View) (of : ObjectType) (tree : Tree) → target_of of ≡ None → follow v (Typed (Of of) tree) ≡ Bad k.Mismatch
unfolding follow
type_not_followed v (t.Pointer of) tree h = cc
type_not_followed v t.Int tree h = refl
type_not_followed v t.Word tree h = refl
type_not_followed v t.Byte tree h = refl
type_not_followed v (t.Struct n) tree h = refl
type_not_followed v (t.Named n) tree h = refl
type_not_followed v t.VoidPointer tree h = refl

module _ (v : View) (x : Value) where
  pub follow_pointer : (of to : ObjectType) → type_in x ≡ Of of → target_of of ≡ Some to → follow v x ≡ follow_leaf v to x
  follow_pointer of to = elim x as (λ x. type_in x ≡ Of of → target_of of ≡ Some to → follow v x ≡ follow_leaf v to x)
      [ Typed from tree ↦ (λ h l. ap (λ q. follow v (Typed q tree)) h ∙ type_followed v of to tree l) ]

  pub follow_any : type_in x ≡ AnyPointer → follow v x ≡ Bad k.NullUse
  unfolding follow
  follow_any = elim x as (λ x. type_in x ≡ AnyPointer → follow v x ≡ Bad k.NullUse) [ Typed from tree ↦ (λ h. ap (λ q. follow v (Typed q tree)) h) ]

  pub follow_routine : (s : Signature) → type_in x ≡ Routine s → follow v x ≡ Bad k.Mismatch
  unfolding follow
  follow_routine s = elim x as (λ x. type_in x ≡ Routine s → follow v x ≡ Bad k.Mismatch) [ Typed from tree ↦ (λ h. ap (λ q. follow v (Typed q tree)) h) ]

  pub follow_other : (of : ObjectType) → type_in x ≡ Of of → target_of of ≡ None → follow v x ≡ Bad k.Mismatch
  follow_other of = elim x as (λ x. type_in x ≡ Of of → target_of of ≡ None → follow v x ≡ Bad k.Mismatch)
      [ Typed from tree ↦ (λ h l. ap (λ q. follow v (Typed q tree)) h ∙ type_not_followed v of tree l) ]

pub address_bad : (v : View) (at : Site) (kind : StuckKind) → root_number v at.root ≡ Bad kind → address v at ≡ Bad kind
unfolding address ◌>>=◌
address_bad v at kind h = ap (λ a. a >>= pointer_to at.of at.path) h
