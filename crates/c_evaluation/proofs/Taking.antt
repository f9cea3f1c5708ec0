-- What places take of values.
use Rattle.std.proofs.Common.{◌≡◌, ℕ, ◌<◌, true, false, Some, None, List, Result, Ok, Err, refl, sym, ap, ◌∙◌, subst, arith}
use Rattle.std.specs.Prelude.{ℤ, pos, negsuc, ◌<ℤ◌, nat_lt, not}
use Rattle.std.specs.Result.{IsErrAnd}
use Rattle.std.proofs.lemmas.Int.{ints}
use Rattle.std.proofs.lemmas.Bool.Decides.{nat_tests}
use Rattle.c_tree.specs.Tree as t
use Rattle.c_tree.specs.Tree.{ObjectType, Expr}
use Rattle.c_tree.specs.declared.program.CProgram.{CProgram}
use Rattle.c_tree.specs.declared.program.CDeclaration.{CDeclaration}
use Rattle.c_meaning.specs.declared.StuckKind.{StuckKind}
use Rattle.c_meaning.specs.declared.StuckKind.TheVariants as k
use Rattle.c_meaning.specs.Cells.{Tree, Leaf, Byte, Blocks}
use Rattle.c_meaning.specs.Answer.{Answer, Got, Bad, ◌>>=◌, or_bad, when}
use Rattle.c_meaning.specs.Types.{Of, alike}
use Rattle.c_meaning.specs.Values.{Value, Typed, as_int, is_zero, byte_of, converted}
use Rattle.c_meaning.specs.Evaluate.{Root, Named, At, root_number}
use Rattle.c_meaning.specs.States.{Names, view, number_of, store, store_named}
use Rattle.c_meaning.specs.Steps.{put_root}
use Rattle.c_cells.specs.declared.halt.Halt.{Halt}
use Rattle.c_cells.specs.declared.halt.Halt.TheVariants.{Stuck, Memory}
use Rattle.c_evaluation.specs.declared.store.Store.{Store}
use Rattle.c_cells.specs.Halts.{Tells}
use Rattle.c_evaluation.specs.Values.{tree_in, type_in}
use Rattle.c_evaluation.specs.Stores.{Stores, byte_of_number, byte_number, truth_in, byte_taken, alike_taken as alike_given}
use Rattle.c_evaluation.specs.Types.{is_byte}
use Rattle.c_evaluation.proofs.Binary.{bind_got, bind_bad}

pub byte_within : (z : ℤ) (n : ℕ) → z ≡ pos n → n < 256 → byte_of z ≡ Got (Leaf (Byte n))
unfolding byte_of when
byte_within z n e h = let within : nat_lt n 256 ≡ true = grind (arith, nat_tests) in ap byte_of e ∙ ap (λ q. when q k.BadByteValue (Got (Leaf (Byte n)))) within

pub byte_below : (z : ℤ) → z <ℤ pos 0 → byte_of z ≡ Bad k.BadByteValue
unfolding byte_of
byte_below (pos n) h = absurd (omega (arith, ints))
byte_below (negsuc n) h = refl

pub byte_above : (z : ℤ) → pos 255 <ℤ z → byte_of z ≡ Bad k.BadByteValue
unfolding byte_of when
byte_above (pos n) h = let above : nat_lt n 256 ≡ false = grind (arith, ints, nat_tests) in ap (λ q. when q k.BadByteValue (Got (Leaf (Byte n)))) above
byte_above (negsuc n) h = refl

pub no_byte : (x : Value) (kind : StuckKind) → as_int x ≡ Bad kind → byte_taken x ≡ Bad kind
no_byte x kind h = bind_bad (as_int x) kind byte_of h

pub some_byte : (x : Value) (z : ℤ) → as_int x ≡ Got z → byte_taken x ≡ byte_of z
some_byte x z h = bind_got (as_int x) z byte_of h

module _ (ds : List CDeclaration) (of : ObjectType) (x : Value) where
  pub unlike : alike ds (Of of) (type_in x) ≡ false → alike_given ds of x ≡ Bad k.Mismatch
  unfolding when
  unlike h = ap (λ q. when q k.Mismatch (Got (tree_in x))) h

  pub alike_taken : alike ds (Of of) (type_in x) ≡ true → alike_given ds of x ≡ Got (tree_in x)
  unfolding when
  alike_taken h = ap (λ q. when q k.Mismatch (Got (tree_in x))) h

pub as_byte : (ds : List CDeclaration) (of : ObjectType) (x : Value) → is_byte of ≡ true → converted ds of x ≡ byte_taken x
unfolding converted
as_byte ds t.Byte x h = refl
as_byte ds t.Int x h = cc
as_byte ds t.Word x h = cc
as_byte ds (t.Struct n) x h = cc
as_byte ds (t.Named n) x h = cc
as_byte ds t.VoidPointer x h = cc
as_byte ds (t.Pointer of) x h = cc

pub as_other : (ds : List CDeclaration) (of : ObjectType) (x : Value) → is_byte of ≡ false → converted ds of x ≡ alike_given ds of x
unfolding converted
as_other ds t.Byte x h = cc
as_other ds t.Int (Typed from tree) h = refl
as_other ds t.Word (Typed from tree) h = refl
as_other ds (t.Struct n) (Typed from tree) h = refl
as_other ds (t.Named n) (Typed from tree) h = refl
as_other ds t.VoidPointer (Typed from tree) h = refl
as_other ds (t.Pointer of) (Typed from tree) h = refl

-- ---- stores

module _ (c : CProgram) (reach : ℕ) (names : Names) (blocks : Blocks) (root : Root) (path : List ℕ) (tree : Tree) where
  pub root_put : (n : ℕ) → root_number (view c reach names blocks) root ≡ Got n → put_root (view c reach names blocks) root path tree ≡ store blocks n path tree
  unfolding root_number put_root view or_bad store_named
  root_put n = elim root as (λ r. root_number (view c reach names blocks) r ≡ Got n → put_root (view c reach names blocks) r path tree ≡ store blocks n path tree) [
    | Named x ↦ elim (number_of c names x) as (λ o. or_bad k.UnknownName o ≡ Got n → store_named blocks o path tree ≡ store blocks n path tree) [ None ↦ (λ h. cc) | Some m ↦ (λ h. let e : m ≡ n = cc in ap (λ i. store blocks i path tree) e) ]
    | At m ↦ (λ h. let e : m ≡ n = cc in ap (λ i. store blocks i path tree) e)
  ]

  pub root_not_put : (kind : StuckKind) → root_number (view c reach names blocks) root ≡ Bad kind → put_root (view c reach names blocks) root path tree ≡ Bad kind
  unfolding root_number put_root view or_bad store_named
  root_not_put kind = elim root as (λ r. root_number (view c reach names blocks) r ≡ Bad kind → put_root (view c reach names blocks) r path tree ≡ Bad kind) [
    | Named x ↦ elim (number_of c names x) as (λ o. or_bad k.UnknownName o ≡ Bad kind → store_named blocks o path tree ≡ Bad kind) [ None ↦ (λ h. let e : kind ≡ k.UnknownName = cc in ap Bad (sym e)) | Some m ↦ (λ h. cc) ]
    | At m ↦ (λ h. cc)
  ]

-- where an evaluation stops, no store follows
pub no_store : {A B : Type 0} (f : A → B) (blocks : Blocks) (e : Halt) (r : Result Store Halt) (a : Answer B) (h : B → Answer Blocks) → IsErrAnd r (λ x. x ≡ e) → Tells f (Err e) a → Stores blocks r (a >>= h)
unfolding ◌>>=◌
no_store f blocks e (Ok x) a h p t = absurd p
no_store f blocks (Stuck kind) (Err (Stuck k)) a h p t = let same : k ≡ kind = cc in ap Bad same ∙ ap (λ a. a >>= h) t
no_store f blocks (Stuck kind) (Err Memory) a h p t = tt
no_store f blocks Memory (Err (Stuck k)) a h p t = cc
no_store f blocks Memory (Err Memory) a h p t = tt

-- where it gives something, the store goes on with it
pub store_with : {B : Type 0} (blocks : Blocks) (r : Result Store Halt) (a : Answer B) (x : B) (h : B → Answer Blocks) → Got x ≡ a → Stores blocks r (h x) → Stores blocks r (a >>= h)
unfolding ◌>>=◌
store_with blocks r a x h e t = subst (λ a. Stores blocks r (a >>= h)) e t

-- ---- bytes and tests

pub number_within : (z : ℤ) (n : ℕ) → z ≡ pos n → n < 256 → byte_of_number z ≡ Got n
unfolding when
number_within z n e h = let within : nat_lt n 256 ≡ true = grind (arith, nat_tests) in ap byte_of_number e ∙ ap (λ q. when q k.BadByteValue (Got n)) within

pub number_below : (z : ℤ) → z <ℤ pos 0 → byte_of_number z ≡ Bad k.BadByteValue
number_below (pos n) h = absurd (omega (arith, ints))
number_below (negsuc n) h = refl

pub number_above : (z : ℤ) → pos 255 <ℤ z → byte_of_number z ≡ Bad k.BadByteValue
unfolding when
number_above (pos n) h = let above : nat_lt n 256 ≡ false = grind (arith, ints, nat_tests) in ap (λ q. when q k.BadByteValue (Got n)) above
number_above (negsuc n) h = refl

module _ (x : Value) where
  pub no_put : (kind : StuckKind) → as_int x ≡ Bad kind → byte_number x ≡ Bad kind
  no_put kind h = bind_bad (as_int x) kind byte_of_number h

  pub some_put : (z : ℤ) → as_int x ≡ Got z → byte_number x ≡ byte_of_number z
  some_put z h = bind_got (as_int x) z byte_of_number h

  pub no_truth : (kind : StuckKind) → as_int x ≡ Bad kind → truth_in x ≡ Bad kind
  no_truth kind h = bind_bad (as_int x) kind _ h

  pub some_truth : (z : ℤ) → as_int x ≡ Got z → truth_in x ≡ Got (not (is_zero z))
  some_truth z h = bind_got (as_int x) z _ h
