-- Parts of types.
use Rattle.std.proofs.Common.{◌≡◌, ℕ, zero, suc, ◌≤◌, ◌<◌, true, false, List, [], ◌∷◌, Some, None, refl, ap, ◌∙◌, arith}
use Rattle.std.specs.Prelude.{slice_get, nat_lt, if◌then◌else◌}
use Rattle.std.proofs.lemmas.Bool.Decides.{nat_tests}
use Rattle.c_tree.specs.Tree as t
use Rattle.c_tree.specs.Tree.{ObjectType}
use Rattle.c_tree.specs.declared.program.CMember.{CMember}
use Rattle.c_tree.specs.declared.program.CDeclaration.{CDeclaration}
use Rattle.c_meaning.specs.declared.StuckKind.{StuckKind}
use Rattle.c_meaning.specs.declared.StuckKind.TheVariants as k
use Rattle.c_meaning.specs.Cells.{Name, Pointer, Block}
use Rattle.c_meaning.specs.Answer.{Answer, Got, Bad, ◌>>=◌, or_bad, when}
use Rattle.c_meaning.specs.Types.{Plain, Array, member_type, type_at, child_type}
use Rattle.c_meaning.specs.Values.{Value}
use Rattle.c_meaning.specs.Evaluate.{View, holds_type, retyped, struct_pointer}

pub type_at_some : (members : List CMember) (i : ℕ) (q : CMember) → slice_get members i ≡ Some q → type_at members i ≡ Some (member_type q.of q.length)
unfolding type_at
type_at_some [] i q h = cc
type_at_some (p ∷ rest) zero q h = let e : p ≡ q = cc in ap (λ (x : CMember). Some (member_type x.of x.length)) e
type_at_some (p ∷ rest) (suc i) q h = type_at_some rest i q h

pub type_at_none : (members : List CMember) (i : ℕ) → slice_get members i ≡ None → type_at members i ≡ None
unfolding type_at
type_at_none [] i h = refl
type_at_none (p ∷ rest) zero h = cc
type_at_none (p ∷ rest) (suc i) h = type_at_none rest i h

module _ (ds : List CDeclaration) (of : ObjectType) (n i : ℕ) where
  pub element_there : i < n → child_type ds (Array n of) i ≡ Some (Plain of)
  unfolding child_type
  element_there h = let e : nat_lt i n ≡ true = grind (arith, nat_tests) in ap (λ q. if q then Some (Plain of) else None) e

  pub element_past : n ≤ i → child_type ds (Array n of) i ≡ None
  unfolding child_type
  element_past h = let e : nat_lt i n ≡ false = grind (arith, nat_tests) in ap (λ q. if q then Some (Plain of) else None) e

module _ (v : View) (s : Name) (n : ℕ) (path : List ℕ) where
  abbrev after_block : Answer Block → Answer Value
  after_block a = a >>= (λ block. when (holds_type v.declared (t.Struct s) path block) k.Mismatch (retyped (t.Pointer (t.Struct s)) (Pointer n path)))

  pub pointer_gone : (kind : StuckKind) → or_bad k.GoneUse (v.block n) ≡ Bad kind → struct_pointer v s (Pointer n path) ≡ Bad kind
  unfolding struct_pointer ◌>>=◌
  pointer_gone kind h = ap after_block h

  pub pointer_unlike : (b : Block) → or_bad k.GoneUse (v.block n) ≡ Got b → holds_type v.declared (t.Struct s) path b ≡ false → struct_pointer v s (Pointer n path) ≡ Bad k.Mismatch
  unfolding struct_pointer ◌>>=◌ when
  pointer_unlike b h l = ap after_block h ∙ ap (λ q. when q k.Mismatch (retyped (t.Pointer (t.Struct s)) (Pointer n path))) l

  pub pointer_alike : (b : Block) → or_bad k.GoneUse (v.block n) ≡ Got b → holds_type v.declared (t.Struct s) path b ≡ true → struct_pointer v s (Pointer n path) ≡ retyped (t.Pointer (t.Struct s)) (Pointer n path)
  unfolding struct_pointer ◌>>=◌ when
  pointer_alike b h l = ap after_block h ∙ ap (λ q. when q k.Mismatch (retyped (t.Pointer (t.Struct s)) (Pointer n path))) l
