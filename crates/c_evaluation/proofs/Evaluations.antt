-- Evaluation, one step after another.
use Rattle.std.proofs.Common.{◌≡◌, true, false, Result, Ok, Err, refl, ap, ◌∙◌, subst}
use Rattle.std.specs.Prelude.{ℤ, pos, List, Option, Some, None, if◌then◌else◌}
use Rattle.std.specs.Result.{IsErrAnd}
use Rattle.c_meaning.specs.declared.StuckKind.{StuckKind}
use Rattle.c_meaning.specs.Cells.{Name}
use Rattle.c_meaning.specs.Answer.{Answer, Got, Bad, ◌>>=◌}
use Rattle.c_meaning.specs.Types.{Step}
use Rattle.c_meaning.specs.Values.{Value, as_int, is_zero, truth, int, binary, joined}
use Rattle.c_meaning.specs.Evaluate.{View, Site, member, element, onward, value, place, load, name_value, read_place}
use Rattle.c_tree.specs.Tree as t
use Rattle.c_cells.specs.declared.halt.Halt.{Halt}
use Rattle.c_cells.specs.declared.halt.Halt.TheVariants.{Stuck, Memory}
use Rattle.c_cells.specs.Halts.{Tells}
use Rattle.c_evaluation.specs.Evaluations.{onto_member, onto_element, decision, deciding, name_in}
use Rattle.c_tree.specs.declared.operators.CBinary.{CBinary}
use Rattle.c_tree.specs.declared.operators.CBinary.TheVariants as b
use Rattle.c_tree.specs.declared.program.CDeclaration.{CDeclaration}
use Rattle.c_evaluation.proofs.Binary.{bind_got, bind_bad}

module _ (v : View) (n : Name) (site : Site) where
  pub no_member : (kind : StuckKind) → member v.declared n site.of ≡ Bad kind → onto_member v n site ≡ Bad kind
  no_member kind h = bind_bad (member v.declared n site.of) kind _ h

  pub to_member : (step : Step) → member v.declared n site.of ≡ Got step → onto_member v n site ≡ Got (onward site step)
  to_member step h = bind_got (member v.declared n site.of) step _ h

module _ (site : Site) (x : Value) where
  pub no_number : (kind : StuckKind) → as_int x ≡ Bad kind → onto_element site x ≡ Bad kind
  no_number kind h = bind_bad (as_int x) kind _ h

  pub no_element : (z : ℤ) (kind : StuckKind) → as_int x ≡ Got z → element z site.of ≡ Bad kind → onto_element site x ≡ Bad kind
  no_element z kind h l = bind_got (as_int x) z _ h ∙ bind_bad (element z site.of) kind _ l

  pub to_element : (z : ℤ) (step : Step) → as_int x ≡ Got z → element z site.of ≡ Got step → onto_element site x ≡ Got (onward site step)
  to_element z step h l = bind_got (as_int x) z _ h ∙ bind_got (element z site.of) step _ l

-- ---- the exits of a chain

-- where an evaluation stops, what follows it stops
pub exit : {A B C D : Type 0} (f : A → B) (g : C → D) (e : Halt) (r : Result C Halt) (a : Answer B) (h : B → Answer D) → IsErrAnd r (λ x. x ≡ e) → Tells f (Err e) a → Tells g r (a >>= h)
unfolding ◌>>=◌
exit f g e (Ok x) a h p t = absurd p
exit f g (Stuck kind) (Err (Stuck k)) a h p t = let same : k ≡ kind = cc in ap Bad same ∙ ap (λ a. a >>= h) t
exit f g (Stuck kind) (Err Memory) a h p t = tt
exit f g Memory (Err (Stuck k)) a h p t = cc
exit f g Memory (Err Memory) a h p t = tt

-- where it gives something, what follows goes on with it
pub onward_with : {B C D : Type 0} (g : C → D) (r : Result C Halt) (a : Answer B) (x : B) (h : B → Answer D) → Got x ≡ a → Tells g r (h x) → Tells g r (a >>= h)
unfolding ◌>>=◌
onward_with g r a x h e t = subst (λ a. Tells g r (a >>= h)) e t

module _ (x : Value) where
  pub and_none : (kind : StuckKind) → as_int x ≡ Bad kind → decision b.And x ≡ Bad kind
  and_none kind h = bind_bad (as_int x) kind _ h

  pub and_some : (z : ℤ) → as_int x ≡ Got z → decision b.And x ≡ Got (deciding (is_zero z) true (pos 0))
  and_some z h = bind_got (as_int x) z _ h

  pub or_none : (kind : StuckKind) → as_int x ≡ Bad kind → decision b.Or x ≡ Bad kind
  or_none kind h = bind_bad (as_int x) kind _ h

  pub or_some : (z : ℤ) → as_int x ≡ Got z → decision b.Or x ≡ Got (deciding (is_zero z) false (pos 1))
  or_some z h = bind_got (as_int x) z _ h

-- what `&&` and `||` do with what the second operand gives, where the first does not decide, and every other operator
abbrev pub after_first : List CDeclaration → CBinary → Value → Answer Value → Option Value → Answer Value
after_first ds op x y (Some decided) = Got decided
after_first ds op x y None = y >>= binary ds op x

and_is : (ds : List CDeclaration) (x : Value) (y : Answer Value) (a : Answer ℤ) → a >>= (λ z. if is_zero z then Got (truth false) else (y >>= binary ds b.And x)) ≡ a >>= (λ z. Got (deciding (is_zero z) true (pos 0))) >>= after_first ds b.And x y
unfolding ◌>>=◌ truth int
and_is ds x y (Bad kind) = refl
and_is ds x y (Got z) = elim (is_zero z) as (λ q. (if q then Got (truth false) else (y >>= binary ds b.And x)) ≡ after_first ds b.And x y (deciding q true (pos 0))) [ true ↦ refl | false ↦ refl ]

or_is : (ds : List CDeclaration) (x : Value) (y : Answer Value) (a : Answer ℤ) → a >>= (λ z. if is_zero z then (y >>= binary ds b.Or x) else Got (truth true)) ≡ a >>= (λ z. Got (deciding (is_zero z) false (pos 1))) >>= after_first ds b.Or x y
unfolding ◌>>=◌ truth int
or_is ds x y (Bad kind) = refl
or_is ds x y (Got z) = elim (is_zero z) as (λ q. (if q then (y >>= binary ds b.Or x) else Got (truth true)) ≡ after_first ds b.Or x y (deciding q false (pos 1))) [ true ↦ refl | false ↦ refl ]

pub joined_is : (ds : List CDeclaration) (op : CBinary) (x : Value) (y : Answer Value) → joined ds op x y ≡ decision op x >>= after_first ds op x y
unfolding joined ◌>>=◌
joined_is ds b.And x y = and_is ds x y (as_int x)
joined_is ds b.Or x y = or_is ds x y (as_int x)
joined_is ds _ x y = refl

module _ (v : View) where
  pub read_name : (at : t.Place) (name : Name) → name_in at ≡ Some name → value v (t.Read at) ≡ name_value v name (v.named name)
  unfolding value read_place
  read_name (t.Variable n) name h = let e : n ≡ name = cc in ap (λ x. name_value v x (v.named x)) e
  read_name (t.Pointee a) name h = cc
  read_name (t.Member at n) name h = cc
  read_name (t.Index at a) name h = cc

  pub read_part : (at : t.Place) → name_in at ≡ None → value v (t.Read at) ≡ place v at >>= load v
  unfolding value read_place
  read_part (t.Variable n) h = cc
  read_part (t.Pointee a) h = refl
  read_part (t.Member at n) h = refl
  read_part (t.Index at a) h = refl
