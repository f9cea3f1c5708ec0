-- The steps of expressions and statements, on the meanings of their parts.
use Rattle.std.specs.Prelude.{ℕ, ℤ, pos, neg_ℤ, ◌+ℤ◌, ◌-ℤ◌, Bool, true, false, not, ◌&&◌, nat_eq, int_le, List, [], ◌∷◌, Option, Some, None}
use Rattle.p2c_text.specs.declared.dialect.Dialect.{Dialect}
use Rattle.p2c_text.specs.declared.dialect.Dialect.TheVariants.{Iso, Hp}
use Rattle.typed_tree.specs.declared.types.Types.{Types}
use Rattle.typed_tree.specs.declared.types.PasType.{PasType}
use Rattle.typed_tree.specs.declared.types.LabelRange.{LabelRange}
use Rattle.typed_tree.specs.declared.declarations.Callee.{Callee}
use Rattle.typed_tree.specs.declared.declarations.Callee.TheVariants as callee
use Rattle.typed_tree.specs.declared.declarations.Owner.TheVariants.{Routine}
use Rattle.typed_tree.specs.declared.expressions.Root.{Root}
use Rattle.typed_tree.specs.declared.expressions.Root.TheVariants as root
use Rattle.typed_tree.specs.declared.operations.UnaryOp.{UnaryOp}
use Rattle.typed_tree.specs.declared.operations.UnaryOp.TheVariants as unary
use Rattle.typed_tree.specs.declared.operations.BinaryOp.{BinaryOp}
use Rattle.typed_tree.specs.declared.operations.BinaryOp.TheVariants as binary
use Rattle.typed_tree.specs.Ranges.{type_at, Range}
use Rattle.meanings.specs.declared.errors.RuntimeError.TheVariants.{NoLabel}
use Rattle.meanings.specs.Errors.{error_number}
use Rattle.meanings.specs.Values.{Tree, Undefined, Whole, SetOf, NilPointer, HeapNumber, Reference, RoutineValue}
use Rattle.meanings.specs.Worlds.{Slot, Refers, Calls}
use Rattle.meanings.specs.Outcomes.{Cause, Error, Escape, Exit, Goto, Raise, Malformed, Checked, Passes, Fails, Misfits, ◌&>◌, there}
use Rattle.meanings.specs.Programs.{Passed, Setting, Heading, Prog, ◌>>=◌, ◌>>◌, pure, stop, choose, ask, check, update, here, collect, handle, below, run_routine, turns}
use Rattle.meanings.specs.Names.{find_name, with_slot, contains, block_of, label_owner}
use Rattle.meanings.specs.Memory.{solid}
use Rattle.pascal_meaning.specs.Numbers.{exact, in_range, on_numbers, of_bool, equal, number_of, numbers_of, holds, whole}
use Rattle.pascal_meaning.specs.Sets.{on_sets, is_member, with_member, with_members}
use Rattle.pascal_meaning.specs.Texts.{text_of, on_texts}
use Rattle.pascal_meaning.specs.Places.{Spot, among, plain, place_named, pointer_of, read_spot, store}
use Rattle.pascal_meaning.specs.Input.{look_ahead}
use Rattle.pascal_meaning.specs.Predefined.{activation_of}

-- ---- operators

unfoldable pub on_unary : UnaryOp → Tree → Checked Tree
on_unary unary.Plus t = whole (number_of t)
on_unary unary.Minus t = whole (number_of t &> λ z. exact (neg_ℤ z))
on_unary unary.Not t = whole (holds t &> λ b. Passes (of_bool (not b)))
on_unary unary.BitNot t = whole (number_of t &> λ z. Passes (neg_ℤ z -ℤ pos 1))

unfoldable pub same_pointer : Tree → Tree → Bool
same_pointer NilPointer NilPointer = true
same_pointer (HeapNumber h) (HeapNumber k) = nat_eq h k
same_pointer _ _ = false

unfoldable pub on_pointers : BinaryOp → Tree → Tree → Checked Tree
on_pointers binary.Equal t u = Passes (Whole (of_bool (same_pointer t u)))
on_pointers binary.Unequal t u = Passes (Whole (of_bool (not (same_pointer t u))))
on_pointers _ t u = Misfits

-- an operator on two values, each with its type; the types tell which texts are dynamic strings
unfoldable pub operated : Types → BinaryOp → Option PasType → Tree → Option PasType → Tree → Checked Tree
operated types binary.Join p t q u = on_texts types.dialect binary.Join (text_of p t) (text_of q u)
operated types op p (Whole x) q (Whole y) = whole (on_numbers types.dialect op x y)
operated types op p (Whole x) q (SetOf ms) = Passes (Whole (of_bool (is_member x ms)))
operated types op p (SetOf ls) q (SetOf ms) = on_sets op ls ms
operated types op p NilPointer q u = pointer_of u &> λ u. on_pointers op NilPointer u
operated types op p (HeapNumber h) q u = pointer_of u &> λ u. on_pointers op (HeapNumber h) u
operated types op p t q u = on_texts types.dialect op (text_of p t) (text_of q u)

-- the first where a truth value is true, else the second
unfoldable pub choose_by : {X : Type 0} → Tree → Prog X → Prog X → Prog X
choose_by t p q = check (λ types. holds t) >>= λ b. choose b p q

-- a pointer that was taken earlier is read again
unfoldable pub read_again : Tree → Prog (Unit {0})
read_again (HeapNumber h) = ask (λ s v. solid v (HeapNumber h)) >> pure tt
read_again t = pure tt

-- an operator after its left operand; `and` and `or` evaluate the right one only where the left one does not decide
unfoldable pub apply_operator : BinaryOp → (left : ℕ) → Tree → (right : ℕ) → Prog Tree → Prog Tree
apply_operator binary.And l t r p = choose_by t p (pure (Whole (pos 0)))
apply_operator binary.Or l t r p = choose_by t (pure (Whole (pos 1))) p
apply_operator op l t r p = p >>= λ u. read_again t >> read_again u >> check (λ types. operated types op (type_at types l) t (type_at types r) u)

-- an operator with its right operand, the type of that, and the type after it
pub record Part : Type 0 where
  pub op : BinaryOp
  pub operand : Prog Tree
  pub type : ℕ
  pub of : ℕ

unfoldable pub go_on : List Part → (left : ℕ) → Tree → Prog Tree
go_on [] l t = pure t
go_on (p ∷ ps) l t = apply_operator p.op l t p.type p.operand >>= λ u. go_on ps p.of u

-- ---- set constructors

-- a member, or the first and the last of a range
pub data Element : Type 0 where
  Member : Prog Tree → Element
  Members : Prog Tree → Prog Tree → Element

unfoldable pub with_element : Element → List Bool → Prog (List Bool)
with_element (Member p) s = p >>= λ t. check (λ types. number_of t &> λ z. with_member s z)
with_element (Members p q) s = p >>= λ t. q >>= λ u. check (λ types. numbers_of t u &> λ r. with_members s r.0 r.1)

unfoldable pub with_elements : List Element → List Bool → Prog Tree
with_elements [] s = pure (SetOf s)
with_elements (e ∷ es) s = with_element e s >>= λ s. with_elements es s

-- ---- places

unfoldable pub select_all : List (Spot → Prog Spot) → Spot → Prog Spot
select_all [] p = pure p
select_all (f ∷ fs) p = f p >>= λ q. select_all fs q

-- `input^` is the next character; every other place is selected and read
unfoldable pub read_place : Root → Prog Spot → Prog Tree
read_place root.Input p = ask (λ s v. Passes v.input) >>= λ bs. check (λ types. whole (look_ahead bs))
read_place r p = p >>= λ q. read_spot q

-- ---- calls

unfoldable pub routine_named : Option (ℕ × Slot) → Checked RoutineValue
routine_named (Some (a, Calls c)) = Passes c
routine_named _ = Misfits

unfoldable pub parent_of : Option Heading → Prog ℕ
parent_of (Some h) = activation_of h.parent
parent_of None = stop Malformed

-- a routine with the activation of its static parent, or the value of a procedural parameter
unfoldable pub resolve : Callee → Prog RoutineValue
resolve (callee.Routine k) = ask (λ s v. Passes (block_of s.program.blocks (Routine k))) >>= λ h. parent_of h >>= λ a. pure (record { routine = k; parent = a })
resolve (callee.Formal d) = ask (λ s v. routine_named (find_name v.activations s.here d))

unfoldable pub call_routine : Callee → List (Prog Passed) → Prog Tree
call_routine c args = collect args >>= λ passed. resolve c >>= λ r. run_routine r passed

-- a procedure has no value
unfoldable pub answered : Tree → Checked Tree
answered Undefined = Misfits
answered t = Passes t

unfoldable pub call_function : Callee → List (Prog Passed) → Prog Tree
call_function c args = call_routine c args >>= λ t. check (λ types. answered t)

-- ---- sequences and gotos

-- a statement of a sequence, with the label that stands on it
pub record Item : Type 0 where
  pub label : Option ℕ
  pub run : Prog (Unit {0})

unfoldable pub is_labelled : ℕ → Option ℕ → Bool
is_labelled l None = false
is_labelled l (Some k) = nat_eq k l

unfoldable pub labels_of : List Item → List ℕ
labels_of [] = []
labels_of (i ∷ is) = elim i.label [ None ↦ labels_of is | Some l ↦ l ∷ labels_of is ]

unfoldable pub run_all : List Item → Prog (Unit {0})
run_all [] = pure tt
run_all (i ∷ is) = i.run >> run_all is

unfoldable pub run_from : ℕ → List Item → Prog (Unit {0})
run_from l [] = pure tt
run_from l (i ∷ is) = choose (is_labelled l i.label) (i.run >> run_all is) (run_from l is)

-- where a sequence begins
pub data Start : Type 0 where
  First : Start
  AtLabel : ℕ → Start

unfoldable pub begin_at : Start → List Item → Prog (Unit {0})
begin_at First is = run_all is
begin_at (AtLabel l) is = run_from l is

-- a goto to one of these labels in this activation
unfoldable pub own_goto : List ℕ → Setting → Exit → Option (Option Start)
own_goto ls s (Goto a l) = elim (nat_eq a s.here && contains ls l) [ true ↦ Some (Some (AtLabel l)) | false ↦ None ]
own_goto ls s _ = None

-- a sequence that is resumed after a goto goes on at the bound below
unfoldable pub sequence : List Item → Prog (Unit {0})
sequence is = turns (λ from. handle (own_goto (labels_of is)) (begin_at from is >> pure None)) First

unfoldable pub goto : ℕ → Prog (Unit {0})
goto l = ask (λ s v. there (label_owner s.program.blocks l)) >>= λ o. activation_of o >>= λ a. stop (Goto a l)

-- ---- loops

unfoldable pub again_where : Bool → Option (Unit {0})
again_where true = Some tt
again_where false = None

unfoldable pub while_loop : Prog Tree → Prog (Unit {0}) → Prog (Unit {0})
while_loop test body = test >>= λ t. choose_by t (below (turns (λ u. body >> test >>= λ t. check (λ types. holds t &> λ b. Passes (again_where b))) tt)) (pure tt)

unfoldable pub repeat_loop : Prog (Unit {0}) → Prog Tree → Prog (Unit {0})
repeat_loop body test = below (turns (λ u. body >> test >>= λ t. check (λ types. holds t &> λ b. Passes (again_where (not b)))) tt)

unfoldable pub has_turn : (down : Bool) → (first last : ℤ) → Bool
has_turn true first last = int_le last first
has_turn false first last = int_le first last

-- the value of the next turn
unfoldable pub next_turn : (down : Bool) → (value last : ℤ) → Option ℤ
next_turn down z last = elim (equal z last) [ true ↦ None | false ↦ Some (elim down [ true ↦ z -ℤ pos 1 | false ↦ z +ℤ pos 1 ]) ]

unfoldable pub variable_spot : (name type : ℕ) → Prog Spot
variable_spot d t = ask (place_named d) >>= λ at. pure (plain at t)

-- each turn begins by storing its value; the variable is undefined after the loop
unfoldable pub for_turns : Spot → (down : Bool) → (first last : ℤ) → Prog (Unit {0}) → Prog (Unit {0})
for_turns p down first last body = check (λ types. in_range (Range types p.of) first) >>= λ f. check (λ types. in_range (Range types p.of) last) >>= λ l.
    below (turns (λ z. store p (Whole z) >> body >> pure (next_turn down z l)) f)

unfoldable pub for_loop : (name type : ℕ) → (down : Bool) → Prog Tree → Prog Tree → Prog (Unit {0}) → Prog (Unit {0})
for_loop d t down first last body = first >>= λ f. last >>= λ l. check (λ types. numbers_of f l) >>= λ r. variable_spot d t >>= λ p.
    choose (has_turn down r.0 r.1) (for_turns p down r.0 r.1 body) (pure tt) >> store p Undefined

-- ---- case, with and try

unfoldable pub unmatched : Dialect → Checked (Unit {0})
unmatched Iso = Fails NoLabel
unmatched Hp = Fails NoLabel
unmatched _ = Passes tt

-- a `case` with neither a label nor a part for the rest
unfoldable pub no_case : Prog (Unit {0})
no_case = check (λ types. unmatched types.dialect)

unfoldable pub case_with : List (List LabelRange × Prog (Unit {0})) → Prog (Unit {0}) → ℤ → Prog (Unit {0})
case_with [] rest z = rest
case_with (c ∷ cs) rest z = choose (among c.0 z) c.1 (case_with cs rest z)

unfoldable pub cases : List (List LabelRange × Prog (Unit {0})) → Prog (Unit {0}) → Tree → Prog (Unit {0})
cases cs rest t = check (λ types. number_of t) >>= λ z. case_with cs rest z

-- a name of this activation that stands for a reference
unfoldable pub bind_reference : ℕ → Reference → Prog (Unit {0})
bind_reference d r = here >>= λ a. update (λ types v. Passes (record v { activations = with_slot v.activations a d (Refers r) }))

-- each reference is made in the scope of those before it
unfoldable pub with_all : List (ℕ × Prog Reference) → Prog (Unit {0}) → Prog (Unit {0})
with_all [] body = body
with_all (p ∷ ps) body = p.1 >>= λ r. bind_reference p.0 r >> with_all ps body

unfoldable pub raised : Setting → Exit → Option (Option Cause)
raised s (Raise c) = Some (Some c)
raised s _ = None

unfoldable pub code_of : Cause → ℤ
code_of (Error e) = neg_ℤ (pos (error_number e))
code_of (Escape n) = n

unfoldable pub recover_from : Prog (Unit {0}) → Option Cause → Prog (Unit {0})
recover_from p None = pure tt
recover_from p (Some c) = update (λ types v. Passes (record v { escape_code = code_of c })) >> p

unfoldable pub try_recover : Prog (Unit {0}) → Prog (Unit {0}) → Prog (Unit {0})
try_recover body recover = handle raised (body >> pure None) >>= λ c. recover_from recover c
