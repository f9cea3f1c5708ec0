-- The parts of a call.
use Rattle.std.proofs.Common.{◌≡◌, ℕ, suc, zero, ◌+◌, ◌-◌, ◌<◌, ◌≤◌, List, [], ◌∷◌, ◌++◌, length, map, reverse, take, take_all, drop, get_or, true, false, Option, Some, None, Result, Ok, Err, refl, sym, ap, ◌∙◌, arith}
use Rattle.std.specs.Prelude.{if◌then◌else◌, slice_get}
use Rattle.std.specs.Str.{bytes_eq}
use Rattle.c_tree.specs.Tree as t
use Rattle.c_tree.specs.Tree.{ObjectType, Expr, Statement}
use Rattle.c_tree.specs.declared.statement.CCallee.TheVariants as callee
use Rattle.c_tree.specs.declared.program.CDeclaration.{CDeclaration}
use Rattle.c_tree.specs.declared.program.CVariable.{CVariable}
use Rattle.c_tree.specs.declared.program.CFunction.{CFunction}
use Rattle.c_tree.specs.declared.program.CProgram.{CProgram}
use Rattle.c_meaning.specs.declared.StuckKind.{StuckKind}
use Rattle.c_meaning.specs.declared.StuckKind.TheVariants as k
use Rattle.c_meaning.specs.Cells.{Name, Cell, Tree, Block, Blocks}
use Rattle.c_meaning.specs.Answer.{Answer, Got, Bad, ◌>>=◌, or_bad, or_else}
use Rattle.c_meaning.specs.Types.{Signature, Of, AnyPointer, Routine}
use Rattle.c_meaning.specs.Values.{Value, Typed, leaf, converted}
use Rattle.c_meaning.specs.Evaluate.{View, Site, root_number, name_value, function_value, value, values}
use Rattle.c_meaning.specs.States as m
use Rattle.c_meaning.specs.Steps.{called_cell, called_value, parameter_blocks}
use Rattle.name_tables.specs.Places.{first_from, function_name}
use Rattle.std.proofs.lemmas.List.{reverse-append, length-reverse}
use Rattle.std.specs.Result.{IsErrAnd}
use Rattle.c_cells.specs.declared.halt.Halt.{Halt}
use Rattle.c_cells.specs.declared.halt.Halt.TheVariants.{Stuck, Memory}
use Rattle.c_evaluation.specs.declared.value.Value as held
use Rattle.c_cells.specs.Halts.{Tells}
use Rattle.c_evaluation.specs.Values as rv
use Rattle.c_evaluation.specs.Values.{values_of, type_in, tree_in}
use Rattle.name_tables.proofs.Finding.{below}
use Rattle.c_evaluation.proofs.Lookups.{written_there}
use Rattle.c_evaluation.proofs.Binary.{bind_got, bind_bad}
use Rattle.c_stepper.specs.Calls.{function_from, function_called, callee_function, pointed_name, is_named, placed, site_target, parameter_block, fitted, entered_with}

module _ (x : Value) where
  pub no_content : (kind : StuckKind) → leaf (tree_in x) ≡ Bad kind → pointed_name x ≡ Bad kind
  no_content kind h = bind_bad (leaf (tree_in x)) kind called_cell h

  pub some_content : (c : Cell) → leaf (tree_in x) ≡ Got c → pointed_name x ≡ called_cell c
  some_content c h = bind_got (leaf (tree_in x)) c called_cell h

  pub called_routine : (s : Signature) → type_in x ≡ Routine s → called_value x ≡ pointed_name x
  unfolding called_value
  called_routine s = elim x as (λ x. type_in x ≡ Routine s → called_value x ≡ pointed_name x) [ Typed from tree ↦ (λ h. ap (λ q. called_value (Typed q tree)) h) ]

  pub called_any : type_in x ≡ AnyPointer → called_value x ≡ Bad k.NullUse
  unfolding called_value
  called_any = elim x as (λ x. type_in x ≡ AnyPointer → called_value x ≡ Bad k.NullUse) [ Typed from tree ↦ (λ h. ap (λ q. called_value (Typed q tree)) h) ]

named_called : (of : ObjectType) (tree : Tree) → is_named of ≡ true → called_value (Typed (Of of) tree) ≡ leaf tree >>= called_cell
unfolding called_value
named_called (t.Named n) tree h = refl
named_called t.Int tree h = cc
named_called t.Word tree h = cc
named_called t.Byte tree h = cc
named_called (t.Struct n) tree h = cc
named_called t.VoidPointer tree h = cc
named_called (t.Pointer of) tree h = cc

other_called : (of : ObjectType) (tree : Tree) → is_named of ≡ false → called_value (Typed (Of of) tree) ≡ Bad k.Mismatch
unfolding called_value
other_called (t.Named n) tree h = cc
other_called t.Int tree h = refl
other_called t.Word tree h = refl
other_called t.Byte tree h = refl
other_called (t.Struct n) tree h = refl
other_called t.VoidPointer tree h = refl
other_called (t.Pointer of) tree h = refl

module _ (x : Value) (of : ObjectType) where
  pub called_named : type_in x ≡ Of of → is_named of ≡ true → called_value x ≡ pointed_name x
  called_named = elim x as (λ x. type_in x ≡ Of of → is_named of ≡ true → called_value x ≡ pointed_name x) [ Typed from tree ↦ (λ h l. ap (λ q. called_value (Typed q tree)) h ∙ named_called of tree l) ]

  pub called_other : type_in x ≡ Of of → is_named of ≡ false → called_value x ≡ Bad k.Mismatch
  called_other = elim x as (λ x. type_in x ≡ Of of → is_named of ≡ false → called_value x ≡ Bad k.Mismatch) [ Typed from tree ↦ (λ h l. ap (λ q. called_value (Typed q tree)) h ∙ other_called of tree l) ]

pub function_first : (x : Name) (fs : List CFunction) (i : ℕ) → first_from i x (map function_name fs) ≡ function_from i x fs
unfolding first_from or_else
function_first x [] i = refl
function_first x (f ∷ fs) i =
    elim (bytes_eq x f.name) as (λ b. or_else (if b then Some i else None) (first_from (i + 1) x (map function_name fs)) ≡ (if b then Some i else function_from (i + 1) x fs))
    [ true ↦ refl | false ↦ function_first x fs (i + 1) ]

module _ (functions : List CFunction) (x : Value) where
  pub no_function : (kind : StuckKind) → called_value x ≡ Bad kind → function_called functions x ≡ Bad kind
  no_function kind h = bind_bad (called_value x) kind _ h

  pub some_function : (name : Name) → called_value x ≡ Got name → function_called functions x ≡ Got (function_from 0 name functions)
  some_function name h = bind_got (called_value x) name _ h

-- ---- the function of a name

at_place : {A : Type 0} (list : List A) (n : ℕ) → n < length list → (a : A) × (slice_get list n ≡ Some a)
at_place [] n h = absurd (omega (arith, h))
at_place (a ∷ list) zero h = (a, refl)
at_place (a ∷ list) (suc n) h = at_place list n (omega (arith, h))

told_somehow : (a w : Option Signature) (s : Signature) → w ≡ Some s → (r : Signature) × (or_else a w ≡ Some r)
unfolding or_else
told_somehow None w s h = (s, h)
told_somehow (Some r) w s h = (r, refl)

module _ (c : CProgram) (reach : ℕ) (names : m.Names) (blocks : Blocks) (x : Name) (n : ℕ) (place : first_from 0 x (map function_name c.functions) ≡ Some n) (here : n < reach) where
  signed : (s : Signature) × (m.signature_of c reach x ≡ Some s)
  unfolding m.signature_of
  signed =
      let f = at_place c.functions n (let low = below function_name x c.functions 0 n place in omega (arith, low)) in
      told_somehow (m.announced x c.prototypes) (m.written x (take reach c.functions)) _ (written_there x c.functions reach n f.0 place here f.1)

  -- no variable hides it
  pub direct : m.number_of c names x ≡ None → callee_function c (m.view c reach names blocks) (callee.Direct x) ≡ Got (Some n)
  unfolding ◌>>=◌ m.view m.numbered name_value function_value called_value called_cell leaf
  direct h =
      ap (λ o. name_value (m.view c reach names blocks) x (m.numbered blocks o) >>= function_called c.functions) h
      ∙ ap (λ o. function_value x o >>= function_called c.functions) signed.1
      ∙ ap Got (sym (function_first x c.functions 0) ∙ place)

module _ (v : View) (s : Site) where
  pub no_target : (kind : StuckKind) → root_number v s.root ≡ Bad kind → site_target v s ≡ Bad kind
  no_target kind h = bind_bad (root_number v s.root) kind _ h

  pub some_target : (n : ℕ) → root_number v s.root ≡ Got n → site_target v s ≡ Got (placed n s)
  some_target n h = bind_got (root_number v s.root) n _ h

-- ---- arguments

-- what is before and what values follow
abbrev pub with_values : View → List Value → List Expr → Answer (List Value)
with_values v done rest = values v rest >>= (λ xs. Got (done ++ xs))

append_nil : {A : Type 0} (l : List A) → l ++ [] ≡ l
append_nil [] = refl
append_nil (a ∷ l) = ap (λ l. a ∷ l) (append_nil l)

append_one : {A : Type 0} (l : List A) (a : A) (r : List A) → l ++ a ∷ r ≡ (l ++ a ∷ []) ++ r
append_one [] a r = refl
append_one (b ∷ l) a r = ap (λ l. b ∷ l) (append_one l a r)

values_after : (done : List Value) (x : Value) (a : Answer (List Value)) → a >>= (λ xs. Got (x ∷ xs)) >>= (λ xs. Got (done ++ xs)) ≡ a >>= (λ xs. Got ((done ++ x ∷ []) ++ xs))
unfolding ◌>>=◌
values_after done x (Got xs) = ap Got (append_one done x xs)
values_after done x (Bad kind) = refl

module _ (v : View) (done : List Value) (first : Expr) (after : List Expr) where
  pub value_next : (x : Value) → Got x ≡ value v first → with_values v done (first ∷ after) ≡ with_values v (done ++ x ∷ []) after
  unfolding values ◌>>=◌
  value_next x h = ap (λ a. a >>= (λ x. values v after >>= (λ xs. Got (x ∷ xs))) >>= (λ xs. Got (done ++ xs))) (sym h) ∙ values_after done x (values v after)

  pub value_none : (kind : StuckKind) → Bad kind ≡ value v first → Bad kind ≡ with_values v done (first ∷ after)
  unfolding values ◌>>=◌
  value_none kind h = ap (λ a. a >>= (λ x. values v after >>= (λ xs. Got (x ∷ xs))) >>= (λ xs. Got (done ++ xs))) h

pub no_more_values : (v : View) (done : List Value) → with_values v done [] ≡ Got done
unfolding values ◌>>=◌
no_more_values v done = ap Got (append_nil done)

pub values_whole : (v : View) (all : List Expr) → with_values v [] all ≡ values v all
unfolding ◌>>=◌
values_whole v all = elim (values v all) as (λ a. a >>= (λ xs. Got xs) ≡ a) [ Got xs ↦ refl | Bad kind ↦ refl ]

-- ---- parameters

abbrev pub with_blocks : List CDeclaration → Blocks → List CVariable → List Value → Answer Blocks
with_blocks ds done qs xs = parameter_blocks ds qs xs >>= (λ more. Got (done ++ more))

blocks_after : (done : Blocks) (b : Block) (a : Answer Blocks) → a >>= (λ more. Got (Some b ∷ more)) >>= (λ more. Got (done ++ more)) ≡ a >>= (λ more. Got ((done ++ Some b ∷ []) ++ more))
unfolding ◌>>=◌
blocks_after done b (Got more) = ap Got (append_one done (Some b) more)
blocks_after done b (Bad kind) = refl

block_split : (done : Blocks) (q : CVariable) (c : Answer Tree) (a : Answer Blocks)
    → c >>= (λ tree. a >>= (λ blocks. Got (Some (record { of = q.of; tree = tree; heap = false }) ∷ blocks))) >>= (λ more. Got (done ++ more))
    ≡ c >>= (λ tree. Got (record { of = q.of; tree = tree; heap = false })) >>= (λ (b : Block). a >>= (λ more. Got ((done ++ Some b ∷ []) ++ more)))
unfolding ◌>>=◌
block_split done q (Bad kind) a = refl
block_split done q (Got tree) a = blocks_after done (record { of = q.of; tree = tree; heap = false }) a

module _ (ds : List CDeclaration) (done : Blocks) (q : CVariable) (qs : List CVariable) where
  split : (x : Value) (xs : List Value) → with_blocks ds done (q ∷ qs) (x ∷ xs) ≡ parameter_block ds q x >>= (λ b. with_blocks ds (done ++ Some b ∷ []) qs xs)
  unfolding parameter_blocks
  split x xs = block_split done q (converted ds q.of x) (parameter_blocks ds qs xs)

  pub block_next : (x : Value) (xs : List Value) (b : Block) → Got b ≡ parameter_block ds q x → with_blocks ds done (q ∷ qs) (x ∷ xs) ≡ with_blocks ds (done ++ Some b ∷ []) qs xs
  unfolding ◌>>=◌
  block_next x xs b h = split x xs ∙ ap (λ a. a >>= (λ b. with_blocks ds (done ++ Some b ∷ []) qs xs)) (sym h)

  pub block_none : (x : Value) (xs : List Value) (kind : StuckKind) → Bad kind ≡ parameter_block ds q x → Bad kind ≡ with_blocks ds done (q ∷ qs) (x ∷ xs)
  unfolding ◌>>=◌
  block_none x xs kind h = sym (split x xs ∙ ap (λ a. a >>= (λ b. with_blocks ds (done ++ Some b ∷ []) qs xs)) (sym h))

  pub too_few : with_blocks ds done (q ∷ qs) [] ≡ Bad k.Mismatch
  unfolding parameter_blocks ◌>>=◌
  too_few = refl

module _ (ds : List CDeclaration) (done : Blocks) where
  pub too_many : (x : Value) (xs : List Value) → with_blocks ds done [] (x ∷ xs) ≡ Bad k.Mismatch
  unfolding parameter_blocks ◌>>=◌
  too_many x xs = refl

  pub just_so : with_blocks ds done [] [] ≡ Got done
  unfolding parameter_blocks ◌>>=◌
  just_so = ap Got (append_nil done)

pub blocks_whole : (ds : List CDeclaration) (qs : List CVariable) (xs : List Value) → with_blocks ds [] qs xs ≡ parameter_blocks ds qs xs
unfolding ◌>>=◌
blocks_whole ds qs xs = elim (parameter_blocks ds qs xs) as (λ a. a >>= (λ more. Got more) ≡ a) [ Got more ↦ refl | Bad kind ↦ refl ]

-- ---- entries

module _ (c : CProgram) (target : m.Target) (xs : List Value) where
  pub entry_of : (which : Option ℕ) (n : ℕ) → which ≡ Some n → entered_with c target xs which ≡ fitted c n target xs
  unfolding or_bad ◌>>=◌
  entry_of which n h = ap (λ o. or_bad k.UnknownName o >>= (λ n. fitted c n target xs)) h

  pub no_entry : (which : Option ℕ) → which ≡ None → entered_with c target xs which ≡ Bad k.UnknownName
  unfolding or_bad ◌>>=◌
  no_entry which h = ap (λ o. or_bad k.UnknownName o >>= (λ n. fitted c n target xs)) h

-- ---- the exits

-- where an evaluation stops, what rests on it stops
pub exit_by : {A B C D : Type 0} (f : A → B) (g : C → D) (e : Halt) (r : Result C Halt) (a : Answer B) (b : Answer D) → IsErrAnd r (λ x. x ≡ e) → Tells f (Err e) a → ((kind : StuckKind) → Bad kind ≡ a → Bad kind ≡ b) → Tells g r b
exit_by f g e (Ok x) a b p t h = absurd p
exit_by f g (Stuck kind) (Err (Stuck k)) a b p t h = let same : k ≡ kind = cc in ap Bad same ∙ h kind t
exit_by f g (Stuck kind) (Err Memory) a b p t h = tt
exit_by f g Memory (Err (Stuck k)) a b p t h = cc
exit_by f g Memory (Err Memory) a b p t h = tt

-- ---- items of slices

-- the items but the first
abbrev pub tail_of : {A : Type 0} → List A → List A
tail_of l = take (length l - 1) (drop 1 l)

tail_is : {A : Type 0} (a : A) (l : List A) → tail_of (a ∷ l) ≡ l
tail_is a l = take_all (length (a ∷ l) - 1) l (omega arith)

pub cons_of : {A : Type 0} (l : List A) (a : A) → 1 ≤ length l → a ≡ get_or l 0 a → l ≡ a ∷ tail_of l
cons_of [] a short e = absurd (omega arith)
cons_of (b ∷ l) a long e = ap (λ x. x ∷ l) (sym e) ∙ ap (λ t. a ∷ t) (sym (tail_is b l))

pub length_of : {A : Type 0} (l : List A) (a : A) (t : List A) → l ≡ a ∷ t → length l ≡ length t + 1
length_of l a t h = let e : suc (length t) ≡ length t + 1 = omega arith in ap length h ∙ e

pub no_items : {A : Type 0} (l : List A) → length l < 1 → l ≡ []
no_items [] short = refl
no_items (a ∷ l) short = absurd (omega arith)

pub values_push : (l : List held.Value) (x : held.Value) → values_of (l ++ x ∷ []) ≡ values_of l ++ rv.value_of x ∷ []
values_push [] x = refl
values_push (y ∷ l) x = ap (λ r. rv.value_of y ∷ r) (values_push l x)

pub values_pop : (l : List held.Value) (x : held.Value) → reverse (values_of (l ++ x ∷ [])) ≡ rv.value_of x ∷ reverse (values_of l)
values_pop l x = ap reverse (values_push l x) ∙ reverse-append (values_of l) (rv.value_of x ∷ [])

pub values_some : (l : List held.Value) → (l ≡ [] → ⊥) → (x : Value) × (xs : List Value) × (reverse (values_of l) ≡ x ∷ xs)
values_some l h = some_of (reverse (values_of l)) (λ e. h (none_before l e))
  where
    some_of : (xs : List Value) → (xs ≡ [] → ⊥) → (x : Value) × (rest : List Value) × (xs ≡ x ∷ rest)
    some_of [] h = absurd (h refl)
    some_of (x ∷ rest) h = (x, rest, refl)

    none_before : (l : List held.Value) → reverse (values_of l) ≡ [] → l ≡ []
    none_before [] e = refl
    none_before (x ∷ l) e = absurd (let longer : length (reverse (values_of (x ∷ l))) ≡ 0 = ap length e in let same = length-reverse (values_of (x ∷ l)) in omega (arith, longer, same))

pub values_reverse : (l : List held.Value) → reverse (values_of (reverse l)) ≡ values_of l
values_reverse [] = refl
values_reverse (x ∷ l) = ap (λ r. reverse (values_of r)) (reverse-append (x ∷ []) l) ∙ values_pop (reverse l) x ∙ ap (λ r. rv.value_of x ∷ r) (values_reverse l)
