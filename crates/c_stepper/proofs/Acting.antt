-- What statements do, by what their parts tell.
use Rattle.std.proofs.Common.{◌≡◌, ℕ, Bool, true, false, Option, Some, List, [], ◌∷◌, ◌++◌, length, Result, Ok, Err, refl, sym, ap, ◌∙◌}
use Rattle.std.specs.Prelude.{ℤ, pos, negsuc, not, nat_lt, if◌then◌else◌}
use Rattle.std.specs.Result.{IsErrAnd}
use Rattle.c_tree.specs.Tree as t
use Rattle.c_tree.specs.Tree.{ObjectType, Statement, Expr, Place}
use Rattle.c_tree.specs.declared.program.CProgram.{CProgram}
use Rattle.c_meaning.specs.declared.StuckKind.{StuckKind}
use Rattle.c_meaning.specs.declared.StuckKind.TheVariants as k
use Rattle.c_meaning.specs.Cells.{Leaf, Pointer, Blocks}
use Rattle.c_meaning.specs.Types.{Of}
use Rattle.c_meaning.specs.Fresh.{fresh}
use Rattle.c_meaning.specs.Answer.{Answer, Got, Bad, ◌>>=◌, when}
use Rattle.c_meaning.specs.Values.{Value, Typed, int, as_int, is_zero}
use Rattle.c_meaning.specs.Evaluate.{View, Site, value, place}
use Rattle.c_meaning.specs.States.{State}
use Rattle.c_meaning.specs.Steps.{Next, Onward, Halted, next, to_do, with_blocks, put_value, malloc, assign, get_char, next_byte, after_byte, put_byte, put_char, branch, go_on, do_statement}
use Rattle.c_cells.specs.declared.halt.Halt.{Halt}
use Rattle.c_cells.specs.declared.halt.Halt.TheVariants.{Stuck, Memory}
use Rattle.c_stepper.specs.declared.runner.Runner.{Runner}
use Rattle.c_stepper.specs.declared.runner.Done.{Done}
use Rattle.c_cells.specs.Halts.{Tells, Refuses}
use Rattle.c_evaluation.specs.Stores.{Stores, Frees, address_stored, freed_of, byte_of_number, byte_number, byte_put, truth_in, chosen, byte_stored, next_number}
use Rattle.c_stepper.specs.Runners.{Acts, first_of}

-- where an evaluation stops, the statement is stuck
pub stops : {A B : Type 0} (f : A → B) (c : CProgram) (new : Runner) (input output calls : List ℕ) (e : Halt) (r : Result Done Halt) (a : Answer B) (after : Next)
    → IsErrAnd r (λ x. x ≡ e) → Tells f (Err e) a → ((kind : StuckKind) → a ≡ Bad kind → after ≡ Halted kind output) → Acts c new input output calls r after
stops f c new input output calls e (Ok x) a after p t h = absurd p
stops f c new input output calls (Stuck kind) (Err (Stuck k)) a after p t h = let same : k ≡ kind = cc in ap (λ x. Halted x output) same ∙ sym (h kind (sym t))
stops f c new input output calls (Stuck kind) (Err Memory) a after p t h = tt
stops f c new input output calls Memory (Err (Stuck k)) a after p t h = cc
stops f c new input output calls Memory (Err Memory) a after p t h = tt

-- where no store is told, the statement is stuck
pub stops_store : (blocks : Blocks) (c : CProgram) (new : Runner) (input output calls : List ℕ) (e : Halt) (r : Result Done Halt) (a : Answer Blocks) (after : Next)
    → IsErrAnd r (λ x. x ≡ e) → Stores blocks (Err e) a → ((kind : StuckKind) → a ≡ Bad kind → after ≡ Halted kind output) → Acts c new input output calls r after
stops_store blocks c new input output calls e (Ok x) a after p t h = absurd p
stops_store blocks c new input output calls (Stuck kind) (Err (Stuck k)) a after p t h = let same : k ≡ kind = cc in ap (λ x. Halted x output) same ∙ sym (h kind (sym t))
stops_store blocks c new input output calls (Stuck kind) (Err Memory) a after p t h = tt
stops_store blocks c new input output calls Memory (Err (Stuck k)) a after p t h = cc
stops_store blocks c new input output calls Memory (Err Memory) a after p t h = tt

-- where no free is told, too
pub stops_free : (blocks : Blocks) (c : CProgram) (new : Runner) (input output calls : List ℕ) (e : Halt) (r : Result Done Halt) (a : Answer Blocks) (after : Next)
    → IsErrAnd r (λ x. x ≡ e) → Frees blocks (Err e) a → ((kind : StuckKind) → a ≡ Bad kind → after ≡ Halted kind output) → Acts c new input output calls r after
stops_free blocks c new input output calls e (Ok x) a after p t h = absurd p
stops_free blocks c new input output calls (Stuck kind) (Err (Stuck k)) a after p t h = let same : k ≡ kind = cc in ap (λ x. Halted x output) same ∙ sym (h kind (sym t))
stops_free blocks c new input output calls (Stuck kind) (Err Memory) a after p t h = tt
stops_free blocks c new input output calls Memory (Err (Stuck k)) a after p t h = cc
stops_free blocks c new input output calls Memory (Err Memory) a after p t h = tt

-- where the store is refused, too
pub refused : (c : CProgram) (new : Runner) (input output calls : List ℕ) (e : Halt) (r : Result Done Halt) (a : Answer Blocks) (after : Next)
    → IsErrAnd r (λ x. x ≡ e) → Refuses e a → ((kind : StuckKind) → a ≡ Bad kind → after ≡ Halted kind output) → Acts c new input output calls r after
refused c new input output calls e (Ok x) a after p t h = absurd p
refused c new input output calls (Stuck kind) (Err (Stuck k)) a after p t h = let same : k ≡ kind = cc in ap (λ x. Halted x output) same ∙ sym (h kind t)
refused c new input output calls (Stuck kind) (Err Memory) a after p t h = tt
refused c new input output calls Memory (Err (Stuck k)) a after p t h = cc
refused c new input output calls Memory (Err Memory) a after p t h = tt

-- ---- putchar

number_put : (st0 st : State) (z : ℤ) (b : ℕ) → byte_of_number z ≡ Got b → next st0 (put_byte st z) ≡ Onward (record st { output = st.output ++ b ∷ [] })
unfolding next put_byte when
number_put st0 st (negsuc n) b h = cc
number_put st0 st (pos n) b h = elim (nat_lt n 256) as (λ q. when q k.BadByteValue (Got n) ≡ Got b → next st0 (when q k.BadByteValue (Got (record st { output = st.output ++ n ∷ [] }))) ≡ Onward (record st { output = st.output ++ b ∷ [] }))
    [ true ↦ (λ h. let e : n ≡ b = cc in ap (λ i. Onward (record st { output = st.output ++ i ∷ [] })) e) | false ↦ (λ h. cc) ] h

number_not_put : (st0 st : State) (z : ℤ) (kind : StuckKind) → byte_of_number z ≡ Bad kind → next st0 (put_byte st z) ≡ Halted kind st0.output
unfolding next put_byte when
number_not_put st0 st (negsuc n) kind h = let e : k.BadByteValue ≡ kind = cc in ap (λ i. Halted i st0.output) e
number_not_put st0 st (pos n) kind h = elim (nat_lt n 256) as (λ q. when q k.BadByteValue (Got n) ≡ Bad kind → next st0 (when q k.BadByteValue (Got (record st { output = st.output ++ n ∷ [] }))) ≡ Halted kind st0.output)
    [ true ↦ (λ h. cc) | false ↦ (λ h. let e : k.BadByteValue ≡ kind = cc in ap (λ i. Halted i st0.output) e) ] h

value_put : (st0 st : State) (a : Answer ℤ) (b : ℕ) → a >>= byte_of_number ≡ Got b → next st0 (a >>= put_byte st) ≡ Onward (record st { output = st.output ++ b ∷ [] })
unfolding ◌>>=◌
value_put st0 st (Got z) b h = number_put st0 st z b h
value_put st0 st (Bad kind) b h = cc

value_not_put : (st0 st : State) (a : Answer ℤ) (kind : StuckKind) → a >>= byte_of_number ≡ Bad kind → next st0 (a >>= put_byte st) ≡ Halted kind st0.output
unfolding ◌>>=◌ next
value_not_put st0 st (Got z) kind h = number_not_put st0 st z kind h
value_not_put st0 st (Bad own) kind h = let e : own ≡ kind = cc in ap (λ i. Halted i st0.output) e

all_put : (st0 st : State) (a : Answer Value) (b : ℕ) → a >>= byte_number ≡ Got b → next st0 (a >>= (λ x. as_int x >>= put_byte st)) ≡ Onward (record st { output = st.output ++ b ∷ [] })
unfolding ◌>>=◌
all_put st0 st (Got x) b h = value_put st0 st (as_int x) b h
all_put st0 st (Bad kind) b h = cc

all_not_put : (st0 st : State) (a : Answer Value) (kind : StuckKind) → a >>= byte_number ≡ Bad kind → next st0 (a >>= (λ x. as_int x >>= put_byte st)) ≡ Halted kind st0.output
unfolding ◌>>=◌ next
all_not_put st0 st (Got x) kind h = value_not_put st0 st (as_int x) kind h
all_not_put st0 st (Bad own) kind h = let e : own ≡ kind = cc in ap (λ i. Halted i st0.output) e

int_chosen : (a : Answer ℤ) (taken other : List Statement) → a >>= (λ z. Got (if is_zero z then other else taken)) ≡ a >>= (λ z. Got (not (is_zero z))) >>= (λ b. Got (if b then taken else other))
unfolding ◌>>=◌
int_chosen (Bad kind) taken other = refl
int_chosen (Got z) taken other = elim (is_zero z) as (λ q. Got (if q then other else taken) ≡ Got (if not q then taken else other)) [ true ↦ refl | false ↦ refl ]

chosen_is : (a : Answer Value) (taken other : List Statement) → a >>= (λ x. as_int x >>= (λ z. Got (if is_zero z then other else taken))) ≡ a >>= truth_in >>= (λ b. Got (if b then taken else other))
unfolding ◌>>=◌
chosen_is (Bad kind) taken other = refl
chosen_is (Got x) taken other = int_chosen (as_int x) taken other

next_is : (input : List ℕ) (byte : Option ℕ) → byte ≡ first_of input → next_byte input ≡ next_number byte
unfolding next_byte
next_is [] byte h = sym (ap next_number h)
next_is (b ∷ rest) byte h = sym (ap next_number h)

module _ (c : CProgram) (v : View) (st : State) (rest : List Statement) where
  pub wrote : (e : Expr) (b : ℕ) → byte_put v e ≡ Got b → do_statement c v st rest (t.PutChar e) ≡ Onward (record (to_do st rest) { output = st.output ++ b ∷ [] })
  unfolding do_statement put_char to_do
  wrote e b h = all_put st (to_do st rest) (value v e) b h

  pub wrote_none : (e : Expr) (kind : StuckKind) → byte_put v e ≡ Bad kind → do_statement c v st rest (t.PutChar e) ≡ Halted kind st.output
  unfolding do_statement put_char to_do
  wrote_none e kind h = all_not_put st (to_do st rest) (value v e) kind h

  -- ---- stores

  blocks_next : (a : Answer Blocks) (new : State) (blocks : Blocks) → a ≡ Got blocks → next st (with_blocks new a) ≡ Onward (record new { blocks = blocks })
  unfolding next with_blocks ◌>>=◌
  blocks_next a new blocks h = ap (λ a. next st (with_blocks new a)) h

  blocks_none : (a : Answer Blocks) (new : State) (kind : StuckKind) → a ≡ Bad kind → next st (with_blocks new a) ≡ Halted kind st.output
  unfolding next with_blocks ◌>>=◌
  blocks_none a new kind h = ap (λ a. next st (with_blocks new a)) h

  pub stored : (at : Place) (e : Expr) (blocks : Blocks) → assign v at e ≡ Got blocks → do_statement c v st rest (t.Assign at e) ≡ Onward (record (to_do st rest) { blocks = blocks })
  unfolding do_statement
  stored at e blocks h = blocks_next (assign v at e) (to_do st rest) blocks h

  pub stored_none : (at : Place) (e : Expr) (kind : StuckKind) → assign v at e ≡ Bad kind → do_statement c v st rest (t.Assign at e) ≡ Halted kind st.output
  unfolding do_statement
  stored_none at e kind h = blocks_none (assign v at e) (to_do st rest) kind h

  -- ---- tests

  pub go : (e : Expr) (taken other : List Statement) (b : Bool) → chosen v e ≡ Got b → go_on st (branch v e taken other) ≡ Onward (to_do st (if b then taken else other))
  unfolding go_on branch next ◌>>=◌
  go e taken other b h = ap (λ a. next st (a >>= (λ todo. Got (to_do st todo)))) (chosen_is (value v e) taken other ∙ ap (λ a. a >>= (λ b. Got (if b then taken else other))) h)

  pub go_none : (e : Expr) (taken other : List Statement) (kind : StuckKind) → chosen v e ≡ Bad kind → go_on st (branch v e taken other) ≡ Halted kind st.output
  unfolding go_on branch next ◌>>=◌
  go_none e taken other kind h = ap (λ a. next st (a >>= (λ todo. Got (to_do st todo)))) (chosen_is (value v e) taken other ∙ ap (λ a. a >>= (λ b. Got (if b then taken else other))) h)

  pub read_in : (at : Place) (blocks : Blocks) (byte : Option ℕ) → byte ≡ first_of st.input → byte_stored v at byte ≡ Got blocks → do_statement c v st rest (t.GetChar at) ≡ Onward (record (to_do st rest) { blocks = blocks; input = after_byte st.input })
  unfolding do_statement get_char to_do
  read_in at blocks byte is h = blocks_next (place v at >>= (λ site. put_value v site (int (next_byte st.input)))) (record (to_do st rest) { input = after_byte st.input }) blocks (ap (λ z. place v at >>= (λ site. put_value v site (int z))) (next_is st.input byte is) ∙ h)

  pub read_none : (at : Place) (kind : StuckKind) (byte : Option ℕ) → byte ≡ first_of st.input → byte_stored v at byte ≡ Bad kind → do_statement c v st rest (t.GetChar at) ≡ Halted kind st.output
  unfolding do_statement get_char to_do
  read_none at kind byte is h = blocks_none (place v at >>= (λ site. put_value v site (int (next_byte st.input)))) (record (to_do st rest) { input = after_byte st.input }) kind (ap (λ z. place v at >>= (λ site. put_value v site (int z))) (next_is st.input byte is) ∙ h)

  -- ---- the heap

  malloc_chain : (a : Answer Site) (x : Value) (blocks more : Blocks) → a >>= (λ site. put_value v site x) ≡ Got blocks → a >>= (λ site. put_value v site x >>= (λ stored. Got (stored ++ more))) ≡ Got (blocks ++ more)
  unfolding ◌>>=◌
  malloc_chain (Bad kind) x blocks more h = cc
  malloc_chain (Got site) x blocks more h = ap (λ a. a >>= (λ stored. Got (stored ++ more))) h

  malloc_stuck : (a : Answer Site) (x : Value) (kind : StuckKind) (more : Blocks) → a >>= (λ site. put_value v site x) ≡ Bad kind → a >>= (λ site. put_value v site x >>= (λ stored. Got (stored ++ more))) ≡ Bad kind
  unfolding ◌>>=◌
  malloc_stuck (Bad own) x kind more h = let e : own ≡ kind = cc in ap Bad e
  malloc_stuck (Got site) x kind more h = ap (λ a. a >>= (λ stored. Got (stored ++ more))) h

  pub made : (at : Place) (of : ObjectType) (blocks : Blocks) → address_stored v st.blocks at of ≡ Got blocks
      → do_statement c v st rest (t.Malloc at of) ≡ Onward (record (to_do st rest) { blocks = blocks ++ Some (record { of = of; tree = fresh false c.declarations of; heap = true }) ∷ [] })
  unfolding do_statement malloc
  made at of blocks h = blocks_next (malloc c v st.blocks at of) (to_do st rest) (blocks ++ Some (record { of = of; tree = fresh false c.declarations of; heap = true }) ∷ [])
      (malloc_chain (place v at) (Typed (Of (t.Pointer of)) (Leaf (Pointer (length st.blocks) []))) blocks (Some (record { of = of; tree = fresh false c.declarations of; heap = true }) ∷ []) h)

  pub made_none : (at : Place) (of : ObjectType) (kind : StuckKind) → address_stored v st.blocks at of ≡ Bad kind → do_statement c v st rest (t.Malloc at of) ≡ Halted kind st.output
  unfolding do_statement malloc
  made_none at of kind h = blocks_none (malloc c v st.blocks at of) (to_do st rest) kind
      (malloc_stuck (place v at) (Typed (Of (t.Pointer of)) (Leaf (Pointer (length st.blocks) []))) kind (Some (record { of = of; tree = fresh false c.declarations of; heap = true }) ∷ []) h)

  pub freed_one : (e : Expr) (blocks : Blocks) → freed_of v st.blocks e ≡ Got blocks → do_statement c v st rest (t.Free e) ≡ Onward (record (to_do st rest) { blocks = blocks })
  unfolding do_statement
  freed_one e blocks h = blocks_next (freed_of v st.blocks e) (to_do st rest) blocks h

  pub freed_none : (e : Expr) (kind : StuckKind) → freed_of v st.blocks e ≡ Bad kind → do_statement c v st rest (t.Free e) ≡ Halted kind st.output
  unfolding do_statement
  freed_none e kind h = blocks_none (freed_of v st.blocks e) (to_do st rest) kind h
