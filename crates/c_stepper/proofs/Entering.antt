-- A call enters a function.
use Rattle.std.proofs.Common.{◌≡◌, ℕ, suc, ◌+◌, List, [], ◌∷◌, ◌++◌, length, drop, ◌<◌, ◌^◌, All, Bool, true, false, Option, Some, None, Result, Ok, Err, refl, sym, ap, ◌∙◌, subst, inl, inr, ◌⊎◌, arith}
use Rattle.std.specs.Prelude.{if◌then◌else◌, slice_get}
use Rattle.std.specs.Option.{is_some}
use Rattle.std.specs.Result.{IsErrAnd}
use Rattle.std.proofs.lemmas.Slice.Eq.{bytes_eq-Decides}
use Rattle.std.proofs.lemmas.List.{length-append}
use Rattle.std.proofs.lemmas.List.Elements.{All-nil, All-push}
use Rattle.std.specs.Str.{bytes_eq}
use Rattle.c_tree.specs.Tree as t
use Rattle.c_tree.specs.Tree.{Expr, Statement}
use Rattle.c_tree.specs.declared.statement.CCallee.{CCallee}
use Rattle.c_tree.specs.declared.statement.CCallee.TheVariants as callee
use Rattle.c_tree.specs.declared.program.CDeclaration.{CDeclaration}
use Rattle.c_tree.specs.declared.program.CVariable.{CVariable}
use Rattle.c_tree.specs.declared.program.CFunction.{CFunction}
use Rattle.c_tree.specs.declared.program.CProgram.{CProgram}
use Rattle.c_meaning.specs.declared.StuckKind.{StuckKind}
use Rattle.c_meaning.specs.declared.StuckKind.TheVariants as k
use Rattle.c_meaning.specs.Cells.{Name, Blocks}
use Rattle.c_meaning.specs.Answer.{Answer, Got, Bad, ◌>>=◌, or_bad}
use Rattle.c_meaning.specs.Values.{Value}
use Rattle.c_meaning.specs.Evaluate.{View, values}
use Rattle.c_meaning.specs.Fresh.{fresh_blocks}
use Rattle.c_meaning.specs.Entries.{number_at_end, with_entry}
use Rattle.c_meaning.specs.States as m
use Rattle.c_meaning.specs.States.{State, function_of, reach_of}
use Rattle.c_meaning.specs.Runs.{start}
use Rattle.c_meaning.specs.Steps.{Next, Onward, Halted, next, do_statement, called_value, called, target_of, parameter_blocks, names_from, enter, call}
use Rattle.c_stepper.specs.declared.runner.Frame.{Frame}
use Rattle.c_stepper.specs.declared.runner.Runner.{Runner}
use Rattle.c_stepper.specs.declared.runner.Done.{Done}
use Rattle.c_cells.specs.declared.halt.Halt.{Halt}
use Rattle.c_cells.specs.declared.halt.Halt.TheVariants.{Stuck, Memory}
use Rattle.c_stepper.specs.Spots.{todo_at}
use Rattle.c_stepper.specs.Runners as r
use Rattle.c_stepper.specs.Guides.{IsGuide}
use Rattle.c_stepper.specs.Runners.{parts_of, parts_at, name_at, frame_of, frames_of, state_of, FitsFrame, FitsFrames, Acts}
use Rattle.c_stepper.specs.Calls.{function_from, callee_value, callee_function, Entered, entered_with, entered, entered_state, entry_done}

-- ---- the function with a name

equal_bytes : (x y : List ℕ) → bytes_eq x y ≡ true → x ≡ y
equal_bytes x y h = (bytes_eq-Decides x y).0 h

abbrev further : Option ℕ → Option ℕ
further None = None
further (Some n) = Some (suc n)

-- counted from the next number
later : (x : Name) (fs : List CFunction) (i : ℕ) → function_from (i + 1) x fs ≡ further (function_from i x fs)
later x [] i = refl
later x (f ∷ fs) i =
    let next : i + 1 ≡ suc i = omega arith in
    elim (bytes_eq x f.name) as (λ q. (if q then Some (i + 1) else function_from (i + 1 + 1) x fs) ≡ further (if q then Some i else function_from (i + 1) x fs))
    [ true ↦ ap Some next | false ↦ later x fs (i + 1) ]

-- what is known of the first function with a name
record Found (x : Name) (fs : List CFunction) (n : ℕ) : Type 0 where
  function : CFunction
  is : slice_get fs n ≡ Some function
  of : function_of x fs ≡ Some function
  name : x ≡ function.name
  reach : reach_of x fs ≡ n + 1

found_first : (x : Name) (f : CFunction) (fs : List CFunction) (n : ℕ) → bytes_eq x f.name ≡ true → Some 0 ≡ Some n → Found x (f ∷ fs) n
unfolding function_of reach_of
found_first x f fs n same h =
    let first : 0 ≡ n = cc in
    subst (Found x (f ∷ fs)) first (record {
      function = f;
      is = refl;
      of = ap (λ q. if q then Some f else function_of x fs) same;
      name = equal_bytes x f.name same;
      reach = ap (λ q. if q then 1 else suc (reach_of x fs)) same;
    })

found_further : (x : Name) (f : CFunction) (fs : List CFunction) (n : ℕ) → bytes_eq x f.name ≡ false → Found x fs n → Found x (f ∷ fs) (suc n)
unfolding function_of reach_of
found_further x f fs n other h = record {
  function = h.function;
  is = h.is;
  of = ap (λ q. if q then Some f else function_of x fs) other ∙ h.of;
  name = h.name;
  reach = let e : suc (n + 1) ≡ suc n + 1 = omega arith in ap (λ q. if q then 1 else suc (reach_of x fs)) other ∙ ap suc h.reach ∙ e;
}

some_further : (o : Option ℕ) (n : ℕ) → further o ≡ Some n → (m : ℕ) × (o ≡ Some m) × (suc m ≡ n)
some_further None n h = cc
some_further (Some m) n h = (m, refl, cc)

decide : (b : Bool) → (b ≡ true) ⊎ (b ≡ false)
decide true = inl refl
decide false = inr refl

found : (x : Name) (fs : List CFunction) (n : ℕ) → function_from 0 x fs ≡ Some n → Found x fs n
found x [] n h = cc
found x (f ∷ fs) n h = elim (decide (bytes_eq x f.name)) [
  | inl same ↦ found_first x f fs n same (sym (ap (λ q. if q then Some 0 else function_from 1 x fs) same) ∙ h)
  | inr other ↦
      let after : further (function_from 0 x fs) ≡ Some n = sym (later x fs 0) ∙ sym (ap (λ q. if q then Some 0 else function_from 1 x fs) other) ∙ h in
      let m = some_further (function_from 0 x fs) n after in
      subst (Found x (f ∷ fs)) m.2 (found_further x f fs m.0 other (found x fs m.0 m.1))
]

none_further : (o : Option ℕ) → further o ≡ None → o ≡ None
none_further None h = refl
none_further (Some m) h = cc

not_found : (x : Name) (fs : List CFunction) → function_from 0 x fs ≡ None → function_of x fs ≡ None
unfolding function_of
not_found x [] h = refl
not_found x (f ∷ fs) h = elim (decide (bytes_eq x f.name)) [
  | inl same ↦ absurd (let e : ◌≡◌ {A = Option ℕ} (Some 0) None = sym (ap (λ q. if q then Some 0 else function_from 1 x fs) same) ∙ h in cc)
  | inr other ↦
      let after : further (function_from 0 x fs) ≡ None = sym (later x fs 0) ∙ sym (ap (λ q. if q then Some 0 else function_from 1 x fs) other) ∙ h in
      ap (λ q. if q then Some f else function_of x fs) other ∙ not_found x fs (none_further (function_from 0 x fs) after)
]

-- ---- the entry

bind_bind : {A B C : Type 0} (a : Answer A) (f : A → Answer B) (g : B → Answer C) → a >>= f >>= g ≡ a >>= (λ x. f x >>= g)
unfolding ◌>>=◌
bind_bind (Got x) f g = refl
bind_bind (Bad kind) f g = refl

called_is : (v : View) (who : CCallee) → called v who ≡ callee_value v who >>= called_value
unfolding called
called_is v (callee.Direct n) = refl
called_is v (callee.Indirect a) = refl

module _ (c : CProgram) (v : View) (st : State) (rest : List Statement) (target : m.Target) (xs : List Value) where
  -- both ways from the name on
  abbrev by_name : Name → Answer State
  by_name name = or_bad k.UnknownName (function_of name c.functions) >>= (λ g. parameter_blocks c.declarations g.parameters xs >>= (λ blocks. Got (enter c st rest g target blocks)))

  abbrev by_place : Option ℕ → Answer State
  by_place which = entered_with c target xs which >>= (λ e. Got (entered_state c st rest e))

  with_blocks : (n : ℕ) (g : CFunction) (a : Answer Blocks) → slice_get c.functions n ≡ Some g → reach_of g.name c.functions ≡ n + 1
      → a >>= (λ blocks. Got (enter c st rest g target blocks)) ≡ a >>= (λ blocks. Got (n, target, blocks)) >>= (λ e. Got (entered_state c st rest e))
  unfolding ◌>>=◌ enter
  with_blocks n g (Bad kind) h r = refl
  with_blocks n g (Got blocks) h r = rw (h, r) refl

  there : (name : Name) (n : ℕ) → function_from 0 name c.functions ≡ Some n → by_name name ≡ by_place (Some n)
  unfolding or_bad ◌>>=◌
  there name n h =
      let f = found name c.functions n h in
      let reach : reach_of f.function.name c.functions ≡ n + 1 = ap (λ x. reach_of x c.functions) (sym f.name) ∙ f.reach in
      let ps = (λ (o : Option CFunction). (parts_of o).parameters) in
      ap (λ o. or_bad k.UnknownName o >>= (λ g. parameter_blocks c.declarations g.parameters xs >>= (λ blocks. Got (enter c st rest g target blocks)))) f.of
      ∙ with_blocks n f.function (parameter_blocks c.declarations f.function.parameters xs) f.is reach
      ∙ ap (λ qs. parameter_blocks c.declarations qs xs >>= (λ blocks. Got (n, target, blocks)) >>= (λ e. Got (entered_state c st rest e))) (ap ps (sym f.is))

  absent : (name : Name) → function_from 0 name c.functions ≡ None → by_name name ≡ by_place None
  unfolding or_bad ◌>>=◌
  absent name h = ap (λ o. or_bad k.UnknownName o >>= (λ g. parameter_blocks c.declarations g.parameters xs >>= (λ blocks. Got (enter c st rest g target blocks)))) (not_found name c.functions h)

  either : (name : Name) (which : Option ℕ) → function_from 0 name c.functions ≡ which → by_name name ≡ by_place which
  either name (Some n) h = there name n h
  either name None h = absent name h

module _ (c : CProgram) (v : View) (st : State) (rest : List Statement) (into : Option t.Place) (who : CCallee) (arguments : List Expr) where
  given_name : (name : Name) (target : Answer m.Target) (xs : Answer (List Value))
      → target >>= (λ target. xs >>= (λ xs. by_name c v st rest target xs name))
      ≡ target >>= (λ target. xs >>= (λ xs. entered_with c target xs (function_from 0 name c.functions))) >>= (λ e. Got (entered_state c st rest e))
  unfolding ◌>>=◌
  given_name name (Bad kind) xs = refl
  given_name name (Got target) (Bad kind) = refl
  given_name name (Got target) (Got xs) = either c v st rest target xs name (function_from 0 name c.functions) refl

  named : (a : Answer Name)
      → a >>= (λ name. target_of v into >>= (λ target. values v arguments >>= (λ xs. by_name c v st rest target xs name)))
      ≡ a >>= (λ name. Got (function_from 0 name c.functions)) >>= (λ which. target_of v into >>= (λ target. values v arguments >>= (λ xs. entered_with c target xs which))) >>= (λ e. Got (entered_state c st rest e))
  unfolding ◌>>=◌
  named (Bad kind) = refl
  named (Got name) = given_name name (target_of v into) (values v arguments)

  pub call_enters : call c v st rest into who arguments ≡ entered c v into who arguments >>= (λ e. Got (entered_state c st rest e))
  unfolding call
  call_enters =
      let callee : callee_function c v who ≡ called v who >>= (λ name. Got (function_from 0 name c.functions)) =
      sym (ap (λ a. a >>= (λ name. Got (function_from 0 name c.functions))) (called_is v who) ∙ bind_bind (callee_value v who) called_value (λ name. Got (function_from 0 name c.functions))) in
      named (called v who) ∙ ap (λ a. a >>= (λ which. target_of v into >>= (λ target. values v arguments >>= (λ xs. entered_with c target xs which))) >>= (λ e. Got (entered_state c st rest e))) (sym callee)

  pub calls_enter : (e : Entered) → entered c v into who arguments ≡ Got e → do_statement c v st rest (t.Call into who arguments) ≡ Onward (entered_state c st rest e)
  unfolding do_statement next ◌>>=◌
  calls_enter e h = ap (next st) call_enters ∙ ap (λ a. next st (a >>= (λ e. Got (entered_state c st rest e)))) h

  pub calls_stuck : (kind : StuckKind) → entered c v into who arguments ≡ Bad kind → do_statement c v st rest (t.Call into who arguments) ≡ Halted kind st.output
  unfolding do_statement next ◌>>=◌
  calls_stuck kind h = ap (next st) call_enters ∙ ap (λ a. next st (a >>= (λ e. Got (entered_state c st rest e)))) h

-- ---- the frames

pub frames_push : (c : CProgram) (fs : List Frame) (f : Frame) (done : List m.Frame) → frames_of c (fs ++ f ∷ []) done ≡ frame_of c f ∷ frames_of c fs done
frames_push c [] f done = refl
frames_push c (g ∷ fs) f done = frames_push c fs f (frame_of c g ∷ done)

-- a call is counted where a number stands at the name's end
pub counted : (c : CProgram) (new : Runner) (input output calls : List ℕ) (number : Option ℕ) (after : State) → state_of c new input output (with_entry number calls) ≡ after → Acts c new input output calls (Ok (entry_done (is_some number))) (Onward after)
unfolding with_entry
counted c new input output calls None after h = ap Onward h
counted c new input output calls (Some n) after h = (n, ap Onward h)

drop_none : {A : Type 0} (l : List A) → drop 0 l ≡ l
drop_none [] = refl
drop_none (a ∷ l) = refl

-- the frame of a function that begins
frame_begins : (c : CProgram) (f : Frame) (n base : ℕ) (target : m.Target) → f.function ≡ Some n → f.reach ≡ n + 1 → f.base ≡ base → f.spot.outer.items ≡ [] → f.spot.at ≡ 0 → r.target_of f.target ≡ target
    → frame_of c f ≡ (let p = parts_at c (Some n) in record { result = p.result; body = p.body; reach = n + 1; names = names_from base (p.parameters ++ p.locals); todo = p.body; target = target })
frame_begins c f n base target e r b o a t =
    let p = parts_at c (Some n) in
    let whole : List Statement → m.Frame = λ todo. record { result = p.result; body = p.body; reach = n + 1; names = names_from base (p.parameters ++ p.locals); todo = todo; target = target } in
    let parts : frame_of c f ≡ whole (todo_at p.body [] 0) = λ i. let q = parts_at c (e i) in record { result = q.result; body = q.body; reach = r i; names = names_from (b i) (q.parameters ++ q.locals); todo = todo_at q.body (o i) (a i); target = t i } in
    parts ∙ ap whole (drop_none p.body)

module _ (c : CProgram) (old new : Runner) (caller : Frame) (n : ℕ) (target : m.Target) (blocks : Blocks) where
  pub begins : new.frame.function ≡ Some n → new.frame.reach ≡ n + 1 → new.frame.base ≡ length old.memory → new.frame.spot.outer.items ≡ [] → new.frame.spot.at ≡ 0 → r.target_of new.frame.target ≡ target
      → new.below.items ≡ old.below.items ++ caller ∷ []
      → (rest : List Statement) → frame_of c caller ≡ record (frame_of c old.frame) { todo = rest }
      → new.memory ≡ old.memory ++ (blocks ++ fresh_blocks false c.declarations (parts_at c (Some n)).locals)
      → (input output calls : List ℕ) → state_of c new input output (with_entry (number_at_end (name_at c n)) calls) ≡ entered_state c (state_of c old input output calls) rest (n, target, blocks)
  begins e r b o a t w rest f m input output calls =
      let frame = frame_begins c new.frame n (length old.memory) target e r b o a t in
      let below = ap (λ fs. frames_of c fs []) w ∙ frames_push c old.below.items caller [] ∙ ap (λ g. g ∷ frames_of c old.below.items []) f in
      λ i. record { frame = frame i; below = below i; blocks = m i; input = input; output = output; calls = with_entry (number_at_end (name_at c n)) calls }

  pub fits_begun : FitsFrames c old → new.frame.function ≡ Some n → new.frame.base ≡ length old.memory → length old.memory + (length (parts_at c (Some n)).parameters + length (parts_at c (Some n)).locals) < 2 ^ 63
      → new.below.items ≡ old.below.items ++ caller ∷ [] → FitsFrame c caller → IsGuide c new.guide → FitsFrames c new
  fits_begun h e b l w f t = record {
    frame = rw (e, b) l;
    below = subst (All (FitsFrame c)) (sym w) (All-push (FitsFrame c) old.below.items caller h.below f);
    guide = t;
  }

pub entry_done_is : (c : CProgram) (new : Runner) (input output calls : List ℕ) (n : ℕ) (done : Done) (counts : Bool) (after : State) → done ≡ entry_done counts → counts ≡ is_some (number_at_end (name_at c n))
    → state_of c new input output (with_entry (number_at_end (name_at c n)) calls) ≡ after → Acts c new input output calls (Ok done) (Onward after)
entry_done_is c new input output calls n done counts after d b h =
    subst (λ x. Acts c new input output calls (Ok x) (Onward after)) (sym (d ∙ ap entry_done b)) (counted c new input output calls (number_at_end (name_at c n)) after h)

-- where memory is short, nothing is told
pub no_memory : (c : CProgram) (new : Runner) (input output calls : List ℕ) (r : Result Done Halt) (after : Next) → IsErrAnd r (λ x. x ≡ Memory) → Acts c new input output calls r after
no_memory c new input output calls (Ok x) after h = absurd h
no_memory c new input output calls (Err (Stuck kind)) after h = cc
no_memory c new input output calls (Err Memory) after h = tt

-- ---- blocks in range

pub fresh_length : (zeroed : Bool) (ds : List CDeclaration) (xs : List CVariable) → length (fresh_blocks zeroed ds xs) ≡ length xs
unfolding fresh_blocks
fresh_length zeroed ds [] = refl
fresh_length zeroed ds (x ∷ xs) = ap suc (fresh_length zeroed ds xs)

pub room : (zeroed : Bool) (ds : List CDeclaration) (old parameters first made : Blocks) (ps ls : List CVariable) → first ≡ old ++ parameters → made ≡ first ++ fresh_blocks zeroed ds ls → length made < 2 ^ 63 → length parameters ≡ length ps
    → length old + (length ps + length ls) < 2 ^ 63
room zeroed ds old parameters first made ps ls a m small fits =
    let one : length first ≡ length old + length parameters = ap length a ∙ length-append old parameters in
    let two : length made ≡ length first + length (fresh_blocks zeroed ds ls) = ap length m ∙ length-append first (fresh_blocks zeroed ds ls) in
    let three : length (fresh_blocks zeroed ds ls) ≡ length ls = fresh_length zeroed ds ls in
    omega (arith, one, two, three, fits, small)

-- ---- the start

pub starts : (c : CProgram) (it : Runner) (input : List ℕ) → it.frame.function ≡ None → it.frame.reach ≡ length c.functions → it.frame.base ≡ length c.globals → it.frame.spot.outer.items ≡ [] → it.frame.spot.at ≡ 0 → r.target_of it.frame.target ≡ m.Nowhere
    → it.below.items ≡ [] → it.memory ≡ fresh_blocks true c.declarations c.globals ++ fresh_blocks false c.declarations c.main.locals → state_of c it input [] [] ≡ start c input
unfolding start
starts c it input e r b o a t w h =
    let p = parts_at c None in
    let whole : List Statement → m.Frame = λ todo. record { result = p.result; body = p.body; reach = length c.functions; names = names_from (length c.globals) (p.parameters ++ p.locals); todo = todo; target = m.Nowhere } in
    let parts : frame_of c it.frame ≡ whole (todo_at p.body [] 0) = λ i. let q = parts_at c (e i) in record { result = q.result; body = q.body; reach = r i; names = names_from (b i) (q.parameters ++ q.locals); todo = todo_at q.body (o i) (a i); target = t i } in
    let frame = parts ∙ ap whole (drop_none p.body) in
    λ i. record { frame = frame i; below = frames_of c (w i) []; blocks = h i; input = input; output = []; calls = [] }

pub fits_start : (c : CProgram) (it : Runner) (first : Blocks) (ls : List CVariable) → it.frame.function ≡ None → it.frame.base ≡ length first → it.below.items ≡ [] → ls ≡ c.main.locals → it.memory ≡ first ++ fresh_blocks false c.declarations ls → length it.memory < 2 ^ 63 → IsGuide c it.guide → FitsFrames c it
fits_start c it first ls e b w l h small t = record {
  frame =
      let made : length it.memory ≡ length first + length (fresh_blocks false c.declarations ls) = ap length h ∙ length-append first (fresh_blocks false c.declarations ls) in
      let locals : length (fresh_blocks false c.declarations ls) ≡ length c.main.locals = fresh_length false c.declarations ls ∙ ap length l in
      let within : it.frame.base + (0 + length c.main.locals) < 2 ^ 63 = omega (arith, made, locals, small, b) in
      subst (λ f. it.frame.base + (length (parts_at c f).parameters + length (parts_at c f).locals) < 2 ^ 63) (sym e) within;
  below = subst (All (FitsFrame c)) (sym w) (All-nil (FitsFrame c));
  guide = t;
}
