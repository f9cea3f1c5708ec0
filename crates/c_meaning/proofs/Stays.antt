-- A step leads from a state of a program to a state of it.
use Rattle.std.proofs.Common.{◌≡◌, ℕ, suc, ◌+◌, ◌<◌, ◌≤◌, List, [], ◌∷◌, ◌++◌, length, Bool, true, false, Option, Some, None, refl, sym, ap, subst, ◌∙◌, arith, length-append}
use Rattle.std.specs.Prelude.{ℤ, pos, negsuc, slice_set, if◌then◌else◌}
use Rattle.std.specs.Str.{bytes_eq}
use Rattle.c_tree.specs.Tree as t
use Rattle.c_tree.specs.Tree.{ObjectType, Expr, Statement}
use Rattle.c_tree.specs.declared.statement.CCallee.{CCallee}
use Rattle.c_tree.specs.declared.program.CVariable.{CVariable}
use Rattle.c_tree.specs.declared.program.CDeclaration.{CDeclaration}
use Rattle.c_tree.specs.declared.program.CFunction.{CFunction}
use Rattle.c_tree.specs.declared.program.CProgram.{CProgram}
use Rattle.c_meaning.specs.Cells.{Name, Cell, Empty, Int, Word, Byte, Null, Pointer, Function, Tree, Block, Blocks, block_at}
use Rattle.c_meaning.specs.Answer.{Answer, ◌>>=◌, or_else}
use Rattle.c_meaning.specs.Types.{PlaceType, Plain, Array}
use Rattle.c_meaning.specs.Values.{Value, Typed, int, byte_of, converted}
use Rattle.c_meaning.specs.Evaluate.{View, Root, Named, At, Site}
use Rattle.c_meaning.specs.Fresh.{fresh_blocks}
use Rattle.c_meaning.specs.States.{Names, Target, Nowhere, Into, Frame, State, lookup, global_from, number_of, numbered, changed, store, store_named, without, view}
use Rattle.c_meaning.specs.Steps.{to_do, with_blocks, taken, put_root, put_value, assign, malloc, free_block, free_cell, free_value, get_char, put_byte, put_char, target_of, parameter_blocks, names_from, call, enter, result_of, returned, answered, leave_to, leave, leave_with, go_on, do_statement, view_of, do_next, CStep}
use Rattle.c_meaning.specs.Runs.{start}
use Rattle.c_meaning.specs.StateOf.{TreeBelow, BlocksBelow, HasGlobals, NamesWithin, TargetBelow, FrameWithin, FramesWithin, IsStateOf}
use Rattle.c_meaning.specs.Laws.{StartIsState, StateStays}
use Rattle.c_meaning.proofs.Gives.{Gives, Ok, Not, bind, bind_given, if_when}
use Rattle.c_meaning.proofs.Blocks.{length_set, within}
use Rattle.c_meaning.proofs.Below.{Sees, ValueBelow, ValuesBelow, root_number_below, value_of_below, value_below, place_below, values_below}
use Rattle.c_meaning.proofs.Memory.{blocks_more, block_below, part_changed, set_below, drop_below, append_below, globals_count, globals_set, globals_freed, globals_left, globals_append, fresh_below, fresh_blocks_below, fresh_blocks_count, fresh_globals}
use Rattle.c_meaning.proofs.Touched.{Leads, Goes, Halts, of_next, finished, onward_has}

-- a memory with n blocks, of which some may be pointed to
record Memory (c : CProgram) (made : ℕ) (bs : Blocks) : Type 0 where
  pub globals : HasGlobals c.globals bs
  pub cells : BlocksBelow made bs

-- such a memory with n blocks
record Kept (c : CProgram) (made n : ℕ) (bs : Blocks) : Type 0 where
  pub memory : Memory c made bs
  pub as_many : length bs ≡ n

-- a memory with n blocks at least, whose blocks alone are pointed to
record Whole (c : CProgram) (n : ℕ) (bs : Blocks) : Type 0 where
  pub memory : Memory c (length bs) bs
  pub more : n ≤ length bs

-- ---- what the functions see

lookup_within : (low made : ℕ) (x : Name) (names : Names) (m : ℕ) → NamesWithin low made names → lookup x names ≡ Some m → m < made
unfolding lookup
lookup_within low made x [] m h e = cc
lookup_within low made x (n ∷ names) m h e = by (lookup_within low made x names m h.2) (bytes_eq x n.0) e where
  by : (lookup x names ≡ Some m → m < made) → (q : Bool) → (if q then Some n.1 else lookup x names) ≡ Some m → m < made
  by r true e = let same : n.1 ≡ m = cc in subst (λ m. m < made) same h.1
  by r false e = r e

global_within : (i : ℕ) (x : Name) (gs : List CVariable) (m : ℕ) → global_from i x gs ≡ Some m → m < i + length gs
unfolding global_from
global_within i x [] m e = cc
global_within i x (g ∷ gs) m e = by (λ e. global_within (i + 1) x gs m e) (bytes_eq x g.name) e where
  by : (global_from (i + 1) x gs ≡ Some m → m < i + 1 + length gs) → (q : Bool) → (if q then Some i else global_from (i + 1) x gs) ≡ Some m → m < i + suc (length gs)
  by r true e = let same : i ≡ m = cc in omega (arith, same)
  by r false e = omega (arith, r e)

number_within : (c : CProgram) (made : ℕ) (names : Names) (x : Name) (m : ℕ) → NamesWithin (length c.globals) made names → length c.globals ≤ made → number_of c names x ≡ Some m → m < made
unfolding number_of or_else
number_within c made names x m h l e = by (lookup x names) refl e where
  by : (o : Option ℕ) → lookup x names ≡ o → or_else o (global_from 0 x c.globals) ≡ Some m → m < made
  by (Some k) f e = let same : k ≡ m = cc in lookup_within (length c.globals) made x names m h (f ∙ ap Some same)
  by None f e = let g = global_within 0 x c.globals m e in omega (arith, g, l)

sees : (c : CProgram) (reach : ℕ) (names : Names) (bs : Blocks) → NamesWithin (length c.globals) (length bs) names → Memory c (length bs) bs → Sees (length bs) (view c reach names bs)
unfolding view numbered
sees c reach names bs h m = record {
  number = λ x k e. number_within c (length bs) names x k h (globals_count c.globals bs m.globals) e;
  named = λ x b e. by (number_of c names x) b e;
  made = λ k b e. within bs k b e;
  block = λ k b e. block_below (length bs) bs k b m.cells e;
} where
  by : (o : Option ℕ) (b : Block) → numbered bs o ≡ Some b → TreeBelow (length bs) b.tree
  by None b e = cc
  by (Some k) b e = block_below (length bs) bs k b m.cells e

-- ---- stores

whole : (c : CProgram) (n : ℕ) (bs : Blocks) → Kept c n n bs → Whole c n bs
whole c n bs h = record { memory = subst (λ n. Memory c n bs) (sym h.as_many) h.memory; more = omega (arith, h.as_many) }

all_whole : (c : CProgram) (n : ℕ) (b : Answer Blocks) → Gives (Kept c n n) b → Gives (Whole c n) b
all_whole c n b (Ok bs h) = Ok bs (whole c n bs h)
all_whole c n b (Not kind) = Not kind

changed_kept : (c : CProgram) (made : ℕ) (bs : Blocks) (n : ℕ) (path : List ℕ) (tree : Tree) (o : Option Block) → block_at bs n ≡ o → Memory c made bs → TreeBelow made tree → Gives (Kept c made (length bs)) (changed bs n path tree o)
unfolding changed
changed_kept c made bs n path tree None e m h = Not _
changed_kept c made bs n path tree (Some b) e m h = Ok _ (record {
  memory = record {
    globals = globals_set c.globals bs n b _ e refl refl m.globals;
    cells = set_below made bs n _ (part_changed made path tree b.tree h (block_below made bs n b m.cells e)) m.cells;
  };
  as_many = length_set bs n _;
})

store_kept : (c : CProgram) (made : ℕ) (bs : Blocks) (n : ℕ) (path : List ℕ) (tree : Tree) → Memory c made bs → TreeBelow made tree → Gives (Kept c made (length bs)) (store bs n path tree)
unfolding store
store_kept c made bs n path tree m h = changed_kept c made bs n path tree (block_at bs n) refl m h

named_kept : (c : CProgram) (made : ℕ) (bs : Blocks) (o : Option ℕ) (path : List ℕ) (tree : Tree) → Memory c made bs → TreeBelow made tree → Gives (Kept c made (length bs)) (store_named bs o path tree)
unfolding store_named
named_kept c made bs None path tree m h = Not _
named_kept c made bs (Some n) path tree m h = store_kept c made bs n path tree m h

root_kept : (c : CProgram) (reach : ℕ) (names : Names) (made : ℕ) (bs : Blocks) (root : Root) (path : List ℕ) (tree : Tree) → Memory c made bs → TreeBelow made tree → Gives (Kept c made (length bs)) (put_root (view c reach names bs) root path tree)
unfolding put_root view
root_kept c reach names made bs (Named x) path tree m h = named_kept c made bs (number_of c names x) path tree m h
root_kept c reach names made bs (At n) path tree m h = store_kept c made bs n path tree m h

byte_below : (n : ℕ) (z : ℤ) → Gives (TreeBelow n) (byte_of z)
unfolding byte_of
byte_below n (pos m) = if_when _ _ _ (λ e. Ok _ tt)
byte_below n (negsuc m) = Not _

converted_below : (n : ℕ) (ds : List CDeclaration) (of : ObjectType) (x : Value) → ValueBelow n x → Gives (TreeBelow n) (converted ds of x)
unfolding converted
converted_below n ds t.Byte x h = bind _ _ (λ z e. byte_below n z)
converted_below n ds t.Int (Typed from tree) h = if_when _ _ _ (λ e. Ok tree h)
converted_below n ds t.Word (Typed from tree) h = if_when _ _ _ (λ e. Ok tree h)
converted_below n ds (t.Struct s) (Typed from tree) h = if_when _ _ _ (λ e. Ok tree h)
converted_below n ds (t.Named s) (Typed from tree) h = if_when _ _ _ (λ e. Ok tree h)
converted_below n ds t.VoidPointer (Typed from tree) h = if_when _ _ _ (λ e. Ok tree h)
converted_below n ds (t.Pointer of) (Typed from tree) h = if_when _ _ _ (λ e. Ok tree h)

taken_below : (n : ℕ) (ds : List CDeclaration) (of : PlaceType) (x : Value) → ValueBelow n x → Gives (TreeBelow n) (taken ds of x)
unfolding taken
taken_below n ds (Plain of) x h = converted_below n ds of x h
taken_below n ds (Array l of) x h = Not _

put_kept : (c : CProgram) (reach : ℕ) (names : Names) (made : ℕ) (bs : Blocks) (site : Site) (x : Value) → Memory c made bs → ValueBelow made x → Gives (Kept c made (length bs)) (put_value (view c reach names bs) site x)
unfolding put_value
put_kept c reach names made bs site x m h = bind_given _ _ (taken_below made _ site.of x h) (λ tree g. root_kept c reach names made bs site.root site.path tree m g)

memory_more : (c : CProgram) (n m : ℕ) (bs : Blocks) → n ≤ m → Memory c n bs → Memory c m bs
memory_more c n m bs l h = record { globals = h.globals; cells = blocks_more n m bs l h.cells }

-- ---- statements on the memory

module _ (c : CProgram) (reach : ℕ) (names : Names) (bs : Blocks) (in_range : NamesWithin (length c.globals) (length bs) names) (m : Memory c (length bs) bs) where
  abbrev v : View
  v = view c reach names bs

  seen : Sees (length bs) v
  seen = sees c reach names bs in_range m

  assign_whole : (at : t.Place) (a : Expr) → Gives (Whole c (length bs)) (assign v at a)
  unfolding assign
  assign_whole at a = all_whole c (length bs) _ (bind _ _ (λ site e. bind_given _ _ (value_below (length bs) v seen a) (λ x h. put_kept c reach names (length bs) bs site x m h)))

  with_new : (b : Block) (stored : Blocks) → TreeBelow (suc (length bs)) b.tree → Kept c (suc (length bs)) (length bs) stored → Whole c (length bs) (stored ++ Some b ∷ [])
  with_new b stored g h =
      let count : length (stored ++ Some b ∷ []) ≡ length stored + 1 = length-append stored (Some b ∷ []) in
      let more : suc (length bs) ≤ length (stored ++ Some b ∷ []) = omega (arith, count, h.as_many) in
      record {
        memory = record {
          globals = globals_append c.globals stored (Some b ∷ []) h.memory.globals;
          cells = blocks_more (suc (length bs)) (length (stored ++ Some b ∷ [])) (stored ++ Some b ∷ []) more (append_below (suc (length bs)) stored (Some b ∷ []) h.memory.cells (g, tt));
        };
        more = omega (arith, more);
      }

  malloc_whole : (at : t.Place) (of : ObjectType) → Gives (Whole c (length bs)) (malloc c v bs at of)
  unfolding malloc
  malloc_whole at of =
      bind _ _ (λ site e. bind_given _ _
      (put_kept c reach names (suc (length bs)) bs site _ (memory_more c (length bs) (suc (length bs)) bs (omega arith) m) (omega arith))
      (λ stored h. Ok _ (with_new _ stored (fresh_below (suc (length bs)) false c.declarations of) h)))

  freed_kept : (n : ℕ) (path : List ℕ) (o : Option Block) → block_at bs n ≡ o → Gives (Kept c (length bs) (length bs)) (free_block bs n path o)
  unfolding free_block
  freed_kept n path None e = Not _
  freed_kept n [] (Some b) e = if_when _ _ _ (λ heap. Ok _ (record { memory = record { globals = globals_freed c.globals bs n b e heap m.globals; cells = drop_below (length bs) bs n m.cells }; as_many = length_set bs n None }))
  freed_kept n (i ∷ path) (Some b) e = Not _

  free_cell_kept : (cell : Cell) → Gives (Kept c (length bs) (length bs)) (free_cell bs cell)
  unfolding free_cell
  free_cell_kept Null = Ok _ (record { memory = m; as_many = refl })
  free_cell_kept (Pointer n path) = freed_kept n path (block_at bs n) refl
  free_cell_kept Empty = Not _
  free_cell_kept (Int z) = Not _
  free_cell_kept (Word n) = Not _
  free_cell_kept (Byte n) = Not _
  free_cell_kept (Function x) = Not _

  free_whole : (a : Answer Value) → Gives (Whole c (length bs)) (a >>= free_value bs)
  free_whole a = all_whole c (length bs) _ (bind _ _ (λ x e. by x)) where
    by : (x : Value) → Gives (Kept c (length bs) (length bs)) (free_value bs x)
    by (Typed of tree) = unfold free_value in if_when _ _ _ (λ e. bind _ _ (λ cell e. free_cell_kept cell))

-- ---- frames

names_more : (low n m : ℕ) (names : Names) → n ≤ m → NamesWithin low n names → NamesWithin low m names
names_more low n m [] l h = tt
names_more low n m (x ∷ names) l h = (h.0, omega (arith, l, h.1), names_more low n m names l h.2)

target_more : (n m : ℕ) (target : Target) → n ≤ m → TargetBelow n target → TargetBelow m target
target_more n m Nowhere l h = tt
target_more n m (Into block path of) l h = omega (arith, l, h)

frame_more : (low n m : ℕ) (f : Frame) → n ≤ m → FrameWithin low n f → FrameWithin low m f
frame_more low n m f l h = record { names = names_more low n m f.names l h.names; target = target_more n m f.target l h.target }

frames_more : (low n m : ℕ) (fs : List Frame) → n ≤ m → FramesWithin low n fs → FramesWithin low m fs
frames_more low n m [] l h = tt
frames_more low n m (f ∷ fs) l h = (frame_more low n m f l h.0, frames_more low n m fs l h.1)

-- the frames of a state when n blocks were made
record Stack (c : CProgram) (n : ℕ) (st : State) : Type 0 where
  pub frame : FrameWithin (length c.globals) n st.frame
  pub below : FramesWithin (length c.globals) n st.below

stack : (c : CProgram) (st : State) → IsStateOf c st → Stack c (length st.blocks) st
stack c st h = record { frame = h.frame; below = h.below }

memory : (c : CProgram) (st : State) → IsStateOf c st → Memory c (length st.blocks) st.blocks
memory c st h = record { globals = h.globals; cells = h.cells }

state : (c : CProgram) (n : ℕ) (st : State) → Stack c n st → Whole c n st.blocks → IsStateOf c st
state c n st h g = record {
  globals = g.memory.globals;
  cells = g.memory.cells;
  frame = frame_more (length c.globals) n (length st.blocks) st.frame g.more h.frame;
  below = frames_more (length c.globals) n (length st.blocks) st.below g.more h.below;
}

to_do_stack : (c : CProgram) (n : ℕ) (st : State) (todo : List Statement) → Stack c n st → Stack c n (to_do st todo)
unfolding to_do
to_do_stack c n st todo h = record { frame = record { names = h.frame.names; target = h.frame.target }; below = h.below }

to_do_blocks : (st : State) (todo : List Statement) → (to_do st todo).blocks ≡ st.blocks
unfolding to_do
to_do_blocks st todo = refl

with_blocks_state : (c : CProgram) (n : ℕ) (st : State) (b : Answer Blocks) → Stack c n st → Gives (Whole c n) b → Gives (IsStateOf c) (with_blocks st b)
unfolding with_blocks
with_blocks_state c n st b h g = bind_given b _ g (λ bs w. Ok _ (state c n _ (record { frame = h.frame; below = h.below }) w))

same_whole : (c : CProgram) (bs : Blocks) → Memory c (length bs) bs → Whole c (length bs) bs
same_whole c bs m = record { memory = m; more = omega arith }

to_do_state : (c : CProgram) (st : State) (todo : List Statement) → IsStateOf c st → IsStateOf c (to_do st todo)
unfolding to_do
to_do_state c st todo h = record { globals = h.globals; cells = h.cells; frame = record { names = h.frame.names; target = h.frame.target }; below = h.below }

-- ---- calls

names_within : (low n : ℕ) (xs : List CVariable) (made : ℕ) → low ≤ n → n + length xs ≤ made → NamesWithin low made (names_from n xs)
unfolding names_from
names_within low n [] made l g = tt
names_within low n (x ∷ xs) made l g = (l, omega (arith, g), names_within low (n + 1) xs made (omega (arith, l)) (omega (arith, g)))

record Parameters (n count : ℕ) (bs : Blocks) : Type 0 where
  pub cells : BlocksBelow n bs
  pub as_many : length bs ≡ count

parameters_below : (n : ℕ) (ds : List CDeclaration) (ps : List CVariable) (xs : List Value) (v : View) (s : Sees n v) → ValuesBelow n v s xs → Gives (Parameters n (length ps)) (parameter_blocks ds ps xs)
unfolding parameter_blocks
parameters_below n ds [] [] v s h = Ok _ (record { cells = tt; as_many = refl })
parameters_below n ds [] (x ∷ xs) v s h = Not _
parameters_below n ds (q ∷ ps) [] v s h = Not _
parameters_below n ds (q ∷ ps) (x ∷ xs) v s h =
    bind_given _ _ (converted_below n ds q.of x h.0) (λ tree g. bind_given _ _ (parameters_below n ds ps xs v s h.1) (λ bs k. Ok _ (record { cells = (g, k.cells); as_many = ap (λ n. suc n) k.as_many })))

target_below : (n : ℕ) (v : View) (s : Sees n v) (into : Option t.Place) → Gives (TargetBelow n) (target_of v into)
unfolding target_of
target_below n v s None = Ok _ tt
target_below n v s (Some at) = bind_given _ _ (place_below n v s at) (λ site h. bind_given _ _ (root_number_below n v s site.root h.root) (λ m g. Ok _ g))

entered_state : (c : CProgram) (st : State) (rest : List Statement) (g : CFunction) (target : Target) (ps : Blocks) → IsStateOf c st → TargetBelow (length st.blocks) target → Parameters (length st.blocks) (length g.parameters) ps → IsStateOf c (enter c st rest g target ps)
unfolding enter
entered_state c st rest g target ps h tb p =
    let locals : Blocks = fresh_blocks false c.declarations g.locals in
    let all : Blocks = st.blocks ++ (ps ++ locals) in
    let e1 : length all ≡ length st.blocks + length (ps ++ locals) = length-append st.blocks (ps ++ locals) in
    let e2 : length (ps ++ locals) ≡ length ps + length locals = length-append ps locals in
    let e3 : length locals ≡ length g.locals = fresh_blocks_count false c.declarations g.locals in
    let e4 : length (g.parameters ++ g.locals) ≡ length g.parameters + length g.locals = length-append g.parameters g.locals in
    let more : length st.blocks ≤ length all = omega (arith, e1) in
    let low : length c.globals ≤ length st.blocks = globals_count c.globals st.blocks h.globals in
    let own : length st.blocks + length (g.parameters ++ g.locals) ≤ length all = omega (arith, e1, e2, e3, e4, p.as_many) in
    record {
      globals = globals_append c.globals st.blocks (ps ++ locals) h.globals;
      cells = blocks_more (length st.blocks) (length all) all more (append_below (length st.blocks) st.blocks (ps ++ locals) h.cells (append_below (length st.blocks) ps locals p.cells (fresh_blocks_below (length st.blocks) false c.declarations g.locals)));
      frame = record { names = names_within (length c.globals) (length st.blocks) (g.parameters ++ g.locals) (length all) low own; target = target_more (length st.blocks) (length all) target more tb };
      below = (
        record { names = names_more (length c.globals) (length st.blocks) (length all) st.frame.names more h.frame.names; target = target_more (length st.blocks) (length all) st.frame.target more h.frame.target },
        frames_more (length c.globals) (length st.blocks) (length all) st.below more h.below,
      );
    }

call_state : (c : CProgram) (v : View) (st : State) (rest : List Statement) (into : Option t.Place) (who : CCallee) (arguments : List Expr) → Sees (length st.blocks) v → IsStateOf c st → Gives (IsStateOf c) (call c v st rest into who arguments)
unfolding call
call_state c v st rest into who arguments s h =
    bind _ _ (λ name e. bind_given _ _ (target_below (length st.blocks) v s into) (λ target tb. bind_given _ _ (values_below (length st.blocks) v s arguments) (λ xs g.
    bind _ _ (λ f e. bind_given _ _ (parameters_below (length st.blocks) c.declarations f.parameters xs v s g) (λ ps p. Ok _ (entered_state c st rest f target ps h tb p))))))

-- ---- ends

without_kept : (c : CProgram) (limit made n : ℕ) (names : Names) (bs : Blocks) → NamesWithin (length c.globals) limit names → Memory c made bs → length bs ≡ n → Kept c made n (without names bs)
unfolding without
without_kept c limit made n [] bs h m e = record { memory = m; as_many = e }
without_kept c limit made n (x ∷ names) bs h m e =
    without_kept c limit made n names (slice_set bs x.1 None) h.2 (record { globals = globals_left c.globals bs x.1 h.0 m.globals; cells = drop_below made bs x.1 m.cells }) (length_set bs x.1 None ∙ e)

abbrev AnswerBelow : ℕ → Option Value → Type 0
AnswerBelow n None = Unit {0}
AnswerBelow n (Some x) = ValueBelow n x

result_below : (n : ℕ) (ds : List CDeclaration) (result : Option ObjectType) (x : Value) → ValueBelow n x → Gives (ValueBelow n) (result_of ds result x)
unfolding result_of
result_below n ds None x h = Not _
result_below n ds (Some of) x h = bind_given _ _ (converted_below n ds of x h) (λ tree g. Ok _ (value_of_below n of tree g))

returned_below : (n : ℕ) (v : View) (s : Sees n v) (result : Option ObjectType) (a : Option Expr) → Gives (AnswerBelow n) (returned v result a)
unfolding returned
returned_below n v s result None = Ok None tt
returned_below n v s result (Some a) = bind_given _ _ (value_below n v s a) (λ x h. bind_given _ _ (result_below n v.declared result x h) (λ y g. Ok (Some y) g))

answered_kept : (c : CProgram) (n : ℕ) (bs : Blocks) (target : Target) (answer : Option Value) → Kept c n n bs → AnswerBelow n answer → Gives (Kept c n n) (answered c.declarations bs target answer)
unfolding answered
answered_kept c n bs Nowhere answer k h = Ok bs k
answered_kept c n bs (Into m path of) None k h = Not _
answered_kept c n bs (Into m path of) (Some x) k h =
    bind_given _ _ (taken_below n c.declarations of x h) (λ tree g. subst (λ n'. Gives (Kept c n n') (store bs m path tree)) k.as_many (store_kept c n bs m path tree k.memory g))

left_state : (c : CProgram) (st : State) (below : List Frame) (answer : Option Value) → IsStateOf c st → FramesWithin (length c.globals) (length st.blocks) below → AnswerBelow (length st.blocks) answer → Leads (IsStateOf c) (leave_to c st below answer)
unfolding leave_to
left_state c st [] answer h fs a = finished st _
left_state c st (g ∷ below) answer h fs a =
    of_next st _ (with_blocks_state c (length st.blocks) _ _ (record { frame = fs.0; below = fs.1 })
    (all_whole c (length st.blocks) _ (answered_kept c (length st.blocks) _ st.frame.target answer (without_kept c (length st.blocks) (length st.blocks) (length st.blocks) st.frame.names st.blocks h.frame.names (memory c st h) refl) a)))

leave_state : (c : CProgram) (st : State) (answer : Option Value) → IsStateOf c st → AnswerBelow (length st.blocks) answer → Leads (IsStateOf c) (leave c st answer)
unfolding leave
leave_state c st answer h a = left_state c st st.below answer h h.below a

leave_with_state : (c : CProgram) (st : State) (answer : Answer (Option Value)) → IsStateOf c st → Gives (AnswerBelow (length st.blocks)) answer → Leads (IsStateOf c) (leave_with c st answer)
unfolding leave_with
leave_with_state c st answer h (Ok x a) = leave_state c st x h a
leave_with_state c st answer h (Not kind) = Halts kind st.output

-- ---- statements

go_state : (c : CProgram) (st : State) (todo : Answer (List Statement)) → IsStateOf c st → Leads (IsStateOf c) (go_on st todo)
unfolding go_on
go_state c st todo h = of_next st _ (bind todo _ (λ rest e. Ok _ (to_do_state c st rest h)))

byte_state : (c : CProgram) (st : State) (z : ℤ) → IsStateOf c st → Gives (IsStateOf c) (put_byte st z)
unfolding put_byte
byte_state c st (pos n) h = if_when _ _ _ (λ e. Ok _ (record { globals = h.globals; cells = h.cells; frame = h.frame; below = h.below }))
byte_state c st (negsuc n) h = Not _

put_char_state : (c : CProgram) (v : View) (st : State) (a : Expr) → IsStateOf c st → Gives (IsStateOf c) (put_char v st a)
unfolding put_char
put_char_state c v st a h = bind _ _ (λ x e. bind _ _ (λ z e. byte_state c st z h))

get_char_state : (c : CProgram) (st : State) (rest : List Statement) (at : t.Place) → IsStateOf c st → Gives (IsStateOf c) (get_char (view_of c st) (to_do st rest) at)
unfolding get_char view_of int
get_char_state c st rest at h =
    let k = to_do_stack c (length st.blocks) st rest (stack c st h) in
    with_blocks_state c (length st.blocks) _ _ (record { frame = k.frame; below = k.below })
    (all_whole c (length st.blocks) _ (bind _ _ (λ site e. put_kept c st.frame.reach st.frame.names (length st.blocks) st.blocks site _ (memory c st h) tt)))

statement_state : (c : CProgram) (st : State) (rest : List Statement) (s : Statement) → IsStateOf c st → Leads (IsStateOf c) (do_statement c (view_of c st) st rest s)
unfolding do_statement view_of
statement_state c st rest (t.Assign at a) h =
    of_next st _ (with_blocks_state c (length st.blocks) _ _ (to_do_stack c _ st rest (stack c st h)) (assign_whole c st.frame.reach st.frame.names st.blocks h.frame.names (memory c st h) at a))
statement_state c st rest (t.Call into who arguments) h =
    of_next st _ (call_state c _ st rest into who arguments (sees c st.frame.reach st.frame.names st.blocks h.frame.names (memory c st h)) h)
statement_state c st rest (t.Malloc at of) h =
    of_next st _ (with_blocks_state c (length st.blocks) _ _ (to_do_stack c _ st rest (stack c st h)) (malloc_whole c st.frame.reach st.frame.names st.blocks h.frame.names (memory c st h) at of))
statement_state c st rest (t.Free a) h =
    of_next st _ (with_blocks_state c (length st.blocks) _ _ (to_do_stack c _ st rest (stack c st h)) (free_whole c st.frame.reach st.frame.names st.blocks h.frame.names (memory c st h) _))
statement_state c st rest (t.GetChar at) h = of_next st _ (get_char_state c st rest at h)
statement_state c st rest (t.PutChar a) h = of_next st _ (put_char_state c _ (to_do st rest) a (to_do_state c st rest h))
statement_state c st rest (t.If test a) h = go_state c st _ h
statement_state c st rest (t.IfElse test a b) h = go_state c st _ h
statement_state c st rest (t.While test a) h = go_state c st _ h
statement_state c st rest (t.Goto l) h = go_state c st _ h
statement_state c st rest (t.Label l) h = Goes _ (to_do_state c st rest h)
statement_state c st rest (t.Return a) h =
    leave_with_state c st _ h (returned_below (length st.blocks) _ (sees c st.frame.reach st.frame.names st.blocks h.frame.names (memory c st h)) st.frame.result a)

next_state : (c : CProgram) (st : State) (todo : List Statement) → IsStateOf c st → Leads (IsStateOf c) (do_next c st todo)
unfolding do_next
next_state c st [] h = leave_state c st None h tt
next_state c st (s ∷ rest) h = statement_state c st rest s h

pub state_stays : StateStays
unfolding CStep
state_stays c st new h e = onward_has (IsStateOf c) (CStep c st) new (next_state c st st.frame.todo h) e

pub start_is_state : StartIsState
unfolding start
start_is_state c input =
    let globals : Blocks = fresh_blocks true c.declarations c.globals in
    let locals : Blocks = fresh_blocks false c.declarations c.main.locals in
    let e1 : length (globals ++ locals) ≡ length globals + length locals = length-append globals locals in
    let e2 : length globals ≡ length c.globals = fresh_blocks_count true c.declarations c.globals in
    let e3 : length locals ≡ length c.main.locals = fresh_blocks_count false c.declarations c.main.locals in
    record {
      globals = globals_append c.globals globals locals (fresh_globals true c.declarations c.globals);
      cells = append_below (length (globals ++ locals)) globals locals (fresh_blocks_below (length (globals ++ locals)) true c.declarations c.globals) (fresh_blocks_below (length (globals ++ locals)) false c.declarations c.main.locals);
      frame = record { names = names_within (length c.globals) (length c.globals) c.main.locals (length (globals ++ locals)) (omega arith) (omega (arith, e1, e2, e3)); target = tt };
      below = tt;
    }
