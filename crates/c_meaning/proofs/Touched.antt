-- A step changes at most the blocks that it names.
use Rattle.std.proofs.Common.{◌≡◌, ℕ, List, [], ◌∷◌, ◌++◌, Option, Some, None, refl, sym, ap, subst}
use Rattle.std.specs.Prelude.{pos, negsuc, slice_set}
use Rattle.c_tree.specs.Tree as t
use Rattle.c_tree.specs.Tree.{ObjectType, Expr, Statement}
use Rattle.c_tree.specs.declared.statement.CCallee.{CCallee}
use Rattle.c_tree.specs.declared.program.CDeclaration.{CDeclaration}
use Rattle.c_tree.specs.declared.program.CFunction.{CFunction}
use Rattle.c_tree.specs.declared.program.CProgram.{CProgram}
use Rattle.c_meaning.specs.declared.StuckKind.TheVariants as k
use Rattle.c_meaning.specs.Cells.{Empty, Int, Word, Byte, Null, Pointer, Function, Tree, Leaf, Fork, End, Block, Blocks, block_at}
use Rattle.c_meaning.specs.Answer.{Answer, Got, Bad, ◌>>=◌, or_bad}
use Rattle.c_meaning.specs.Values.{Value, Typed, leaf}
use Rattle.c_meaning.specs.Evaluate.{View, Root, Named, At, Site, root_number, place}
use Rattle.c_meaning.specs.States.{Names, Target, Nowhere, Into, Frame, State, number_of, changed, store, store_named, without, view}
use Rattle.c_meaning.specs.Steps.{Next, Onward, Ended, Halted, next, to_do, with_blocks, put_root, put_value, assign, malloc, free_block, free_cell, free_value, get_char, put_byte, put_char, call, enter, answered, finish, leave_to, leave, leave_with, go_on, do_statement, view_of, do_next, CStep}
use Rattle.c_meaning.specs.Changes.{Changes, if_got, block_of, pointed, target_block, blocks_of, touched_at_end, touched_by, touched_next, touched}
use Rattle.c_meaning.specs.Laws.{StepChanges}
use Rattle.c_meaning.proofs.Gives.{Gives, Ok, Not, bind, bind_given, if_when}
use Rattle.c_meaning.proofs.Blocks.{unchanged, one_changed, one_dropped, added, then_changes, also, none_left, none_right}

-- what holds of the next state, where there is one
pub data Leads (P : State → Type 0) : Next → Type 0 where
  Goes : (new : State) → P new → Leads P (Onward new)
  Ends : (status : ℕ) (output calls : List ℕ) → Leads P (Ended status output calls)
  Halts : (kind : _) (output : List ℕ) → Leads P (Halted kind output)

pub of_next : {P : State → Type 0} (st : State) (a : Answer State) → Gives P a → Leads P (next st a)
unfolding next
of_next st a (Ok new h) = Goes new h
of_next st a (Not kind) = Halts kind st.output

-- the blocks of the next state come from those of a state
abbrev From : List ℕ → Blocks → State → Type 0
From ns old = λ new. Changes ns old new.blocks

of_blocks : (ns : List ℕ) (old : Blocks) (new : State) (b : Answer Blocks) → Gives (Changes ns old) b → Gives (From ns old) (with_blocks new b)
unfolding with_blocks
of_blocks ns old new b h = bind_given b _ h (λ x q. Ok _ q)

-- ---- stores

changed_block : (bs : Blocks) (n : ℕ) (path : List ℕ) (tree : Tree) (o : Option Block) → block_at bs n ≡ o → Gives (Changes (n ∷ []) bs) (changed bs n path tree o)
unfolding changed
changed_block bs n path tree None e = Not _
changed_block bs n path tree (Some b) e = Ok _ (one_changed bs n b _ e refl refl)

stored : (bs : Blocks) (n : ℕ) (path : List ℕ) (tree : Tree) → Gives (Changes (n ∷ []) bs) (store bs n path tree)
unfolding store
stored bs n path tree = changed_block bs n path tree (block_at bs n) refl

stored_named : (bs : Blocks) (o : Option ℕ) (path : List ℕ) (tree : Tree) → Gives (Changes (if_got (or_bad k.UnknownName o)) bs) (store_named bs o path tree)
unfolding store_named or_bad if_got
stored_named bs None path tree = Not _
stored_named bs (Some n) path tree = stored bs n path tree

module _ (c : CProgram) (reach : ℕ) (names : Names) (bs : Blocks) where
  abbrev v : View
  v = view c reach names bs

  put_at_root : (root : Root) (path : List ℕ) (tree : Tree) → Gives (Changes (if_got (root_number v root)) bs) (put_root v root path tree)
  unfolding view put_root root_number if_got
  put_at_root (Named x) path tree = stored_named bs (number_of c names x) path tree
  put_at_root (At n) path tree = stored bs n path tree

  block_of_site : (a : Answer Site) (site : Site) → a ≡ Got site → if_got (root_number v site.root) ≡ block_of v a
  unfolding block_of ◌>>=◌
  block_of_site (Got other) site e = let same : site ≡ other = cc in ap (λ s. if_got (root_number v s.root)) same
  block_of_site (Bad kind) site e = cc

  put_changes : (a : Answer Site) (site : Site) (x : Value) → a ≡ Got site → Gives (Changes (block_of v a) bs) (put_value v site x)
  unfolding put_value
  put_changes a site x e = subst (λ ns. Gives (Changes ns bs) (put_value v site x)) (block_of_site a site e) (bind _ _ (λ tree e. put_at_root site.root site.path tree))

  assign_changes : (at : t.Place) (a : Expr) → Gives (Changes (block_of v (place v at)) bs) (assign v at a)
  unfolding assign
  assign_changes at a = bind (place v at) _ (λ site e. bind _ _ (λ x e'. put_changes (place v at) site x e))

  malloc_changes : (at : t.Place) (of : ObjectType) → Gives (Changes (block_of v (place v at)) bs) (malloc c v bs at of)
  unfolding malloc
  malloc_changes at of = bind (place v at) _ (λ site e. bind_given _ _ (put_changes (place v at) site _ e) (λ new h. Ok _ (then_changes _ bs new _ h (also [] _ new _ (λ n d. tt) (added new _)))))

-- ---- free

freed : (bs : Blocks) (n : ℕ) (path : List ℕ) (o : Option Block) → Gives (Changes (n ∷ []) bs) (free_block bs n path o)
unfolding free_block
freed bs n path None = Not _
freed bs n [] (Some b) = if_when _ _ _ (λ e. Ok _ (one_dropped bs n))
freed bs n (i ∷ path) (Some b) = Not _

freed_tree : (bs : Blocks) (of : _) (tree : Tree) → Gives (Changes (pointed (Got (Typed of tree))) bs) (leaf tree >>= free_cell bs)
unfolding leaf ◌>>=◌ free_cell pointed
freed_tree bs of (Leaf Null) = Ok _ (unchanged [] bs)
freed_tree bs of (Leaf (Pointer n path)) = freed bs n path (block_at bs n)
freed_tree bs of (Leaf Empty) = Not _
freed_tree bs of (Leaf (Int z)) = Not _
freed_tree bs of (Leaf (Word n)) = Not _
freed_tree bs of (Leaf (Byte n)) = Not _
freed_tree bs of (Leaf (Function n)) = Not _
freed_tree bs of (Fork a rest) = Not _
freed_tree bs of End = Not _

freed_value : (bs : Blocks) (x : Value) → Gives (Changes (pointed (Got x)) bs) (free_value bs x)
unfolding free_value
freed_value bs (Typed of tree) = if_when _ _ _ (λ e. freed_tree bs of tree)

free_changes : (bs : Blocks) (a : Answer Value) → Gives (Changes (pointed a) bs) (a >>= free_value bs)
free_changes bs a = bind a _ (λ x e. subst (λ a. Gives (Changes (pointed a) bs) (free_value bs x)) (sym e) (freed_value bs x))

-- ---- calls and ends

entered : (c : CProgram) (st : State) (rest : List Statement) (g : CFunction) (target : Target) (parameters : Blocks) → From [] st.blocks (enter c st rest g target parameters)
unfolding enter
entered c st rest g target parameters = added st.blocks _

call_changes : (c : CProgram) (v : View) (st : State) (rest : List Statement) (into : Option t.Place) (who : CCallee) (arguments : List Expr) → Gives (From [] st.blocks) (call c v st rest into who arguments)
unfolding call
call_changes c v st rest into who arguments =
    bind _ _ (λ name e. bind _ _ (λ target e. bind _ _ (λ xs e. bind _ _ (λ g e. bind _ _ (λ b e. Ok _ (entered c st rest g target b))))))

dropped : (names : Names) (bs : Blocks) → Changes (blocks_of names) bs (without names bs)
unfolding blocks_of without
dropped [] bs = unchanged [] bs
dropped (n ∷ names) bs =
    then_changes _ bs (slice_set bs n.1 None) _ (also (n.1 ∷ []) _ bs _ (λ i d. (d.0, tt)) (one_dropped bs n.1))
    (also (blocks_of names) _ (slice_set bs n.1 None) _ (λ i d. d.1) (dropped names (slice_set bs n.1 None)))

answer_changes : (ds : List CDeclaration) (bs : Blocks) (target : Target) (answer : Option Value) → Gives (Changes (target_block target) bs) (answered ds bs target answer)
unfolding answered target_block
answer_changes ds bs Nowhere answer = Ok _ (unchanged [] bs)
answer_changes ds bs (Into n path of) None = Not _
answer_changes ds bs (Into n path of) (Some x) = bind _ _ (λ tree e. stored bs n path tree)

weaker : (ns ms : List ℕ) (x y : Blocks) (a : Answer Blocks) → Changes ns x y → Gives (Changes ms y) a → Gives (Changes (ns ++ ms) x) a
weaker ns ms x y a h (Ok z g) = Ok z (then_changes (ns ++ ms) x y z (also ns _ x y (λ n d. none_left n ns ms d) h) (also ms _ y z (λ n d. none_right n ns ms d) g))
weaker ns ms x y a h (Not kind) = Not kind

pub finished : {P : State → Type 0} (st : State) (status : Answer ℕ) → Leads P (finish st status)
unfolding finish
finished st (Got n) = Ends n st.output st.calls
finished st (Bad kind) = Halts kind st.output

left_to : (c : CProgram) (st : State) (below : List Frame) (answer : Option Value) → Leads (From (touched_at_end st) st.blocks) (leave_to c st below answer)
unfolding leave_to touched_at_end
left_to c st [] answer = finished st _
left_to c st (g ∷ below) answer = of_next st _ (of_blocks _ st.blocks _ _ (weaker _ _ st.blocks (without st.frame.names st.blocks) _ (dropped st.frame.names st.blocks) (answer_changes c.declarations (without st.frame.names st.blocks) st.frame.target answer)))

left : (c : CProgram) (st : State) (answer : Option Value) → Leads (From (touched_at_end st) st.blocks) (leave c st answer)
unfolding leave
left c st answer = left_to c st st.below answer

left_with : (c : CProgram) (st : State) (answer : Answer (Option Value)) → Leads (From (touched_at_end st) st.blocks) (leave_with c st answer)
unfolding leave_with
left_with c st (Got answer) = left c st answer
left_with c st (Bad kind) = Halts kind st.output

-- ---- statements

to_do_changes : (st : State) (todo : List Statement) → From [] st.blocks (to_do st todo)
unfolding to_do
to_do_changes st todo = unchanged [] st.blocks

gone_on : (st : State) (todo : Answer (List Statement)) → Leads (From [] st.blocks) (go_on st todo)
unfolding go_on
gone_on st todo = of_next st _ (bind todo _ (λ rest e. Ok _ (to_do_changes st rest)))

byte_put : (bs : Blocks) (st : State) → From [] bs st → (z : _) → Gives (From [] bs) (put_byte st z)
unfolding put_byte
byte_put bs st h (pos n) = if_when _ _ _ (λ e. Ok _ h)
byte_put bs st h (negsuc n) = Not _

put_char_changes : (v : View) (bs : Blocks) (st : State) (a : Expr) → From [] bs st → Gives (From [] bs) (put_char v st a)
unfolding put_char
put_char_changes v bs st a h = bind _ _ (λ x e. bind _ _ (λ z e. byte_put bs st h z))

statement_changes : (c : CProgram) (st : State) (rest : List Statement) (s : Statement) → Leads (From (touched_by (view_of c st) st s) st.blocks) (do_statement c (view_of c st) st rest s)
unfolding do_statement view_of touched_by get_char
statement_changes c st rest (t.Assign at a) = of_next st _ (of_blocks _ st.blocks _ _ (assign_changes c st.frame.reach st.frame.names st.blocks at a))
statement_changes c st rest (t.Call into who arguments) = of_next st _ (call_changes c _ st rest into who arguments)
statement_changes c st rest (t.Malloc at of) = of_next st _ (of_blocks _ st.blocks _ _ (malloc_changes c st.frame.reach st.frame.names st.blocks at of))
statement_changes c st rest (t.Free a) = of_next st _ (of_blocks _ st.blocks _ _ (free_changes st.blocks _))
statement_changes c st rest (t.GetChar at) =
    of_next st _ (of_blocks _ st.blocks _ _ (bind (place _ at) _ (λ site e. put_changes c st.frame.reach st.frame.names st.blocks (place _ at) site _ e)))
statement_changes c st rest (t.PutChar a) = of_next st _ (put_char_changes _ st.blocks (to_do st rest) a (to_do_changes st rest))
statement_changes c st rest (t.If test a) = gone_on st _
statement_changes c st rest (t.IfElse test a b) = gone_on st _
statement_changes c st rest (t.While test a) = gone_on st _
statement_changes c st rest (t.Goto l) = gone_on st _
statement_changes c st rest (t.Label l) = Goes _ (to_do_changes st rest)
statement_changes c st rest (t.Return a) = left_with c st _

next_changes : (c : CProgram) (st : State) (todo : List Statement) → Leads (From (touched_next (view_of c st) st todo) st.blocks) (do_next c st todo)
unfolding do_next touched_next
next_changes c st [] = left c st None
next_changes c st (s ∷ rest) = statement_changes c st rest s

pub onward_has : (P : State → Type 0) (a : Next) (new : State) → Leads P a → a ≡ Onward new → P new
onward_has P a new (Goes other h) e = let same : other ≡ new = cc in subst P same h
onward_has P a new (Ends status output calls) e = cc
onward_has P a new (Halts kind output) e = cc

pub step_changes : StepChanges
unfolding CStep touched
step_changes c st new e = onward_has (From (touched c st) st.blocks) (CStep c st) new (next_changes c st st.frame.todo) e
