-- What a running function sees: its own variables, by their places among them, over blocks of which nothing need be known.
use Rattle.std.proofs.Common.{◌≡◌, ℕ, suc, ◌+◌, List, [], ◌∷◌, ◌++◌, length, true, false, Option, Some, None, refl, ap, subst, ◌∙◌, arith}
use Rattle.std.specs.Prelude.{slice_get, slice_set, if◌then◌else◌}
use Rattle.std.specs.Str.{bytes_eq}
use Rattle.c_tree.specs.Tree.{ObjectType, Statement}
use Rattle.c_tree.specs.declared.program.CVariable.{CVariable}
use Rattle.c_tree.specs.declared.program.CProgram.{CProgram}
use Rattle.c_meaning.specs.Cells.{Name, Tree, Block, Blocks, block_at, joined_option, with_part}
use Rattle.c_meaning.specs.Answer.{Answer, Got, Bad, or_else}
use Rattle.c_meaning.specs.Evaluate.{View}
use Rattle.c_meaning.specs.States.{Target, Frame, State, lookup, global_from, number_of, signature_of, numbered, changed, store, store_named, view}
use Rattle.c_meaning.specs.Steps.{names_from, do_statement, view_of, do_next, CStep}

-- a place that many blocks further on
abbrev pub plus : ℕ → Option ℕ → Option ℕ
plus base None = None
plus base (Some i) = Some (base + i)

names_at : (x : Name) (vs : List CVariable) (base i : ℕ) → lookup x (names_from (base + i) vs) ≡ plus base (global_from i x vs)
unfolding lookup names_from global_from
names_at x [] base i = refl
names_at x (v ∷ vs) base i =
    let next : base + i + 1 ≡ base + (i + 1) = omega arith in
    elim (bytes_eq x v.name) as (λ q. (if q then Some (base + i) else lookup x (names_from (base + i + 1) vs)) ≡ plus base (if q then Some i else global_from (i + 1) x vs))
    [ true ↦ refl | false ↦ ap (λ n. lookup x (names_from n vs)) next ∙ names_at x vs base (i + 1) ]

-- the block of a variable of the function itself, and else the other one
abbrev pub named_local : Blocks → Option ℕ → Option Block → Option Block
named_local own None other = other
named_local own (Some i) other = block_at own i

abbrev pub before : Blocks → Answer Blocks → Answer Blocks
before old (Got own) = Got (old ++ own)
before old (Bad kind) = Bad kind

abbrev pub put_local : Blocks → Blocks → Option ℕ → List ℕ → Tree → Answer Blocks → Answer Blocks
put_local old own None path tree other = other
put_local old own (Some i) path tree other = before old (store own i path tree)

abbrev pub local_view : CProgram → (reach : ℕ) → List CVariable → ℕ → Blocks → Blocks → View
local_view c reach vs base old own = record {
  declared = c.declarations;
  function = λ x. signature_of c reach x;
  number = λ x. number_of c (names_from base vs) x;
  named = λ x. named_local own (global_from 0 x vs) (numbered (old ++ own) (global_from 0 x c.globals));
  block = λ n. block_at (old ++ own) n;
  put_named = λ x path tree. put_local old own (global_from 0 x vs) path tree (store_named (old ++ own) (global_from 0 x c.globals) path tree);
  put_block = λ n path tree. store (old ++ own) n path tree;
}

pub get_past : (old own : Blocks) (i : ℕ) → slice_get (old ++ own) (length old + i) ≡ slice_get own i
get_past [] own i = let e : 0 + i ≡ i = omega arith in ap (slice_get own) e
get_past (b ∷ old) own i = let e : length (b ∷ old) + i ≡ suc (length old + i) = omega arith in ap (slice_get (b ∷ (old ++ own))) e ∙ get_past old own i

pub set_past : (old own : Blocks) (i : ℕ) (b : Option Block) → slice_set (old ++ own) (length old + i) b ≡ old ++ slice_set own i b
set_past [] own i b = let e : 0 + i ≡ i = omega arith in ap (λ n. slice_set own n b) e
set_past (a ∷ old) own i b =
    let e : length (a ∷ old) + i ≡ suc (length old + i) = omega arith in
    ap (λ n. slice_set (a ∷ (old ++ own)) n b) e ∙ ap (λ l. a ∷ l) (set_past old own i b)

named_past : (old own : Blocks) (o g : Option ℕ) → numbered (old ++ own) (or_else (plus (length old) o) g) ≡ named_local own o (numbered (old ++ own) g)
unfolding numbered or_else block_at
named_past old own None g = refl
named_past old own (Some i) g = ap joined_option (get_past old own i)

changed_past : (old own : Blocks) (i : ℕ) (path : List ℕ) (tree : Tree) (o : Option Block) → changed (old ++ own) (length old + i) path tree o ≡ before old (changed own i path tree o)
unfolding changed
changed_past old own i path tree None = refl
changed_past old own i path tree (Some b) = ap Got (set_past old own i (Some (record b { tree = with_part path tree b.tree })))

stored_past : (old own : Blocks) (o g : Option ℕ) (path : List ℕ) (tree : Tree) → store_named (old ++ own) (or_else (plus (length old) o) g) path tree ≡ put_local old own o path tree (store_named (old ++ own) g path tree)
unfolding store_named or_else store block_at
stored_past old own None g path tree = refl
stored_past old own (Some i) g path tree =
    ap (λ o. changed (old ++ own) (length old + i) path tree (joined_option o)) (get_past old own i) ∙ changed_past old own i path tree (block_at own i)

number_past : (c : CProgram) (vs : List CVariable) (old : Blocks) (x : Name) → number_of c (names_from (length old) vs) x ≡ or_else (plus (length old) (global_from 0 x vs)) (global_from 0 x c.globals)
unfolding number_of
number_past c vs old x =
    let e : length old ≡ length old + 0 = omega arith in
    ap (λ o. or_else o (global_from 0 x c.globals)) (ap (λ n. lookup x (names_from n vs)) e ∙ names_at x vs (length old) 0)

-- the function sees its own view
view_own : (c : CProgram) (reach : ℕ) (vs : List CVariable) (old own : Blocks) → view c reach (names_from (length old) vs) (old ++ own) ≡ local_view c reach vs (length old) old own
unfolding view
view_own c reach vs old own = λ i. record {
  declared = c.declarations;
  function = λ x. signature_of c reach x;
  number = λ x. number_of c (names_from (length old) vs) x;
  named = λ x. (ap (numbered (old ++ own)) (number_past c vs old x) ∙ named_past old own (global_from 0 x vs) (global_from 0 x c.globals)) i;
  block = λ n. block_at (old ++ own) n;
  put_named = λ x path tree. (ap (λ o. store_named (old ++ own) o path tree) (number_past c vs old x) ∙ stored_past old own (global_from 0 x vs) (global_from 0 x c.globals) path tree) i;
  put_block = λ n path tree. store (old ++ own) n path tree;
}

pub view_here : (c : CProgram) (reach : ℕ) (vs : List CVariable) (base : ℕ) (old own : Blocks) → length old ≡ base → view c reach (names_from base vs) (old ++ own) ≡ local_view c reach vs base old own
view_here c reach vs base old own e = subst (λ n. view c reach (names_from n vs) (old ++ own) ≡ local_view c reach vs n old own) e (view_own c reach vs old own)

-- a call that is running
pub record Running : Type 0 where
  pub variables : List CVariable
  -- the block of the first variable
  pub base : ℕ
  pub result : Option ObjectType
  pub body : List Statement
  pub reach : ℕ
  pub target : Target
  pub below : List Frame
  pub calls : List ℕ

abbrev pub frame_here : Running → List Statement → Frame
frame_here r todo = record { result = r.result; body = r.body; reach = r.reach; names = names_from r.base r.variables; todo = todo; target = r.target }

-- the state in which it has these statements to do, over the old blocks and with its own
abbrev pub here : Running → (input output : List ℕ) → (old own : Blocks) → List Statement → State
here r input output old own todo = record { frame = frame_here r todo; below = r.below; blocks = old ++ own; input = input; output = output; calls = r.calls }

pub step_here : (c : CProgram) (r : Running) (input output : List ℕ) (old own : Blocks) → length old ≡ r.base → (s : Statement) (todo : List Statement)
    → CStep c (here r input output old own (s ∷ todo)) ≡ do_statement c (local_view c r.reach r.variables r.base old own) (here r input output old own (s ∷ todo)) todo s
unfolding CStep do_next view_of
step_here c r input output old own e s todo = ap (λ v. do_statement c v (here r input output old own (s ∷ todo)) todo s) (view_here c r.reach r.variables r.base old own e)
