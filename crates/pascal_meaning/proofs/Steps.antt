-- A judgement that the combinators keep holds of each step, where it holds of its parts.
use Rattle.std.proofs.Common.{ℕ, ℤ, suc, List, [], ◌∷◌, Bool, Option, Some, None}
use Rattle.typed_tree.specs.declared.types.Types.{Types}
use Rattle.typed_tree.specs.declared.types.LabelRange.{LabelRange}
use Rattle.typed_tree.specs.declared.declarations.Callee.{Callee}
use Rattle.typed_tree.specs.declared.declarations.Callee.TheVariants as callee
use Rattle.typed_tree.specs.declared.declarations.Owner.{Owner}
use Rattle.typed_tree.specs.declared.expressions.Root.{Root}
use Rattle.typed_tree.specs.declared.expressions.Root.TheVariants as root
use Rattle.typed_tree.specs.declared.operations.BinaryOp.{BinaryOp}
use Rattle.typed_tree.specs.declared.operations.BinaryOp.TheVariants as binary
use Rattle.typed_tree.specs.declared.operations.PredefCall.{PredefCall}
use Rattle.typed_tree.specs.declared.operations.PredefCall.TheVariants as call
use Rattle.typed_tree.specs.Fields.{Variant, Choice}
use Rattle.meanings.specs.Values.{Tree, HeapNumber, Trees, no_trees, tree, Reference}
use Rattle.meanings.specs.Worlds.{View}
use Rattle.meanings.specs.Outcomes.{Exit, Cause, Checked}
use Rattle.meanings.specs.Programs.{Passed, Setting, Heading, Prog, ◌>>=◌, ◌>>◌, pure, stop, choose, ask, check, print, update, of_types, here, collect}
use Rattle.meanings.specs.Judgement.{Judgement}
use Rattle.pascal_meaning.specs.Places.{Guard, Spot, confirm, confirm_all, root_spot, guards_through, field_spot, Reach, InRange, ToLength, NoIndex, bounds_of, index_spot, read_spot, follow_spot, refer, store, store_copy, assign}
use Rattle.pascal_meaning.specs.Input.{Taken, take_by, read_into, read_line, get_char}
use Rattle.pascal_meaning.specs.Predefined.{Operand, Given, Target, Shown, Named, call_value, halt_with, escape_with, activation_of, leave, leave_named, make_new, dispose, put_components, pack, unpack, step_by, increase, decrease, read_operand, read_held, store_text, insert, delete, append, to_text, value_of_text, set_length, read_one, write_one, one_by_one, acted, call_statement}
use Rattle.pascal_meaning.specs.declared.operations.Primitive.{Primitive}
use Rattle.pascal_meaning.specs.declared.operations.Primitive.TheVariants as p
use Rattle.pascal_meaning.specs.Primitives.{by_operator, by_call, no_answer, store_into, read_target, perform}
use Rattle.pascal_meaning.specs.Statements.{choose_by, read_again, apply_operator, Part, go_on, Element, Member, Members, with_element, with_elements, select_all, read_place, parent_of, resolve, call_routine, call_function, Item, run_all, run_from, Start, First, AtLabel, begin_at, sequence, goto, while_loop, repeat_loop, variable_spot, for_turns, for_loop, no_case, case_with, cases, bind_reference, with_all, recover_from, try_recover}

module _ (J : Judgement) where
  pub bind : {X Y : Type 0} {p : Prog X} {f : X → Prog Y} → J.Holds p → ((x : X) → J.Holds (f x)) → J.Holds (p >>= f)
  bind = J.of_bind

  pub next : {X Y : Type 0} {p : Prog X} {q : Prog Y} → J.Holds p → J.Holds q → J.Holds (p >> q)
  next = J.of_then

  pub of_pure : {X : Type 0} (x : X) → J.Holds (pure x)
  of_pure = J.of_pure

  pub of_stop : {X : Type 0} (e : Exit) → J.Holds (stop {X = X} e)
  of_stop e = J.of_stop e

  pub of_choose : {X : Type 0} (b : Bool) {p q : Prog X} → J.Holds p → J.Holds q → J.Holds (choose b p q)
  of_choose = J.of_choose

  pub of_ask : {X : Type 0} (f : Setting → View → Checked X) → J.Holds (ask f)
  of_ask = J.of_ask

  pub of_check : {X : Type 0} (f : Types → Checked X) → J.Holds (check f)
  of_check = J.of_check

  pub of_print : (bytes : List ℕ) → J.Holds (print bytes)
  of_print = J.of_print

  pub of_update : (f : Types → View → Checked View) → J.Holds (update f)
  unfolding update
  of_update f = J.of_bind (J.of_ask _) (λ v. J.of_change v)

  pub of_of_types : {X : Type 0} (f : Types → X) → J.Holds (of_types f)
  unfolding of_types
  of_of_types f = J.of_check _

  pub of_here : J.Holds here
  unfolding here
  of_here = J.of_ask _

  ruleset simple = (bind, next, of_pure, of_stop, of_choose, of_ask, of_check, of_print, of_update, of_of_types, of_here)

  -- ---- lists of parts

  pub data Each {X : Type 0} : List (Prog X) → Type 0 where
    Empty : Each []
    And : {p : Prog X} {ps : List (Prog X)} → J.Holds p → Each ps → Each (p ∷ ps)

  pub of_collect : {X : Type 0} {ps : List (Prog X)} → Each ps → J.Holds (collect ps)
  unfolding collect
  of_collect Each.Empty = of_pure []
  of_collect (Each.And h hs) = bind h (λ x. bind (of_collect hs) (λ xs. of_pure _))

  pub data EachSelector : List (Spot → Prog Spot) → Type 0 where
    Empty : EachSelector []
    And : {f : Spot → Prog Spot} {fs : List (Spot → Prog Spot)} → ((p : Spot) → J.Holds (f p)) → EachSelector fs → EachSelector (f ∷ fs)

  pub data EachPart : List Part → Type 0 where
    Empty : EachPart []
    And : {p : Part} {ps : List Part} → J.Holds p.operand → EachPart ps → EachPart (p ∷ ps)

  pub data OfElement : Element → Type 0 where
    One : {p : Prog Tree} → J.Holds p → OfElement (Member p)
    Two : {p q : Prog Tree} → J.Holds p → J.Holds q → OfElement (Members p q)

  pub data EachElement : List Element → Type 0 where
    Empty : EachElement []
    And : {e : Element} {es : List Element} → OfElement e → EachElement es → EachElement (e ∷ es)

  pub data EachItem : List Item → Type 0 where
    Empty : EachItem []
    And : {i : Item} {is : List Item} → J.Holds i.run → EachItem is → EachItem (i ∷ is)

  pub data EachArm : List (List LabelRange × Prog (Unit {0})) → Type 0 where
    Empty : EachArm []
    And : {ls : List LabelRange} {p : Prog (Unit {0})} {cs : List (List LabelRange × Prog (Unit {0}))} → J.Holds p → EachArm cs → EachArm ((ls, p) ∷ cs)

  pub data EachWith : List (ℕ × Prog Reference) → Type 0 where
    Empty : EachWith []
    And : {d : ℕ} {p : Prog Reference} {ps : List (ℕ × Prog Reference)} → J.Holds p → EachWith ps → EachWith ((d, p) ∷ ps)

  -- ---- places

  of_confirm : (g : Guard) → J.Holds (confirm g)
  unfolding confirm
  of_confirm g = search simple

  of_confirm_all : (gs : List Guard) → J.Holds (confirm_all gs)
  unfolding confirm_all
  of_confirm_all [] = of_pure tt
  of_confirm_all (g ∷ gs) = next (of_confirm g) (of_confirm_all gs)

  pub of_root : (r : Root) → J.Holds (root_spot r)
  unfolding root_spot
  of_root r = search simple

  of_guards : (r : Reference) (gs : List Guard) (vs : List (Choice × Variant)) → J.Holds (guards_through r gs vs)
  unfolding guards_through
  of_guards r gs [] = of_pure gs
  of_guards r gs (v ∷ vs) = of_choose _ (of_guards r _ vs) (next (next (of_confirm_all gs) (of_confirm _)) (of_guards r gs vs))

  pub of_field : (f t : ℕ) (p : Spot) → J.Holds (field_spot f t p)
  unfolding field_spot
  of_field f t p = search (simple, of_guards)

  of_bounds : (k : Reach) (p : Spot) → J.Holds (bounds_of k p)
  unfolding bounds_of
  of_bounds (InRange r) p = of_pure r
  of_bounds ToLength p = search (simple, of_confirm_all)
  of_bounds NoIndex p = of_stop _

  pub of_index : (array t : ℕ) (p : Spot) (index : Tree) → J.Holds (index_spot array t p index)
  unfolding index_spot
  of_index array t p index = search (simple, of_bounds)

  pub of_read_spot : (p : Spot) → J.Holds (read_spot p)
  unfolding read_spot
  of_read_spot p = search (simple, of_confirm_all)

  pub of_follow : (t : ℕ) (p : Spot) → J.Holds (follow_spot t p)
  unfolding follow_spot
  of_follow t p = search (simple, of_read_spot)

  pub of_refer : (p : Spot) → J.Holds (refer p)
  unfolding refer
  of_refer p = search simple

  pub of_store : (p : Spot) (t : Tree) → J.Holds (store p t)
  unfolding store
  of_store p t = of_update _

  pub of_store_copy : (p : Spot) (t : Tree) → J.Holds (store_copy p t)
  unfolding store_copy
  of_store_copy p t = of_update _

  pub of_assign : (p : Spot) (source : Option _) (t : Tree) → J.Holds (assign p source t)
  unfolding assign
  of_assign p source t = search (simple, of_store)

  -- ---- input

  of_take : {X : Type 0} (f : Types → List ℕ → Taken X) → J.Holds (take_by f)
  unfolding take_by
  of_take f = search simple

  of_read_into : (p : Spot) → J.Holds (read_into p)
  unfolding read_into
  of_read_into p = bind (of_take _) (λ t. of_assign p _ t)

  of_read_line : J.Holds read_line
  unfolding read_line
  of_read_line = of_take _

  of_get : J.Holds get_char
  unfolding get_char
  of_get = bind (of_take _) (λ z. of_check _)

  -- ---- predefined calls

  pub of_call_value : (c : PredefCall) (xs : List Operand) (t : ℕ) → J.Holds (call_value c xs t)
  unfolding call_value
  of_call_value call.Eof [] t = of_ask _
  of_call_value call.Eoln [] t = search simple
  of_call_value call.EscapeCode [] t = of_ask _
  of_call_value c xs t = of_check _

  of_halt : (xs : List Operand) → J.Holds (halt_with xs)
  unfolding halt_with
  of_halt [] = of_stop _
  of_halt (x ∷ []) = search simple
  of_halt _ = of_stop _

  of_escape : (xs : List Operand) → J.Holds (escape_with xs)
  unfolding escape_with
  of_escape (x ∷ []) = search simple
  of_escape _ = of_stop _

  pub of_activation : (o : Owner) → J.Holds (activation_of o)
  unfolding activation_of
  of_activation o = of_ask _

  of_leave : (o : Owner) → J.Holds (leave o)
  unfolding leave
  of_leave o = search (simple, of_activation)

  of_leave_named : (xs : List Operand) → J.Holds (leave_named xs)
  unfolding leave_named
  of_leave_named (Named (callee.Routine k) ∷ []) = of_leave _
  of_leave_named _ = of_stop _

  of_new : (xs : List Operand) → J.Holds (make_new xs)
  unfolding make_new
  of_new (Target p ∷ []) = search (simple, of_store)
  of_new _ = of_stop _

  of_dispose : (xs : List Operand) → J.Holds (dispose xs)
  unfolding dispose
  of_dispose (x ∷ []) = search simple
  of_dispose _ = of_stop _

  of_components : (p : Spot) (t k : ℕ) (ts : Trees) → J.Holds (put_components p t k ts)
  unfolding put_components
  of_components p t k no_trees = of_pure tt
  of_components p t k (tree u us) = bind (of_ask _) (λ u. next (of_store_copy _ u) (of_components p t (suc k) us))

  of_pack : (xs : List Operand) → J.Holds (pack xs)
  unfolding pack
  of_pack (Given a v ∷ i ∷ Target z ∷ []) = search (simple, of_components)
  of_pack _ = of_stop _

  of_unpack : (xs : List Operand) → J.Holds (unpack xs)
  unfolding unpack
  of_unpack (Given z v ∷ Target a ∷ i ∷ []) = search (simple, of_components)
  of_unpack _ = of_stop _

  of_step : (p : Spot) (n : Checked ℤ) → J.Holds (step_by p n)
  unfolding step_by
  of_step p n = search (simple, of_read_spot, of_assign)

  of_increase : (xs : List Operand) → J.Holds (increase xs)
  unfolding increase
  of_increase (Target p ∷ []) = of_step p _
  of_increase (Target p ∷ n ∷ []) = of_step p _
  of_increase _ = of_stop _

  of_decrease : (xs : List Operand) → J.Holds (decrease xs)
  unfolding decrease
  of_decrease (Target p ∷ []) = of_step p _
  of_decrease (Target p ∷ n ∷ []) = of_step p _
  of_decrease _ = of_stop _

  of_read_operand : (x : Operand) → J.Holds (read_operand x)
  unfolding read_operand
  of_read_operand x = of_check _

  of_read_held : (p : Spot) → J.Holds (read_held p)
  unfolding read_held
  of_read_held p = search (simple, of_read_spot)

  of_store_text : (p : Spot) (c : Checked (List ℕ)) → J.Holds (store_text p c)
  unfolding store_text
  of_store_text p c = search (simple, of_assign)

  ruleset strings = (simple, of_read_operand, of_read_held, of_store_text, of_assign)

  of_insert : (xs : List Operand) → J.Holds (insert xs)
  unfolding insert
  of_insert (x ∷ Target p ∷ i ∷ []) = search strings
  of_insert _ = of_stop _

  of_delete : (xs : List Operand) → J.Holds (delete xs)
  unfolding delete
  of_delete (Target p ∷ i ∷ n ∷ []) = search strings
  of_delete _ = of_stop _

  of_append : (xs : List Operand) → J.Holds (append xs)
  unfolding append
  of_append (Target p ∷ x ∷ []) = search strings
  of_append _ = of_stop _

  of_to_text : (xs : List Operand) → J.Holds (to_text xs)
  unfolding to_text
  of_to_text (Shown t v k ∷ Target p ∷ []) = search strings
  of_to_text _ = of_stop _

  of_value_of_text : (xs : List Operand) → J.Holds (value_of_text xs)
  unfolding value_of_text
  of_value_of_text (x ∷ Target i ∷ Target code ∷ []) = search strings
  of_value_of_text _ = of_stop _

  of_set_length : (xs : List Operand) → J.Holds (set_length xs)
  unfolding set_length
  of_set_length (Target p ∷ n ∷ []) = search (simple, of_store_copy)
  of_set_length _ = of_stop _

  of_read_one : (x : Operand) → J.Holds (read_one x)
  unfolding read_one
  of_read_one (Target p) = of_read_into p
  of_read_one _ = of_stop _

  of_write_one : (x : Operand) → J.Holds (write_one x)
  unfolding write_one
  of_write_one (Shown t v k) = search simple
  of_write_one _ = of_stop _

  of_one_by_one : {f : Operand → Prog (Unit {0})} → ((x : Operand) → J.Holds (f x)) → {ps : List (Prog Operand)} → Each ps → J.Holds (one_by_one f ps)
  unfolding one_by_one
  of_one_by_one h Each.Empty = of_pure tt
  of_one_by_one h (Each.And m ms) = next (bind m h) (of_one_by_one h ms)

  of_acted : (c : PredefCall) (xs : List Operand) → J.Holds (acted c xs)
  unfolding acted
  of_acted call.New xs = of_new xs
  of_acted call.Dispose xs = of_dispose xs
  of_acted call.Pack xs = of_pack xs
  of_acted call.Unpack xs = of_unpack xs
  of_acted call.Get [] = of_get
  of_acted call.Page [] = of_print _
  of_acted call.Halt xs = of_halt xs
  of_acted call.Exit [] = search simple
  of_acted call.ExitRoutine xs = of_leave_named xs
  of_acted call.ExitProgram [] = of_leave _
  of_acted call.Escape xs = of_escape xs
  of_acted call.Inc xs = of_increase xs
  of_acted call.Dec xs = of_decrease xs
  of_acted call.Insert xs = of_insert xs
  of_acted call.Delete xs = of_delete xs
  of_acted call.Str xs = of_to_text xs
  of_acted call.Val xs = of_value_of_text xs
  of_acted call.StrAppend xs = of_append xs
  of_acted call.SetStrLen xs = of_set_length xs
  of_acted _ xs = of_stop _

  pub of_call_statement : (c : PredefCall) {ps : List (Prog Operand)} → Each ps → J.Holds (call_statement c ps)
  unfolding call_statement
  of_call_statement call.Read hs = of_one_by_one of_read_one hs
  of_call_statement call.Readln hs = next (of_one_by_one of_read_one hs) of_read_line
  of_call_statement call.Write hs = of_one_by_one of_write_one hs
  of_call_statement call.Writeln hs = next (of_one_by_one of_write_one hs) (of_print _)
  of_call_statement c hs = bind (of_collect hs) (λ xs. of_acted c xs)

  -- ---- expressions

  pub of_choose_by : {X : Type 0} (t : Tree) {p q : Prog X} → J.Holds p → J.Holds q → J.Holds (choose_by t p q)
  unfolding choose_by
  of_choose_by t h k = bind (of_check _) (λ b. of_choose b h k)

  of_read_again : (t : Tree) → J.Holds (read_again t)
  unfolding read_again
  of_read_again (HeapNumber h) = search simple
  of_read_again _ = of_pure tt

  of_operator : (op : BinaryOp) (l : ℕ) (t : Tree) (r : ℕ) {p : Prog Tree} → J.Holds p → J.Holds (apply_operator op l t r p)
  unfolding apply_operator
  of_operator binary.And l t r h = of_choose_by t h (of_pure _)
  of_operator binary.Or l t r h = of_choose_by t (of_pure _) h
  of_operator op l t r h = bind h (λ u. next (next (of_read_again t) (of_read_again u)) (of_check _))

  pub of_go_on : {ps : List Part} → EachPart ps → (l : ℕ) (t : Tree) → J.Holds (go_on ps l t)
  unfolding go_on
  of_go_on EachPart.Empty l t = of_pure t
  of_go_on (EachPart.And h hs) l t = bind (of_operator _ l t _ h) (λ u. of_go_on hs _ u)

  of_element : {e : Element} → OfElement e → (s : List Bool) → J.Holds (with_element e s)
  unfolding with_element
  of_element (One h) s = bind h (λ t. of_check _)
  of_element (Two h k) s = bind h (λ t. bind k (λ u. of_check _))

  pub of_elements : {es : List Element} → EachElement es → (s : List Bool) → J.Holds (with_elements es s)
  unfolding with_elements
  of_elements EachElement.Empty s = of_pure _
  of_elements (EachElement.And h hs) s = bind (of_element h s) (λ s. of_elements hs s)

  pub of_select_all : {fs : List (Spot → Prog Spot)} → EachSelector fs → (p : Spot) → J.Holds (select_all fs p)
  unfolding select_all
  of_select_all EachSelector.Empty p = of_pure p
  of_select_all (EachSelector.And h hs) p = bind (h p) (λ q. of_select_all hs q)

  pub of_read_place : (r : Root) {p : Prog Spot} → J.Holds p → J.Holds (read_place r p)
  unfolding read_place
  of_read_place root.Input h = search simple
  of_read_place _ h = bind h (λ q. of_read_spot q)

  of_parent : (h : Option Heading) → J.Holds (parent_of h)
  unfolding parent_of
  of_parent (Some h) = of_activation _
  of_parent None = of_stop _

  pub of_resolve : (c : Callee) → J.Holds (resolve c)
  unfolding resolve
  of_resolve (callee.Routine k) = search (simple, of_parent)
  of_resolve (callee.Formal d) = of_ask _

  pub of_call_routine : (c : Callee) {args : List (Prog Passed)} → Each args → J.Holds (call_routine c args)
  unfolding call_routine
  of_call_routine c hs = bind (of_collect hs) (λ passed. bind (of_resolve c) (λ r. J.of_run r passed))

  pub of_call_function : (c : Callee) {args : List (Prog Passed)} → Each args → J.Holds (call_function c args)
  unfolding call_function
  of_call_function c hs = bind (of_call_routine c hs) (λ t. of_check _)

  -- ---- statements

  of_run_all : {is : List Item} → EachItem is → J.Holds (run_all is)
  unfolding run_all
  of_run_all EachItem.Empty = of_pure tt
  of_run_all (EachItem.And h hs) = next h (of_run_all hs)

  of_run_from : (l : ℕ) {is : List Item} → EachItem is → J.Holds (run_from l is)
  unfolding run_from
  of_run_from l EachItem.Empty = of_pure tt
  of_run_from l (EachItem.And h hs) = of_choose _ (next h (of_run_all hs)) (of_run_from l hs)

  of_begin : (s : Start) {is : List Item} → EachItem is → J.Holds (begin_at s is)
  unfolding begin_at
  of_begin First hs = of_run_all hs
  of_begin (AtLabel l) hs = of_run_from l hs

  pub of_sequence : {is : List Item} → EachItem is → J.Holds (sequence is)
  unfolding sequence
  of_sequence hs = J.of_turns (λ from. J.of_handle _ (next (of_begin from hs) (of_pure None))) First

  pub of_goto : (l : ℕ) → J.Holds (goto l)
  unfolding goto
  of_goto l = search (simple, of_activation)

  pub of_while : {test : Prog Tree} {body : Prog (Unit {0})} → J.Holds test → J.Holds body → J.Holds (while_loop test body)
  unfolding while_loop
  of_while h k = bind h (λ t. of_choose_by t (J.of_below (J.of_turns (λ u. bind (next k h) (λ t. of_check _)) tt)) (of_pure tt))

  pub of_repeat : {body : Prog (Unit {0})} {test : Prog Tree} → J.Holds body → J.Holds test → J.Holds (repeat_loop body test)
  unfolding repeat_loop
  of_repeat h k = J.of_below (J.of_turns (λ u. bind (next h k) (λ t. of_check _)) tt)

  of_variable : (d t : ℕ) → J.Holds (variable_spot d t)
  unfolding variable_spot
  of_variable d t = search simple

  of_for_turns : (p : Spot) (down : Bool) (first last : ℤ) {body : Prog (Unit {0})} → J.Holds body → J.Holds (for_turns p down first last body)
  unfolding for_turns
  of_for_turns p down first last h = bind (of_check _) (λ f. bind (of_check _) (λ l. J.of_below (J.of_turns (λ z. next (next (of_store p _) h) (of_pure _)) f)))

  pub of_for : (d t : ℕ) (down : Bool) {first last : Prog Tree} {body : Prog (Unit {0})} → J.Holds first → J.Holds last → J.Holds body → J.Holds (for_loop d t down first last body)
  unfolding for_loop
  of_for d t down h k b = bind h (λ f. bind k (λ l. bind (of_check _) (λ r. bind (of_variable d t) (λ p. next (of_choose _ (of_for_turns p down _ _ b) (of_pure tt)) (of_store p _)))))

  pub of_no_case : J.Holds no_case
  unfolding no_case
  of_no_case = of_check _

  of_case : {cs : List (List LabelRange × Prog (Unit {0}))} {rest : Prog (Unit {0})} → EachArm cs → J.Holds rest → (z : ℤ) → J.Holds (case_with cs rest z)
  unfolding case_with
  of_case EachArm.Empty h z = h
  of_case (EachArm.And k ks) h z = of_choose _ k (of_case ks h z)

  pub of_cases : {cs : List (List LabelRange × Prog (Unit {0}))} {rest : Prog (Unit {0})} → EachArm cs → J.Holds rest → (t : Tree) → J.Holds (cases cs rest t)
  unfolding cases
  of_cases ks h t = bind (of_check _) (λ z. of_case ks h z)

  of_bind_reference : (d : ℕ) (r : Reference) → J.Holds (bind_reference d r)
  unfolding bind_reference
  of_bind_reference d r = search simple

  pub of_with : {ps : List (ℕ × Prog Reference)} {body : Prog (Unit {0})} → EachWith ps → J.Holds body → J.Holds (with_all ps body)
  unfolding with_all
  of_with EachWith.Empty h = h
  of_with (EachWith.And k ks) h = bind k (λ r. next (of_bind_reference _ r) (of_with ks h))

  of_recover : {p : Prog (Unit {0})} → J.Holds p → (c : Option Cause) → J.Holds (recover_from p c)
  unfolding recover_from
  of_recover h None = of_pure tt
  of_recover h (Some c) = next (of_update _) h

  pub of_try : {body recover : Prog (Unit {0})} → J.Holds body → J.Holds recover → J.Holds (try_recover body recover)
  unfolding try_recover
  of_try h k = bind (J.of_handle _ (next h (of_pure None))) (λ c. of_recover k c)

  -- ---- primitives

  of_by_operator : (o : BinaryOp) (l r : ℕ) (xs : List Operand) → J.Holds (by_operator o l r xs)
  unfolding by_operator
  of_by_operator o l r (x ∷ y ∷ []) = of_check _
  of_by_operator o l r _ = of_stop _

  of_by_call : (c : PredefCall) (f t : ℕ) (xs : List Operand) → J.Holds (by_call c f t xs)
  unfolding by_call
  of_by_call c f t (x ∷ xs) = of_call_value c _ t
  of_by_call c f t [] = of_call_value c [] t

  of_no_answer : {q : Prog (Unit {0})} → J.Holds q → J.Holds (no_answer q)
  unfolding no_answer
  of_no_answer h = next h (of_pure _)

  of_store_into : (t s : ℕ) (xs : List Operand) → J.Holds (store_into t s xs)
  unfolding store_into
  of_store_into t s (Target q ∷ x ∷ []) = search (simple, of_assign)
  of_store_into t s _ = of_stop _

  of_read_target : (t : ℕ) (xs : List Operand) → J.Holds (read_target t xs)
  unfolding read_target
  of_read_target t (Target q ∷ []) = of_read_into _
  of_read_target t _ = of_stop _

  pub of_perform : (c : Primitive) (xs : List Operand) → J.Holds (perform c xs)
  unfolding perform
  of_perform p.Add xs = of_by_operator _ _ _ _
  of_perform p.Subtract xs = of_by_operator _ _ _ _
  of_perform p.Multiply xs = of_by_operator _ _ _ _
  of_perform p.Divide xs = of_by_operator _ _ _ _
  of_perform p.Modulo xs = of_by_operator _ _ _ _
  of_perform p.BitAnd xs = of_by_operator _ _ _ _
  of_perform p.BitOr xs = of_by_operator _ _ _ _
  of_perform p.BitXor xs = of_by_operator _ _ _ _
  of_perform p.ShiftLeft xs = of_by_operator _ _ _ _
  of_perform p.ShiftRight xs = of_by_operator _ _ _ _
  of_perform p.Union xs = of_by_operator _ _ _ _
  of_perform p.Difference xs = of_by_operator _ _ _ _
  of_perform p.Intersection xs = of_by_operator _ _ _ _
  of_perform p.SetEqual xs = of_by_operator _ _ _ _
  of_perform p.SetUnequal xs = of_by_operator _ _ _ _
  of_perform p.Subset xs = of_by_operator _ _ _ _
  of_perform p.Superset xs = of_by_operator _ _ _ _
  of_perform p.Member xs = of_by_operator _ _ _ _
  of_perform (p.Join l r) xs = of_by_operator _ _ _ _
  of_perform (p.Compare o l r) xs = of_by_operator _ _ _ _
  of_perform (p.StoreSet target) xs = of_no_answer (of_store_into _ _ _)
  of_perform (p.StoreText target text) xs = of_no_answer (of_store_into _ _ _)
  of_perform p.Abs xs = of_by_call _ _ _ _
  of_perform p.Sqr xs = of_by_call _ _ _ _
  of_perform p.Odd xs = of_by_call _ _ _ _
  of_perform p.Ord xs = of_by_call _ _ _ _
  of_perform p.Chr xs = of_by_call _ _ _ _
  of_perform (p.Succ ordinal) xs = of_by_call _ _ _ _
  of_perform (p.Pred ordinal) xs = of_by_call _ _ _ _
  of_perform p.Eof xs = of_by_call _ _ _ _
  of_perform p.Eoln xs = of_by_call _ _ _ _
  of_perform p.EscapeCode xs = of_by_call _ _ _ _
  of_perform p.LookAhead xs = search simple
  of_perform p.UpCase xs = of_by_call _ _ _ _
  of_perform (p.Length text) xs = of_by_call _ _ _ _
  of_perform (p.StrLen text) xs = of_by_call _ _ _ _
  of_perform (p.StrMax string) xs = of_by_call _ _ _ _
  of_perform (p.Copy text) xs = of_by_call _ _ _ _
  of_perform (p.TextPart text) xs = of_by_call _ _ _ _
  of_perform (p.StrLTrim text) xs = of_by_call _ _ _ _
  of_perform (p.StrRTrim text) xs = of_by_call _ _ _ _
  of_perform (p.StrRpt text) xs = of_by_call _ _ _ _
  of_perform (p.Pos part text) (x ∷ y ∷ []) = of_call_value _ _ _
  of_perform (p.New pointer) (x ∷ []) = of_no_answer (of_acted _ _)
  of_perform (p.Dispose pointer) xs = of_no_answer (of_acted _ _)
  of_perform (p.Pack a z) (x ∷ i ∷ y ∷ []) = of_no_answer (of_acted _ _)
  of_perform (p.Unpack z a) (x ∷ y ∷ i ∷ []) = of_no_answer (of_acted _ _)
  of_perform p.Get xs = of_no_answer (of_acted _ _)
  of_perform p.Page xs = of_no_answer (of_acted _ _)
  of_perform (p.Read target) xs = of_no_answer (of_read_target _ _)
  of_perform p.Readln xs = of_no_answer of_read_line
  of_perform (p.Write t w) xs = of_no_answer (bind (of_check _) (λ x. of_write_one x))
  of_perform p.Writeln xs = of_no_answer (of_print _)
  of_perform (p.Inc target) (x ∷ xs) = of_no_answer (of_acted _ _)
  of_perform (p.Dec target) (x ∷ xs) = of_no_answer (of_acted _ _)
  of_perform (p.Insert text target) (x ∷ y ∷ i ∷ []) = of_no_answer (of_acted _ _)
  of_perform (p.Delete target) (x ∷ xs) = of_no_answer (of_acted _ _)
  of_perform (p.NumberText number target w) xs = of_no_answer (bind (of_check _) (λ x. of_acted _ _))
  of_perform (p.Val text i code) (x ∷ y ∷ z ∷ []) = of_no_answer (of_acted _ _)
  of_perform (p.StrAppend target text) (x ∷ y ∷ []) = of_no_answer (of_acted _ _)
  of_perform (p.SetStrLen target) (x ∷ xs) = of_no_answer (of_acted _ _)
  of_perform c xs = of_check _
