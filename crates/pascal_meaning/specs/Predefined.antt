-- The predefined calls, on operands that were evaluated.
use Rattle.std.specs.Prelude.{ℕ, zero, suc, ℤ, pos, negsuc, neg_ℤ, ◌+ℤ◌, ◌-ℤ◌, ◌*ℤ◌, Bool, not, ◌&&◌, int_le, int_rem, unsigned_abs, List, [], ◌∷◌, ◌++◌, length, Option, Some, None, slice_set}
use Rattle.typed_tree.specs.declared.types.Types.{Types}
use Rattle.typed_tree.specs.declared.types.Host.{Host}
use Rattle.typed_tree.specs.declared.types.Host.TheVariants.{Whole as WholeHost, Char, Bool as BoolHost, Enumeration}
use Rattle.typed_tree.specs.declared.types.PasType.{PasType}
use Rattle.typed_tree.specs.declared.types.PasType.TheVariants.{Pointer, Array, DynString}
use Rattle.typed_tree.specs.declared.declarations.Callee.{Callee}
use Rattle.typed_tree.specs.declared.declarations.Callee.TheVariants.{Routine as CalleeRoutine}
use Rattle.typed_tree.specs.declared.declarations.Owner.{Owner}
use Rattle.typed_tree.specs.declared.declarations.Owner.TheVariants.{Program, Routine}
use Rattle.typed_tree.specs.declared.operations.PredefCall.{PredefCall}
use Rattle.typed_tree.specs.declared.operations.PredefCall.TheVariants as call
use Rattle.typed_tree.specs.Ranges.{type_at, Range, Hosted}
use Rattle.meanings.specs.declared.errors.RuntimeError.TheVariants.{OutOfRange, NilUse, LongText}
use Rattle.meanings.specs.Values.{Tree, Undefined, Whole, NilPointer, HeapNumber, ArrayOf, Trees, no_trees, tree, Heap}
use Rattle.meanings.specs.Worlds.{View}
use Rattle.meanings.specs.Outcomes.{Escape, Leave, Raise, Halt, Malformed, Checked, Passes, Fails, Lacks, Misfits, ◌&>◌, there, expect}
use Rattle.meanings.specs.Programs.{Prog, ◌>>=◌, ◌>>◌, pure, stop, ask, check, print, update, here, collect}
use Rattle.meanings.specs.Names.{enclosing}
use Rattle.meanings.specs.Memory.{base_tree, solid}
use Rattle.meanings.specs.Fresh.{size_of, fresh, is_type}
use Rattle.pascal_meaning.specs.Numbers.{when, exact, in_range, of_bool, equal, number_of, whole}
use Rattle.pascal_meaning.specs.Texts.{Text, text_of, length_of, read_text, read_texts, making}
use Rattle.pascal_meaning.specs.Places.{Spot, component, read_spot, store, store_copy, assign}
use Rattle.pascal_meaning.specs.Input.{at_end, at_line_end, get_char, read_into, read_line}
use Rattle.pascal_meaning.specs.Output.{written}
use Rattle.pascal_meaning.specs.TextCalls.{copied, inserted, deleted, part_of, position, without_spaces, trimmed_right, repeated, capital, valued}

pub data Operand : Type 0 where
  -- a value of the type
  Given : (type : ℕ) → Tree → Operand
  -- a place that the call reads or changes
  Target : Spot → Operand
  -- a value of the type that is written, with its width
  Shown : (type : ℕ) → Tree → Option ℤ → Operand
  -- a routine that is named
  Named : Callee → Operand

unfoldable pub tree_of : Operand → Checked Tree
tree_of (Given t v) = Passes v
tree_of (Shown t v k) = Passes v
tree_of _ = Misfits

unfoldable pub integer_of : Operand → Checked ℤ
integer_of x = tree_of x &> λ t. number_of t

unfoldable pub text_in : Types → Operand → Checked Text
text_in types (Given t v) = Passes (text_of (type_at types t) v)
text_in types _ = Misfits

unfoldable pub texts_in : Types → List Operand → Checked (List Text)
texts_in types [] = Passes []
texts_in types (x ∷ xs) = text_in types x &> λ t. texts_in types xs &> λ ts. Passes (t ∷ ts)

unfoldable pub bytes_in : Types → Operand → Checked (List ℕ)
bytes_in types x = text_in types x &> λ t. read_text t

-- ---- values that the operands decide

-- a value of the host; past its end `OutOfRange`, and `Overflow` for whole numbers
unfoldable pub in_host : Types → Option Host → ℤ → Checked ℤ
in_host types (Some WholeHost) z = exact z
in_host types (Some Char) z = in_range (Some (pos 0, pos 255)) z
in_host types (Some BoolHost) z = in_range (Some (pos 0, pos 1)) z
in_host types (Some (Enumeration t)) z = in_range (Range types t) z
in_host types None z = Misfits

unfoldable pub limit_of : Option PasType → Checked ℤ
limit_of (Some (DynString limit)) = Passes (pos limit)
limit_of _ = Misfits

unfoldable pub operand_type : Operand → ℕ
operand_type (Given t v) = t
operand_type (Target p) = p.of
operand_type (Shown t v k) = t
operand_type (Named c) = 0

unfoldable pub counted : Checked ℕ → Checked Tree
counted c = c &> λ n. Passes (Whole (pos n))

-- what a function gives, where `type` is that of its result
unfoldable pub computed : Types → PredefCall → List Operand → (type : ℕ) → Checked Tree
computed types call.Abs (x ∷ []) t = whole (integer_of x &> λ z. exact (pos (unsigned_abs z)))
computed types call.Sqr (x ∷ []) t = whole (integer_of x &> λ z. exact (z *ℤ z))
computed types call.Odd (x ∷ []) t = whole (integer_of x &> λ z. Passes (of_bool (not (equal (int_rem z (pos 2)) (pos 0)))))
computed types call.Ord (x ∷ []) t = whole (integer_of x)
computed types call.Chr (x ∷ []) t = whole (integer_of x &> λ z. in_range (Some (pos 0, pos 255)) z)
computed types call.Succ (x ∷ []) t = whole (integer_of x &> λ z. in_host types (Hosted types t) (z +ℤ pos 1))
computed types call.Pred (x ∷ []) t = whole (integer_of x &> λ z. in_host types (Hosted types t) (z -ℤ pos 1))
computed types call.UpCase (x ∷ []) t = whole (integer_of x &> λ z. Passes (capital z))
computed types call.Length (x ∷ []) t = counted (text_in types x &> λ t. length_of t)
computed types call.StrLen (x ∷ []) t = counted (text_in types x &> λ t. length_of t)
computed types call.StrMax (x ∷ []) t = whole (limit_of (type_at types (operand_type x)))
computed types call.Copy (x ∷ i ∷ n ∷ []) t = making types.dialect (bytes_in types x &> λ bs. integer_of i &> λ i. integer_of n &> λ n. copied bs i n)
computed types call.Str (x ∷ i ∷ n ∷ []) t = making types.dialect (bytes_in types x &> λ bs. integer_of i &> λ i. integer_of n &> λ n. part_of bs i n)
computed types call.Pos (x ∷ y ∷ []) t = counted (bytes_in types x &> λ bs. bytes_in types y &> λ cs. Passes (position bs cs))
computed types call.Concat xs t = making types.dialect (texts_in types xs &> λ ts. read_texts ts)
computed types call.StrLTrim (x ∷ []) t = making types.dialect (bytes_in types x &> λ bs. Passes (without_spaces bs))
computed types call.StrRTrim (x ∷ []) t = making types.dialect (bytes_in types x &> λ bs. Passes (trimmed_right bs))
computed types call.StrRpt (x ∷ n ∷ []) t = making types.dialect (bytes_in types x &> λ bs. integer_of n &> λ n. repeated bs n)
computed types c xs t = Misfits

unfoldable pub truth_value : Bool → Tree
truth_value b = Whole (of_bool b)

-- what a function gives
unfoldable pub call_value : PredefCall → List Operand → (type : ℕ) → Prog Tree
call_value call.Eof [] t = ask (λ s v. Passes (truth_value (at_end v.input)))
call_value call.Eoln [] t = ask (λ s v. Passes v.input) >>= λ bs. check (λ types. at_line_end types.dialect bs &> λ b. Passes (truth_value b))
call_value call.EscapeCode [] t = ask (λ s v. Passes (Whole v.escape_code))
call_value c xs t = check (λ types. computed types c xs t)

-- ---- exits

unfoldable pub halt_with : List Operand → Prog (Unit {0})
halt_with [] = stop (Halt 0)
halt_with (x ∷ []) = check (λ types. integer_of x &> λ z. in_range (Some (pos 0, pos 199)) z) >>= λ z. stop (Halt (unsigned_abs z))
halt_with _ = stop Malformed

-- the escape codes are those of HP's integer
unfoldable pub escape_with : List Operand → Prog (Unit {0})
escape_with (x ∷ []) = check (λ types. integer_of x &> λ z. in_range (Some (negsuc 2147483647, pos 2147483647)) z) >>= λ z. stop (Raise (Escape z))
escape_with _ = stop Malformed

-- the activation of an enclosing block
unfoldable pub activation_of : Owner → Prog ℕ
activation_of o = ask (λ s v. there (enclosing v.activations s.here o))

unfoldable pub leave : Owner → Prog (Unit {0})
leave o = activation_of o >>= λ a. stop (Leave a)

unfoldable pub leave_named : List Operand → Prog (Unit {0})
leave_named (Named (CalleeRoutine k) ∷ []) = leave (Routine k)
leave_named _ = stop Malformed

-- ---- the heap

unfoldable pub domain_of : Option PasType → Checked ℕ
domain_of (Some (Pointer domain)) = Passes domain
domain_of _ = Misfits

-- a variable that a pointer of the type may point to
unfoldable pub with_new : Types → Option PasType → View → Checked View
with_new types pointer v = domain_of pointer &> λ t. expect (is_type types t) &> λ u. Passes (record v { heap = v.heap ++ (Some (fresh types t) ∷ []) })

unfoldable pub make_new : List Operand → Prog (Unit {0})
make_new (Target p ∷ []) = ask (λ s v. Passes (length v.heap)) >>= λ h. update (λ types v. with_new types (type_at types p.of) v) >> store p (HeapNumber h)
make_new _ = stop Malformed

unfoldable pub without_heap : ℕ → View → Checked View
without_heap h v = base_tree v (Heap h) &> λ t. Passes (record v { heap = slice_set v.heap h None })

unfoldable pub disposable : Tree → Checked ℕ
disposable NilPointer = Fails NilUse
disposable (HeapNumber h) = Passes h
disposable Undefined = Lacks
disposable _ = Misfits

unfoldable pub dispose : List Operand → Prog (Unit {0})
dispose (x ∷ []) = check (λ types. tree_of x &> λ t. disposable t) >>= λ h. update (λ types v. without_heap h v)
dispose _ = stop Malformed

-- ---- pack and unpack

unfoldable pub dropped : ℕ → Trees → Trees
dropped zero ts = ts
dropped (suc n) no_trees = no_trees
dropped (suc n) (tree t ts) = dropped n ts

unfoldable pub first_trees : ℕ → Trees → Trees
first_trees zero ts = no_trees
first_trees (suc n) no_trees = no_trees
first_trees (suc n) (tree t ts) = tree t (first_trees n ts)

unfoldable pub trees_of : Tree → Checked Trees
trees_of (ArrayOf ts) = Passes ts
trees_of _ = Misfits

-- components are stored from the place k on; a scalar is read
unfoldable pub put_components : Spot → (type k : ℕ) → Trees → Prog (Unit {0})
put_components p t k no_trees = pure tt
put_components p t k (tree u us) = ask (λ s v. solid v u) >>= λ u. store_copy (component p t k) u >> put_components p t (suc k) us

unfoldable pub component_type : Option PasType → Checked ℕ
component_type (Some (Array packed index component)) = Passes component
component_type _ = Misfits

unfoldable pub index_range : Types → Option PasType → Option (ℤ × ℤ)
index_range types (Some (Array packed index component)) = Range types index
index_range types _ = None

-- the place of the index i in an array from which n components are wanted, else `OutOfRange`
unfoldable pub part_from : Option (ℤ × ℤ) → ℤ → ℕ → Checked ℕ
part_from None i n = Misfits
part_from (Some r) i n = when (int_le r.0 i && int_le (i +ℤ pos n) (r.1 +ℤ pos 1)) OutOfRange (unsigned_abs (i -ℤ r.0))

-- the number of components of the packed array, and the index in the unpacked one
unfoldable pub part_in : Types → (packed unpacked : ℕ) → ℤ → Checked (ℕ × ℕ)
part_in types z a i = let n = size_of (index_range types (type_at types z)) in part_from (index_range types (type_at types a)) i n &> λ k. Passes (n, k)

unfoldable pub pack : List Operand → Prog (Unit {0})
pack (Given a v ∷ i ∷ Target z ∷ []) = check (λ types. integer_of i &> λ i. part_in types z.of a i) >>= λ r. check (λ types. trees_of v) >>= λ ts.
    check (λ types. component_type (type_at types z.of)) >>= λ t. put_components z t 0 (first_trees r.0 (dropped r.1 ts))
pack _ = stop Malformed

unfoldable pub unpack : List Operand → Prog (Unit {0})
unpack (Given z v ∷ Target a ∷ i ∷ []) = check (λ types. integer_of i &> λ i. part_in types z a.of i) >>= λ r. check (λ types. trees_of v) >>= λ ts.
    check (λ types. component_type (type_at types a.of)) >>= λ t. put_components a t r.1 ts
unpack _ = stop Malformed

-- ---- inc and dec

unfoldable pub step_by : Spot → Checked ℤ → Prog (Unit {0})
step_by p n = read_spot p >>= λ t. check (λ types. number_of t &> λ z. n &> λ n. exact (z +ℤ n)) >>= λ z. assign p None (Whole z)

unfoldable pub increase : List Operand → Prog (Unit {0})
increase (Target p ∷ []) = step_by p (Passes (pos 1))
increase (Target p ∷ n ∷ []) = step_by p (integer_of n)
increase _ = stop Malformed

unfoldable pub decrease : List Operand → Prog (Unit {0})
decrease (Target p ∷ []) = step_by p (Passes (negsuc 0))
decrease (Target p ∷ n ∷ []) = step_by p (integer_of n &> λ z. Passes (neg_ℤ z))
decrease _ = stop Malformed

-- ---- strings that are changed

unfoldable pub read_operand : Operand → Prog (List ℕ)
read_operand x = check (λ types. bytes_in types x)

-- the text that a place holds
unfoldable pub read_held : Spot → Prog (List ℕ)
read_held p = read_spot p >>= λ t. check (λ types. read_text (text_of (type_at types p.of) t))

-- a place takes a text that an operation makes
unfoldable pub store_text : Spot → Checked (List ℕ) → Prog (Unit {0})
store_text p c = check (λ types. making types.dialect c) >>= λ t. assign p None t

unfoldable pub insert : List Operand → Prog (Unit {0})
insert (x ∷ Target p ∷ i ∷ []) = read_operand x >>= λ bs. read_held p >>= λ cs. store_text p (integer_of i &> λ i. inserted bs cs i)
insert _ = stop Malformed

unfoldable pub delete : List Operand → Prog (Unit {0})
delete (Target p ∷ i ∷ n ∷ []) = read_held p >>= λ bs. store_text p (integer_of i &> λ i. integer_of n &> λ n. deleted bs i n)
delete _ = stop Malformed

unfoldable pub append : List Operand → Prog (Unit {0})
append (Target p ∷ x ∷ []) = read_held p >>= λ bs. read_operand x >>= λ cs. store_text p (Passes (bs ++ cs))
append _ = stop Malformed

-- Turbo: the text that `write` gives
unfoldable pub to_text : List Operand → Prog (Unit {0})
to_text (Shown t v k ∷ Target p ∷ []) = check (λ types. written types.dialect (type_at types t) k v) >>= λ bs. store_text p (Passes bs)
to_text _ = stop Malformed

unfoldable pub value_of_text : List Operand → Prog (Unit {0})
value_of_text (x ∷ Target i ∷ Target code ∷ []) = read_operand x >>= λ bs. assign i None (Whole (valued 1 bs).0) >> assign code None (Whole (pos (valued 1 bs).1))
value_of_text _ = stop Malformed

-- the length alone is set
unfoldable pub set_length : List Operand → Prog (Unit {0})
set_length (Target p ∷ n ∷ []) = check (λ types. limit_of (type_at types p.of) &> λ limit. integer_of n &> λ z. when (int_le (pos 0) z && int_le z limit) LongText (Whole z))
    >>= λ t. store_copy (component p 0 0) t
set_length _ = stop Malformed

-- ---- input and output

unfoldable pub read_one : Operand → Prog (Unit {0})
read_one (Target p) = read_into p
read_one _ = stop Malformed

unfoldable pub write_one : Operand → Prog (Unit {0})
write_one (Shown t v k) = check (λ types. written types.dialect (type_at types t) k v) >>= λ bs. print bs
write_one _ = stop Malformed

-- each is evaluated, and then read or written, before the next one
unfoldable pub one_by_one : (Operand → Prog (Unit {0})) → List (Prog Operand) → Prog (Unit {0})
one_by_one f [] = pure tt
one_by_one f (p ∷ ps) = (p >>= λ x. f x) >> one_by_one f ps

-- ---- statements

-- what a call does once all its operands were evaluated
unfoldable pub acted : PredefCall → List Operand → Prog (Unit {0})
acted call.New xs = make_new xs
acted call.Dispose xs = dispose xs
acted call.Pack xs = pack xs
acted call.Unpack xs = unpack xs
acted call.Get [] = get_char
acted call.Page [] = print (12 ∷ [])
acted call.Halt xs = halt_with xs
acted call.Exit [] = here >>= λ a. stop (Leave a)
acted call.ExitRoutine xs = leave_named xs
acted call.ExitProgram [] = leave Program
acted call.Escape xs = escape_with xs
acted call.Inc xs = increase xs
acted call.Dec xs = decrease xs
acted call.Insert xs = insert xs
acted call.Delete xs = delete xs
acted call.Str xs = to_text xs
acted call.Val xs = value_of_text xs
acted call.StrAppend xs = append xs
acted call.SetStrLen xs = set_length xs
acted _ xs = stop Malformed

unfoldable pub call_statement : PredefCall → List (Prog Operand) → Prog (Unit {0})
call_statement call.Read ps = one_by_one read_one ps
call_statement call.Readln ps = one_by_one read_one ps >> read_line
call_statement call.Write ps = one_by_one write_one ps
call_statement call.Writeln ps = one_by_one write_one ps >> print (10 ∷ [])
call_statement c ps = collect ps >>= λ xs. acted c xs
