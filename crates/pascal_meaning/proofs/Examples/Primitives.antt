-- What primitives do, in a world of which nothing else is known.
use Rattle.std.proofs.Common.{◌≡◌, ℕ, List, [], ◌∷◌, ◌++◌, refl, true, false, Option, Some, None}
use Rattle.std.specs.Prelude.{codes, pos, negsuc}
use Rattle.p2c_text.specs.declared.dialect.Dialect.{Dialect}
use Rattle.p2c_text.specs.declared.dialect.Dialect.TheVariants.{Iso, Turbo, Ucsd, Hp}
use Rattle.typed_tree.specs.declared.types.PasType.{PasType}
use Rattle.typed_tree.specs.declared.types.PasType.TheVariants.{Pointer, Array, DynString, RecordOf, SetOf as SetType}
use Rattle.typed_tree.specs.declared.types.Types.{Types}
use Rattle.typed_tree.specs.declared.types.Packing.TheVariants.{Unpacked}
use Rattle.typed_tree.specs.declared.declarations.Owner.TheVariants.{Program}
use Rattle.typed_tree.specs.declared.operations.BinaryOp.TheVariants as op
use Rattle.meanings.specs.declared.errors.RuntimeError.{RuntimeError}
use Rattle.meanings.specs.declared.errors.RuntimeError.TheVariants as error
use Rattle.meanings.specs.Values.{Tree, Undefined, Whole, SetOf, NilPointer, HeapNumber, ArrayOf, no_trees, tree, Variable}
use Rattle.meanings.specs.Worlds.{Holds, World}
use Rattle.meanings.specs.Outcomes.{Raise, Error, Outcome, Normal, Exits}
use Rattle.pascal_meaning.specs.declared.operations.Primitive.TheVariants as p
use Rattle.pascal_meaning.specs.Texts.{cells, made}
use Rattle.pascal_meaning.specs.Sets.{empty_set, marked}
use Rattle.pascal_meaning.specs.Places.{plain}
use Rattle.pascal_meaning.specs.Predefined.{Operand, Given, Target}
use Rattle.pascal_meaning.specs.Whole.{perform_in}
use Rattle.pascal_meaning.proofs.Examples.Build.{integer, char, boolean, own, known_types, label_of, arm, variant_part, field, range}

abbrev types : Dialect → List PasType → Types
types d ts = record { dialect = d; list = known_types ++ ts }

abbrev number : ℕ → Operand
number n = Given integer (Whole (pos n))

abbrev gives : Tree → World → Outcome Tree
gives t w = Normal t w

abbrev raises : RuntimeError → World → Outcome Tree
raises e w = Exits (Raise (Error e)) w

-- a dynamic string of these cells, the first with its length
abbrev string : List ℕ → Tree
string bs = ArrayOf (cells bs)

-- a world with one activation, of which name 1 holds the tree, and with this input
abbrev with_variable : Tree → List ℕ → World → World
with_variable t input w = record w { activations = record { number = 7; owner = Program; parent = 7; names = (1, Holds t) ∷ [] } ∷ []; input = input }

-- with the tree in a world with this heap
abbrev with_heap : Tree → List (Option Tree) → World → World
with_heap t heap w = record (with_variable t [] w) { heap = heap }

-- names 1 and 2 hold the trees
abbrev with_two : Tree → Tree → World → World
with_two t u w = record w { activations = record { number = 7; owner = Program; parent = 7; names = (1, Holds t) ∷ (2, Holds u) ∷ [] } ∷ [] }

abbrev second_target : ℕ → Operand
second_target t = Target (plain (record { base = Variable 7 2; path = [] }) t)

abbrev target : ℕ → Operand
target t = Target (plain (record { base = Variable 7 1; path = [] }) t)

sum : (w : World) → perform_in (types Iso ([])) (p.Add) (number 2 ∷ number 3 ∷ []) w ≡ gives (Whole (pos 5)) w
unfolding perform_in
sum w = refl

sum_past_64_bits : (w : World) → perform_in (types Iso ([])) (p.Add) (number 9223372036854775807 ∷ number 1 ∷ []) w ≡ raises error.Overflow w
unfolding perform_in
sum_past_64_bits w = refl

difference_of_numbers : (w : World) → perform_in (types Iso ([])) (p.Subtract) (number 2 ∷ number 3 ∷ []) w ≡ gives (Whole (negsuc 0)) w
unfolding perform_in
difference_of_numbers w = refl

product : (w : World) → perform_in (types Iso ([])) (p.Multiply) (number 4 ∷ number 3 ∷ []) w ≡ gives (Whole (pos 12)) w
unfolding perform_in
product w = refl

quotient : (w : World) → perform_in (types Iso ([])) (p.Divide) (number 7 ∷ number 2 ∷ []) w ≡ gives (Whole (pos 3)) w
unfolding perform_in
quotient w = refl

quotient_by_zero : (w : World) → perform_in (types Iso ([])) (p.Divide) (number 7 ∷ number 0 ∷ []) w ≡ raises error.BadDivisor w
unfolding perform_in
quotient_by_zero w = refl

remainder : (w : World) → perform_in (types Iso ([])) (p.Modulo) (number 7 ∷ number 4 ∷ []) w ≡ gives (Whole (pos 3)) w
unfolding perform_in
remainder w = refl

negative : (w : World) → perform_in (types Iso ([])) (p.Negate) (number 7 ∷ []) w ≡ gives (Whole (negsuc 6)) w
unfolding perform_in
negative w = refl

bits_of_both : (w : World) → perform_in (types Turbo ([])) (p.BitAnd) (number 6 ∷ number 3 ∷ []) w ≡ gives (Whole (pos 2)) w
unfolding perform_in
bits_of_both w = refl

bits_of_either : (w : World) → perform_in (types Turbo ([])) (p.BitOr) (number 6 ∷ number 3 ∷ []) w ≡ gives (Whole (pos 7)) w
unfolding perform_in
bits_of_either w = refl

bits_of_one : (w : World) → perform_in (types Turbo ([])) (p.BitXor) (number 6 ∷ number 3 ∷ []) w ≡ gives (Whole (pos 5)) w
unfolding perform_in
bits_of_one w = refl

complement : (w : World) → perform_in (types Turbo ([])) (p.BitNot) (number 0 ∷ []) w ≡ gives (Whole (negsuc 0)) w
unfolding perform_in
complement w = refl

left_shift : (w : World) → perform_in (types Turbo ([])) (p.ShiftLeft) (number 3 ∷ number 2 ∷ []) w ≡ gives (Whole (pos 12)) w
unfolding perform_in
left_shift w = refl

right_shift : (w : World) → perform_in (types Turbo ([])) (p.ShiftRight) (number 13 ∷ number 2 ∷ []) w ≡ gives (Whole (pos 3)) w
unfolding perform_in
right_shift w = refl

in_range : (w : World) → perform_in (types Iso ([])) (p.Range (pos 1) (pos 5)) (number 5 ∷ []) w ≡ gives (Whole (pos 5)) w
unfolding perform_in
in_range w = refl

out_of_range : (w : World) → perform_in (types Iso ([])) (p.Range (pos 1) (pos 5)) (number 6 ∷ []) w ≡ raises error.OutOfRange w
unfolding perform_in
out_of_range w = refl

index_in_a_string : (w : World) → perform_in (types Ucsd (DynString 3 ∷ [])) (p.StringIndex own) (Given own (string (2 ∷ 65 ∷ 66 ∷ 0 ∷ [])) ∷ number 2 ∷ []) w ≡ gives (Whole (pos 2)) w
unfolding perform_in
index_in_a_string w = refl

index_past_a_string : (w : World) → perform_in (types Ucsd (DynString 3 ∷ [])) (p.StringIndex own) (Given own (string (2 ∷ 65 ∷ 66 ∷ 0 ∷ [])) ∷ number 3 ∷ []) w ≡ raises error.OutOfRange w
unfolding perform_in
index_past_a_string w = refl

index_in_the_cells_of_a_string : (w : World) → perform_in (types Turbo (DynString 3 ∷ [])) (p.StringIndex own) (Given own (string (2 ∷ 65 ∷ 66 ∷ 0 ∷ [])) ∷ number 3 ∷ []) w ≡ gives (Whole (pos 3)) w
unfolding perform_in
index_in_the_cells_of_a_string w = refl

nil_pointer : (w : World) → perform_in (types Iso (Pointer integer ∷ [])) (p.NotNil own) (Given own (NilPointer) ∷ []) w ≡ raises error.NilUse w
unfolding perform_in
nil_pointer w = refl

no_label : (w : World) → perform_in (types Iso ([])) (p.NoCase) ([]) w ≡ raises error.NoLabel w
unfolding perform_in
no_label w = refl

selected_variant : (w : World) → perform_in (types Iso (RecordOf false [] (Some (variant_part 1 None boolean (arm (label_of (pos 1) ∷ []) (field 2 integer ∷ []) None ∷ arm (label_of (pos 0) ∷ []) (field 3 integer ∷ []) None ∷ []))) ∷ [])) (p.Selected own 2) (number 1 ∷ []) w ≡ gives (Whole (pos 1)) w
unfolding perform_in
selected_variant w = refl

other_variant : (w : World) → perform_in (types Iso (RecordOf false [] (Some (variant_part 1 None boolean (arm (label_of (pos 1) ∷ []) (field 2 integer ∷ []) None ∷ arm (label_of (pos 0) ∷ []) (field 3 integer ∷ []) None ∷ []))) ∷ [])) (p.Selected own 3) (number 1 ∷ []) w ≡ raises error.InactiveVariant w
unfolding perform_in
other_variant w = refl

length_within_the_limit : (w : World) → perform_in (types Turbo (DynString 3 ∷ [])) (p.TextLength own) (Given own (string (2 ∷ 65 ∷ 66 ∷ 0 ∷ [])) ∷ []) w ≡ gives (Whole (pos 2)) w
unfolding perform_in
length_within_the_limit w = refl

length_past_the_limit : (w : World) → perform_in (types Turbo (DynString 3 ∷ [])) (p.TextLength own) (Given own (string (4 ∷ 65 ∷ 66 ∷ 0 ∷ [])) ∷ []) w ≡ raises error.LongText w
unfolding perform_in
length_past_the_limit w = refl

text_is_read : (w : World) → perform_in (types Turbo (DynString 3 ∷ [])) (p.TextRead own) (Given own (string (2 ∷ 65 ∷ 66 ∷ 0 ∷ [])) ∷ []) w ≡ gives (Undefined) w
unfolding perform_in
text_is_read w = refl

union : (w : World) → perform_in (types Iso ([])) (p.Union) (Given own (SetOf (marked 1 2 empty_set)) ∷ Given own (SetOf (marked 2 3 empty_set)) ∷ []) w ≡ gives (SetOf (marked 1 4 empty_set)) w
unfolding perform_in
union w = refl

set_difference : (w : World) → perform_in (types Iso ([])) (p.Difference) (Given own (SetOf (marked 1 4 empty_set)) ∷ Given own (SetOf (marked 3 9 empty_set)) ∷ []) w ≡ gives (SetOf (marked 1 2 empty_set)) w
unfolding perform_in
set_difference w = refl

intersection : (w : World) → perform_in (types Iso ([])) (p.Intersection) (Given own (SetOf (marked 1 4 empty_set)) ∷ Given own (SetOf (marked 3 9 empty_set)) ∷ []) w ≡ gives (SetOf (marked 3 2 empty_set)) w
unfolding perform_in
intersection w = refl

equal_sets : (w : World) → perform_in (types Iso ([])) (p.SetEqual) (Given own (SetOf (marked 1 4 empty_set)) ∷ Given own (SetOf (marked 1 4 empty_set)) ∷ []) w ≡ gives (Whole (pos 1)) w
unfolding perform_in
equal_sets w = refl

unequal_sets : (w : World) → perform_in (types Iso ([])) (p.SetUnequal) (Given own (SetOf (marked 1 4 empty_set)) ∷ Given own (SetOf (marked 1 4 empty_set)) ∷ []) w ≡ gives (Whole (pos 0)) w
unfolding perform_in
unequal_sets w = refl

subset : (w : World) → perform_in (types Iso ([])) (p.Subset) (Given own (SetOf (marked 1 3 empty_set)) ∷ Given own (SetOf (marked 1 4 empty_set)) ∷ []) w ≡ gives (Whole (pos 1)) w
unfolding perform_in
subset w = refl

superset : (w : World) → perform_in (types Iso ([])) (p.Superset) (Given own (SetOf (marked 1 3 empty_set)) ∷ Given own (SetOf (marked 1 4 empty_set)) ∷ []) w ≡ gives (Whole (pos 0)) w
unfolding perform_in
superset w = refl

member : (w : World) → perform_in (types Iso ([])) (p.Member) (number 4 ∷ Given own (SetOf (marked 1 4 empty_set)) ∷ []) w ≡ gives (Whole (pos 1)) w
unfolding perform_in
member w = refl

member_is_included : (w : World) → perform_in (types Iso ([])) (p.Include) (Given own (SetOf (marked 1 3 empty_set)) ∷ number 4 ∷ []) w ≡ gives (SetOf (marked 1 4 empty_set)) w
unfolding perform_in
member_is_included w = refl

range_is_included : (w : World) → perform_in (types Iso ([])) (p.IncludeRange) (Given own (SetOf (marked 1 3 empty_set)) ∷ number 4 ∷ number 6 ∷ []) w ≡ gives (SetOf (marked 1 6 empty_set)) w
unfolding perform_in
range_is_included w = refl

member_past_255 : (w : World) → perform_in (types Iso ([])) (p.Include) (Given own (SetOf (marked 1 3 empty_set)) ∷ number 256 ∷ []) w ≡ raises error.OutOfRange w
unfolding perform_in
member_past_255 w = refl

join : (w : World) → perform_in (types Turbo ([])) (p.Join 4 4) (Given 4 (made (codes "ab")) ∷ Given 4 (made (codes "c")) ∷ []) w ≡ gives (made (codes "abc")) w
unfolding perform_in
join w = refl

text_before_another : (w : World) → perform_in (types Turbo ([])) (p.Compare op.Less 4 4) (Given 4 (made (codes "ab")) ∷ Given 4 (made (codes "abc")) ∷ []) w ≡ gives (Whole (pos 1)) w
unfolding perform_in
text_before_another w = refl

-- the cells above its length are undefined
text_for_a_parameter : (w : World) → perform_in (types Hp (DynString 3 ∷ [])) (p.Convert own 4) (Given 4 (made (codes "ab")) ∷ []) w ≡ gives (ArrayOf (tree (Whole (pos 2)) (tree (Whole (pos 97)) (tree (Whole (pos 98)) (tree Undefined no_trees))))) w
unfolding perform_in
text_for_a_parameter w = refl

-- the cells above its length stay
text_is_stored : (w : World) → perform_in (types Hp (DynString 3 ∷ [])) (p.StoreText own 4) (target own ∷ Given 4 (made (codes "b")) ∷ []) (with_variable (string (3 ∷ 97 ∷ 97 ∷ 97 ∷ [])) ([]) w) ≡ gives Undefined (with_variable (string (1 ∷ 98 ∷ 97 ∷ 97 ∷ [])) ([]) w)
unfolding perform_in
text_is_stored w = refl

absolute_value : (w : World) → perform_in (types Iso ([])) (p.Abs) (Given integer (Whole (negsuc 3)) ∷ []) w ≡ gives (Whole (pos 4)) w
unfolding perform_in
absolute_value w = refl

square : (w : World) → perform_in (types Iso ([])) (p.Sqr) (number 4 ∷ []) w ≡ gives (Whole (pos 16)) w
unfolding perform_in
square w = refl

odd_number : (w : World) → perform_in (types Iso ([])) (p.Odd) (number 4 ∷ []) w ≡ gives (Whole (pos 0)) w
unfolding perform_in
odd_number w = refl

ordinal : (w : World) → perform_in (types Iso ([])) (p.Ord) (Given char (Whole (pos 97)) ∷ []) w ≡ gives (Whole (pos 97)) w
unfolding perform_in
ordinal w = refl

character : (w : World) → perform_in (types Iso ([])) (p.Chr) (number 97 ∷ []) w ≡ gives (Whole (pos 97)) w
unfolding perform_in
character w = refl

successor : (w : World) → perform_in (types Iso ([])) (p.Succ boolean) (Given boolean (Whole (pos 0)) ∷ []) w ≡ gives (Whole (pos 1)) w
unfolding perform_in
successor w = refl

predecessor_past_the_end : (w : World) → perform_in (types Iso ([])) (p.Pred boolean) (Given boolean (Whole (pos 0)) ∷ []) w ≡ raises error.OutOfRange w
unfolding perform_in
predecessor_past_the_end w = refl

capital : (w : World) → perform_in (types Turbo ([])) (p.UpCase) (Given char (Whole (pos 97)) ∷ []) w ≡ gives (Whole (pos 65)) w
unfolding perform_in
capital w = refl

length : (w : World) → perform_in (types Turbo ([])) (p.Length 4) (Given 4 (made (codes "abc")) ∷ []) w ≡ gives (Whole (pos 3)) w
unfolding perform_in
length w = refl

length_in_hp : (w : World) → perform_in (types Hp ([])) (p.StrLen 4) (Given 4 (made (codes "abc")) ∷ []) w ≡ gives (Whole (pos 3)) w
unfolding perform_in
length_in_hp w = refl

greatest_length : (w : World) → perform_in (types Hp (DynString 9 ∷ [])) (p.StrMax own) ([]) w ≡ gives (Whole (pos 9)) w
unfolding perform_in
greatest_length w = refl

part_from_a_place : (w : World) → perform_in (types Turbo ([])) (p.Copy 4) (Given 4 (made (codes "abcd")) ∷ number 2 ∷ number 2 ∷ []) w ≡ gives (made (codes "bc")) w
unfolding perform_in
part_from_a_place w = refl

part_in_hp : (w : World) → perform_in (types Hp ([])) (p.TextPart 4) (Given 4 (made (codes "abcd")) ∷ number 2 ∷ number 2 ∷ []) w ≡ gives (made (codes "bc")) w
unfolding perform_in
part_in_hp w = refl

place : (w : World) → perform_in (types Turbo ([])) (p.Pos 4 4) (Given 4 (made (codes "c")) ∷ Given 4 (made (codes "abcd")) ∷ []) w ≡ gives (Whole (pos 3)) w
unfolding perform_in
place w = refl

without_leading_spaces : (w : World) → perform_in (types Hp ([])) (p.StrLTrim 4) (Given 4 (made (codes " a ")) ∷ []) w ≡ gives (made (codes "a ")) w
unfolding perform_in
without_leading_spaces w = refl

without_trailing_spaces : (w : World) → perform_in (types Hp ([])) (p.StrRTrim 4) (Given 4 (made (codes " a ")) ∷ []) w ≡ gives (made (codes " a")) w
unfolding perform_in
without_trailing_spaces w = refl

copies : (w : World) → perform_in (types Hp ([])) (p.StrRpt 4) (Given 4 (made (codes "ab")) ∷ number 2 ∷ []) w ≡ gives (made (codes "abab")) w
unfolding perform_in
copies w = refl

number_is_read : (w : World) → perform_in (types Iso ([])) (p.Read integer) (target integer ∷ []) (with_variable (Undefined) (codes "12x") w) ≡ gives Undefined (with_variable (Whole (pos 12)) (codes "x") w)
unfolding perform_in
number_is_read w = refl

line_is_skipped : (w : World) → perform_in (types Iso ([])) (p.Readln) ([]) (with_variable (Undefined) (codes "ab" ++ (10 ∷ 99 ∷ [])) w) ≡ gives Undefined (with_variable (Undefined) (99 ∷ []) w)
unfolding perform_in
line_is_skipped w = refl

character_is_taken : (w : World) → perform_in (types Iso ([])) (p.Get) ([]) (with_variable (Undefined) (codes "ab") w) ≡ gives Undefined (with_variable (Undefined) (codes "b") w)
unfolding perform_in
character_is_taken w = refl

number_is_written : (w : World) → perform_in (types Iso ([])) (p.Write integer true) (number 5 ∷ number 3 ∷ []) (with_variable (Undefined) ([]) w) ≡ gives Undefined (record (with_variable (Undefined) ([]) w) { output = w.output ++ codes "  5" })
unfolding perform_in
number_is_written w = refl

line_is_ended : (w : World) → perform_in (types Iso ([])) (p.Writeln) ([]) (with_variable (Undefined) ([]) w) ≡ gives Undefined (record (with_variable (Undefined) ([]) w) { output = w.output ++ (10 ∷ []) })
unfolding perform_in
line_is_ended w = refl

new_page : (w : World) → perform_in (types Iso ([])) (p.Page) ([]) (with_variable (Undefined) ([]) w) ≡ gives Undefined (record (with_variable (Undefined) ([]) w) { output = w.output ++ (12 ∷ []) })
unfolding perform_in
new_page w = refl

increase : (w : World) → perform_in (types Turbo ([])) (p.Inc integer) (target integer ∷ number 3 ∷ []) (with_variable (Whole (pos 4)) ([]) w) ≡ gives Undefined (with_variable (Whole (pos 7)) ([]) w)
unfolding perform_in
increase w = refl

decrease : (w : World) → perform_in (types Turbo ([])) (p.Dec integer) (target integer ∷ []) (with_variable (Whole (pos 4)) ([]) w) ≡ gives Undefined (with_variable (Whole (pos 3)) ([]) w)
unfolding perform_in
decrease w = refl

insertion : (w : World) → perform_in (types Turbo (DynString 3 ∷ [])) (p.Insert 4 own) (Given 4 (made (codes "x")) ∷ target own ∷ number 2 ∷ []) (with_variable (string (2 ∷ 97 ∷ 98 ∷ 0 ∷ [])) ([]) w) ≡ gives Undefined (with_variable (string (3 ∷ 97 ∷ 120 ∷ 98 ∷ [])) ([]) w)
unfolding perform_in
insertion w = refl

deletion : (w : World) → perform_in (types Turbo (DynString 3 ∷ [])) (p.Delete own) (target own ∷ number 1 ∷ number 1 ∷ []) (with_variable (string (2 ∷ 97 ∷ 98 ∷ 0 ∷ [])) ([]) w) ≡ gives Undefined (with_variable (string (1 ∷ 98 ∷ 98 ∷ 0 ∷ [])) ([]) w)
unfolding perform_in
deletion w = refl

number_as_a_text : (w : World) → perform_in (types Turbo (DynString 3 ∷ [])) (p.NumberText integer own true) (number 5 ∷ number 2 ∷ target own ∷ []) (with_variable (string (0 ∷ 97 ∷ 98 ∷ 99 ∷ [])) ([]) w) ≡ gives Undefined (with_variable (string (2 ∷ 32 ∷ 53 ∷ 99 ∷ [])) ([]) w)
unfolding perform_in
number_as_a_text w = refl

text_is_appended : (w : World) → perform_in (types Hp (DynString 3 ∷ [])) (p.StrAppend own 4) (target own ∷ Given 4 (made (codes "x")) ∷ []) (with_variable (string (2 ∷ 97 ∷ 98 ∷ 0 ∷ [])) ([]) w) ≡ gives Undefined (with_variable (string (3 ∷ 97 ∷ 98 ∷ 120 ∷ [])) ([]) w)
unfolding perform_in
text_is_appended w = refl

length_is_set : (w : World) → perform_in (types Hp (DynString 3 ∷ [])) (p.SetStrLen own) (target own ∷ number 1 ∷ []) (with_variable (string (2 ∷ 97 ∷ 98 ∷ 0 ∷ [])) ([]) w) ≡ gives Undefined (with_variable (string (1 ∷ 97 ∷ 98 ∷ 0 ∷ [])) ([]) w)
unfolding perform_in
length_is_set w = refl

set_is_stored : (w : World) → perform_in (types Iso (range (pos 1) (pos 9) ∷ SetType Unpacked (Some own) ∷ [])) (p.StoreSet 6) (target 6 ∷ Given 6 (SetOf (marked 2 3 empty_set)) ∷ []) (with_variable (Undefined) ([]) w) ≡ gives Undefined (with_variable (SetOf (marked 2 3 empty_set)) ([]) w)
unfolding perform_in
set_is_stored w = refl

end_of_input : (w : World) → perform_in (types Iso ([])) (p.Eof) ([]) (with_variable Undefined ([]) w) ≡ gives (Whole (pos 1)) (with_variable Undefined ([]) w)
unfolding perform_in
end_of_input w = refl

end_of_line : (w : World) → perform_in (types Iso ([])) (p.Eoln) ([]) (with_variable Undefined (10 ∷ []) w) ≡ gives (Whole (pos 1)) (with_variable Undefined (10 ∷ []) w)
unfolding perform_in
end_of_line w = refl

-- it stays
next_character : (w : World) → perform_in (types Iso ([])) (p.LookAhead) ([]) (with_variable Undefined (codes "a") w) ≡ gives (Whole (pos 97)) (with_variable Undefined (codes "a") w)
unfolding perform_in
next_character w = refl

escape_code : (w : World) → perform_in (types Hp ([])) (p.EscapeCode) ([]) (w) ≡ gives (Whole w.escape_code) w
unfolding perform_in
escape_code w = refl

new_variable : (w : World) → perform_in (types Iso (Pointer integer ∷ [])) (p.New own) (target own ∷ []) (with_heap (Undefined) ([]) w) ≡ gives Undefined (with_heap (HeapNumber 0) (Some Undefined ∷ []) w)
unfolding perform_in
new_variable w = refl

variable_is_gone : (w : World) → perform_in (types Iso (Pointer integer ∷ [])) (p.Dispose own) (Given own (HeapNumber 0) ∷ []) (with_heap (HeapNumber 0) (Some (Whole (pos 5)) ∷ []) w) ≡ gives Undefined (with_heap (HeapNumber 0) (None ∷ []) w)
unfolding perform_in
variable_is_gone w = refl

packed_from_an_index : (w : World) → perform_in (types Iso (range (pos 1) (pos 4) ∷ range (pos 1) (pos 2) ∷ Array false own char ∷ Array true 6 char ∷ [])) (p.Pack 7 8) (Given 7 (ArrayOf (cells (codes "abcd"))) ∷ number 3 ∷ target 8 ∷ []) (with_variable (ArrayOf (cells (codes "xy"))) ([]) w) ≡ gives Undefined (with_variable (ArrayOf (cells (codes "cd"))) ([]) w)
unfolding perform_in
packed_from_an_index w = refl

unpacked_to_an_index : (w : World) → perform_in (types Iso (range (pos 1) (pos 4) ∷ range (pos 1) (pos 2) ∷ Array false own char ∷ Array true 6 char ∷ [])) (p.Unpack 8 7) (Given 8 (ArrayOf (cells (codes "xy"))) ∷ target 7 ∷ number 2 ∷ []) (with_variable (ArrayOf (cells (codes "abcd"))) ([]) w) ≡ gives Undefined (with_variable (ArrayOf (cells (codes "axyd"))) ([]) w)
unfolding perform_in
unpacked_to_an_index w = refl

-- the number, and then the place of the first byte that does not fit
value_of_a_text : (w : World) → perform_in (types Turbo ([])) (p.Val 4 integer integer) (Given 4 (made (codes "12")) ∷ target integer ∷ second_target integer ∷ []) (with_two Undefined Undefined w) ≡ gives Undefined (with_two (Whole (pos 12)) (Whole (pos 0)) w)
unfolding perform_in
value_of_a_text w = refl
