-- That the steps over declarations of types find whether their demands hold.
use Rattle.std.proofs.Common.{◌≡◌, ℕ, ◌+◌, ◌≤◌, ◌&&◌, nat_le, Bool, true, false, not, ◌||◌, cond, List, [], ◌∷◌, ◌++◌, map, Option, Some, None, refl, sym, ap, ◌∙◌, arith, append_assoc}
use Rattle.std.specs.Option.{is_some, is_none, unwrap_or}
use Rattle.std.specs.List.{fold, sum_by}
use Rattle.std.specs.Map.{update}
use Rattle.std.specs.Str.{bytes_eq}
use Rattle.c_tree.specs.Tree.{ObjectType, Int, Word, Byte, Struct, Named, VoidPointer, Pointer}
use Rattle.c_tree.specs.declared.program.CMember.{CMember}
use Rattle.c_tree.specs.declared.program.CStruct.{CStruct}
use Rattle.c_tree.specs.declared.program.CTypedef.{CTypedef}
use Rattle.c_tree.specs.declared.program.CDeclaration.{CDeclaration}
use Rattle.c_tree.specs.declared.program.CDeclaration.TheVariants as declared
use Rattle.c_grammar.specs.declared.fault.CTextKind.TheVariants.{BadType, DoubleName}
use Rattle.c_grammar.specs.declared.token.Mark.TheVariants as mark
use Rattle.c_grammar.specs.Token.{Identifier, Sign}
use Rattle.c_grammar.specs.Types as grammar
use Rattle.c_grammar.specs.Types.{Seen, see, Known, known, known_in_typedef, known_in_struct, named_cells}
use Rattle.c_grammar.specs.Spelling.{count, spell_all, spell_next, spell_or_void, spell_type, spell_result, spell_length, spell_member, spell_forward, spell_declaration}
use Rattle.c_grammar.specs.Demands.{Names, Differs, Declared, Length, Cells, Demands, Holds, after, all_demands, listed_demands, same, among, type_demands, result_demands, and_name, and_member, forward_demands, length_demands, member_demands, struct_demands, typedef_demands, declaration_demands}
use Rattle.c_grammar.proofs.Spelled.{count_more, all_follow, next_follow, type_follow}
use Rattle.c_grammar.proofs.SpelledProgram.{forward_follow, or_void_follow, result_follow, length_follow, member_follow, declaration_follow}
use Rattle.c_conditions.specs.Names.{Numbers, none, zero, with_name}
use Rattle.c_conditions.specs.World.{World}
use Rattle.c_conditions.specs.Cells.{named, capped, member_cells, struct_cells, is_length}
use Rattle.c_conditions.specs.Steps.{Outcome, go_on, each, inner_name}
use Rattle.c_conditions.specs.DeclarationSteps.{forward, typedef_type, typedef_result, next_typedef_type, typedef_types, typedef, array_of, member_length, member, structure_with, structure, declaration}
use Rattle.c_conditions.specs.TypeSteps.{pointed_type, type_of}
use Rattle.c_conditions.specs.Conditions.{HoldAllButLevels}
use Rattle.c_conditions.proofs.Lookups.{some_of}
use Rattle.c_conditions.proofs.Meets.{Meets, at, pass_first, seq, zero_more, began, stayed, passed, pass_last, changed, tested, recount, restate, retarget_held, rebase, each_meets, each_meets_where}
use Rattle.c_conditions.proofs.MeetsExpr.{Knows, KnowsBehind, behind_meets, named_meets, star_count, pointed_meets, type_meets}
use Rattle.c_conditions.proofs.MeetsStatement.{new_name, old_name}
use Rattle.c_conditions.proofs.Reach.{seen_names}

-- ---- structs, as a list and as a table

unfoldable pub structs_of : List CStruct → Numbers
structs_of [] name = None
structs_of (s ∷ earlier) name = cond (bytes_eq s.name name) (Some (grammar.struct_cells earlier s)) (structs_of earlier name)

pub structs_known : (structs : List CStruct) (name : List ℕ) → is_some (structs_of structs name) ≡ among name (map (λ (s : CStruct). s.name) structs)
unfolding structs_of
structs_known [] name = refl
structs_known (s ∷ earlier) name =
    some_of (bytes_eq s.name name) (grammar.struct_cells earlier s) (structs_of earlier name) ∙ ap (λ x. bytes_eq s.name name || x) (structs_known earlier name)

structs_named : (structs : List CStruct) (name : List ℕ) → named (structs_of structs) name ≡ named_cells structs name
unfolding structs_of
structs_named [] name = refl
structs_named (s ∷ earlier) name = by (bytes_eq s.name name) (structs_named earlier name)
  where
    by : (b : Bool) → named (structs_of earlier) name ≡ named_cells earlier name
        → unwrap_or (cond b (Some (grammar.struct_cells earlier s)) (structs_of earlier name)) 1 ≡ elim b [ true ↦ sum_by (grammar.member_cells (named_cells earlier)) s.members | false ↦ named_cells earlier name ]
    by true e = refl
    by false e = e

all_named : (structs : List CStruct) → named (structs_of structs) ≡ named_cells structs
all_named structs = λ i name. structs_named structs name i

-- what is known where these names are
abbrev pub world : List CStruct → (pointed typedefs names inner : Names) → World
world structs pointed typedefs names inner = record {
  place = 0;
  structs = structs_of structs;
  pointed = seen_names pointed;
  typedefs = seen_names typedefs;
  names = seen_names names;
  inner = seen_names inner;
  labels = none;
  reached = zero;
}

-- after these declarations
abbrev pub world_after : Seen → World
world_after seen = let k = known seen in world seen.structs k.pointed seen.typedefs seen.typedefs []

-- ---- names

pub inner_then : {w v : World} {a : Demands} {n : ℕ} {r : Outcome} (k : ℕ) (name : List ℕ) (above : Names) → k ≡ n → v.inner ≡ seen_names above → Meets w a n v r
    → Meets w (a ++ (k, Differs name above) ∷ []) (n + 1) (record v { inner = seen_names (name ∷ above) }) (go_on r (inner_name name))
inner_then {w} {v} {a} {n} {r} k name above e h m =
    restate (a ++ (k, Differs name above) ∷ []) (λ i. a ++ (zero_more k i, Differs name above) ∷ [])
    (seq (inner_name name) k e m (pass_last 1 (changed (λ u. record u { inner = with_name name u.inner }) (record v { inner = seen_names (name ∷ above) }) (λ p i. record v { place = p; inner = with_name name (h i) })
    (tested (λ u. not (u.inner name)) DoubleName 0 (Differs name above) refl refl (λ t. new_name (among name above) (ap (λ f. not (f name)) (sym h) ∙ t)) (λ t. old_name (among name above) (ap (λ f. not (f name)) (sym h) ∙ t)) (began (at v (w.place + n)))))))

-- ---- forward lines

abbrev pub world_forwarded : Names → World
world_forwarded above = world [] above [] [] []

forward_meets : (above : Names) (name : List ℕ) (place : ℕ) → Meets (at (world_forwarded above) place) (forward_demands above name) 3 (world_forwarded (name ∷ above)) (forward name (at (world_forwarded above) place))
forward_meets above name place =
    pass_last 2 (changed (λ u. record u { pointed = with_name name u.pointed }) (world_forwarded (name ∷ above)) (λ p. refl)
    (tested (λ u. not (u.pointed name)) DoubleName 1 (Differs name above) refl refl (new_name (among name above)) (old_name (among name above)) (passed (at (world_forwarded above) place) 1)))

pub forwards_meet : (all : List (List ℕ)) → Meets (at (world_forwarded []) 0) (all_demands spell_forward and_name forward_demands [] all) (count (spell_all spell_forward) all) (world_forwarded (fold and_name [] all)) (each forward all (at (world_forwarded []) 0))
forwards_meet all = each_meets spell_forward forward_follow and_name forward_demands forward world_forwarded forward_meets [] all 0

-- ---- typedefs

-- the world knows the types that are known, of which a struct by value may be forwarded only
record KnowsLoosely (k : Known) (w : World) : Type 0 where
  others : KnowsBehind k w
  loose : k.whole ≡ k.pointed

typedef_type_meets : (k : Known) (w : World) → KnowsLoosely k w → (of : ObjectType) → Meets w (type_demands k of) (count spell_type of) w (typedef_type of w)
unfolding type_of pointed_type
typedef_type_meets k w g Int = passed w 1
typedef_type_meets k w g Word = passed w 1
typedef_type_meets k w g Byte = passed w 2
typedef_type_meets k w g VoidPointer = passed w 2
typedef_type_meets k w g (Struct name) = restate ((1, Declared name k.whole) ∷ []) (ap (λ names. (1, Declared name names) ∷ []) (sym g.loose)) (behind_meets k w g.others name)
typedef_type_meets k w g (Named name) = named_meets k w g.others name
typedef_type_meets k w g (Pointer of) = recount (count spell_type (Pointer of)) (star_count of) (pass_last 1 (pointed_meets k w g.others of))

typedef_result_meets : (k : Known) (w : World) → KnowsLoosely k w → (of : Option ObjectType) → Meets w (result_demands k of) (count spell_result of) w (typedef_result of w)
typedef_result_meets k w g None = passed w 1
typedef_result_meets k w g (Some of) = typedef_type_meets k w g of

next_meets : (k : Known) (w : World) → KnowsLoosely k w → (of : ObjectType) (place : ℕ) → Meets (at w place) (after 1 (type_demands k of)) (count (spell_next spell_type) of) w (next_typedef_type of (at w place))
next_meets k w g of place =
    recount (count (spell_next spell_type) of) (omega arith)
    (pass_first 1 refl refl (rebase w (place + 1) (typedef_type_meets k (at w (place + 1)) (record { others = g.others; loose = g.loose }) of)))

types_meet : (k : Known) (w : World) → KnowsLoosely k w → (all : List ObjectType) → Meets w (listed_demands spell_type same type_demands k all) (count (spell_or_void spell_type) all) w (typedef_types all w)
types_meet k w g [] = passed w 1
types_meet k w g (of ∷ more) =
    recount (count (spell_or_void spell_type) (of ∷ more)) (sym (count_more spell_type type_follow of (spell_all (spell_next spell_type) more [])))
    (seq (each next_typedef_type more) (count spell_type of) refl (typedef_type_meets k w g of)
    (each_meets_where (spell_next spell_type) (next_follow spell_type type_follow) same (λ s a. after 1 (type_demands s a)) next_typedef_type (λ s. w)
    (λ s. KnowsLoosely s w) (λ s a h. h) (λ s a place h. next_meets s w h a place) k g more (w.place + count spell_type of)))

loosely : (seen : Seen) (place : ℕ) → KnowsLoosely (known_in_typedef seen) (at (world_after seen) place)
loosely seen place = record { others = record { behind = λ name. refl; named = λ name. refl }; loose = refl }

typedef_meets : (seen : Seen) (t : CTypedef) (place : ℕ)
    → Meets (at (world_after seen) place) (typedef_demands seen t) (count spell_declaration (declared.Typedef t)) (world_after (see seen (declared.Typedef t))) (typedef t (at (world_after seen) place))
typedef_meets seen t place =
    let k = known_in_typedef seen in let v = world_after seen in let w = at v place in
    let n = count spell_result t.result in
    let listed = listed_demands spell_type same type_demands k t.parameters in
    let end = Sign mark.Close ∷ Sign mark.Semicolon ∷ [] in
    let last = world_after (see seen (declared.Typedef t)) in
    recount (count spell_declaration (declared.Typedef t))
    (omega (arith, count_more spell_result result_follow t.result (Sign mark.Open ∷ Sign mark.Star ∷ Identifier t.name ∷ Sign mark.Close ∷ Sign mark.Open ∷ spell_or_void spell_type t.parameters end), count_more (spell_or_void spell_type) (or_void_follow spell_type type_follow) t.parameters end))
    (pass_last 2 (changed (λ u. record u { names = with_name t.name u.names }) last (λ p. refl)
    (changed (λ u. record u { typedefs = with_name t.name u.typedefs }) (record v { typedefs = seen_names (t.name ∷ seen.typedefs) }) (λ p. refl)
    (restate (typedef_demands seen t) (append_assoc (after 1 (result_demands k t.result)) ((n + 3, Differs t.name seen.typedefs) ∷ []) (after (n + 6) listed))
    (seq (typedef_types t.parameters) (n + 6) (six n)
    (pass_last 3 (tested (λ u. not (u.typedefs t.name)) DoubleName (n + 3) (Differs t.name seen.typedefs) (three n) refl (new_name (among t.name seen.typedefs)) (old_name (among t.name seen.typedefs))
    (pass_last 2 (pass_first 1 refl refl (rebase v (place + 1) (typedef_result_meets k (at v (place + 1)) (loosely seen (place + 1)) t.result))))))
    (rebase v (place + (1 + n + 2 + 3)) (types_meet k (at v (place + (1 + n + 2 + 3))) (loosely seen (place + (1 + n + 2 + 3))) t.parameters)))))))
  where
    three : (n : ℕ) → n + 3 ≡ 1 + n + 2
    three n = omega arith

    six : (n : ℕ) → n + 6 ≡ 1 + n + 2 + 3
    six n = omega arith

-- ---- members

both_true : (a b : Bool) → (a && b) ≡ true → (a ≡ true) × (b ≡ true)
both_true true b e = (refl, e)
both_true false b e = absurd (cc)

length_holds : (n : ℕ) → is_length n ≡ true → Holds (Length n)
length_holds n e = let both = both_true (nat_le 1 n) (nat_le n 16777216) e in (at_least n both.0, at_most n both.1)
  where
    at_least : (n : ℕ) → nat_le 1 n ≡ true → 1 ≤ n
    at_least n e = grind arith

    at_most : (n : ℕ) → nat_le n 16777216 ≡ true → n ≤ 16777216
    at_most n e = grind arith

length_fails : (n : ℕ) → is_length n ≡ false → Holds (Length n) → ⊥
length_fails n e h = by (nat_le 1 n) (nat_le n 16777216) (yes_least n h.0) (yes_most n h.1) e
  where
    yes_least : (n : ℕ) → 1 ≤ n → nat_le 1 n ≡ true
    yes_least n h = grind arith

    yes_most : (n : ℕ) → n ≤ 16777216 → nat_le n 16777216 ≡ true
    yes_most n h = grind arith

    by : (a b : Bool) → a ≡ true → b ≡ true → (a && b) ≡ false → ⊥
    by true true p q e = absurd (cc)
    by true false p q e = absurd (cc)
    by false b p q e = absurd (cc)

small_holds : (n : ℕ) → nat_le (capped n) 16777216 ≡ true → n ≤ 16777216
small_holds n e = let h : capped n ≤ 16777216 = below (capped n) e in omega arith
  where
    below : (m : ℕ) → nat_le m 16777216 ≡ true → m ≤ 16777216
    below m e = grind arith

small_fails : (n : ℕ) → nat_le (capped n) 16777216 ≡ false → n ≤ 16777216 → ⊥
small_fails n e h = above (capped n) e (omega arith)
  where
    above : (m : ℕ) → nat_le m 16777216 ≡ false → m ≤ 16777216 → ⊥
    above m e h = grind arith

-- a member of a type with so many cells
array_meets : (v : World) (m : CMember) (cells : ℕ) → grammar.member_cells (named v.structs) m ≡ cells → (length : Option ℕ) (place : ℕ)
    → Meets (at v place) (length_demands cells length) (count spell_length length) v (array_of m length (at v place))
array_meets v m cells e None place = stayed v place
array_meets v m cells e (Some n) place =
    rebase v place (pass_last 2 (tested (λ u. nat_le (member_cells u.structs m) 16777216) BadType 1 (Cells cells) refl refl
    (λ t. small_holds cells (ap (λ c. nat_le (capped c) 16777216) (sym e) ∙ t)) (λ t. small_fails cells (ap (λ c. nat_le (capped c) 16777216) (sym e) ∙ t))
    (tested (λ u. is_length n) BadType 1 (Length n) refl refl (length_holds n) (length_fails n) (passed (at v place) 1))))

-- the members of a struct of this name, of which these are above
abbrev world_within : Seen → List ℕ → Names → World
world_within seen name inner = let k = known seen in world seen.structs (name ∷ k.pointed) seen.typedefs seen.typedefs inner

within_knows : (seen : Seen) (name : List ℕ) (inner : Names) → Knows (known_in_struct name seen) (world_within seen name inner)
within_knows seen name inner = record { by_value = structs_known seen.structs; others = record { behind = λ q. refl; named = λ q. refl } }

member_meets : (seen : Seen) (name : List ℕ) (above : Names) (m : CMember) (place : ℕ)
    → Meets (at (world_within seen name above) place) (member_demands (known_in_struct name seen) seen.structs above m) (count spell_member m) (world_within seen name (m.name ∷ above)) (member m (at (world_within seen name above) place))
member_meets seen name above m place =
    let k = known_in_struct name seen in let v = world_within seen name above in let after_name = world_within seen name (m.name ∷ above) in
    let n = count spell_type m.of in let cells = grammar.member_cells (named_cells seen.structs) m in
    let lengths = length_demands cells m.length in
    recount (count spell_member m)
    (omega (arith, count_more spell_type type_follow m.of (Identifier m.name ∷ spell_length m.length (Sign mark.Semicolon ∷ [])), count_more spell_length length_follow m.length (Sign mark.Semicolon ∷ [])))
    (pass_last 1 (restate (member_demands k seen.structs above m) (append_assoc (type_demands k m.of) ((n, Differs m.name above) ∷ []) (after (n + 1) lengths))
    (seq (member_length m) (n + 1) refl (inner_then n m.name above refl refl (rebase v place (type_meets k (at v place) (within_knows seen name above) m.of)))
    (array_meets after_name m cells (ap (λ f. grammar.member_cells f m) (all_named seen.structs)) m.length (place + (n + 1))))))

-- ---- structs

none_is : (o : Option ℕ) → not (is_some o) ≡ is_none o
none_is None = refl
none_is (Some n) = refl

undeclared : (structs : List CStruct) (name : List ℕ) → not (among name (map (λ (s : CStruct). s.name) structs)) ≡ is_none (structs_of structs name)
undeclared structs name = ap not (sym (structs_known structs name)) ∙ none_is (structs_of structs name)

-- with its cells, as the table keeps them
abbrev world_with : Seen → CStruct → ℕ → World
world_with seen s cells = record (world_after (see seen (declared.Struct s))) { structs = update bytes_eq (structs_of seen.structs) s.name (Some cells) }

structure_with_meets : (seen : Seen) (s : CStruct) (cells : ℕ) → cells ≡ capped (grammar.struct_cells seen.structs s) → (place : ℕ)
    → Meets (at (world_after seen) place) (struct_demands seen s) (count spell_declaration (declared.Struct s)) (world_with seen s cells) (structure_with cells s (at (world_after seen) place))
structure_with_meets seen s cells e place =
    let k = known seen in let v = world_after seen in let total = grammar.struct_cells seen.structs s in
    let inside = world_within seen s.name (fold and_member [] s.members) in
    recount (count spell_declaration (declared.Struct s)) (omega (arith, count_more (spell_all spell_member) (all_follow spell_member member_follow) s.members (Sign mark.CloseBrace ∷ Sign mark.Semicolon ∷ [])))
    (pass_last 2 (changed (λ u. record u { inner = none; labels = none }) (world_with seen s cells) (λ p. refl)
    (changed (λ u. record u { structs = update bytes_eq u.structs s.name (Some cells) }) (record inside { structs = update bytes_eq (structs_of seen.structs) s.name (Some cells) }) (λ p. refl)
    (seq (each member s.members) 3 refl
    (pass_last 2 (changed (λ u. record u { pointed = with_name s.name u.pointed }) (world_within seen s.name []) (λ p. refl)
    (tested (λ u. nat_le cells 16777216) BadType 1 (Cells total) refl refl (λ t. small_holds total (ap (λ c. nat_le c 16777216) (sym e) ∙ t)) (λ t. small_fails total (ap (λ c. nat_le c 16777216) (sym e) ∙ t))
    (tested (λ u. is_none (u.structs s.name)) DoubleName 1 (Differs s.name k.whole) refl refl (λ t. new_name (among s.name k.whole) (undeclared seen.structs s.name ∙ t)) (λ t. old_name (among s.name k.whole) (undeclared seen.structs s.name ∙ t))
    (passed (at v place) 1)))))
    (each_meets spell_member member_follow and_member (member_demands (known_in_struct s.name seen) seen.structs) member (world_within seen s.name) (member_meets seen s.name) [] s.members (place + 3))))))

-- a struct that is not too large has as many cells as the table keeps
kept : (seen : Seen) (s : CStruct) (cells : ℕ) → cells ≡ capped (grammar.struct_cells seen.structs s) → HoldAllButLevels (struct_demands seen s) → world_with seen s cells ≡ world_after (see seen (declared.Struct s))
unfolding structs_of
kept seen s cells e h =
    let small : grammar.struct_cells seen.structs s ≤ 16777216 = h.1.0 in
    let exact : cells ≡ grammar.struct_cells seen.structs s = e ∙ uncapped (grammar.struct_cells seen.structs s) small in
    λ i. record (world_with seen s cells) { structs = λ name. cond (bytes_eq s.name name) (Some (exact i)) (structs_of seen.structs name) }
  where
    uncapped : (n : ℕ) → n ≤ 16777216 → capped n ≡ n
    uncapped n h = omega arith

structure_meets : (seen : Seen) (s : CStruct) (place : ℕ)
    → Meets (at (world_after seen) place) (struct_demands seen s) (count spell_declaration (declared.Struct s)) (world_after (see seen (declared.Struct s))) (structure s (at (world_after seen) place))
structure_meets seen s place =
    let cells = struct_cells (structs_of seen.structs) s.members in
    let e : cells ≡ capped (grammar.struct_cells seen.structs s) = ap (λ f. capped (sum_by (grammar.member_cells f) s.members)) (all_named seen.structs) in
    retarget_held (world_after (see seen (declared.Struct s))) (kept seen s cells e) (structure_with_meets seen s cells e place)

declaration_meets : (seen : Seen) (d : CDeclaration) (place : ℕ) → Meets (at (world_after seen) place) (declaration_demands seen d) (count spell_declaration d) (world_after (see seen d)) (declaration d (at (world_after seen) place))
declaration_meets seen (declared.Typedef t) place = typedef_meets seen t place
declaration_meets seen (declared.Struct s) place = structure_meets seen s place

pub declarations_meet : (seen : Seen) (all : List CDeclaration) (place : ℕ)
    → Meets (at (world_after seen) place) (all_demands spell_declaration see declaration_demands seen all) (count (spell_all spell_declaration) all) (world_after (fold see seen all)) (each declaration all (at (world_after seen) place))
declarations_meet seen all place = each_meets spell_declaration declaration_follow see declaration_demands declaration world_after declaration_meets seen all place
