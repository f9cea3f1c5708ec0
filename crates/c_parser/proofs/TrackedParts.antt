-- The parts of a program that is a text are followed, one after the other.
use Rattle.std.proofs.Common.{◌≡◌, ℕ, ◌<◌, ◌≤◌, Bool, true, false, List, [], ◌∷◌, ◌++◌, length, Option, Some, None, Ok, refl, sym, ap, subst, ◌∙◌, append_assoc, arith}
use Rattle.std.specs.List.{AllByRecursion}
use Rattle.std.proofs.lemmas.List.{append-nil}
use Rattle.c_tree.specs.Tree.{ObjectType, Int, Word, Byte, Struct, Named, VoidPointer, Pointer, body_of}
use Rattle.c_tree.specs.declared.program.CVariable.{CVariable}
use Rattle.c_tree.specs.declared.program.CStruct.{CStruct}
use Rattle.c_tree.specs.declared.program.CTypedef.{CTypedef}
use Rattle.c_tree.specs.declared.program.CDeclaration.{CDeclaration}
use Rattle.c_tree.specs.declared.program.CDeclaration.TheVariants as declared
use Rattle.c_tree.specs.declared.program.CPrototype.{CPrototype}
use Rattle.c_tree.specs.declared.program.CFunction.{CFunction}
use Rattle.c_tree.specs.declared.program.CMain.{CMain}
use Rattle.c_tree.specs.declared.program.CProgram.{CProgram}
use Rattle.c_grammar.specs.declared.token.Word.TheVariants as word
use Rattle.c_grammar.specs.declared.token.Mark.TheVariants as mark
use Rattle.c_grammar.specs.Token.{Token, Identifier, Quoted, Sign}
use Rattle.c_grammar.specs.Spelling.{spell_all, spell_type, spell_result, spell_variable_line, spell_forward, spell_struct, spell_typedef, spell_declaration, spell_parameters, spell_prototype, spell_block, spell_function, spell_main, program_tokens}
use Rattle.c_grammar.specs.Grammar.{IsStruct, IsDeclaration, IsFunction, IsMain, IsProgram}
use Rattle.token_parsing.specs.Parser.{Parser, and_then, begins, rest, again, repeat}
use Rattle.token_parsing.proofs.Tracked.{Shrinks, Takes, Along, ended, last, longer, Tracked, one_shrinks, pure_shrinks, then_shrinks, takes_token, takes_then, takes_either, along_some, same_begins, track_first, track_second, track_then, track_pure, track_turn, track_no_turn}
use Rattle.c_parser.specs.declared.program.Parts.{Parts}
use Rattle.c_expr_parser.specs.Classes.{same_word, same_mark, words, marks}
use Rattle.c_expr_parser.specs.Types.{pointer_to, object_type, stars, result_type, after_void}
use Rattle.c_parser.specs.Programs.{typedef, block, no_functions, no_prototypes, no_globals, no_declarations, with_forward, with_declaration, with_global, with_prototype, with_function, forward, structure, type_definition, prototype, function, after_parameters, after_name, after_result, after_struct_name, after_struct, next_part, no_int, parts, main_of, main, program_of, end_of, program}
use Rattle.c_expr_parser.specs.Depth.{body_depth, Fits}
use Rattle.c_expr_parser.proofs.Shrinks.{pointer_to_shrinks, after_shrinks}
use Rattle.c_parser.proofs.Shrinks.{typedef_ends, block_shrinks, after_parameters_shrinks, after_name_shrinks, after_result_shrinks, after_struct_name_shrinks, next_part_shrinks, main_shrinks, end_shrinks}
use Rattle.c_expr_parser.proofs.TrackedTokens.{mark_tracked, word_tracked, name_tracked}
use Rattle.c_expr_parser.proofs.TrackedTypes.{NoStar, result_tracked}
use Rattle.c_parser.proofs.TrackedLocals.{type_takes, block_tracked}
use Rattle.c_parser.proofs.TrackedPrograms.{result_begun, members_tracked, typedef_tracked, parameters_tracked}

-- ---- what follows a type, and types of structs

name_no_star : (name : List ℕ) (w : List Token) → NoStar (Identifier name ∷ w)
unfolding begins
name_no_star name w = refl

abbrev is_struct : ObjectType → Bool
is_struct (Struct n) = true
is_struct (Pointer of) = is_struct of
is_struct _ = false

no_struct : (of : ObjectType) (w : List Token) → is_struct of ≡ false → begins (words word.Struct) (spell_type of w) ≡ false
unfolding begins same_word
no_struct Int w e = refl
no_struct Word w e = refl
no_struct Byte w e = refl
no_struct (Struct n) w e = absurd cc
no_struct (Named n) w e = refl
no_struct VoidPointer w e = refl
no_struct (Pointer of) w e = no_struct of (Sign mark.Star ∷ w) e

-- after the name of a struct: no declaration of it
record Onward (w : List Token) : Type 0 where
  semicolon : begins (marks mark.Semicolon) w ≡ false
  brace : begins (marks mark.OpenBrace) w ≡ false

name_onward : (name : List ℕ) (w : List Token) → Onward (Identifier name ∷ w)
unfolding begins
name_onward name w = record { semicolon = refl; brace = refl }

star_onward : (w : List Token) → Onward (Sign mark.Star ∷ w)
unfolding begins same_mark
star_onward w = record { semicolon = refl; brace = refl }

star_next : (w : List Token) → begins (marks mark.Star) (Sign mark.Star ∷ w) ≡ true
unfolding begins same_mark
star_next w = refl

module _ (n : ℕ) (W : Type 0) (p : Parts) where
  -- what is to be read after a type
  abbrev Then : Parts → List Token → ObjectType → List Token → Type 0
  Then y rest' of rest = (g : ℕ) (r : List Token) → length r ≤ g → Along n rest r → Tracked n W y rest' (and_then (again (begins (marks mark.Star)) pointer_to g of r) (λ of. after_result p (Some of)))

  after_struct_shrinks : (of : ObjectType) → Shrinks (after_result p (Some of))
  after_struct_shrinks of = after_result_shrinks p (Some of)

  struct_typed : (y : Parts) (rest' : List Token) (of : ObjectType) → is_struct of ≡ true → (rest s : List Token) → Onward rest → Along n (spell_type of rest) s → Then y rest' of rest → Tracked n W y rest' (next_part p s)
  unfolding next_part after_struct after_struct_name stars repeat pointer_to begins same_word
  struct_typed y rest' (Struct name) e rest s on h k =
      track_second (begins (words word.Typedef) s) _ _ (same_begins (words word.Typedef) h) (track_first (begins (words word.Struct) s) _ _ (same_begins (words word.Struct) h)
      (word_tracked word.Struct h (λ _. then_shrinks (one_shrinks _) (after_struct_name_shrinks p)) (λ r h. name_tracked name h (after_struct_name_shrinks p) (λ r h.
      track_second (begins (marks mark.Semicolon) r) _ _ (same_begins (marks mark.Semicolon) h ∙ on.semicolon) (track_second (begins (marks mark.OpenBrace) r) _ _ (same_begins (marks mark.OpenBrace) h ∙ on.brace) (k (length r) r (omega arith) h))))))
  struct_typed y rest' (Pointer of) e rest s on h k =
      struct_typed y rest' of e (Sign mark.Star ∷ rest) s (star_onward rest) h (λ g r enough h'.
      track_turn (begins (marks mark.Star)) pointer_to (λ of. after_result p (Some of)) g of r (same_begins (marks mark.Star) h' ∙ star_next rest) enough (along_some h') (takes_token (marks mark.Star) r (λ _. pure_shrinks _)) pointer_to_shrinks after_struct_shrinks
      (mark_tracked mark.Star h' (λ _. pure_shrinks _) (λ r h. track_pure (Pointer of) h)) k)
  struct_typed y rest' Int e rest s on h k = absurd cc
  struct_typed y rest' Word e rest s on h k = absurd cc
  struct_typed y rest' Byte e rest s on h k = absurd cc
  struct_typed y rest' (Named name) e rest s on h k = absurd cc
  struct_typed y rest' VoidPointer e rest s on h k = absurd cc

  plain_result : (y : Parts) (rest' : List Token) (o : Option ObjectType) (name : List ℕ) (w s : List Token) → begins (words word.Struct) (spell_result o (Identifier name ∷ w)) ≡ false → Along n (spell_result o (Identifier name ∷ w)) s
      → ((r : List Token) → Along n (Identifier name ∷ w) r → Tracked n W y rest' (after_result p o r)) → Tracked n W y rest' (next_part p s)
  unfolding next_part
  plain_result y rest' o name w s none h k =
      track_second (begins (words word.Typedef) s) _ _ (same_begins (words word.Typedef) h ∙ (result_begun o (Identifier name ∷ w)).no_typedef) (track_second (begins (words word.Struct) s) _ _ (same_begins (words word.Struct) h ∙ none)
      (track_then (result_tracked n W o (Identifier name ∷ w) s (name_no_star name w) h) (after_result_shrinks p) k))

  void_no_struct : (w : List Token) → begins (words word.Struct) (Quoted word.Void ∷ w) ≡ false
  unfolding begins same_word
  void_no_struct w = refl

  some_result : (y : Parts) (rest' : List Token) (of : ObjectType) (name : List ℕ) (w s : List Token) → Along n (spell_type of (Identifier name ∷ w)) s
      → ((r : List Token) → Along n (Identifier name ∷ w) r → Tracked n W y rest' (after_result p (Some of) r)) → (b : Bool) → is_struct of ≡ b → Tracked n W y rest' (next_part p s)
  some_result y rest' of name w s h k true e =
      struct_typed y rest' of e (Identifier name ∷ w) s (name_onward name w) h
      (λ g r enough h. track_no_turn (begins (marks mark.Star)) pointer_to (λ of. after_result p (Some of)) g of r (same_begins (marks mark.Star) h ∙ name_no_star name w) (k r h))
  some_result y rest' of name w s h k false e = plain_result y rest' (Some of) name w s (no_struct of (Identifier name ∷ w) e) h k

  by_result : (y : Parts) (rest' : List Token) (o : Option ObjectType) (name : List ℕ) (w s : List Token) → Along n (spell_result o (Identifier name ∷ w)) s
      → ((r : List Token) → Along n w r → Tracked n W y rest' (after_name p o name r)) → Tracked n W y rest' (next_part p s)
  unfolding after_result
  by_result y rest' None name w s h k =
      plain_result y rest' None name w s (void_no_struct (Identifier name ∷ w)) h (λ r h. name_tracked name h (after_name_shrinks p None) k)
  by_result y rest' (Some of) name w s h k =
      some_result y rest' of name w s h (λ r h. name_tracked name h (after_name_shrinks p (Some of)) k) (is_struct of) refl

  -- ---- each kind of part

  forward_tracked : (name : List ℕ) (rest s : List Token) → no_declarations p ≡ true → Along n (spell_forward name rest) s → Tracked n W (with_forward p name) rest (next_part p s)
  unfolding next_part after_struct after_struct_name forward begins same_word same_mark
  forward_tracked name rest s allowed h =
      track_second (begins (words word.Typedef) s) _ _ (same_begins (words word.Typedef) h) (track_first (begins (words word.Struct) s) _ _ (same_begins (words word.Struct) h)
      (word_tracked word.Struct h (λ _. then_shrinks (one_shrinks _) (after_struct_name_shrinks p)) (λ r h. name_tracked name h (after_struct_name_shrinks p) (λ r h.
      track_first (begins (marks mark.Semicolon) r) _ _ (same_begins (marks mark.Semicolon) h) (track_first (no_declarations p) _ _ allowed
      (mark_tracked mark.Semicolon h (λ _. pure_shrinks _) (λ r h. track_pure (with_forward p name) h)))))))

  struct_tracked : (d : CStruct) (rest s : List Token) → IsStruct d → no_globals p ≡ true → Along n (spell_struct d rest) s → Tracked n W (with_declaration p (declared.Struct d)) rest (next_part p s)
  unfolding next_part after_struct after_struct_name structure begins same_word same_mark
  struct_tracked d rest s is allowed h =
      track_second (begins (words word.Typedef) s) _ _ (same_begins (words word.Typedef) h) (track_first (begins (words word.Struct) s) _ _ (same_begins (words word.Struct) h)
      (word_tracked word.Struct h (λ _. then_shrinks (one_shrinks _) (after_struct_name_shrinks p)) (λ r h. name_tracked d.name h (after_struct_name_shrinks p) (λ r h.
      track_second (begins (marks mark.Semicolon) r) _ _ (same_begins (marks mark.Semicolon) h) (track_first (begins (marks mark.OpenBrace) r) _ _ (same_begins (marks mark.OpenBrace) h) (track_first (no_globals p) _ _ allowed
      (track_then (members_tracked n W d.members is.1 is.2 rest r h) (λ _. pure_shrinks _) (λ r h. track_pure (with_declaration p (declared.Struct d)) h))))))))

  type_definition_tracked : (t : CTypedef) (rest s : List Token) → no_globals p ≡ true → Along n (spell_typedef t rest) s → Tracked n W (with_declaration p (declared.Typedef t)) rest (next_part p s)
  unfolding next_part type_definition begins same_word
  type_definition_tracked t rest s allowed h =
      track_first (begins (words word.Typedef) s) _ _ (same_begins (words word.Typedef) h) (track_first (no_globals p) _ _ allowed
      (track_then (typedef_tracked n W t rest s h) (λ _. pure_shrinks _) (λ r h. track_pure (with_declaration p (declared.Typedef t)) h)))

  declaration_tracked : (d : CDeclaration) (rest s : List Token) → IsDeclaration d → no_globals p ≡ true → Along n (spell_declaration d rest) s → Tracked n W (with_declaration p d) rest (next_part p s)
  declaration_tracked (declared.Typedef t) rest s is allowed h = type_definition_tracked t rest s allowed h
  declaration_tracked (declared.Struct d) rest s is allowed h = struct_tracked d rest s is allowed h

  global_tracked : (v : CVariable) (rest s : List Token) → no_prototypes p ≡ true → Along n (spell_variable_line v rest) s → Tracked n W (with_global p v) rest (next_part p s)
  unfolding after_name begins same_mark
  global_tracked v rest s allowed h =
      by_result (with_global p v) rest (Some v.of) v.name (Sign mark.Semicolon ∷ rest) s h (λ r h. track_first (begins (marks mark.Semicolon) r) _ _ (same_begins (marks mark.Semicolon) h) (track_first (no_prototypes p) _ _ allowed
      (mark_tracked mark.Semicolon h (λ _. pure_shrinks _) (λ r h. track_pure (with_global p v) h))))

  with_parameters : (y : Parts) (rest : List Token) (o : Option ObjectType) (name : List ℕ) (all : List CVariable) (w s : List Token) → Along n (spell_result o (Identifier name ∷ spell_parameters all w)) s
      → ((r : List Token) → Along n w r → Tracked n W y rest (after_parameters p o name all r)) → Tracked n W y rest (next_part p s)
  unfolding after_name begins same_mark
  with_parameters y rest o name all w s h k =
      by_result y rest o name (spell_parameters all w) s h (λ r h. track_second (begins (marks mark.Semicolon) r) _ _ (same_begins (marks mark.Semicolon) h)
      (track_then (parameters_tracked n W all w r h) (after_parameters_shrinks p o name) k))

  prototype_tracked : (x : CPrototype) (rest s : List Token) → no_functions p ≡ true → Along n (spell_prototype x rest) s → Tracked n W (with_prototype p x) rest (next_part p s)
  unfolding after_parameters prototype begins same_mark
  prototype_tracked x rest s allowed h =
      with_parameters (with_prototype p x) rest x.result x.name x.parameters (Sign mark.Semicolon ∷ rest) s h (λ r h. track_first (begins (marks mark.Semicolon) r) _ _ (same_begins (marks mark.Semicolon) h) (track_first (no_functions p) _ _ allowed
      (mark_tracked mark.Semicolon h (λ _. pure_shrinks _) (λ r h. track_pure (with_prototype p x) h))))

  function_tracked : (f : CFunction) (rest s : List Token) → IsFunction f → (W → body_depth (body_of f.body) ≤ 2400) → Along n (spell_function f rest) s → Tracked n W (with_function p f) rest (next_part p s)
  unfolding after_parameters function begins same_mark
  function_tracked f rest s is deep h =
      with_parameters (with_function p f) rest f.result f.name f.parameters (spell_block f.locals f.body rest) s h (λ r h. track_second (begins (marks mark.Semicolon) r) _ _ (same_begins (marks mark.Semicolon) h)
      (track_then (block_tracked n W f.locals f.body is.4 deep rest r h) (λ _. pure_shrinks _) (λ r h. track_pure (with_function p f) h)))

typedef_takes : (s : List Token) → Takes (length s) (typedef s)
unfolding typedef
typedef_takes s = takes_token (words word.Typedef) s typedef_ends

result_takes : (s : List Token) → Takes (length s) (result_type s)
unfolding result_type after_void
result_takes s = takes_either (length s) (begins (words word.Void) s) _ _ (takes_token (words word.Void) s after_shrinks) (takes_then (length s) (object_type s) (type_takes s) (λ _. pure_shrinks _))

next_part_takes : (p : Parts) (s : List Token) → Takes (length s) (next_part p s)
unfolding next_part type_definition after_struct
next_part_takes p s =
    takes_either (length s) (begins (words word.Typedef) s) _ _
    (takes_either (length s) (no_globals p) _ _ (takes_then (length s) (typedef s) (typedef_takes s) (λ _. pure_shrinks _)) tt)
    (takes_either (length s) (begins (words word.Struct) s) _ _ (takes_token (words word.Struct) s (λ _. then_shrinks (one_shrinks _) (after_struct_name_shrinks p)))
    (takes_then (length s) (result_type s) (result_takes s) (after_result_shrinks p)))

main_tracked : (n : ℕ) (W : Type 0) (m : CMain) (rest s : List Token) → IsMain m → (W → body_depth (body_of m.body) ≤ 2400) → Along n (spell_main m rest) s → Tracked n W m rest (main s)
unfolding main
main_tracked n W m rest s is deep h =
    let end5 : Shrinks {T = Token} {A = CMain} (λ s. and_then (block s) (λ b s. Ok (main_of b, s))) = then_shrinks block_shrinks (λ _. pure_shrinks _) in
    word_tracked word.Int h (λ _. then_shrinks (one_shrinks _) (λ _. then_shrinks (one_shrinks _) (λ _. then_shrinks (one_shrinks _) (λ _. then_shrinks (one_shrinks _) (λ _. end5))))) (λ r h.
    word_tracked word.Main h (λ _. then_shrinks (one_shrinks _) (λ _. then_shrinks (one_shrinks _) (λ _. then_shrinks (one_shrinks _) (λ _. end5)))) (λ r h.
    mark_tracked mark.Open h (λ _. then_shrinks (one_shrinks _) (λ _. then_shrinks (one_shrinks _) (λ _. end5))) (λ r h.
    word_tracked word.Void h (λ _. then_shrinks (one_shrinks _) (λ _. end5)) (λ r h.
    mark_tracked mark.Close h (λ _. end5) (λ r h.
    track_then (block_tracked n W m.locals m.body is.1 deep rest r h) (λ _. pure_shrinks _) (λ r h. track_pure m h))))))

-- ---- programs

int_steady : (n : ℕ) (w s : List Token) → Along n w s → no_int s ≡ no_int w
unfolding begins
int_steady _ _ _ ended = refl
int_steady _ _ _ (last t w r) = refl
int_steady _ _ _ (longer n t w r h) = refl

int_stops : (m : CMain) (w : List Token) → no_int (spell_main m w) ≡ false
unfolding begins same_word
int_stops m w = refl

-- `main` after the parts, and the end
abbrev Last : Parts → Parser Token CProgram
Last p s = and_then (main s) (λ m. end_of (program_of p m))

last_shrinks : (p : Parts) → Shrinks (Last p)
last_shrinks p = then_shrinks main_shrinks (λ m. end_shrinks (program_of p m))

end_tracked : (n : ℕ) (W : Type 0) (c : CProgram) (s : List Token) → Along n [] s → Tracked n W c [] (end_of c s)
end_tracked _ W c _ ended = track_pure c ended

-- what begins a part
record PartBegun (w : List Token) : Type 0 where
  some : w ≡ [] → ⊥
  goes : no_int w ≡ true

some_left : (n : ℕ) (w s : List Token) → (w ≡ [] → ⊥) → Along n w s → 0 < length s
some_left n [] s some h = absurd (some refl)
some_left n (t ∷ w) s some h = along_some h

result_part : (o : Option ObjectType) (w : List Token) → PartBegun (spell_result o w)
result_part o w = let b = result_begun o w in record { some = b.some; goes = b.no_int }

word_part : (w : List Token) → PartBegun (Quoted word.Struct ∷ w) × PartBegun (Quoted word.Typedef ∷ w)
unfolding begins same_word
word_part w = (record { some = λ e. absurd cc; goes = refl }, record { some = λ e. absurd cc; goes = refl })

declaration_part : (d : CDeclaration) (w : List Token) → PartBegun (spell_declaration d w)
declaration_part (declared.Typedef t) w = (word_part _).1
declaration_part (declared.Struct d) w = (word_part _).0

module _ (n : ℕ) (W : Type 0) (c : CProgram) (m : CMain) (ism : IsMain m) (deep : W → body_depth (body_of m.body) ≤ 2400) where
  -- the parts so far and those to come
  abbrev Going : Parts → List Token → Type 0
  Going p w = (g : ℕ) (s : List Token) → length s ≤ g → Along n w s → Tracked n W c [] (and_then (again no_int next_part g p s) Last)

  one_part : (p q : Parts) (after w : List Token) → PartBegun w → ((s : List Token) → Along n w s → Tracked n W q after (next_part p s)) → Going q after → Going p w
  one_part p q after w begun part k g s enough h =
      track_turn no_int next_part Last g p s (int_steady n w s h ∙ begun.goes) enough (some_left n w s begun.some h) (next_part_takes p s) next_part_shrinks last_shrinks (part s h) k

  abbrev parts_of : List (List ℕ) → List CDeclaration → List CVariable → List CPrototype → List CFunction → Parts
  parts_of fs ds gs ps xs = record { forwards = fs; declarations = ds; globals = gs; prototypes = ps; functions = xs }

  functions_going : (fs : List (List ℕ)) (ds : List CDeclaration) (gs : List CVariable) (ps : List CPrototype) (xs more : List CFunction) → AllByRecursion IsFunction more
      → (W → AllByRecursion (λ (f : CFunction). body_depth (body_of f.body) ≤ 2400) more) → program_of (parts_of fs ds gs ps (xs ++ more)) m ≡ c → Going (parts_of fs ds gs ps xs) (spell_all spell_function more (spell_main m []))
  functions_going fs ds gs ps xs [] is fit e g s enough h =
      let p = parts_of fs ds gs ps xs in
      let same : program_of p m ≡ c = ap (λ z. program_of (parts_of fs ds gs ps z) m) (sym (append-nil xs)) ∙ e in
      track_no_turn no_int next_part Last g p s (int_steady n (spell_main m []) s h ∙ int_stops m [])
      (track_then (main_tracked n W m [] s ism deep h) (λ m. end_shrinks (program_of p m)) (λ r h. subst (λ z. Tracked n W z [] (end_of (program_of p m) r)) same (end_tracked n W (program_of p m) r h)))
  functions_going fs ds gs ps xs (f ∷ more) is fit e g s enough h =
      let p = parts_of fs ds gs ps xs in let after = spell_all spell_function more (spell_main m []) in
      one_part p (with_function p f) after (spell_function f after) (result_part f.result _) (λ s h. function_tracked n W p f after s is.0 (λ w. (fit w).0) h)
      (functions_going fs ds gs ps (xs ++ f ∷ []) more is.1 (λ w. (fit w).1) (ap (λ z. program_of (parts_of fs ds gs ps z) m) (append_assoc xs (f ∷ []) more) ∙ e)) g s enough h

  prototypes_going : (fs : List (List ℕ)) (ds : List CDeclaration) (gs : List CVariable) (ps more : List CPrototype) (xs : List CFunction)
      → ((ps : List CPrototype) → program_of (parts_of fs ds gs ps xs) m ≡ c → Going (parts_of fs ds gs ps []) (spell_all spell_function xs (spell_main m [])))
      → program_of (parts_of fs ds gs (ps ++ more) xs) m ≡ c → Going (parts_of fs ds gs ps []) (spell_all spell_prototype more (spell_all spell_function xs (spell_main m [])))
  prototypes_going fs ds gs ps [] xs k e = k ps (ap (λ z. program_of (parts_of fs ds gs z xs) m) (sym (append-nil ps)) ∙ e)
  prototypes_going fs ds gs ps (x ∷ more) xs k e =
      let p = parts_of fs ds gs ps [] in let after = spell_all spell_prototype more (spell_all spell_function xs (spell_main m [])) in
      one_part p (with_prototype p x) after (spell_prototype x after) (result_part x.result _) (λ s h. prototype_tracked n W p x after s refl h)
      (prototypes_going fs ds gs (ps ++ x ∷ []) more xs k (ap (λ z. program_of (parts_of fs ds gs z xs) m) (append_assoc ps (x ∷ []) more) ∙ e))

  -- the text of the parts after the globals
  abbrev from_prototypes : List CPrototype → List CFunction → List Token
  from_prototypes ps xs = spell_all spell_prototype ps (spell_all spell_function xs (spell_main m []))

  globals_going : (fs : List (List ℕ)) (ds : List CDeclaration) (gs more : List CVariable) (ps : List CPrototype) (xs : List CFunction)
      → ((gs : List CVariable) → program_of (parts_of fs ds gs ps xs) m ≡ c → Going (parts_of fs ds gs [] []) (from_prototypes ps xs))
      → program_of (parts_of fs ds (gs ++ more) ps xs) m ≡ c → Going (parts_of fs ds gs [] []) (spell_all spell_variable_line more (from_prototypes ps xs))
  globals_going fs ds gs [] ps xs k e = k gs (ap (λ z. program_of (parts_of fs ds z ps xs) m) (sym (append-nil gs)) ∙ e)
  globals_going fs ds gs (v ∷ more) ps xs k e =
      let p = parts_of fs ds gs [] [] in let after = spell_all spell_variable_line more (from_prototypes ps xs) in
      one_part p (with_global p v) after (spell_variable_line v after) (result_part (Some v.of) _) (λ s h. global_tracked n W p v after s refl h)
      (globals_going fs ds (gs ++ v ∷ []) more ps xs k (ap (λ z. program_of (parts_of fs ds z ps xs) m) (append_assoc gs (v ∷ []) more) ∙ e))

  abbrev from_globals : List CVariable → List CPrototype → List CFunction → List Token
  from_globals gs ps xs = spell_all spell_variable_line gs (from_prototypes ps xs)

  declarations_going : (fs : List (List ℕ)) (ds more : List CDeclaration) (gs : List CVariable) (ps : List CPrototype) (xs : List CFunction) → AllByRecursion IsDeclaration more
      → ((ds : List CDeclaration) → program_of (parts_of fs ds gs ps xs) m ≡ c → Going (parts_of fs ds [] [] []) (from_globals gs ps xs))
      → program_of (parts_of fs (ds ++ more) gs ps xs) m ≡ c → Going (parts_of fs ds [] [] []) (spell_all spell_declaration more (from_globals gs ps xs))
  declarations_going fs ds [] gs ps xs is k e = k ds (ap (λ z. program_of (parts_of fs z gs ps xs) m) (sym (append-nil ds)) ∙ e)
  declarations_going fs ds (d ∷ more) gs ps xs is k e =
      let p = parts_of fs ds [] [] [] in let after = spell_all spell_declaration more (from_globals gs ps xs) in
      one_part p (with_declaration p d) after (spell_declaration d after) (declaration_part d after) (λ s h. declaration_tracked n W p d after s is.0 refl h)
      (declarations_going fs (ds ++ d ∷ []) more gs ps xs is.1 k (ap (λ z. program_of (parts_of fs z gs ps xs) m) (append_assoc ds (d ∷ []) more) ∙ e))

  abbrev from_declarations : List CDeclaration → List CVariable → List CPrototype → List CFunction → List Token
  from_declarations ds gs ps xs = spell_all spell_declaration ds (from_globals gs ps xs)

  forwards_going : (fs more : List (List ℕ)) (ds : List CDeclaration) (gs : List CVariable) (ps : List CPrototype) (xs : List CFunction)
      → ((fs : List (List ℕ)) → program_of (parts_of fs ds gs ps xs) m ≡ c → Going (parts_of fs [] [] [] []) (from_declarations ds gs ps xs))
      → program_of (parts_of (fs ++ more) ds gs ps xs) m ≡ c → Going (parts_of fs [] [] [] []) (spell_all spell_forward more (from_declarations ds gs ps xs))
  forwards_going fs [] ds gs ps xs k e = k fs (ap (λ z. program_of (parts_of z ds gs ps xs) m) (sym (append-nil fs)) ∙ e)
  forwards_going fs (name ∷ more) ds gs ps xs k e =
      let p = parts_of fs [] [] [] [] in let after = spell_all spell_forward more (from_declarations ds gs ps xs) in
      one_part p (with_forward p name) after (spell_forward name after) (word_part _).0 (λ s h. forward_tracked n W p name after s refl h)
      (forwards_going (fs ++ name ∷ []) more ds gs ps xs k (ap (λ z. program_of (parts_of z ds gs ps xs) m) (append_assoc fs (name ∷ []) more) ∙ e))

-- As long as the tokens are those of the program, none is refused.
pub program_tracked : (n : ℕ) (W : Type 0) (c : CProgram) → IsProgram c → (W → Fits 2400 c) → (s : List Token) → Along n (program_tokens c) s → Tracked n W c [] (program s)
unfolding program parts repeat
program_tracked n W c is fit s h =
    let m = c.main in let deep : W → body_depth (body_of m.body) ≤ 2400 = λ w. (fit w).1 in let ism = is.5 in
    forwards_going n W c m ism deep [] c.forwards c.declarations c.globals c.prototypes c.functions
    (λ fs e. declarations_going n W c m ism deep fs [] c.declarations c.globals c.prototypes c.functions is.1
    (λ ds e. globals_going n W c m ism deep fs ds [] c.globals c.prototypes c.functions
    (λ gs e. prototypes_going n W c m ism deep fs ds gs [] c.prototypes c.functions
    (λ ps e. functions_going n W c m ism deep fs ds gs ps [] c.functions is.4 (λ w. (fit w).0) e) e) e) e) refl (length s) s (omega arith) h
