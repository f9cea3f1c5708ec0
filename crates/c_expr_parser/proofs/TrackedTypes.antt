-- Types and casts of a text are followed.
use Rattle.std.proofs.Common.{◌≡◌, ℕ, ◌≤◌, false, List, ◌∷◌, length, Option, Some, None, Ok, refl, ◌∙◌, arith}
use Rattle.c_tree.specs.Tree.{ObjectType, Int, Word, Byte, Struct, Named, VoidPointer, Pointer}
use Rattle.c_tree.specs.declared.operators.CCast.{CCast}
use Rattle.c_tree.specs.declared.operators.CCast.TheVariants as cast_
use Rattle.c_grammar.specs.declared.token.Word.TheVariants as word
use Rattle.c_grammar.specs.declared.token.Mark.TheVariants as mark
use Rattle.c_grammar.specs.Token.{Token, Sign}
use Rattle.c_grammar.specs.Spelling.{spell_type, spell_result, spell_cast}
use Rattle.token_parsing.specs.Parser.{Parser, Outcome, and_then, begins, again, repeat}
use Rattle.token_parsing.proofs.Tracked.{Shrinks, Along, Tracked, one_shrinks, pure_shrinks, then_shrinks, takes_token, along_some, same_begins, track_first, track_second, track_then, track_token, track_pure, track_plain, track_left, track_turn, track_no_turn}
use Rattle.c_expr_parser.specs.Classes.{same_word, same_mark, names, words, marks, scalars, scalar_casts}
use Rattle.c_expr_parser.specs.Types.{struct_type, byte_type, void_pointer, base_type, pointer_to, stars, object_type, after_void, result_type, struct_pointer, void_cast, cast_type}
use Rattle.c_expr_parser.proofs.Shrinks.{pointer_to_shrinks, stars_shrinks, after_shrinks}
use Rattle.c_expr_parser.proofs.TrackedTokens.{mark_tracked, word_tracked, name_tracked}

-- no star is next
abbrev pub NoStar : List Token → Type 0
NoStar rest = begins (marks mark.Star) rest ≡ false

-- a type without a star of its own
abbrev IsBase : ObjectType → Type 0
IsBase (Pointer of) = ⊥
IsBase _ = Unit {0}

module _ (n : ℕ) (W : Type 0) where
  base_tracked : (of : ObjectType) → IsBase of → (rest s : List Token) → Along n (spell_type of rest) s → Tracked n W of rest (base_type s)
  unfolding base_type struct_type byte_type void_pointer begins same_word same_mark
  base_tracked Int is rest s h =
      track_second (begins names s) _ _ (same_begins names h) (track_second (begins (words word.Struct) s) _ _ (same_begins (words word.Struct) h)
      (track_second (begins (words word.Unsigned) s) _ _ (same_begins (words word.Unsigned) h) (track_second (begins (words word.Void) s) _ _ (same_begins (words word.Void) h)
      (track_token scalars Int refl h (λ of. pure_shrinks _) (λ r h. track_pure Int h)))))
  base_tracked Word is rest s h =
      track_second (begins names s) _ _ (same_begins names h) (track_second (begins (words word.Struct) s) _ _ (same_begins (words word.Struct) h)
      (track_second (begins (words word.Unsigned) s) _ _ (same_begins (words word.Unsigned) h) (track_second (begins (words word.Void) s) _ _ (same_begins (words word.Void) h)
      (track_token scalars Word refl h (λ of. pure_shrinks _) (λ r h. track_pure Word h)))))
  base_tracked Byte is rest s h =
      track_second (begins names s) _ _ (same_begins names h) (track_second (begins (words word.Struct) s) _ _ (same_begins (words word.Struct) h)
      (track_first (begins (words word.Unsigned) s) _ _ (same_begins (words word.Unsigned) h)
      (word_tracked word.Unsigned h (λ _. then_shrinks (one_shrinks _) (λ _. pure_shrinks _)) (λ r h. word_tracked word.Char h (λ _. pure_shrinks _) (λ r h. track_pure Byte h)))))
  base_tracked (Struct name) is rest s h =
      track_second (begins names s) _ _ (same_begins names h) (track_first (begins (words word.Struct) s) _ _ (same_begins (words word.Struct) h)
      (word_tracked word.Struct h (λ _. then_shrinks (one_shrinks _) (λ _. pure_shrinks _)) (λ r h. name_tracked name h (λ _. pure_shrinks _) (λ r h. track_pure (Struct name) h))))
  base_tracked (Named name) is rest s h =
      track_first (begins names s) _ _ (same_begins names h) (name_tracked name h (λ _. pure_shrinks _) (λ r h. track_pure (Named name) h))
  base_tracked VoidPointer is rest s h =
      track_second (begins names s) _ _ (same_begins names h) (track_second (begins (words word.Struct) s) _ _ (same_begins (words word.Struct) h)
      (track_second (begins (words word.Unsigned) s) _ _ (same_begins (words word.Unsigned) h) (track_first (begins (words word.Void) s) _ _ (same_begins (words word.Void) h)
      (word_tracked word.Void h (λ _. then_shrinks (one_shrinks _) (λ _. pure_shrinks _)) (λ r h. mark_tracked mark.Star h (λ _. pure_shrinks _) (λ r h. track_pure VoidPointer h))))))
  base_tracked (Pointer of) is rest s h = absurd is

  -- what is to be read after a type before its stars
  abbrev Then : {B : Type 0} → B → List Token → (ObjectType → Parser Token B) → ObjectType → List Token → Type 0
  Then y rest' f of rest = (g : ℕ) (r : List Token) → length r ≤ g → Along n rest r → Tracked n W y rest' (and_then (again (begins (marks mark.Star)) pointer_to g of r) f)

  type_by_base : {B : Type 0} {y : B} {rest' : List Token} (f : ObjectType → Parser Token B) → ((of : ObjectType) → Shrinks (f of)) → (whole : List Token → Outcome Token B)
      → ((of : ObjectType) → IsBase of → (rest s : List Token) → Along n (spell_type of rest) s → ((r : List Token) → Along n rest r → Tracked n W y rest' (and_then (stars of r) f)) → Tracked n W y rest' (whole s))
      → (of : ObjectType) (rest s : List Token) → Along n (spell_type of rest) s → Then y rest' f of rest → Tracked n W y rest' (whole s)
  unfolding stars repeat pointer_to begins same_mark
  type_by_base f shrinks whole base (Pointer of) rest s h k =
      type_by_base f shrinks whole base of (Sign mark.Star ∷ rest) s h (λ g r enough h'.
      track_turn (begins (marks mark.Star)) pointer_to f g of r (same_begins (marks mark.Star) h') enough (along_some h') (takes_token (marks mark.Star) r (λ _. pure_shrinks _)) pointer_to_shrinks shrinks
      (mark_tracked mark.Star h' (λ _. pure_shrinks _) (λ r h. track_pure (Pointer of) h)) k)
  type_by_base f shrinks whole base Int rest s h k = base Int tt rest s h (λ r h. k (length r) r (omega arith) h)
  type_by_base f shrinks whole base Word rest s h k = base Word tt rest s h (λ r h. k (length r) r (omega arith) h)
  type_by_base f shrinks whole base Byte rest s h k = base Byte tt rest s h (λ r h. k (length r) r (omega arith) h)
  type_by_base f shrinks whole base (Struct name) rest s h k = base (Struct name) tt rest s h (λ r h. k (length r) r (omega arith) h)
  type_by_base f shrinks whole base (Named name) rest s h k = base (Named name) tt rest s h (λ r h. k (length r) r (omega arith) h)
  type_by_base f shrinks whole base VoidPointer rest s h k = base VoidPointer tt rest s h (λ r h. k (length r) r (omega arith) h)

  no_stars : {B : Type 0} (y : B) (f : ObjectType → Parser Token B) (of : ObjectType) (rest : List Token) → NoStar rest → ((r : List Token) → Along n rest r → Tracked n W y rest (f of r)) → Then y rest f of rest
  no_stars y f of rest none k g r enough h = track_no_turn (begins (marks mark.Star)) pointer_to f g of r (same_begins (marks mark.Star) h ∙ none) (k r h)

  pub type_tracked : (of : ObjectType) (rest s : List Token) → NoStar rest → Along n (spell_type of rest) s → Tracked n W of rest (object_type s)
  unfolding object_type
  type_tracked of rest s none h =
      type_by_base {y = of} {rest' = rest} (λ of s. Ok (of, s)) (λ of. pure_shrinks of) (λ s. and_then (base_type s) stars)
      (λ b is rest s h k. track_then (base_tracked b is rest s h) stars_shrinks (λ r h. track_plain (stars b r) (k r h))) of rest s h
      (no_stars of (λ of s. Ok (of, s)) of rest none (λ r h. track_pure of h))

  some_base : (y : Option ObjectType) (rest' : List Token) (of : ObjectType) → IsBase of → (rest s : List Token) → Along n (spell_type of rest) s
      → ((r : List Token) → Along n rest r → Tracked n W y rest' (and_then (stars of r) (λ of s. Ok (Some of, s)))) → Tracked n W y rest' (and_then (object_type s) (λ of s. Ok (Some of, s)))
  unfolding object_type
  some_base y rest' of is rest s h k =
      track_left (base_type s) stars (λ of s. Ok (Some of, s)) (track_then (base_tracked of is rest s h) (λ b. then_shrinks (stars_shrinks b) (λ of. pure_shrinks (Some of))) k)

  result_base : (y : Option ObjectType) (rest' : List Token) (of : ObjectType) → IsBase of → (rest s : List Token) → Along n (spell_type of rest) s
      → ((r : List Token) → Along n rest r → Tracked n W y rest' (and_then (stars of r) (λ of s. Ok (Some of, s)))) → Tracked n W y rest' (result_type s)
  unfolding result_type after_void begins same_word same_mark
  result_base y rest' VoidPointer is rest s h k =
      track_first (begins (words word.Void) s) _ _ (same_begins (words word.Void) h) (word_tracked word.Void h after_shrinks (λ r h.
      track_first (begins (marks mark.Star) r) _ _ (same_begins (marks mark.Star) h) (mark_tracked mark.Star h (λ _. then_shrinks (stars_shrinks VoidPointer) (λ of. pure_shrinks (Some of))) k)))
  result_base y rest' (Pointer of) is rest s h k = absurd is
  result_base y rest' Int is rest s h k = track_second (begins (words word.Void) s) _ _ (same_begins (words word.Void) h) (some_base y rest' Int is rest s h k)
  result_base y rest' Word is rest s h k = track_second (begins (words word.Void) s) _ _ (same_begins (words word.Void) h) (some_base y rest' Word is rest s h k)
  result_base y rest' Byte is rest s h k = track_second (begins (words word.Void) s) _ _ (same_begins (words word.Void) h) (some_base y rest' Byte is rest s h k)
  result_base y rest' (Struct name) is rest s h k = track_second (begins (words word.Void) s) _ _ (same_begins (words word.Void) h) (some_base y rest' (Struct name) is rest s h k)
  result_base y rest' (Named name) is rest s h k = track_second (begins (words word.Void) s) _ _ (same_begins (words word.Void) h) (some_base y rest' (Named name) is rest s h k)

  pub result_tracked : (o : Option ObjectType) (rest s : List Token) → NoStar rest → Along n (spell_result o rest) s → Tracked n W o rest (result_type s)
  unfolding result_type after_void begins same_word same_mark
  result_tracked None rest s none h =
      track_first (begins (words word.Void) s) _ _ (same_begins (words word.Void) h) (word_tracked word.Void h after_shrinks (λ r h.
      track_second (begins (marks mark.Star) r) _ _ (same_begins (marks mark.Star) h ∙ none) (track_pure None h)))
  result_tracked (Some of) rest s none h =
      type_by_base {y = Some of} {rest' = rest} (λ of s. Ok (Some of, s)) (λ of. pure_shrinks (Some of)) result_type (result_base (Some of) rest) of rest s h
      (no_stars (Some of) (λ of s. Ok (Some of, s)) of rest none (λ r h. track_pure (Some of) h))

  pub cast_tracked : (to : CCast) (rest s : List Token) → Along n (spell_cast to rest) s → Tracked n W to rest (cast_type s)
  unfolding cast_type struct_pointer void_cast begins same_word same_mark
  cast_tracked cast_.Int rest s h =
      track_second (begins (words word.Struct) s) _ _ (same_begins (words word.Struct) h) (track_second (begins (words word.Void) s) _ _ (same_begins (words word.Void) h)
      (track_token scalar_casts cast_.Int refl h (λ to. pure_shrinks _) (λ r h. track_pure cast_.Int h)))
  cast_tracked cast_.Word rest s h =
      track_second (begins (words word.Struct) s) _ _ (same_begins (words word.Struct) h) (track_second (begins (words word.Void) s) _ _ (same_begins (words word.Void) h)
      (track_token scalar_casts cast_.Word refl h (λ to. pure_shrinks _) (λ r h. track_pure cast_.Word h)))
  cast_tracked cast_.VoidPointer rest s h =
      track_second (begins (words word.Struct) s) _ _ (same_begins (words word.Struct) h) (track_first (begins (words word.Void) s) _ _ (same_begins (words word.Void) h)
      (word_tracked word.Void h (λ _. then_shrinks (one_shrinks _) (λ _. pure_shrinks _)) (λ r h. mark_tracked mark.Star h (λ _. pure_shrinks _) (λ r h. track_pure cast_.VoidPointer h))))
  cast_tracked (cast_.StructPointer name) rest s h =
      track_first (begins (words word.Struct) s) _ _ (same_begins (words word.Struct) h)
      (word_tracked word.Struct h (λ _. then_shrinks (one_shrinks _) (λ _. then_shrinks (one_shrinks _) (λ _. pure_shrinks _))) (λ r h.
      name_tracked name h (λ _. then_shrinks (one_shrinks _) (λ _. pure_shrinks _)) (λ r h. mark_tracked mark.Star h (λ _. pure_shrinks _) (λ r h. track_pure (cast_.StructPointer name) h))))
