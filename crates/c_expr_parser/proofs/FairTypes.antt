-- Types and casts that are read.
use Rattle.std.proofs.Common.{◌≡◌, List, ◌∷◌, Option, Some, None, refl, ◌∙◌}
use Rattle.std.specs.Option.{IfSome}
use Rattle.c_tree.specs.Tree.{ObjectType, Int, Word, Byte, Struct, Named, VoidPointer, Pointer}
use Rattle.c_tree.specs.declared.operators.CCast.{CCast}
use Rattle.c_tree.specs.declared.operators.CCast.TheVariants as cast_
use Rattle.c_grammar.specs.declared.token.Word.{Word as QuotedWord}
use Rattle.c_grammar.specs.declared.token.Word.TheVariants as word
use Rattle.c_grammar.specs.declared.token.Mark.TheVariants as mark
use Rattle.c_grammar.specs.Token.{Token, Identifier, Numeral, Quoted, Sign}
use Rattle.c_grammar.specs.Spelling.{spell_type, spell_result, spell_cast}
use Rattle.c_grammar.specs.Grammar.{IsObjectType, IsCast}
use Rattle.c_grammar.specs.Seen.{AreTokens}
use Rattle.c_grammar.proofs.Spelled.{type_follow, cast_follow}
use Rattle.token_parsing.specs.Parser.{begins}
use Rattle.token_parsing.proofs.Fair.{At, reads, at_spelled, fair_then, fair_either, fair_repeat, fair_token}
use Rattle.c_expr_parser.specs.Classes.{names, words, marks, scalar_of, scalars, scalar_cast_of, scalar_casts}
use Rattle.c_expr_parser.specs.Types.{struct_type, byte_type, void_pointer, base_type, pointer_to, stars, object_type, after_void, result_type, struct_pointer, void_cast, cast_type}
use Rattle.c_expr_parser.proofs.FairTokens.{FairC, mark_fair, word_fair, name_fair, a_name, a_name_is}
use Rattle.c_expr_parser.proofs.Holes.{begins_by, TypeHole, ResultHole, CastHole}

abbrev pub ReadType : List Token → (List Token → List Token) → ObjectType → List Token → Type 0
ReadType all front of r = At all (λ u. front (spell_type of u)) r × IsObjectType of

abbrev pub ReadResult : List Token → (List Token → List Token) → Option ObjectType → List Token → Type 0
ReadResult all front of r = At all (λ u. front (spell_result of u)) r × IfSome of IsObjectType

abbrev pub ReadCast : List Token → (List Token → List Token) → CCast → List Token → Type 0
ReadCast all front to r = At all (λ u. front (spell_cast to u)) r × IsCast to

-- one word
abbrev IsScalar : Token → ObjectType → Type 0
IsScalar t of = ((r : List Token) → t ∷ r ≡ spell_type of r) × IsObjectType of

scalar_word : (w : QuotedWord) (of : ObjectType) → scalar_of w ≡ Some of → IsScalar (Quoted w) of
scalar_word word.Int64Type Int e = (λ r. refl, tt)
scalar_word word.Uint64Type Word e = (λ r. refl, tt)
scalar_word _ _ e = absurd cc

scalar_is : (t : Token) (of : ObjectType) → scalars t ≡ Some of → IsScalar t of
scalar_is (Quoted w) of e = scalar_word w of e
scalar_is (Identifier n) of e = absurd cc
scalar_is (Numeral n) of e = absurd cc
scalar_is (Sign m) of e = absurd cc

abbrev IsScalarCast : Token → CCast → Type 0
IsScalarCast t to = ((r : List Token) → t ∷ r ≡ spell_cast to r) × IsCast to

scalar_cast_word : (w : QuotedWord) (to : CCast) → scalar_cast_of w ≡ Some to → IsScalarCast (Quoted w) to
scalar_cast_word word.Int64Type cast_.Int e = (λ r. refl, tt)
scalar_cast_word word.Uint64Type cast_.Word e = (λ r. refl, tt)
scalar_cast_word _ _ e = absurd cc

scalar_cast_is : (t : Token) (to : CCast) → scalar_casts t ≡ Some to → IsScalarCast t to
scalar_cast_is (Quoted w) to e = scalar_cast_word w to e
scalar_cast_is (Identifier n) to e = absurd cc
scalar_cast_is (Numeral n) to e = absurd cc
scalar_cast_is (Sign m) to e = absurd cc

module _ (all : List Token) (formed : AreTokens all) where
  pub stars_fair : (front : List Token → List Token) (of : ObjectType) (s : List Token) → TypeHole front → ReadType all front of s → FairC all (ReadType all front) (stars of s)
  unfolding stars pointer_to
  stars_fair front of s hole h = fair_repeat (begins (marks mark.Star)) pointer_to
      (λ a s (at, is) e. mark_fair mark.Star s at (let f = hole a is in begins_by at f f.more refl) (λ _ r at1. reads (Pointer a) r (at1, is))) of s h

  base_type_fair : (front : List Token → List Token) (s : List Token) → At all front s → TypeHole front → FairC all (ReadType all front) (base_type s)
  unfolding base_type struct_type byte_type void_pointer
  base_type_fair front s at hole =
      let f = hole Int tt in let start = begins_by at f (spell_type Int f.more) refl in
      fair_either (begins names s) (λ _. name_fair formed s at start (λ n r is at1. reads (Named n) r (at1, is)))
      (λ _. fair_either (begins (words word.Struct) s)
      (λ _. word_fair word.Struct s at start (λ _ r at1.
      name_fair formed r at1 (let g = hole (Struct a_name) a_name_is in begins_by at1 g (Identifier a_name ∷ g.more) refl) (λ n r is at2. reads (Struct n) r (at2, is))))
      (λ _. fair_either (begins (words word.Unsigned) s)
      (λ _. word_fair word.Unsigned s at start (λ _ r at1.
      word_fair word.Char r at1 (let g = hole Byte tt in begins_by at1 g (Quoted word.Char ∷ g.more) refl) (λ _ r at2. reads Byte r (at2, tt))))
      (λ _. fair_either (begins (words word.Void) s)
      (λ _. word_fair word.Void s at start (λ _ r at1.
      mark_fair mark.Star r at1 (let g = hole VoidPointer tt in begins_by at1 g (Sign mark.Star ∷ g.more) refl) (λ _ r at2. reads VoidPointer r (at2, tt))))
      (λ _. fair_token scalars s at start (λ t of r c e. let (same, is) = scalar_is t of c in reads of r (at_spelled at (spell_type of) (type_follow of) r (e ∙ same r), is))))))

  pub type_fair : (front : List Token → List Token) (s : List Token) → At all front s → TypeHole front → FairC all (ReadType all front) (object_type s)
  unfolding object_type
  type_fair front s at hole = fair_then (base_type_fair front s at hole) (λ of r h. stars_fair front of r hole h)

  pub result_fair : (front : List Token → List Token) (s : List Token) → At all front s → ResultHole front → FairC all (ReadResult all front) (result_type s)
  unfolding result_type after_void
  result_fair front s at hole =
      let f = hole None tt in
      fair_either (begins (words word.Void) s)
      (λ _. word_fair word.Void s at (begins_by at f (Quoted word.Void ∷ f.more) refl) (λ _ r at1.
      fair_either (begins (marks mark.Star) r)
      (λ _. mark_fair mark.Star r at1 (let g = hole None tt in begins_by at1 g g.more refl) (λ _ r at2.
      fair_then (stars_fair front VoidPointer r (λ of is. hole (Some of) is) (at2, tt)) (λ of r h. reads (Some of) r h)))
      (λ _. reads None r (at1, tt))))
      (λ _. fair_then (type_fair front s at (λ of is. hole (Some of) is)) (λ of r h. reads (Some of) r h))

  pub cast_type_fair : (front : List Token → List Token) (s : List Token) → At all front s → CastHole front → FairC all (ReadCast all front) (cast_type s)
  unfolding cast_type struct_pointer void_cast
  cast_type_fair front s at hole =
      let f = hole cast_.Int tt in let start = begins_by at f (spell_cast cast_.Int f.more) refl in
      fair_either (begins (words word.Struct) s)
      (λ _. word_fair word.Struct s at start (λ _ r at1.
      name_fair formed r at1 (let g = hole (cast_.StructPointer a_name) a_name_is in begins_by at1 g (Identifier a_name ∷ Sign mark.Star ∷ g.more) refl) (λ n r is at2.
      mark_fair mark.Star r at2 (let g = hole (cast_.StructPointer n) is in begins_by at2 g (Sign mark.Star ∷ g.more) refl) (λ _ r at3. reads (cast_.StructPointer n) r (at3, is)))))
      (λ _. fair_either (begins (words word.Void) s)
      (λ _. word_fair word.Void s at start (λ _ r at1.
      mark_fair mark.Star r at1 (let g = hole cast_.VoidPointer tt in begins_by at1 g (Sign mark.Star ∷ g.more) refl) (λ _ r at2. reads cast_.VoidPointer r (at2, tt))))
      (λ _. fair_token scalar_casts s at start (λ t to r c e. let (same, is) = scalar_cast_is t to c in reads to r (at_spelled at (spell_cast to) (cast_follow to) r (e ∙ same r), is))))
