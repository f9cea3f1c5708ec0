-- Declarations and programs that are texts are followed.
use Rattle.std.proofs.Common.{◌≡◌, ◌≢◌, ℕ, true, false, List, [], ◌∷◌, ◌++◌, length, Option, Some, None, Ok, refl, arith}
use Rattle.std.specs.List.{AllByRecursion}
use Rattle.std.specs.Option.{IfSome}
use Rattle.c_tree.specs.Tree.{ObjectType, Int, Word, Byte, Struct, Named, VoidPointer, Pointer}
use Rattle.c_tree.specs.declared.program.CVariable.{CVariable}
use Rattle.c_tree.specs.declared.program.CMember.{CMember}
use Rattle.c_tree.specs.declared.program.CTypedef.{CTypedef}
use Rattle.c_grammar.specs.declared.token.Word.TheVariants as word
use Rattle.c_grammar.specs.declared.token.Mark.TheVariants as mark
use Rattle.c_grammar.specs.Token.{Token, Identifier, Sign}
use Rattle.c_grammar.specs.Spelling.{spell_all, spell_next, spell_or_void, spell_type, spell_result, spell_variable, spell_length, spell_member, spell_typedef, spell_parameters}
use Rattle.c_grammar.specs.Grammar.{IsNumber, IsMember}
use Rattle.token_parsing.specs.Parser.{and_then, begins, rest}
use Rattle.token_parsing.proofs.Tracked.{Shrinks, Along, Tracked, one_shrinks, pure_shrinks, then_shrinks, repeat_shrinks, takes_token, takes_then, same_begins, track_first, track_second, track_then, track_pure, Item, Listing, track_list}
use Rattle.c_expr_parser.specs.Classes.{same_word, same_mark, words, marks, expect}
use Rattle.c_expr_parser.specs.Expressions.{largest_int}
use Rattle.c_parser.specs.Statements.{no_brace}
use Rattle.c_parser.specs.Programs.{variable_of, variable, array_length, member_of, member, next_member, members, next_type, types, typedef_of, pointer_name, typedef, next_parameter, parameters, no_int}
use Rattle.c_expr_parser.proofs.Shrinks.{type_shrinks, result_shrinks}
use Rattle.c_parser.proofs.Shrinks.{variable_shrinks, length_shrinks, member_shrinks, next_member_shrinks, next_type_shrinks, types_after_shrinks, types_shrinks, next_parameter_shrinks, parameters_after_shrinks}
use Rattle.c_expr_parser.proofs.TrackedTokens.{mark_tracked, word_tracked, name_tracked, number_tracked}
use Rattle.c_expr_parser.proofs.TrackedTypes.{NoStar, type_tracked, result_tracked}
use Rattle.c_parser.proofs.TrackedLocals.{variable_tracked, variable_takes}
use Rattle.c_parser.proofs.TrackedStatements.{brace_steady}

-- ---- with what a type begins

pub record TypeBegun (w : List Token) : Type 0 where
  pub some : w ≡ [] → ⊥
  pub no_brace : no_brace w ≡ true
  pub no_int : no_int w ≡ true
  pub no_typedef : begins (words word.Typedef) w ≡ false

pub type_begun : (of : ObjectType) (w : List Token) → TypeBegun (spell_type of w)
unfolding begins same_word
type_begun Int w = record { some = λ e. absurd cc; no_brace = refl; no_int = refl; no_typedef = refl }
type_begun Word w = record { some = λ e. absurd cc; no_brace = refl; no_int = refl; no_typedef = refl }
type_begun Byte w = record { some = λ e. absurd cc; no_brace = refl; no_int = refl; no_typedef = refl }
type_begun (Struct n) w = record { some = λ e. absurd cc; no_brace = refl; no_int = refl; no_typedef = refl }
type_begun (Named n) w = record { some = λ e. absurd cc; no_brace = refl; no_int = refl; no_typedef = refl }
type_begun VoidPointer w = record { some = λ e. absurd cc; no_brace = refl; no_int = refl; no_typedef = refl }
type_begun (Pointer of) w = type_begun of (Sign mark.Star ∷ w)

pub result_begun : (o : Option ObjectType) (w : List Token) → TypeBegun (spell_result o w)
unfolding begins same_word
result_begun None w = record { some = λ e. absurd cc; no_brace = refl; no_int = refl; no_typedef = refl }
result_begun (Some of) w = type_begun of w

next_facts : (w : List Token) → NoStar (Sign mark.Comma ∷ w) × NoStar (Sign mark.Close ∷ w) × (begins (marks mark.Comma) (Sign mark.Comma ∷ w) ≡ true) × (begins (marks mark.Comma) (Sign mark.Close ∷ w) ≡ false) × (no_brace (Sign mark.CloseBrace ∷ w) ≡ false) × NoStar (Sign mark.Open ∷ w)
unfolding begins same_mark
next_facts w = (refl, refl, refl, refl, refl, refl)

name_no_star : (name : List ℕ) (w : List Token) → NoStar (Identifier name ∷ w)
unfolding begins
name_no_star name w = refl

any_follow : List Token → Type 0
any_follow w = Unit {0}

module _ (n : ℕ) (W : Type 0) where
  -- ---- structs

  length_tracked : (l : Option ℕ) → IfSome l IsNumber → (rest s : List Token) → Along n (spell_length l (Sign mark.Semicolon ∷ rest)) s → Tracked n W l (Sign mark.Semicolon ∷ rest) (array_length s)
  unfolding array_length begins same_mark
  length_tracked None is rest s h = track_second (begins (marks mark.OpenBracket) s) _ _ (same_begins (marks mark.OpenBracket) h) (track_pure None h)
  length_tracked (Some m) is rest s h =
      track_first (begins (marks mark.OpenBracket) s) _ _ (same_begins (marks mark.OpenBracket) h)
      (mark_tracked mark.OpenBracket h (λ _. then_shrinks (one_shrinks _) (λ _. then_shrinks (one_shrinks _) (λ _. pure_shrinks _))) (λ r h.
      number_tracked largest_int m (omega (arith, is)) h (λ _. then_shrinks (one_shrinks _) (λ _. pure_shrinks _)) (λ r h. mark_tracked mark.CloseBracket h (λ _. pure_shrinks _) (λ r h. track_pure (Some m) h))))

  member_tracked : (m : CMember) → IsMember m → (rest s : List Token) → Along n (spell_member m rest) s → Tracked n W m rest (member s)
  unfolding member
  member_tracked m is rest s h =
      track_then (variable_tracked n W (variable_of m.of m.name) (spell_length m.length (Sign mark.Semicolon ∷ rest)) s h) (λ _. then_shrinks length_shrinks (λ _. then_shrinks (one_shrinks _) (λ _. pure_shrinks _))) (λ r h.
      track_then (length_tracked m.length is.2 rest r h) (λ _. then_shrinks (one_shrinks _) (λ _. pure_shrinks _)) (λ r h. mark_tracked mark.Semicolon h (λ _. pure_shrinks _) (λ r h. track_pure m h)))

  member_items : (all : List CMember) → AllByRecursion IsMember all → AllByRecursion (Item n W spell_member (spell_all spell_member) no_brace next_member any_follow) all
  unfolding next_member
  member_items [] is = tt
  member_items (m ∷ more) is = (λ found rest s _ h. track_then (member_tracked m is.0 rest s h) (λ _. pure_shrinks _) (λ r h. track_pure (found ++ m ∷ []) h), member_items more is.1)

  member_list : Listing n W spell_member (spell_all spell_member) no_brace next_member any_follow
  unfolding next_member member any_follow
  member_list = record {
    none = λ rest. refl;
    one_more = λ x more rest. refl;
    steady = brace_steady;
    takes = λ found s. takes_then (length s) (and_then (variable s) (λ v s. and_then (array_length s) (λ l s. and_then (expect mark.Semicolon s) (λ _ s. Ok (member_of v l, s)))))
        (takes_then (length s) (variable s) (variable_takes s) (λ _. then_shrinks length_shrinks (λ _. then_shrinks (one_shrinks _) (λ _. pure_shrinks _)))) (λ _. pure_shrinks _);
    shrinks = next_member_shrinks;
    some = λ x rest. (type_begun x.of (Identifier x.name ∷ spell_length x.length (Sign mark.Semicolon ∷ rest))).some;
    goes = λ x rest. (type_begun x.of (Identifier x.name ∷ spell_length x.length (Sign mark.Semicolon ∷ rest))).no_brace;
    follows = λ x rest. tt;
  }

  pub members_tracked : (all : List CMember) → AllByRecursion IsMember all → all ≢ [] → (rest s : List Token) → Along n (Sign mark.OpenBrace ∷ spell_all spell_member all (Sign mark.CloseBrace ∷ Sign mark.Semicolon ∷ rest)) s
      → Tracked n W all rest (members s)
  unfolding members any_follow
  members_tracked [] is some rest s h = absurd (some refl)
  members_tracked (m ∷ more) is some rest s h =
      let closing : (all : List CMember) → Shrinks {T = Token} (λ s. and_then (expect mark.CloseBrace s) (λ _ s. and_then (expect mark.Semicolon s) (λ _ s. Ok (all, s)))) = λ all. then_shrinks (one_shrinks _) (λ _. then_shrinks (one_shrinks _) (λ _. pure_shrinks _)) in
      mark_tracked mark.OpenBrace h (λ _. then_shrinks member_shrinks (λ m. then_shrinks (repeat_shrinks no_brace next_member next_member_shrinks (m ∷ [])) closing)) (λ r h.
      track_then (member_tracked m is.0 (spell_all spell_member more (Sign mark.CloseBrace ∷ Sign mark.Semicolon ∷ rest)) r h) (λ m. then_shrinks (repeat_shrinks no_brace next_member next_member_shrinks (m ∷ [])) closing) (λ r h.
      track_then (track_list n W spell_member (spell_all spell_member) no_brace next_member any_follow member_list more (member_items more is.1) (Sign mark.CloseBrace ∷ Sign mark.Semicolon ∷ rest) tt (next_facts (Sign mark.Semicolon ∷ rest)).4 (m ∷ []) r h)
      closing (λ r h. mark_tracked mark.CloseBrace h (λ _. then_shrinks (one_shrinks _) (λ _. pure_shrinks _)) (λ r h. mark_tracked mark.Semicolon h (λ _. pure_shrinks _) (λ r h. track_pure (m ∷ more) h)))))

  -- ---- typedefs

  type_items : (all : List ObjectType) → AllByRecursion (Item n W (spell_next spell_type) (spell_all (spell_next spell_type)) (begins (marks mark.Comma)) next_type NoStar) all
  unfolding next_type
  type_items [] = tt
  type_items (of ∷ more) =
      (λ found rest s none h. mark_tracked mark.Comma h (λ _. then_shrinks type_shrinks (λ _. pure_shrinks _)) (λ r h. track_then (type_tracked n W of rest r none h) (λ _. pure_shrinks _) (λ r h. track_pure (found ++ of ∷ []) h)), type_items more)

  type_list : Listing n W (spell_next spell_type) (spell_all (spell_next spell_type)) (begins (marks mark.Comma)) next_type NoStar
  unfolding next_type
  type_list = record {
    none = λ rest. refl;
    one_more = λ x more rest. refl;
    steady = λ n w s h. same_begins (marks mark.Comma) h;
    takes = λ found s. takes_token (marks mark.Comma) s (λ _. then_shrinks type_shrinks (λ _. pure_shrinks _));
    shrinks = next_type_shrinks;
    some = λ x rest e. absurd cc;
    goes = λ x rest. (next_facts (spell_type x rest)).2;
    follows = λ x rest. (next_facts (spell_type x rest)).0;
  }

  after_type : (more : List ObjectType) (w : List Token) → NoStar (spell_all (spell_next spell_type) more (Sign mark.Close ∷ w))
  after_type [] w = (next_facts w).1
  after_type (x ∷ more) w = (next_facts (spell_type x (spell_all (spell_next spell_type) more (Sign mark.Close ∷ w)))).0

  types_tracked : (all : List ObjectType) (w s : List Token) → Along n (spell_or_void spell_type all (Sign mark.Close ∷ w)) s → Tracked n W all (Sign mark.Close ∷ w) (types s)
  unfolding types
  types_tracked [] w s h = track_then (result_tracked n W None (Sign mark.Close ∷ w) s (next_facts w).1 h) types_after_shrinks (λ r h. track_pure [] h)
  types_tracked (of ∷ more) w s h =
      track_then (result_tracked n W (Some of) (spell_all (spell_next spell_type) more (Sign mark.Close ∷ w)) s (after_type more w) h) types_after_shrinks (λ r h.
      track_list n W (spell_next spell_type) (spell_all (spell_next spell_type)) (begins (marks mark.Comma)) next_type NoStar type_list more (type_items more) (Sign mark.Close ∷ w) (next_facts w).1 (next_facts w).3 (of ∷ []) r h)

  pub typedef_tracked : (t : CTypedef) (rest s : List Token) → Along n (spell_typedef t rest) s → Tracked n W t rest (typedef s)
  unfolding typedef pointer_name
  typedef_tracked t rest s h =
      let ends : (r : Option ObjectType) (m : List ℕ) (all : List ObjectType) → Shrinks {T = Token} (λ s. and_then (expect mark.Close s) (λ _ s. and_then (expect mark.Semicolon s) (λ _ s. Ok (typedef_of r m all, s)))) =
      λ r m all. then_shrinks (one_shrinks _) (λ _. then_shrinks (one_shrinks _) (λ _. pure_shrinks _)) in
      let named : (r : Option ObjectType) (m : List ℕ) → Shrinks {T = Token} (λ s. and_then (expect mark.Open s) (λ _ s. and_then (types s) (λ all s. and_then (expect mark.Close s) (λ _ s. and_then (expect mark.Semicolon s) (λ _ s. Ok (typedef_of r m all, s)))))) =
      λ r m. then_shrinks (one_shrinks _) (λ _. then_shrinks types_shrinks (ends r m)) in
      let after_name = Sign mark.Open ∷ spell_or_void spell_type t.parameters (Sign mark.Close ∷ Sign mark.Semicolon ∷ rest) in
      word_tracked word.Typedef h (λ _. then_shrinks result_shrinks (λ r. then_shrinks (then_shrinks (one_shrinks _) (λ _. then_shrinks (one_shrinks _) (λ _. then_shrinks (one_shrinks _) (λ m. then_shrinks (one_shrinks _) (λ _. pure_shrinks m))))) (named r))) (λ r h.
      track_then (result_tracked n W t.result (Sign mark.Open ∷ Sign mark.Star ∷ Identifier t.name ∷ Sign mark.Close ∷ after_name) r (next_facts (Sign mark.Star ∷ Identifier t.name ∷ Sign mark.Close ∷ after_name)).5 h)
      (λ r. then_shrinks (then_shrinks (one_shrinks _) (λ _. then_shrinks (one_shrinks _) (λ _. then_shrinks (one_shrinks _) (λ m. then_shrinks (one_shrinks _) (λ _. pure_shrinks m))))) (named r)) (λ r h.
      track_then (mark_tracked {y = t.name} {rest' = after_name} mark.Open h (λ _. then_shrinks (one_shrinks _) (λ _. then_shrinks (one_shrinks _) (λ m. then_shrinks (one_shrinks _) (λ _. pure_shrinks m)))) (λ r h.
      mark_tracked mark.Star h (λ _. then_shrinks (one_shrinks _) (λ m. then_shrinks (one_shrinks _) (λ _. pure_shrinks m))) (λ r h.
      name_tracked t.name h (λ m. then_shrinks (one_shrinks _) (λ _. pure_shrinks m)) (λ r h. mark_tracked mark.Close h (λ _. pure_shrinks t.name) (λ r h. track_pure t.name h))))) (named t.result) (λ r h.
      mark_tracked mark.Open h (λ _. then_shrinks types_shrinks (ends t.result t.name)) (λ r h.
      track_then (types_tracked t.parameters (Sign mark.Semicolon ∷ rest) r h) (ends t.result t.name) (λ r h.
      mark_tracked mark.Close h (λ _. then_shrinks (one_shrinks _) (λ _. pure_shrinks _)) (λ r h. mark_tracked mark.Semicolon h (λ _. pure_shrinks _) (λ r h. track_pure t h)))))))

  -- ---- parameters

  parameter_items : (all : List CVariable) → AllByRecursion (Item n W (spell_next spell_variable) (spell_all (spell_next spell_variable)) (begins (marks mark.Comma)) next_parameter any_follow) all
  unfolding next_parameter
  parameter_items [] = tt
  parameter_items (v ∷ more) =
      (λ found rest s _ h. mark_tracked mark.Comma h (λ _. then_shrinks variable_shrinks (λ _. pure_shrinks _)) (λ r h. track_then (variable_tracked n W v rest r h) (λ _. pure_shrinks _) (λ r h. track_pure (found ++ v ∷ []) h)), parameter_items more)

  parameter_list : Listing n W (spell_next spell_variable) (spell_all (spell_next spell_variable)) (begins (marks mark.Comma)) next_parameter any_follow
  unfolding next_parameter any_follow
  parameter_list = record {
    none = λ rest. refl;
    one_more = λ x more rest. refl;
    steady = λ n w s h. same_begins (marks mark.Comma) h;
    takes = λ found s. takes_token (marks mark.Comma) s (λ _. then_shrinks variable_shrinks (λ _. pure_shrinks _));
    shrinks = next_parameter_shrinks;
    some = λ x rest e. absurd cc;
    goes = λ x rest. (next_facts (spell_variable x rest)).2;
    follows = λ x rest. tt;
  }

  pub parameters_tracked : (all : List CVariable) (rest s : List Token) → Along n (spell_parameters all rest) s → Tracked n W all rest (parameters s)
  unfolding parameters any_follow
  parameters_tracked [] rest s h =
      mark_tracked mark.Open h (λ _. then_shrinks result_shrinks (λ r. then_shrinks (parameters_after_shrinks r) (λ _. then_shrinks (one_shrinks _) (λ _. pure_shrinks _)))) (λ r h.
      track_then (result_tracked n W None (Sign mark.Close ∷ rest) r (next_facts rest).1 h) (λ r. then_shrinks (parameters_after_shrinks r) (λ _. then_shrinks (one_shrinks _) (λ _. pure_shrinks _))) (λ r h.
      mark_tracked mark.Close h (λ _. pure_shrinks _) (λ r h. track_pure [] h)))
  parameters_tracked (v ∷ more) rest s h =
      let after = spell_all (spell_next spell_variable) more (Sign mark.Close ∷ rest) in
      mark_tracked mark.Open h (λ _. then_shrinks result_shrinks (λ r. then_shrinks (parameters_after_shrinks r) (λ _. then_shrinks (one_shrinks _) (λ _. pure_shrinks _)))) (λ r h.
      track_then (result_tracked n W (Some v.of) (Identifier v.name ∷ after) r (name_no_star v.name after) h) (λ r. then_shrinks (parameters_after_shrinks r) (λ _. then_shrinks (one_shrinks _) (λ _. pure_shrinks _))) (λ r h.
      track_then (name_tracked {y = v ∷ more} {rest' = Sign mark.Close ∷ rest} v.name h (λ m. repeat_shrinks (begins (marks mark.Comma)) next_parameter next_parameter_shrinks (variable_of v.of m ∷ [])) (λ r h.
      track_list n W (spell_next spell_variable) (spell_all (spell_next spell_variable)) (begins (marks mark.Comma)) next_parameter any_follow parameter_list more (parameter_items more) (Sign mark.Close ∷ rest) tt (next_facts rest).3 (v ∷ []) r h))
      (λ _. then_shrinks (one_shrinks _) (λ _. pure_shrinks _)) (λ r h. mark_tracked mark.Close h (λ _. pure_shrinks _) (λ r h. track_pure (v ∷ more) h))))
