-- Worked examples: tokens.
use Rattle.std.proofs.Common.{◌≡◌, false, [], ◌∷◌, refl}
use Rattle.std.specs.Prelude.{codes}
use Rattle.std.specs.Option.{is_some}
use Rattle.c_grammar.specs.declared.token.Word.TheVariants as word
use Rattle.c_grammar.specs.declared.token.Mark.TheVariants as mark
use Rattle.c_grammar.specs.Token.{Identifier, Numeral, Quoted, Sign}
use Rattle.c_grammar.proofs.Worked.{cut_of, tokens_of}

leading_zeros : tokens_of (codes "007") ≡ Numeral 0 ∷ Numeral 0 ∷ Numeral 7 ∷ []
unfolding tokens_of
leading_zeros = refl

shift_and_assign : tokens_of (codes "<<=") ≡ Sign mark.ShiftLeft ∷ Sign mark.Assign ∷ []
unfolding tokens_of
shift_and_assign = refl

bars : tokens_of (codes "|||") ≡ Sign mark.OrOr ∷ Sign mark.Bar ∷ []
unfolding tokens_of
bars = refl

no_comment : tokens_of (codes "a/*b*/") ≡ Identifier (codes "a") ∷ Sign mark.Slash ∷ Sign mark.Star ∷ Identifier (codes "b") ∷ Sign mark.Star ∷ Sign mark.Slash ∷ []
unfolding tokens_of
no_comment = refl

number_and_name : tokens_of (codes "12ab\t ") ≡ Numeral 12 ∷ Identifier (codes "ab") ∷ []
unfolding tokens_of
number_and_name = refl

longer_than_a_word : tokens_of (codes "if iff INT64_C int64_t8") ≡ Quoted word.If ∷ Identifier (codes "iff") ∷ Quoted word.Int64 ∷ Identifier (codes "int64_t8") ∷ []
unfolding tokens_of
longer_than_a_word = refl

no_upper_limit : tokens_of (codes "99999999999999999999") ≡ Numeral 99999999999999999999 ∷ []
unfolding tokens_of
no_upper_limit = refl

-- no token begins with `_`, `@` or byte 13
underscore : is_some (cut_of (codes "a _b")) ≡ false
unfolding cut_of
underscore = refl

at_sign : is_some (cut_of (codes "a@")) ≡ false
unfolding cut_of
at_sign = refl

carriage_return : is_some (cut_of (97 ∷ 13 ∷ 10 ∷ [])) ≡ false
unfolding cut_of
carriage_return = refl
