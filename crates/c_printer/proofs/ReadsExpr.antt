-- Expressions and places are printed as they are spelled.
use Rattle.std.proofs.Common.{◌≡◌, ℕ, ◌^◌, ◌<◌, true, false, List, [], ◌∷◌, ◌++◌, Some, None, refl, append_assoc, arith}
use Rattle.std.specs.Prelude.{◌==◌, ◌||◌, decimal}
use Rattle.std.proofs.lemmas.Bool.Decides.{nat_tests}
use Rattle.c_tree.specs.Tree.{Expr, Read, Number, WordNumber, Null, Address, Unary, Binary, Cast, Place, Variable, Pointee, Member, Index}
use Rattle.c_tree.specs.declared.operators.CUnary.{CUnary}
use Rattle.c_tree.specs.declared.operators.CUnary.TheVariants.{Minus, Not, Complement}
use Rattle.c_tree.specs.declared.operators.CBinary.{CBinary}
use Rattle.c_tree.specs.declared.operators.CBinary.TheVariants.{Add, Subtract, Multiply, Divide, Remainder, Equal, NotEqual, Less, AtMost, Greater, AtLeast, And, Or, BitAnd, BitOr, BitXor, ShiftLeft, ShiftRight}
use Rattle.c_tree.specs.declared.operators.CCast.{CCast}
use Rattle.c_tree.specs.declared.operators.CCast.TheVariants as cast
use Rattle.c_grammar.specs.declared.token.Word.{Word}
use Rattle.c_grammar.specs.declared.token.Word.TheVariants as word
use Rattle.c_grammar.specs.declared.token.Mark.{Mark}
use Rattle.c_grammar.specs.declared.token.Mark.TheVariants as mark
use Rattle.c_grammar.specs.Token.{Token, Numeral, Quoted, Sign, word_bytes, quoted_mark, is_letter, is_digit, is_name_byte}
use Rattle.c_grammar.specs.Spelling.{unary_mark, binary_mark, spell_cast, spell_expr, spell_place}
use Rattle.c_grammar.specs.Grammar.{IsCast, IsExpr, IsPlace}
use Rattle.c_grammar.proofs.Longest.{Stops, NoPair}
use Rattle.c_printer.specs.Text.{unary_text, binary_text, cast_text, expr_text, place_text}
use Rattle.c_printer.proofs.Numbers.{number}
use Rattle.c_printer.proofs.ReadsToken.{Reads, IsMark, Opens, opens_name, space, name, quoted, mark_before, pair_before, open_parenthesis, close, open_bracket, close_bracket, dot, star, minus, tilde}

mutual
  pub expr_opens : (e : Expr) (after : List ℕ) → IsExpr e → Opens (expr_text e ++ after)
  expr_opens (Read p) after h = place_opens p after h
  expr_opens (Number n) after h = refl
  expr_opens (WordNumber n) after h = refl
  expr_opens Null after h = refl
  expr_opens (Address p) after h = refl
  expr_opens (Unary op a) after h = refl
  expr_opens (Binary op a b) after h = refl
  expr_opens (Cast to a) after h = refl

  pub place_opens : (p : Place) (after : List ℕ) → IsPlace p → Opens (place_text p ++ after)
  place_opens (Variable n) after h = opens_name n after h
  place_opens (Pointee a) after h = refl
  place_opens (Member p n) after h = simp append_assoc (place_opens p _ h.0)
  place_opens (Index p a) after h = simp append_assoc (place_opens p _ h.0)

-- ---- operators

-- neither `&` nor `=` stands first
no_pair : (b : ℕ) (after : List ℕ) → ((c : ℕ) → (38 == c) ≡ false → (61 == c) ≡ false → quoted_mark (b ∷ c ∷ []) ≡ None) → Opens after → NoPair b after
no_pair b [] f o = tt
no_pair b (c ∷ after) f o = f c (no_and c o) (no_equals c o)
  where
    no_and : (c : ℕ) → (is_letter c || c == 40) ≡ true → (38 == c) ≡ false
    no_and c o = grind (arith, nat_tests)

    no_equals : (c : ℕ) → (is_letter c || c == 40) ≡ true → (61 == c) ≡ false
    no_equals c o = grind (arith, nat_tests)

abbrev is_mark : (b : ℕ) (m : Mark) → is_letter b ≡ false → is_digit b ≡ false → (b == 48) ≡ false → quoted_mark (b ∷ []) ≡ Some m → IsMark b m
is_mark b m l d z f = record { letter = l; digit = d; zero' = z; found = f }

ampersand : {after : List ℕ} {tokens : List Token} → Opens after → Reads after tokens → Reads (38 ∷ after) (Sign mark.Ampersand ∷ tokens)
ampersand {after} o r = mark_before 38 mark.Ampersand (is_mark 38 mark.Ampersand refl refl refl refl) (no_pair 38 after (λ c a e. rw a refl) o) r

exclamation : {after : List ℕ} {tokens : List Token} → Opens after → Reads after tokens → Reads (33 ∷ after) (Sign mark.Exclamation ∷ tokens)
exclamation {after} o r = mark_before 33 mark.Exclamation (is_mark 33 mark.Exclamation refl refl refl refl) (no_pair 33 after (λ c a e. rw e refl) o) r

unary_reads : (op : CUnary) {after : List ℕ} {tokens : List Token} → Opens after → Reads after tokens → Reads (unary_text op ++ after) (Sign (unary_mark op) ∷ tokens)
unary_reads Minus o r = minus r
unary_reads Not o r = exclamation o r
unary_reads Complement o r = tilde r

-- a mark of one byte between spaces
spaced : (b : ℕ) (m : Mark) {after : List ℕ} {tokens : List Token} → IsMark b m → NoPair b (32 ∷ after) → Reads after tokens → Reads (32 ∷ b ∷ 32 ∷ after) (Sign m ∷ tokens)
spaced b m i p r = space (mark_before b m i p (space r))

-- a mark of two bytes between spaces
spaced_pair : (b c : ℕ) (m : Mark) {after : List ℕ} {tokens : List Token} → is_letter b ≡ false → is_digit b ≡ false → (b == 48) ≡ false → quoted_mark (b ∷ c ∷ []) ≡ Some m
    → Reads after tokens → Reads (32 ∷ b ∷ c ∷ 32 ∷ after) (Sign m ∷ tokens)
spaced_pair b c m l d z f r = space (pair_before b c m l d z f (space r))

pub assign : {after : List ℕ} {tokens : List Token} → Reads after tokens → Reads (32 ∷ 61 ∷ 32 ∷ after) (Sign mark.Assign ∷ tokens)
assign r = spaced 61 mark.Assign (is_mark 61 mark.Assign refl refl refl refl) refl r

binary_reads : (op : CBinary) {after : List ℕ} {tokens : List Token} → Reads after tokens → Reads (binary_text op ++ after) (Sign (binary_mark op) ∷ tokens)
binary_reads Add r = spaced 43 mark.Plus (is_mark 43 mark.Plus refl refl refl refl) refl r
binary_reads Subtract r = spaced 45 mark.Minus (is_mark 45 mark.Minus refl refl refl refl) refl r
binary_reads Multiply r = spaced 42 mark.Star (is_mark 42 mark.Star refl refl refl refl) refl r
binary_reads Divide r = spaced 47 mark.Slash (is_mark 47 mark.Slash refl refl refl refl) refl r
binary_reads Remainder r = spaced 37 mark.Percent (is_mark 37 mark.Percent refl refl refl refl) refl r
binary_reads Equal r = spaced_pair 61 61 mark.Equal refl refl refl refl r
binary_reads NotEqual r = spaced_pair 33 61 mark.NotEqual refl refl refl refl r
binary_reads Less r = spaced 60 mark.Less (is_mark 60 mark.Less refl refl refl refl) refl r
binary_reads AtMost r = spaced_pair 60 61 mark.AtMost refl refl refl refl r
binary_reads Greater r = spaced 62 mark.Greater (is_mark 62 mark.Greater refl refl refl refl) refl r
binary_reads AtLeast r = spaced_pair 62 61 mark.AtLeast refl refl refl refl r
binary_reads And r = spaced_pair 38 38 mark.AndAnd refl refl refl refl r
binary_reads Or r = spaced_pair 124 124 mark.OrOr refl refl refl refl r
binary_reads BitAnd r = spaced 38 mark.Ampersand (is_mark 38 mark.Ampersand refl refl refl refl) refl r
binary_reads BitOr r = spaced 124 mark.Bar (is_mark 124 mark.Bar refl refl refl refl) refl r
binary_reads BitXor r = spaced 94 mark.Caret (is_mark 94 mark.Caret refl refl refl refl) refl r
binary_reads ShiftLeft r = spaced_pair 60 60 mark.ShiftLeft refl refl refl refl r
binary_reads ShiftRight r = spaced_pair 62 62 mark.ShiftRight refl refl refl refl r

-- a space stands first
stops_operator : (op : CBinary) (after : List ℕ) → Stops is_name_byte (binary_text op ++ after)
stops_operator Add after = refl
stops_operator Subtract after = refl
stops_operator Multiply after = refl
stops_operator Divide after = refl
stops_operator Remainder after = refl
stops_operator Equal after = refl
stops_operator NotEqual after = refl
stops_operator Less after = refl
stops_operator AtMost after = refl
stops_operator Greater after = refl
stops_operator AtLeast after = refl
stops_operator And after = refl
stops_operator Or after = refl
stops_operator BitAnd after = refl
stops_operator BitOr after = refl
stops_operator BitXor after = refl
stops_operator ShiftLeft after = refl
stops_operator ShiftRight after = refl

-- ---- expressions and places

number_reads : (w : Word) (n : ℕ) {after : List ℕ} {tokens : List Token} → n < 2 ^ 64 → Reads after tokens
    → Reads (word_bytes w ++ 40 ∷ (decimal n ++ 41 ∷ after)) (Quoted w ∷ Sign mark.Open ∷ Numeral n ∷ Sign mark.Close ∷ tokens)
number_reads w n h r = quoted w refl (open_parenthesis (number n h refl (close r)))

cast_reads : (to : CCast) {after : List ℕ} {tokens : List Token} → IsCast to → Stops is_name_byte after → Reads after tokens → Reads (cast_text to ++ after) (spell_cast to tokens)
cast_reads cast.Int h s r = quoted word.Int64Type s r
cast_reads cast.Word h s r = quoted word.Uint64Type s r
cast_reads cast.VoidPointer h s r = quoted word.Void refl (space (star r))
cast_reads (cast.StructPointer n) h s r = simp append_assoc (quoted word.Struct refl (space (name n h refl (space (star r)))))

mutual
  pub expr_reads : (e : Expr) {after : List ℕ} {tokens : List Token} → IsExpr e → Stops is_name_byte after → Reads after tokens → Reads (expr_text e ++ after) (spell_expr e tokens)
  expr_reads (Read p) h s r = place_reads p h s r
  expr_reads (Number n) h s r = simp append_assoc (number_reads word.Int64 n (omega arith) r)
  expr_reads (WordNumber n) h s r = simp append_assoc (number_reads word.Uint64 n h r)
  expr_reads Null h s r = quoted word.Null s r
  expr_reads (Address p) h s r = simp append_assoc (open_parenthesis (ampersand (place_opens p _ h) (place_reads p h refl (close r))))
  expr_reads (Unary op a) h s r = simp append_assoc (open_parenthesis (unary_reads op (expr_opens a _ h) (expr_reads a h refl (close r))))
  expr_reads (Binary op a b) h s r = simp append_assoc (open_parenthesis (expr_reads a h.0 (stops_operator op _) (binary_reads op (expr_reads b h.1 refl (close r)))))
  expr_reads (Cast to a) h s r = simp append_assoc (open_parenthesis (open_parenthesis (cast_reads to h.0 refl (close (space (expr_reads a h.1 refl (close r)))))))

  pub place_reads : (p : Place) {after : List ℕ} {tokens : List Token} → IsPlace p → Stops is_name_byte after → Reads after tokens → Reads (place_text p ++ after) (spell_place p tokens)
  place_reads (Variable n) h s r = name n h s r
  place_reads (Pointee a) h s r = simp append_assoc (open_parenthesis (star (expr_reads a h refl (close r))))
  place_reads (Member p n) h s r = simp append_assoc (place_reads p h.0 refl (dot (name n h.1 s r)))
  place_reads (Index p a) h s r = simp append_assoc (place_reads p h.0 refl (open_bracket (expr_reads a h.1 refl (close_bracket r))))
