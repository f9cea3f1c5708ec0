-- With which words declarations begin, and what may stand behind them.
use Rattle.std.proofs.Common.{◌≡◌, ℕ, zero, suc, ◌<◌, ◌≤◌, Bool, true, false, List, ◌∷◌, Some, None, refl, sym, ap, subst, ◌∙◌, arith}
use Rattle.p2c_text.specs.declared.dialect.Dialect.{Dialect}
use Rattle.dialect_lexer.specs.declared.token.Word.{Word as WordSymbol}
use Rattle.dialect_lexer.specs.declared.token.Word.TheVariants as word_
use Rattle.dialect_lexer.specs.declared.token.Symbol.TheVariants as mark
use Rattle.pascal_tree.specs.declared.declarations.Heading.{Heading}
use Rattle.pascal_tree.specs.declared.declarations.Heading.TheVariants as heading_
use Rattle.pascal_tree.specs.declared.declarations.Declaration.{Declaration}
use Rattle.pascal_tree.specs.declared.declarations.Routine.{Routine, out-Routine}
use Rattle.token_parsing.specs.Parser.{is_some, begins}
use Rattle.expr_parser.specs.Tokens.{Token, Word}
use Rattle.expr_parser.specs.Layout.{Layout, ◌&◌, spanned, symbol}
use Rattle.expr_parser.specs.Classes.{operator_of, same_word}
use Rattle.expr_parser.proofs.Layouts.{spell, spell_join}
use Rattle.expr_parser.proofs.Followed.{Looks, on_first}
use Rattle.expr_parser.proofs.Lookahead.{on_name, on_word}
use Rattle.unit_parser.specs.Writing.{write_heading, write_body, write_declaration, write_routine}
use Rattle.unit_parser.specs.Grammar.{Judged, judged_declaration}
use Rattle.unit_parser.specs.Blocks.{routine_word_of, routine_words, declaration_word_of, declaration_words}
use Rattle.unit_parser.proofs.Views.{routine_is, DeclarationCases, declaration_cases}
use Rattle.unit_parser.proofs.WrittenNodes.{write_declaration_labels, write_declaration_constants, write_declaration_types, write_declaration_variables, write_declaration_routine, write_routine_of}
use Rattle.unit_parser.proofs.FormedNodes.{judged_declaration_labels, judged_declaration_constants, judged_declaration_types, judged_declaration_variables, judged_declaration_routine}

-- the words of each place in the order
pub data Opens : ℕ → Token → Type 0 where
  opens_labels : Opens 0 (Word word_.KwLabel)
  opens_constants : Opens 1 (Word word_.KwConst)
  opens_types : Opens 2 (Word word_.KwType)
  opens_variables : Opens 3 (Word word_.KwVar)
  opens_procedure : Opens 4 (Word word_.KwProcedure)
  opens_function : Opens 4 (Word word_.KwFunction)

-- what may stand behind declarations
pub data Closed : List Token → Type 0 where
  at_begin : (w : List Token) → Closed (Word word_.KwBegin ∷ w)
  at_end : (w : List Token) → Closed (Word word_.KwEnd ∷ w)

-- ---- tests

abbrev pub on_declaration : Token → Bool
on_declaration x = is_some (operator_of declaration_word_of (λ s. None) x)

abbrev pub on_routine : Token → Bool
on_routine x = is_some (operator_of routine_word_of (λ s. None) x)

pub looks_declaration : Looks (begins declaration_words) on_declaration
unfolding begins
looks_declaration = record { none = refl; some = λ t s. refl }

pub looks_routine : Looks (begins routine_words) on_routine
unfolding begins
looks_routine = record { none = refl; some = λ t s. refl }

pub closed_name : {w : List Token} → Closed w → on_first on_name w ≡ false
closed_name (at_begin w) = refl
closed_name (at_end w) = refl

pub closed_declaration : {w : List Token} → Closed w → on_first on_declaration w ≡ false
closed_declaration (at_begin w) = refl
closed_declaration (at_end w) = refl

pub closed_routine : {w : List Token} → Closed w → on_first on_routine w ≡ false
closed_routine (at_begin w) = refl
closed_routine (at_end w) = refl

pub opens_name : {p : ℕ} {x : Token} → Opens p x → on_name x ≡ false
opens_name opens_labels = refl
opens_name opens_constants = refl
opens_name opens_types = refl
opens_name opens_variables = refl
opens_name opens_procedure = refl
opens_name opens_function = refl

pub opens_declaration : {p : ℕ} {x : Token} → Opens p x → on_declaration x ≡ true
opens_declaration opens_labels = refl
opens_declaration opens_constants = refl
opens_declaration opens_types = refl
opens_declaration opens_variables = refl
opens_declaration opens_procedure = refl
opens_declaration opens_function = refl

pub opens_within : {p : ℕ} {x : Token} → Opens p x → p ≤ 4
opens_within opens_labels = omega arith
opens_within opens_constants = omega arith
opens_within opens_types = omega arith
opens_within opens_variables = omega arith
opens_within opens_procedure = omega arith
opens_within opens_function = omega arith

pub opens_routine : {p : ℕ} {x : Token} → Opens p x → p ≡ 4 → on_routine x ≡ true
opens_routine opens_labels e = absurd (omega (arith, e))
opens_routine opens_constants e = absurd (omega (arith, e))
opens_routine opens_types e = absurd (omega (arith, e))
opens_routine opens_variables e = absurd (omega (arith, e))
opens_routine opens_procedure e = refl
opens_routine opens_function e = refl

-- ---- a word and its place in the order

pub data PlaceOf : WordSymbol → ℕ → Type 0 where
  place_of_labels : PlaceOf word_.KwLabel 0
  place_of_constants : PlaceOf word_.KwConst 1
  place_of_types : PlaceOf word_.KwType 2
  place_of_variables : PlaceOf word_.KwVar 3

pub closed_word : {w : WordSymbol} {i : ℕ} → PlaceOf w i → {v : List Token} → Closed v → on_first (on_word w) v ≡ false
unfolding same_word
closed_word place_of_labels (at_begin v) = refl
closed_word place_of_labels (at_end v) = refl
closed_word place_of_constants (at_begin v) = refl
closed_word place_of_constants (at_end v) = refl
closed_word place_of_types (at_begin v) = refl
closed_word place_of_types (at_end v) = refl
closed_word place_of_variables (at_begin v) = refl
closed_word place_of_variables (at_end v) = refl

-- another place has another word
pub other_word : {w : WordSymbol} {i p : ℕ} {x : Token} → PlaceOf w i → Opens p x → (p ≡ i → ⊥) → on_word w x ≡ false
unfolding same_word
other_word place_of_labels opens_labels other = absurd (other refl)
other_word place_of_labels opens_constants other = refl
other_word place_of_labels opens_types other = refl
other_word place_of_labels opens_variables other = refl
other_word place_of_labels opens_procedure other = refl
other_word place_of_labels opens_function other = refl
other_word place_of_constants opens_labels other = refl
other_word place_of_constants opens_constants other = absurd (other refl)
other_word place_of_constants opens_types other = refl
other_word place_of_constants opens_variables other = refl
other_word place_of_constants opens_procedure other = refl
other_word place_of_constants opens_function other = refl
other_word place_of_types opens_labels other = refl
other_word place_of_types opens_constants other = refl
other_word place_of_types opens_types other = absurd (other refl)
other_word place_of_types opens_variables other = refl
other_word place_of_types opens_procedure other = refl
other_word place_of_types opens_function other = refl
other_word place_of_variables opens_labels other = refl
other_word place_of_variables opens_constants other = refl
other_word place_of_variables opens_types other = refl
other_word place_of_variables opens_variables other = absurd (other refl)
other_word place_of_variables opens_procedure other = refl
other_word place_of_variables opens_function other = refl

-- the same place has this word
pub same_place : {w : WordSymbol} {i p : ℕ} {x : Token} → PlaceOf w i → Opens p x → p ≡ i → on_word w x ≡ true
unfolding same_word
same_place place_of_labels opens_labels e = refl
same_place place_of_labels opens_constants e = absurd (omega (arith, e))
same_place place_of_labels opens_types e = absurd (omega (arith, e))
same_place place_of_labels opens_variables e = absurd (omega (arith, e))
same_place place_of_labels opens_procedure e = absurd (omega (arith, e))
same_place place_of_labels opens_function e = absurd (omega (arith, e))
same_place place_of_constants opens_labels e = absurd (omega (arith, e))
same_place place_of_constants opens_constants e = refl
same_place place_of_constants opens_types e = absurd (omega (arith, e))
same_place place_of_constants opens_variables e = absurd (omega (arith, e))
same_place place_of_constants opens_procedure e = absurd (omega (arith, e))
same_place place_of_constants opens_function e = absurd (omega (arith, e))
same_place place_of_types opens_labels e = absurd (omega (arith, e))
same_place place_of_types opens_constants e = absurd (omega (arith, e))
same_place place_of_types opens_types e = refl
same_place place_of_types opens_variables e = absurd (omega (arith, e))
same_place place_of_types opens_procedure e = absurd (omega (arith, e))
same_place place_of_types opens_function e = absurd (omega (arith, e))
same_place place_of_variables opens_labels e = absurd (omega (arith, e))
same_place place_of_variables opens_constants e = absurd (omega (arith, e))
same_place place_of_variables opens_types e = absurd (omega (arith, e))
same_place place_of_variables opens_variables e = refl
same_place place_of_variables opens_procedure e = absurd (omega (arith, e))
same_place place_of_variables opens_function e = absurd (omega (arith, e))

-- one word has one place
pub one_place : {w v : WordSymbol} {i j : ℕ} → PlaceOf w i → PlaceOf v j → on_word v (Word w) ≡ true → j ≡ i
unfolding same_word
one_place place_of_labels place_of_labels e = refl
one_place place_of_labels place_of_constants e = absurd cc
one_place place_of_labels place_of_types e = absurd cc
one_place place_of_labels place_of_variables e = absurd cc
one_place place_of_constants place_of_labels e = absurd cc
one_place place_of_constants place_of_constants e = refl
one_place place_of_constants place_of_types e = absurd cc
one_place place_of_constants place_of_variables e = absurd cc
one_place place_of_types place_of_labels e = absurd cc
one_place place_of_types place_of_constants e = absurd cc
one_place place_of_types place_of_types e = refl
one_place place_of_types place_of_variables e = absurd cc
one_place place_of_variables place_of_labels e = absurd cc
one_place place_of_variables place_of_constants e = absurd cc
one_place place_of_variables place_of_types e = absurd cc
one_place place_of_variables place_of_variables e = refl

-- a word with a place begins no routine
pub no_routine : {w : WordSymbol} {i : ℕ} → PlaceOf w i → on_routine (Word w) ≡ false
no_routine place_of_labels = refl
no_routine place_of_constants = refl
no_routine place_of_types = refl
no_routine place_of_variables = refl

pub place_within : {w : WordSymbol} {i : ℕ} → PlaceOf w i → i < 4
place_within place_of_labels = omega arith
place_within place_of_constants = omega arith
place_within place_of_types = omega arith
place_within place_of_variables = omega arith

-- ---- with what a declaration begins

-- the text begins with a word of the place
pub record Start (p : ℕ) (w : List Token) : Type 0 where
  pub token : Token
  pub more : List Token
  pub is : w ≡ token ∷ more
  pub opens : Opens p token

pub heading_start : (h : Heading) (rest : List Token) → Start 4 (spell (write_heading h) rest)
heading_start (heading_.Procedure name formals span) rest = record { token = Word word_.KwProcedure; more = _; is = refl; opens = opens_procedure }
heading_start (heading_.Function name formals t span) rest = record { token = Word word_.KwFunction; more = _; is = refl; opens = opens_function }

pub routine_written : (d : Dialect) (r : Routine) → write_routine d r ≡ spanned (out-Routine r).span (write_heading (out-Routine r).heading & symbol mark.Semicolon & write_body d (out-Routine r).body & symbol mark.Semicolon)
routine_written d r = ap (λ x. write_routine d x) (routine_is r) ∙ write_routine_of d (out-Routine r).heading (out-Routine r).body (out-Routine r).span

pub routine_start : (d : Dialect) (r : Routine) (rest : List Token) → Start 4 (spell (write_routine d r) rest)
routine_start d r rest =
    let tail = symbol mark.Semicolon & write_body d (out-Routine r).body & symbol mark.Semicolon in
    subst (Start 4) (sym (ap (λ l. spell l rest) (routine_written d r) ∙ spell_join (write_heading (out-Routine r).heading) tail rest)) (heading_start (out-Routine r).heading (spell tail rest))

abbrev StartLaw : (d : Dialect) (rest : List Token) → Declaration → Type 0
StartLaw d rest x = Start (judged_declaration d x).place (spell (write_declaration d x) rest)

starts_so : {p q : ℕ} {l m : Layout} (rest : List Token) → l ≡ m → p ≡ q → Start q (spell m rest) → Start p (spell l rest)
starts_so {p} {m} rest e f h = subst (λ l. Start p (spell l rest)) (sym e) (subst (λ n. Start n (spell m rest)) (sym f) h)

pub declaration_start : (d : Dialect) (x : Declaration) (rest : List Token) → Start (judged_declaration d x).place (spell (write_declaration d x) rest)
declaration_start d x rest = declaration_cases (StartLaw d rest) (record {
  labels = λ p. starts_so rest (write_declaration_labels d p) (ap (λ (j : Judged). j.place) (judged_declaration_labels d p)) (record { token = Word word_.KwLabel; more = _; is = refl; opens = opens_labels });
  constants = λ p. starts_so rest (write_declaration_constants d p) (ap (λ (j : Judged). j.place) (judged_declaration_constants d p)) (record { token = Word word_.KwConst; more = _; is = refl; opens = opens_constants });
  types = λ p. starts_so rest (write_declaration_types d p) (ap (λ (j : Judged). j.place) (judged_declaration_types d p)) (record { token = Word word_.KwType; more = _; is = refl; opens = opens_types });
  variables = λ p. starts_so rest (write_declaration_variables d p) (ap (λ (j : Judged). j.place) (judged_declaration_variables d p)) (record { token = Word word_.KwVar; more = _; is = refl; opens = opens_variables });
  routine = λ r. starts_so rest (write_declaration_routine d r) (ap (λ (j : Judged). j.place) (judged_declaration_routine d r)) (routine_start d r rest);
}) x
