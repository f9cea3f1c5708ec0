-- With which words the parts of a whole text begin.
use Rattle.std.proofs.Common.{◌≡◌, ℕ, suc, ◌≤◌, Bool, true, false, List, [], ◌∷◌, map, Option, Some, None, refl, sym, ap, subst, ◌∙◌, arith}
use Rattle.std.specs.Option.{option_map}
use Rattle.p2c_text.specs.declared.dialect.Dialect.{Dialect}
use Rattle.p2c_text.specs.declared.dialect.Dialect.TheVariants as dialect
use Rattle.dialect_lexer.specs.declared.token.Word.{Word as WordSymbol}
use Rattle.dialect_lexer.specs.declared.token.Word.TheVariants as word_
use Rattle.dialect_lexer.specs.declared.token.Symbol.TheVariants as mark
use Rattle.pascal_tree.specs.declared.declarations.Declaration.{Declaration}
use Rattle.pascal_tree.specs.declared.declarations.Block.{Block, out-Block}
use Rattle.pascal_tree.specs.declared.files.Head.{Head}
use Rattle.pascal_tree.specs.declared.files.Uses.{Uses}
use Rattle.pascal_tree.specs.declared.files.Public.{Public}
use Rattle.pascal_tree.specs.declared.files.Public.TheVariants as item
use Rattle.token_parsing.specs.Parser.{is_some, begins}
use Rattle.expr_parser.specs.Tokens.{Token, Word}
use Rattle.expr_parser.specs.Layout.{◌&◌, symbol, word, in_row}
use Rattle.expr_parser.specs.Semicolons.{optional_part}
use Rattle.expr_parser.specs.Classes.{operator_of, same_word}
use Rattle.expr_parser.proofs.Layouts.{spell, spell_join}
use Rattle.expr_parser.proofs.Followed.{Looks}
use Rattle.expr_parser.proofs.Lookahead.{on_name, on_word}
use Rattle.unit_parser.specs.Dialects.{uses_word}
use Rattle.unit_parser.specs.Writing.{write_heading, write_declaration, write_block, write_stmts, write_head, optional_uses, write_public}
use Rattle.unit_parser.specs.Files.{public_word_of, public_words}
use Rattle.unit_parser.proofs.Beginnings.{Opens, opens_labels, opens_constants, opens_types, opens_variables, opens_procedure, opens_function, opens_name, Closed, at_begin, at_end, Start, heading_start, declaration_start}
use Rattle.unit_parser.proofs.FollowedDeclarations.{block_written}

-- the words before the parts of a text
pub data Heads : WordSymbol → Type 0 where
  heads_program : Heads word_.KwProgram
  heads_unit : Heads word_.KwUnit
  heads_module : Heads word_.KwModule
  heads_uses : Heads word_.KwUses
  heads_import : Heads word_.KwImport

-- what may begin behind the used units
pub data Inside : Token → Type 0 where
  declares : {p : ℕ} {x : Token} → Opens p x → Inside x
  at_body : Inside (Word word_.KwBegin)
  at_last : Inside (Word word_.KwEnd)
  at_export : Inside (Word word_.KwExport)
  at_implement : Inside (Word word_.KwImplement)
  at_implementation : Inside (Word word_.KwImplementation)

pub record Others (w : WordSymbol) : Type 0 where
  pub labels : on_word w (Word word_.KwLabel) ≡ false
  pub constants : on_word w (Word word_.KwConst) ≡ false
  pub types : on_word w (Word word_.KwType) ≡ false
  pub variables : on_word w (Word word_.KwVar) ≡ false
  pub procedure : on_word w (Word word_.KwProcedure) ≡ false
  pub function : on_word w (Word word_.KwFunction) ≡ false
  pub body : on_word w (Word word_.KwBegin) ≡ false
  pub last : on_word w (Word word_.KwEnd) ≡ false
  pub export : on_word w (Word word_.KwExport) ≡ false
  pub implement : on_word w (Word word_.KwImplement) ≡ false
  pub implementation : on_word w (Word word_.KwImplementation) ≡ false

others : {w : WordSymbol} → Heads w → Others w
unfolding same_word
others heads_program = record { labels = refl; constants = refl; types = refl; variables = refl; procedure = refl; function = refl; body = refl; last = refl; export = refl; implement = refl; implementation = refl }
others heads_unit = record { labels = refl; constants = refl; types = refl; variables = refl; procedure = refl; function = refl; body = refl; last = refl; export = refl; implement = refl; implementation = refl }
others heads_module = record { labels = refl; constants = refl; types = refl; variables = refl; procedure = refl; function = refl; body = refl; last = refl; export = refl; implement = refl; implementation = refl }
others heads_uses = record { labels = refl; constants = refl; types = refl; variables = refl; procedure = refl; function = refl; body = refl; last = refl; export = refl; implement = refl; implementation = refl }
others heads_import = record { labels = refl; constants = refl; types = refl; variables = refl; procedure = refl; function = refl; body = refl; last = refl; export = refl; implement = refl; implementation = refl }

opens_other : {w : WordSymbol} → Others w → {p : ℕ} {x : Token} → Opens p x → on_word w x ≡ false
opens_other o opens_labels = o.labels
opens_other o opens_constants = o.constants
opens_other o opens_types = o.types
opens_other o opens_variables = o.variables
opens_other o opens_procedure = o.procedure
opens_other o opens_function = o.function

-- none of them is such a word
pub inside_other : {w : WordSymbol} → Heads w → {x : Token} → Inside x → on_word w x ≡ false
inside_other h (declares o) = opens_other (others h) o
inside_other h at_body = (others h).body
inside_other h at_last = (others h).last
inside_other h at_export = (others h).export
inside_other h at_implement = (others h).implement
inside_other h at_implementation = (others h).implementation

pub heads_uses_word : (d : Dialect) → Heads (uses_word d)
heads_uses_word dialect.Iso = heads_uses
heads_uses_word dialect.Turbo = heads_uses
heads_uses_word dialect.Ucsd = heads_uses
heads_uses_word dialect.Hp = heads_import

-- the word before used units is none of the others
pub uses_other : (d : Dialect) → (on_word word_.KwProgram (Word (uses_word d)) ≡ false) × (on_word word_.KwUnit (Word (uses_word d)) ≡ false) × (on_word word_.KwModule (Word (uses_word d)) ≡ false)
unfolding same_word
uses_other dialect.Iso = (refl, refl, refl)
uses_other dialect.Turbo = (refl, refl, refl)
uses_other dialect.Ucsd = (refl, refl, refl)
uses_other dialect.Hp = (refl, refl, refl)

-- ---- with what parts begin

-- the text begins with a token that may stand behind the used units
pub record Begins (w : List Token) : Type 0 where
  pub token : Token
  pub more : List Token
  pub is : w ≡ token ∷ more
  pub inside : Inside token

pub closed_begins : {w : List Token} → Closed w → Begins w
closed_begins (at_begin w) = record { token = Word word_.KwBegin; more = w; is = refl; inside = at_body }
closed_begins (at_end w) = record { token = Word word_.KwEnd; more = w; is = refl; inside = at_last }

pub declarations_begin : (d : Dialect) (xs : List Declaration) (rest : List Token) → Closed rest → Begins (spell (in_row (map (write_declaration d) xs)) rest)
declarations_begin d [] rest closed = closed_begins closed
declarations_begin d (x ∷ xs) rest closed =
    let start = declaration_start d x (spell (in_row (map (write_declaration d) xs)) rest) in
    record { token = start.token; more = start.more; is = spell_join (write_declaration d x) (in_row (map (write_declaration d) xs)) rest ∙ start.is; inside = declares start.opens }

pub block_begins : (d : Dialect) (x : Block) (rest : List Token) → Begins (spell (write_block d x) rest)
block_begins d x rest =
    let top = in_row (map (write_declaration d) (out-Block x).declarations) in let tail = word word_.KwBegin & write_stmts d (out-Block x).body & word word_.KwEnd in
    subst Begins (sym (ap (λ l. spell l rest) (block_written d x) ∙ spell_join top tail rest)) (declarations_begin d (out-Block x).declarations (spell tail rest) (at_begin _))

-- ---- what is public

abbrev pub on_public : Token → Bool
on_public x = is_some (operator_of public_word_of (λ s. None) x)

pub looks_public : Looks (begins public_words) on_public
unfolding begins
looks_public = record { none = refl; some = λ t s. refl }

-- the place of its kind among declarations
abbrev pub place_of_public : Public → ℕ
place_of_public (item.Constants constants) = 1
place_of_public (item.Types types) = 2
place_of_public (item.Variables variables) = 3
place_of_public (item.Heading heading span) = 4

pub public_start : (x : Public) (rest : List Token) → Start (place_of_public x) (spell (write_public x) rest)
public_start (item.Constants p) rest = record { token = Word word_.KwConst; more = _; is = refl; opens = opens_constants }
public_start (item.Types p) rest = record { token = Word word_.KwType; more = _; is = refl; opens = opens_types }
public_start (item.Variables p) rest = record { token = Word word_.KwVar; more = _; is = refl; opens = opens_variables }
public_start (item.Heading heading span) rest = subst (Start 4) (sym (spell_join (write_heading heading) (symbol mark.Semicolon) rest)) (heading_start heading _)

opens_some_public : {p : ℕ} {x : Token} → Opens p x → 1 ≤ p → on_public x ≡ true
opens_some_public opens_labels h = absurd (omega (arith, h))
opens_some_public opens_constants h = refl
opens_some_public opens_types h = refl
opens_some_public opens_variables h = refl
opens_some_public opens_procedure h = refl
opens_some_public opens_function h = refl

public_placed : (x : Public) → 1 ≤ place_of_public x
public_placed (item.Constants p) = omega arith
public_placed (item.Types p) = omega arith
public_placed (item.Variables p) = omega arith
public_placed (item.Heading heading span) = omega arith

pub opens_public : (x : Public) {y : Token} → Opens (place_of_public x) y → on_public y ≡ true
opens_public x o = opens_some_public o (public_placed x)

pub publics_begin : (xs : List Public) (rest : List Token) → Begins rest → Begins (spell (in_row (map write_public xs)) rest)
publics_begin [] rest h = h
publics_begin (x ∷ xs) rest h =
    let start = public_start x (spell (in_row (map write_public xs)) rest) in
    record { token = start.token; more = start.more; is = spell_join (write_public x) (in_row (map write_public xs)) rest ∙ start.is; inside = declares start.opens }

-- ---- programs

-- what a program begins with behind its head is no head of a text
pub record Headless (w : List Token) : Type 0 where
  pub token : Token
  pub more : List Token
  pub is : w ≡ token ∷ more
  pub no_program : on_word word_.KwProgram token ≡ false
  pub no_unit : on_word word_.KwUnit token ≡ false
  pub no_module : on_word word_.KwModule token ≡ false

pub headless : (d : Dialect) (u : Option Uses) (rest : List Token) → Begins rest → Headless (spell (optional_uses d u) rest)
headless d None rest b = record { token = b.token; more = b.more; is = b.is; no_program = inside_other heads_program b.inside; no_unit = inside_other heads_unit b.inside; no_module = inside_other heads_module b.inside }
headless d (Some u) rest b = record { token = Word (uses_word d); more = _; is = refl; no_program = (uses_other d).0; no_unit = (uses_other d).1; no_module = (uses_other d).2 }

-- a program begins with no head of a unit or module
pub program_first : (d : Dialect) (x : Option Head) (u : Option Uses) (rest : List Token) → Begins rest → (y : Token) × (w : List Token) × (spell (optional_part (option_map write_head x)) (spell (optional_uses d u) rest) ≡ y ∷ w) × (on_word word_.KwUnit y ≡ false) × (on_word word_.KwModule y ≡ false)
unfolding same_word
program_first d (Some x) u rest b = (Word word_.KwProgram, _, refl, refl, refl)
program_first d None u rest b = let first = headless d u rest b in (first.token, first.more, first.is, first.no_unit, first.no_module)
