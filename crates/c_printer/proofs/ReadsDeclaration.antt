-- Declarations and functions are printed as they are spelled.
use Rattle.std.proofs.Common.{ℕ, List, [], ◌∷◌, ◌++◌, Option, Some, None, refl, append_assoc, arith}
use Rattle.std.specs.Prelude.{codes}
use Rattle.std.specs.List.{AllByRecursion}
use Rattle.std.specs.Option.{IfSome}
use Rattle.c_tree.specs.Tree.{ObjectType, Statement, body_of}
use Rattle.c_tree.specs.declared.program.CVariable.{CVariable}
use Rattle.c_tree.specs.declared.program.CDeclaration.{CDeclaration}
use Rattle.c_tree.specs.declared.program.CDeclaration.TheVariants as declared
use Rattle.c_tree.specs.declared.program.CMain.{CMain}
use Rattle.c_grammar.specs.declared.token.Word.TheVariants as word
use Rattle.c_grammar.specs.Token.{Token, Identifier, is_name_byte}
use Rattle.c_grammar.specs.Spelling.{Spelling, spell_all, spell_or_void, spell_type, spell_result, spell_variable, spell_variable_line, spell_length, spell_member, spell_forward, spell_declaration, spell_parameters, spell_prototype, spell_block, spell_function, spell_main}
use Rattle.c_grammar.specs.Grammar.{IsName, IsNumber, IsObjectType, IsVariable, IsMember, IsDeclaration, IsPrototype, IsFunction, IsMain, IsBody}
use Rattle.c_grammar.proofs.Longest.{Stops}
use Rattle.c_printer.specs.Text.{type_text, all_text, list_text, variable_text, variable_line, length_text, member_line, forward_line, declaration_text, head_text, prototype_line, block_text, function_text, main_text}
use Rattle.c_printer.proofs.Numbers.{number}
use Rattle.c_printer.proofs.ReadsStatement.{ItemReads, listed_reads, margin_reads, line_reads, body_reads}
use Rattle.c_printer.proofs.ReadsToken.{Reads, space, newline, name, quoted, open_parenthesis, close, open_bracket, close_bracket, open_brace, close_brace, semicolon, star}
use Rattle.c_printer.proofs.ReadsType.{type_reads, typed_reads, result_reads}

-- each item is printed as it is spelled
pub record LineReads {A : Type 0} (Is : A → Type 0) (text : A → List ℕ) (spell : Spelling A) : Type 0 where
  pub reads : (a : A) (after : List ℕ) (tokens : List Token) → Is a → Reads after tokens → Reads (text a ++ after) (spell a tokens)

pub all_reads : {A : Type 0} {Is : A → Type 0} {text : A → List ℕ} {spell : Spelling A} → LineReads Is text spell → (all : List A) {after : List ℕ} {tokens : List Token}
    → AllByRecursion Is all → Reads after tokens → Reads (all_text text all ++ after) (spell_all spell all tokens)
all_reads item [] h r = r
all_reads item (a ∷ rest) h r = rw append_assoc (item.reads a _ _ h.0 (all_reads item rest h.1 r))

or_void_reads : {A : Type 0} {Is : A → Type 0} {text : A → List ℕ} {spell : Spelling A} → ItemReads Is text spell → (all : List A) {after : List ℕ} {tokens : List Token}
    → AllByRecursion Is all → Stops is_name_byte after → Reads after tokens → Reads (list_text text all ++ after) (spell_or_void spell all tokens)
or_void_reads item [] h s r = quoted word.Void s r
or_void_reads item (a ∷ rest) h s r = rw append_assoc (listed_reads item a rest h s r)

type_item : ItemReads IsObjectType type_text spell_type
type_item = record { reads = λ of after tokens. type_reads of }

-- ---- variables and members

variable_reads : ItemReads IsVariable variable_text spell_variable
variable_reads = record { reads = λ v after tokens h s r. simp append_assoc (typed_reads v.of h.1 (name v.name h.0 s r)) }

pub variable_line_reads : (k : ℕ) → LineReads IsVariable (variable_line k) spell_variable_line
variable_line_reads k = record { reads = λ v after tokens h r. simp append_assoc (margin_reads k (typed_reads v.of h.1 (name v.name h.0 refl (semicolon (newline r))))) }

stops_length : (length : Option ℕ) (after : List ℕ) → Stops is_name_byte after → Stops is_name_byte (length_text length ++ after)
stops_length None after s = s
stops_length (Some n) after s = refl

length_reads : (length : Option ℕ) {after : List ℕ} {tokens : List Token} → IfSome length IsNumber → Reads after tokens → Reads (length_text length ++ after) (spell_length length tokens)
length_reads None h r = r
length_reads (Some n) h r = simp append_assoc (open_bracket (number n (omega arith) refl (close_bracket r)))

member_reads : LineReads IsMember member_line spell_member
member_reads = record {
  reads = λ m after tokens h r. simp append_assoc
      (margin_reads 1 (typed_reads m.of h.1 (name m.name h.0 (stops_length m.length _ refl) (length_reads m.length h.2 (semicolon (newline r))))));
}

-- ---- declarations

pub forward_reads : LineReads IsName forward_line spell_forward
forward_reads = record { reads = λ n after tokens h r. simp append_assoc (quoted word.Struct refl (space (name n h refl (semicolon (newline r))))) }

declaration_read : (d : CDeclaration) {after : List ℕ} {tokens : List Token} → IsDeclaration d → Reads after tokens → Reads (declaration_text d ++ after) (spell_declaration d tokens)
declaration_read (declared.Typedef t) h r = simp append_assoc
    (quoted word.Typedef refl (space (result_reads t.result h.1 (open_parenthesis (star (name t.name h.0 refl (close (open_parenthesis
    (or_void_reads type_item t.parameters h.2 refl (close (semicolon (newline r))))))))))))
declaration_read (declared.Struct s) h r = rw (append_assoc, append_assoc)
    (line_reads 0 (codes "struct " ++ s.name ++ codes " {") _ (rw (append_assoc s.name) (quoted word.Struct refl (space (name s.name h.0 refl (space (open_brace (newline
    (all_reads member_reads s.members h.1 (close_brace (semicolon (newline r))))))))))))

pub declaration_reads : LineReads IsDeclaration declaration_text spell_declaration
declaration_reads = record { reads = λ d after tokens. declaration_read d }

head_reads : (returned : Option ObjectType) (called : List ℕ) (parameters : List CVariable) {after : List ℕ} {tokens : List Token}
    → IfSome returned IsObjectType → IsName called → AllByRecursion IsVariable parameters → Reads after tokens
    → Reads (head_text returned called parameters ++ after) (spell_result returned (Identifier called ∷ spell_parameters parameters tokens))
head_reads returned called parameters t n p r = simp append_assoc
    (result_reads returned t (name called n refl (open_parenthesis (or_void_reads variable_reads parameters p refl (close r)))))

pub prototype_reads : LineReads IsPrototype prototype_line spell_prototype
prototype_reads = record {
  reads = λ p after tokens h r.
      line_reads 0 (head_text p.result p.name p.parameters ++ codes ";") after (rw append_assoc (head_reads p.result p.name p.parameters h.1 h.0 h.2 (semicolon (newline r))));
}

-- ---- functions

-- the locals and statements of a function after its opening line
block_reads : (locals : List CVariable) (body : List Statement) {after : List ℕ} {tokens : List Token} → AllByRecursion IsVariable locals → IsBody (body_of body) → Reads after tokens
    → Reads (123 ∷ 10 ∷ (block_text locals body ++ after)) (spell_block locals body tokens)
block_reads locals body l b r = simp append_assoc
    (open_brace (newline (all_reads (variable_line_reads 1) locals l (body_reads 1 (body_of body) b (close_brace (newline r))))))

pub function_reads : LineReads IsFunction function_text spell_function
function_reads = record {
  reads = λ f after tokens h r.
      rw append_assoc (line_reads 0 (head_text f.result f.name f.parameters ++ codes " {") _ (rw append_assoc
      (head_reads f.result f.name f.parameters h.1 h.0 h.2 (space (block_reads f.locals f.body h.3 h.4 r)))));
}

pub main_reads : (m : CMain) {after : List ℕ} {tokens : List Token} → IsMain m → Reads after tokens → Reads (main_text m ++ after) (spell_main m tokens)
main_reads m h r =
    quoted word.Int refl (space (quoted word.Main refl (open_parenthesis (quoted word.Void refl (close (space (block_reads m.locals m.body h.0 h.1 r)))))))
