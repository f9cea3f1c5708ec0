-- The form of a program that writes literal texts and nothing else, as a tree.
use Rattle.std.specs.Prelude.{◌≡◌, ℕ, Bool, true, false, ◌&&◌, ◌||◌, nat_lt, nat_le, if◌then◌else◌, List, [], ◌∷◌, length, codes, Option, Some, None, option_and_then, option_map}
use Rattle.std.specs.List.{AllByRecursion, AllZip}
use Rattle.std.specs.Str.{bytes_eq}
use Rattle.p2c_text.specs.declared.dialect.Dialect.{Dialect}
use Rattle.p2c_text.specs.declared.dialect.Dialect.TheVariants.{Iso, Turbo, Ucsd, Hp}
use Rattle.pascal_tree.specs.declared.names.Identifier.{Identifier}
use Rattle.pascal_tree.specs.declared.expressions.Arg.TheOpen as part
use Rattle.pascal_tree.specs.declared.expressions.Arg.TheOpen.{Arg-F, Factor-F}
use Rattle.pascal_tree.specs.declared.expressions.AddedTerm.{AddedTerm}
use Rattle.pascal_tree.specs.declared.expressions.Arg.{Arg, out-Arg}
use Rattle.pascal_tree.specs.declared.expressions.Args.{Args, out-Args}
use Rattle.pascal_tree.specs.declared.expressions.Elem.{Elem}
use Rattle.pascal_tree.specs.declared.expressions.Expr.{Expr, out-Expr}
use Rattle.pascal_tree.specs.declared.expressions.Factor.{Factor, out-Factor}
use Rattle.pascal_tree.specs.declared.expressions.MultipliedFactor.{MultipliedFactor}
use Rattle.pascal_tree.specs.declared.expressions.Place.{Place}
use Rattle.pascal_tree.specs.declared.expressions.Selector.{Selector}
use Rattle.pascal_tree.specs.declared.expressions.Simple.{Simple, out-Simple}
use Rattle.pascal_tree.specs.declared.expressions.Term.{Term, out-Term}
use Rattle.pascal_tree.specs.declared.statements.Arm.{Arm}
use Rattle.pascal_tree.specs.declared.statements.Plain.TheOpen as plain
use Rattle.pascal_tree.specs.declared.statements.Plain.TheOpen.{Plain-F}
use Rattle.pascal_tree.specs.declared.statements.Plain.{Plain, out-Plain}
use Rattle.pascal_tree.specs.declared.statements.Rest.{Rest}
use Rattle.pascal_tree.specs.declared.statements.Stmt.{Stmt, out-Stmt}
use Rattle.pascal_tree.specs.declared.declarations.Block.{out-Block}
use Rattle.pascal_tree.specs.declared.files.Head.{Head}
use Rattle.pascal_tree.specs.declared.files.Program.{Program}
use Rattle.pascal_tree.specs.declared.files.SourceFile.{SourceFile}
use Rattle.pascal_tree.specs.declared.files.SourceFile.TheVariants as text
use Rattle.agreement.specs.Writers.{Writing, Nothing, LineEnd, Text, Line}

-- what is found, where this is absent
abbrev pub without : {A B : Type 0} → Option A → Option B → Option B
without None found = found
without (Some a) found = None

-- what is found, where nothing follows
abbrev pub alone : {A B : Type 0} → List A → Option B → Option B
alone [] found = found
alone (a ∷ more) found = None

-- ---- texts

abbrev pub text_factor : Factor-F Arg Factor Selector AddedTerm Args Elem Expr MultipliedFactor Place Simple Term → Option (List ℕ)
text_factor (part.Text bytes span) = Some bytes
text_factor _ = None

unfoldable pub factor_text : Factor → Option (List ℕ)
factor_text f = text_factor (out-Factor f)

abbrev pub term_text : Term → Option (List ℕ)
term_text t = alone (out-Term t).rest (factor_text (out-Term t).first)

abbrev pub unsigned_text : Simple → Option (List ℕ)
unsigned_text s = alone (out-Simple s).rest (term_text (out-Simple s).first)

abbrev pub sum_text : Simple → Option (List ℕ)
sum_text s = without (out-Simple s).sign (unsigned_text s)

-- the text that is the whole expression, without an operator
abbrev pub expr_text : Expr → Option (List ℕ)
expr_text e = without (out-Expr e).right (sum_text (out-Expr e).left)

abbrev pub text_arg : Arg-F Arg Factor Selector AddedTerm Args Elem Expr MultipliedFactor Place Simple Term → Option (List ℕ)
text_arg (part.Value value width decimals span) = without width (without decimals (expr_text value))
text_arg (part.Program span) = None

-- the text that is the whole argument, without a width
unfoldable pub arg_text : Arg → Option (List ℕ)
arg_text a = text_arg (out-Arg a)

-- of one argument
abbrev pub one_text : List Arg → Option (List ℕ)
one_text [] = None
one_text (a ∷ more) = alone more (arg_text a)

abbrev pub has_empty_texts : Dialect → Bool
has_empty_texts Iso = false
has_empty_texts Turbo = true
has_empty_texts Ucsd = true
has_empty_texts Hp = true

-- a text has at most 4,194,304 bytes, and in Iso at least one
abbrev pub fits : Dialect → List ℕ → Bool
fits d bytes = nat_le (length bytes) 4194304 && (has_empty_texts d || nat_lt 0 (length bytes))

abbrev pub fitting : Dialect → List ℕ → Option (List ℕ)
fitting d bytes = if fits d bytes then Some bytes else None

-- "(" text ")"
abbrev pub given_text : Dialect → Args → Option (List ℕ)
given_text d args = option_and_then (fitting d) (one_text (out-Args args).list)

-- ---- statements

-- after `write`: "(" text ")"
abbrev pub write_writing : Dialect → Option Args → Option Writing
write_writing d None = None
write_writing d (Some args) = option_map Text (given_text d args)

-- after `writeln`: nothing, or "(" text ")"
abbrev pub writeln_writing : Dialect → Option Args → Option Writing
writeln_writing d None = Some LineEnd
writeln_writing d (Some args) = option_map Line (given_text d args)

abbrev pub call_writing : Dialect → Identifier → Option Args → Option Writing
call_writing d name args =
    if bytes_eq name.name (codes "writeln") then writeln_writing d args
    else if bytes_eq name.name (codes "write") then write_writing d args
    else None

-- nothing, or such a call
abbrev pub open_writing : Dialect → Plain-F Plain Arm Rest Stmt → Option Writing
open_writing d (plain.Nothing span) = Some Nothing
open_writing d (plain.Call name args span) = call_writing d name args
open_writing d _ = None

unfoldable pub plain_writing : Dialect → Plain → Option Writing
plain_writing d p = open_writing d (out-Plain p)

-- what a statement of the form writes; it has no label
abbrev pub writing_of : Dialect → Stmt → Option Writing
writing_of d s = without (out-Stmt s).label (plain_writing d (out-Stmt s).plain)

abbrev pub Writes : Dialect → Stmt → Writing → Type 0
Writes d s w = writing_of d s ≡ Some w

-- ---- programs

-- a parameter of the program: "input" | "output"
abbrev pub is_standard : Identifier → Bool
is_standard x = bytes_eq x.name (codes "input") || bytes_eq x.name (codes "output")

abbrev pub IsStandard : Identifier → Type 0
IsStandard x = is_standard x ≡ true

abbrev pub parameters_in : Option (List Identifier) → List Identifier
parameters_in None = []
parameters_in (Some names) = names

abbrev pub parameters_of : Option Head → List Identifier
parameters_of None = []
parameters_of (Some head) = parameters_in head.parameters

-- A program that uses no units and declares nothing. Its statements write these.
pub record IsWriterFile (d : Dialect) (file : SourceFile) (ws : List Writing) : Type 0 where
  pub program : Program
  pub is : file ≡ text.Program program
  pub parameters : AllByRecursion IsStandard (parameters_of program.head)
  pub no_uses : program.uses ≡ None
  pub no_declarations : (out-Block program.block).declarations ≡ []
  pub statements : AllZip (Writes d) (out-Block program.block).body ws
