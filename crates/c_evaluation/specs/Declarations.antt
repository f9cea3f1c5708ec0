-- What declarations say.
use Rattle.std.specs.Prelude.{List, Option, Some, None}
use Rattle.c_tree.specs.declared.program.CMember.{CMember}
use Rattle.c_tree.specs.declared.program.CDeclaration.{CDeclaration}
use Rattle.c_tree.specs.declared.program.CDeclaration.TheVariants as d
use Rattle.c_meaning.specs.Types.{Signature}
use Rattle.c_evaluation.specs.Types.{typedef_signature}

-- the members, where it declares a struct
abbrev pub members_in : CDeclaration → Option (List CMember)
members_in (d.Struct s) = Some s.members
members_in (d.Typedef f) = None

-- the signature, where it declares a typedef
abbrev pub typedef_in : CDeclaration → Option Signature
typedef_in (d.Struct s) = None
typedef_in (d.Typedef f) = Some (typedef_signature f)
