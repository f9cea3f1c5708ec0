-- Trees by cases.
use Rattle.std.proofs.Common.{◌≡◌, sym, subst}
use Rattle.pascal_tree.specs.declared.names.Identifier.{Identifier}
use Rattle.pascal_tree.specs.declared.declarations.LabelPart.{LabelPart}
use Rattle.pascal_tree.specs.declared.declarations.ConstPart.{ConstPart}
use Rattle.pascal_tree.specs.declared.declarations.TypePart.{TypePart}
use Rattle.pascal_tree.specs.declared.declarations.VarPart.{VarPart}
use Rattle.pascal_tree.specs.declared.declarations.Declaration.TheOpen as part
use Rattle.pascal_tree.specs.declared.declarations.Declaration.TheOpen.{Declaration-F, RoutineBody-F}
use Rattle.pascal_tree.specs.declared.declarations.Declaration.{Declaration, out-Declaration, roll-Declaration, roll-out-Declaration}
use Rattle.pascal_tree.specs.declared.declarations.Declaration.TheVariants as declaration_
use Rattle.pascal_tree.specs.declared.declarations.RoutineBody.{RoutineBody, out-RoutineBody, roll-RoutineBody, roll-out-RoutineBody}
use Rattle.pascal_tree.specs.declared.declarations.RoutineBody.TheVariants as body
use Rattle.pascal_tree.specs.declared.declarations.Block.{Block, out-Block, roll-out-Block}
use Rattle.pascal_tree.specs.declared.declarations.Routine.{Routine, out-Routine, roll-out-Routine}
use Rattle.unit_parser.specs.Blocks.{block_of, routine_of}

pub block_is : (x : Block) → x ≡ block_of (out-Block x).declarations (out-Block x).body (out-Block x).span
block_is x = sym (roll-out-Block x)

pub routine_is : (x : Routine) → x ≡ routine_of (out-Routine x).heading (out-Routine x).body (out-Routine x).span
routine_is x = sym (roll-out-Routine x)

module _ (P : Declaration → Type 0) where
  pub record DeclarationCases : Type 0 where
    pub labels : (p : LabelPart) → P (declaration_.Labels p)
    pub constants : (p : ConstPart) → P (declaration_.Constants p)
    pub types : (p : TypePart) → P (declaration_.Types p)
    pub variables : (p : VarPart) → P (declaration_.Variables p)
    pub routine : (r : Routine) → P (declaration_.Routine r)

  rolled_declaration : DeclarationCases → (x : Declaration-F Declaration RoutineBody Block Routine) → P (roll-Declaration x)
  rolled_declaration c (part.Labels p) = subst P (sym (declaration_.rolls-Labels p)) (c.labels p)
  rolled_declaration c (part.Constants p) = subst P (sym (declaration_.rolls-Constants p)) (c.constants p)
  rolled_declaration c (part.Types p) = subst P (sym (declaration_.rolls-Types p)) (c.types p)
  rolled_declaration c (part.Variables p) = subst P (sym (declaration_.rolls-Variables p)) (c.variables p)
  rolled_declaration c (part.Routine r) = subst P (sym (declaration_.rolls-Routine r)) (c.routine r)

  pub declaration_cases : DeclarationCases → (x : Declaration) → P x
  declaration_cases c x = subst P (roll-out-Declaration x) (rolled_declaration c (out-Declaration x))

module _ (P : RoutineBody → Type 0) where
  pub record RoutineBodyCases : Type 0 where
    pub block : (b : Block) → P (body.Block b)
    pub directive : (n : Identifier) → P (body.Directive n)

  rolled_body : RoutineBodyCases → (x : RoutineBody-F Declaration RoutineBody Block Routine) → P (roll-RoutineBody x)
  rolled_body c (part.Block b) = subst P (sym (body.rolls-Block b)) (c.block b)
  rolled_body c (part.Directive n) = subst P (sym (body.rolls-Directive n)) (c.directive n)

  pub body_cases : RoutineBodyCases → (x : RoutineBody) → P x
  body_cases c x = subst P (roll-out-RoutineBody x) (rolled_body c (out-RoutineBody x))
