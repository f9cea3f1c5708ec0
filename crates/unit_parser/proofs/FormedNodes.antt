-- Which nodes of a block are formed as the grammar asks, by their parts as programs see them.
use Rattle.std.proofs.Common.{◌≡◌, Bool, true, ◌&&◌, List, map, sym, ap, ◌∙◌}
use Rattle.p2c_text.specs.declared.dialect.Dialect.{Dialect}
use Rattle.p2c_text.specs.declared.place.Span.{Span}
use Rattle.pascal_tree.specs.declared.names.Identifier.{Identifier}
use Rattle.pascal_tree.specs.declared.statements.Stmt.{Stmt}
use Rattle.pascal_tree.specs.declared.declarations.LabelPart.{LabelPart}
use Rattle.pascal_tree.specs.declared.declarations.ConstPart.{ConstPart}
use Rattle.pascal_tree.specs.declared.declarations.TypePart.{TypePart}
use Rattle.pascal_tree.specs.declared.declarations.VarPart.{VarPart}
use Rattle.pascal_tree.specs.declared.declarations.Heading.{Heading}
use Rattle.pascal_tree.specs.declared.declarations.Declaration.TheOpen as part
use Rattle.pascal_tree.specs.declared.declarations.Declaration.{Declaration, fold-roll-Declaration}
use Rattle.pascal_tree.specs.declared.declarations.Declaration.TheVariants as declaration_
use Rattle.pascal_tree.specs.declared.declarations.RoutineBody.{RoutineBody, fold-roll-RoutineBody}
use Rattle.pascal_tree.specs.declared.declarations.RoutineBody.TheVariants as body
use Rattle.pascal_tree.specs.declared.declarations.Block.{Block, fold-roll-Block}
use Rattle.pascal_tree.specs.declared.declarations.Routine.{Routine, fold-roll-Routine}
use Rattle.unit_parser.specs.Blocks.{block_of, routine_of}
use Rattle.unit_parser.specs.Grammar.{Judged, judged, place_of_routines, of_declaration, of_body, of_block, of_routine, formed_labels, formed_constants, formed_types, formed_variables, formed_heading, formed_stmts, formed_declarations, judged_declaration, formed_body, formed_block, formed_routine}

pub judged_declaration_labels : (d : Dialect) (p : LabelPart) → judged_declaration d (declaration_.Labels p) ≡ judged (formed_labels d p) 0
unfolding judged_declaration formed_body formed_block formed_routine
judged_declaration_labels d p = ap (λ x. judged_declaration d x) (sym (declaration_.rolls-Labels p)) ∙ fold-roll-Declaration Judged Bool Bool Bool (of_declaration d) of_body (of_block d) of_routine (part.Labels p)

pub judged_declaration_constants : (d : Dialect) (p : ConstPart) → judged_declaration d (declaration_.Constants p) ≡ judged (formed_constants d p) 1
unfolding judged_declaration formed_body formed_block formed_routine
judged_declaration_constants d p = ap (λ x. judged_declaration d x) (sym (declaration_.rolls-Constants p)) ∙ fold-roll-Declaration Judged Bool Bool Bool (of_declaration d) of_body (of_block d) of_routine (part.Constants p)

pub judged_declaration_types : (d : Dialect) (p : TypePart) → judged_declaration d (declaration_.Types p) ≡ judged (formed_types d p) 2
unfolding judged_declaration formed_body formed_block formed_routine
judged_declaration_types d p = ap (λ x. judged_declaration d x) (sym (declaration_.rolls-Types p)) ∙ fold-roll-Declaration Judged Bool Bool Bool (of_declaration d) of_body (of_block d) of_routine (part.Types p)

pub judged_declaration_variables : (d : Dialect) (p : VarPart) → judged_declaration d (declaration_.Variables p) ≡ judged (formed_variables d p) 3
unfolding judged_declaration formed_body formed_block formed_routine
judged_declaration_variables d p = ap (λ x. judged_declaration d x) (sym (declaration_.rolls-Variables p)) ∙ fold-roll-Declaration Judged Bool Bool Bool (of_declaration d) of_body (of_block d) of_routine (part.Variables p)

pub judged_declaration_routine : (d : Dialect) (r : Routine) → judged_declaration d (declaration_.Routine r) ≡ judged (formed_routine d r) place_of_routines
unfolding judged_declaration formed_body formed_block formed_routine
judged_declaration_routine d r = ap (λ x. judged_declaration d x) (sym (declaration_.rolls-Routine r)) ∙ fold-roll-Declaration Judged Bool Bool Bool (of_declaration d) of_body (of_block d) of_routine (part.Routine r)

pub formed_body_block : (d : Dialect) (b : Block) → formed_body d (body.Block b) ≡ formed_block d b
unfolding judged_declaration formed_body formed_block formed_routine
formed_body_block d b = ap (λ x. formed_body d x) (sym (body.rolls-Block b)) ∙ fold-roll-RoutineBody Judged Bool Bool Bool (of_declaration d) of_body (of_block d) of_routine (part.Block b)

pub formed_body_directive : (d : Dialect) (n : Identifier) → formed_body d (body.Directive n) ≡ true
unfolding judged_declaration formed_body formed_block formed_routine
formed_body_directive d n = ap (λ x. formed_body d x) (sym (body.rolls-Directive n)) ∙ fold-roll-RoutineBody Judged Bool Bool Bool (of_declaration d) of_body (of_block d) of_routine (part.Directive n)

pub formed_block_of : (d : Dialect) (all : List Declaration) (statements : List Stmt) (span : Span) → formed_block d (block_of all statements span) ≡ (formed_declarations d (map (judged_declaration d) all) && formed_stmts d statements)
unfolding judged_declaration formed_body formed_block formed_routine
formed_block_of d all statements span = fold-roll-Block Judged Bool Bool Bool (of_declaration d) of_body (of_block d) of_routine (record { declarations = all; body = statements; span = span })

pub formed_routine_of : (d : Dialect) (h : Heading) (b : RoutineBody) (span : Span) → formed_routine d (routine_of h b span) ≡ (formed_heading h && formed_body d b)
unfolding judged_declaration formed_body formed_block formed_routine
formed_routine_of d h b span = fold-roll-Routine Judged Bool Bool Bool (of_declaration d) of_body (of_block d) of_routine (record { heading = h; body = b; span = span })
