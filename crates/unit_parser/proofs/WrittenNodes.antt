-- How each node of a block is written, by its parts as programs see them.
use Rattle.std.proofs.Common.{◌≡◌, List, map, sym, ap, ◌∙◌}
use Rattle.p2c_text.specs.declared.dialect.Dialect.{Dialect}
use Rattle.p2c_text.specs.declared.place.Span.{Span}
use Rattle.pascal_tree.specs.declared.names.Identifier.{Identifier}
use Rattle.pascal_tree.specs.declared.statements.Stmt.{Stmt}
use Rattle.pascal_tree.specs.declared.declarations.LabelPart.{LabelPart}
use Rattle.pascal_tree.specs.declared.declarations.ConstPart.{ConstPart}
use Rattle.pascal_tree.specs.declared.declarations.TypePart.{TypePart}
use Rattle.pascal_tree.specs.declared.declarations.VarPart.{VarPart}
use Rattle.pascal_tree.specs.declared.declarations.Heading.{Heading}
use Rattle.pascal_tree.specs.declared.declarations.Declaration.TheOpen as part
use Rattle.pascal_tree.specs.declared.declarations.Declaration.{Declaration, fold-roll-Declaration}
use Rattle.pascal_tree.specs.declared.declarations.Declaration.TheVariants as declaration_
use Rattle.pascal_tree.specs.declared.declarations.RoutineBody.{RoutineBody, fold-roll-RoutineBody}
use Rattle.pascal_tree.specs.declared.declarations.RoutineBody.TheVariants as body
use Rattle.pascal_tree.specs.declared.declarations.Block.{Block, fold-roll-Block}
use Rattle.pascal_tree.specs.declared.declarations.Routine.{Routine, fold-roll-Routine}
use Rattle.unit_parser.specs.Blocks.{block_of, routine_of}
use Rattle.dialect_lexer.specs.declared.token.Word.TheVariants as word_
use Rattle.dialect_lexer.specs.declared.token.Symbol.TheVariants as mark
use Rattle.expr_parser.specs.Layout.{Layout, ◌&◌, word, symbol, spanned, counted, in_row}
use Rattle.expr_parser.specs.Writing.{identifier}
use Rattle.unit_parser.specs.Writing.{of_declaration, of_body, of_block, of_routine, write_labels, write_constants, write_types, write_variables, write_heading, write_stmts, write_declaration, write_body, write_block, write_routine}

pub write_declaration_labels : (d : Dialect) (p : LabelPart) → write_declaration d (declaration_.Labels p) ≡ write_labels p
unfolding write_declaration write_body write_block write_routine
write_declaration_labels d p = ap (λ x. write_declaration d x) (sym (declaration_.rolls-Labels p)) ∙ fold-roll-Declaration Layout Layout Layout Layout of_declaration of_body (of_block d) of_routine (part.Labels p)

pub write_declaration_constants : (d : Dialect) (p : ConstPart) → write_declaration d (declaration_.Constants p) ≡ write_constants p
unfolding write_declaration write_body write_block write_routine
write_declaration_constants d p = ap (λ x. write_declaration d x) (sym (declaration_.rolls-Constants p)) ∙ fold-roll-Declaration Layout Layout Layout Layout of_declaration of_body (of_block d) of_routine (part.Constants p)

pub write_declaration_types : (d : Dialect) (p : TypePart) → write_declaration d (declaration_.Types p) ≡ write_types p
unfolding write_declaration write_body write_block write_routine
write_declaration_types d p = ap (λ x. write_declaration d x) (sym (declaration_.rolls-Types p)) ∙ fold-roll-Declaration Layout Layout Layout Layout of_declaration of_body (of_block d) of_routine (part.Types p)

pub write_declaration_variables : (d : Dialect) (p : VarPart) → write_declaration d (declaration_.Variables p) ≡ write_variables p
unfolding write_declaration write_body write_block write_routine
write_declaration_variables d p = ap (λ x. write_declaration d x) (sym (declaration_.rolls-Variables p)) ∙ fold-roll-Declaration Layout Layout Layout Layout of_declaration of_body (of_block d) of_routine (part.Variables p)

pub write_declaration_routine : (d : Dialect) (r : Routine) → write_declaration d (declaration_.Routine r) ≡ write_routine d r
unfolding write_declaration write_body write_block write_routine
write_declaration_routine d r = ap (λ x. write_declaration d x) (sym (declaration_.rolls-Routine r)) ∙ fold-roll-Declaration Layout Layout Layout Layout of_declaration of_body (of_block d) of_routine (part.Routine r)

pub write_body_block : (d : Dialect) (b : Block) → write_body d (body.Block b) ≡ write_block d b
unfolding write_declaration write_body write_block write_routine
write_body_block d b = ap (λ x. write_body d x) (sym (body.rolls-Block b)) ∙ fold-roll-RoutineBody Layout Layout Layout Layout of_declaration of_body (of_block d) of_routine (part.Block b)

pub write_body_directive : (d : Dialect) (n : Identifier) → write_body d (body.Directive n) ≡ identifier n
unfolding write_declaration write_body write_block write_routine
write_body_directive d n = ap (λ x. write_body d x) (sym (body.rolls-Directive n)) ∙ fold-roll-RoutineBody Layout Layout Layout Layout of_declaration of_body (of_block d) of_routine (part.Directive n)

pub write_block_of : (d : Dialect) (all : List Declaration) (statements : List Stmt) (span : Span) → write_block d (block_of all statements span) ≡ counted (spanned span (in_row (map (write_declaration d) all) & word word_.KwBegin & write_stmts d statements & word word_.KwEnd))
unfolding write_declaration write_body write_block write_routine
write_block_of d all statements span = fold-roll-Block Layout Layout Layout Layout of_declaration of_body (of_block d) of_routine (record { declarations = all; body = statements; span = span })

pub write_routine_of : (d : Dialect) (h : Heading) (b : RoutineBody) (span : Span) → write_routine d (routine_of h b span) ≡ spanned span (write_heading h & symbol mark.Semicolon & write_body d b & symbol mark.Semicolon)
unfolding write_declaration write_body write_block write_routine
write_routine_of d h b span = fold-roll-Routine Layout Layout Layout Layout of_declaration of_body (of_block d) of_routine (record { heading = h; body = b; span = span })
