use Rattle.std.proofs.Common.{◌≡◌, refl, sym, subst, arith}
use Rattle.c_tree.specs.Tree as m
use Rattle.c_tree.specs.Tree.{Statement, body_of}
use Rattle.c_evaluation.specs.Numbers.{variables_of}
use Rattle.c_stepper.specs.Codes.{Inner}
use Rattle.c_stepper.proofs.Noting.{row_of, body_more, next_node, all_noted, smaller, extends_twice}
use Rattle.c_stepper.proofs.resolved.note.+note.Goals as goal

pub note_branches-returns-in_ok-first-in-If-clause-inner : goal.note_branches-returns-in_ok-first-in-If-clause-inner
note_branches-returns-in_ok-first-in-If-clause-inner t c =
    let a = c.as_slice.result.now in
    let nodes = c.note_list.new.nodes.items in
    let st : c.args.statement.now ≡ m.If c.in-If.field-0 (body_of a) = cc in
    let p = c.args.names.now.program.now in
    let vars = variables_of c.args.names.now in
    let row = row_of p vars nodes c.in_ok-first-in-If.first a c.in_ok-first-in-If.ensures.noted in
    subst (Inner p vars nodes c.in_ok-first-in-If.first c.empty.result) (sym st) (row.0, row.1, c.empty.ensures)

pub note_branches-returns-in_ok-first-in-While-clause-inner : goal.note_branches-returns-in_ok-first-in-While-clause-inner
note_branches-returns-in_ok-first-in-While-clause-inner t c =
    let a = c.as_slice-in-While.result.now in
    let nodes = c.note_list-in-While.new.nodes.items in
    let st : c.args.statement.now ≡ m.While c.in-While.field-0 (body_of a) = cc in
    let p = c.args.names.now.program.now in
    let vars = variables_of c.args.names.now in
    let row = row_of p vars nodes c.in_ok-first-in-While.first a c.in_ok-first-in-While.ensures.noted in
    subst (Inner p vars nodes c.in_ok-first-in-While.first c.empty-in-While.result) (sym st) (row.0, row.1, c.empty-in-While.ensures)

pub note_branches-returns-in_ok-second-in-IfElse-clause-inner : goal.note_branches-returns-in_ok-second-in-IfElse-clause-inner
note_branches-returns-in_ok-second-in-IfElse-clause-inner t c =
    let a = c.as_slice-in-IfElse.result.now in
    let b = c.as_slice-in-IfElse-2.result.now in
    let one = c.note_list-in-IfElse.new.nodes.items in
    let two = c.note_list-in-IfElse-2.new.nodes.items in
    let st : c.args.statement.now ≡ m.IfElse c.in-IfElse.field-0 (body_of a) (body_of b) = cc in
    let p = c.args.names.now.program.now in
    let vars = variables_of c.args.names.now in
    let first = c.in_ok-first-in-IfElse.first in
    let second = c.in_ok-second-in-IfElse.second in
    let row = row_of p vars one first a c.in_ok-first-in-IfElse.ensures.noted in
    let other = row_of p vars two second b c.in_ok-second-in-IfElse.ensures.noted in
    subst (Inner p vars two first second) (sym st) (body_more p vars one two first.start (body_of a) c.in_ok-second-in-IfElse.ensures.extends row.0, row.1, other.0, other.1)

pub note_list-note_statement-requires : goal.note_list-note_statement-requires
note_list-note_statement-requires t c =
    (omega (arith, smaller c.args.list.now c.loop-first.rest.now c.in-Some.after.now c.loop-first.invariant.list.0 c.in-Some.first.now c.loop-first.invariant.list.1 c.in-Some.ensures.cases.0), tt)

pub note_list-loop-first-preserved : goal.note_list-loop-first-preserved
note_list-loop-first-preserved t c = record {
  list = next_node c.args.names.now.program.now (variables_of c.args.names.now) c.args.list.now c.loop-first.rest.now c.in-Some.after.now c.loop-first.nodes.items _ c.loop-first.own.items _ c.in-Some.first.now c.in_ok-note_statement.field-0
      c.loop-first.invariant.list c.in-Some.ensures.cases.0 c.in_ok-note_statement.ensures.extends c.in_ok-push.ensures.items c.in_ok-note_statement.ensures.node;
  extends = extends_twice c.args.nodes.now.items c.loop-first.nodes.items _ c.loop-first.invariant.extends c.in_ok-note_statement.ensures.extends;
}

pub note_list-returns-clause-noted : goal.note_list-returns-clause-noted
note_list-returns-clause-noted t c = (
  all_noted c.args.names.now.program.now (variables_of c.args.names.now) c.args.list.now c.loop-first.rest.now c.loop-first.nodes.items _ c.loop-first.own.items _ c.loop-first.invariant.list c.in_default.ensures.cases c.in_ok-append.ensures.items (omega (arith, c.len-start.ensures, c.loop-first.nodes.ok)),
  refl,
)
