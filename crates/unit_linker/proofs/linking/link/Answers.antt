use Rattle.std.proofs.Common.{◌∙◌, List, sym, ap, subst, slice_get}
use Rattle.std.specs.List.{filter_map}
use Rattle.pascal_tree.specs.declared.files.SourceFile.{SourceFile}
use Rattle.unit_linker.specs.Graph.{Among}
use Rattle.unit_linker.specs.Files.{IsOneProgram}
use Rattle.unit_linker.specs.Slots.{IsOnce}
use Rattle.unit_linker.specs.Linked.{IsOrdered}
use Rattle.unit_linker.proofs.LinkLemmas.{ordered_once, program_apart, linked_is}
use Rattle.unit_linker.proofs.linking.link.Goals as goal

pub taken-requires-clause-once : goal.taken-requires-clause-once
taken-requires-clause-once c =
    subst IsOnce (sym c.as_slice.ensures.value) (ordered_once c.as_slice-given.result.now c.in-Ok.program c.in-Ok-unit_order.order.items c.in-Ok-unit_order.ensures.ordered)

pub taken-requires-clause-apart : goal.taken-requires-clause-apart
taken-requires-clause-apart c a =
    program_apart c.as_slice-given.result.now c.in-Ok.program c.in-Ok-unit_order.order.items c.in-Ok.ensures.program c.in-Ok-unit_order.ensures.ordered
    (subst (λ l. Among l c.in-Ok.program) c.as_slice.ensures.value a)

pub returns-in-Ok-taken-clause-linked : goal.returns-in-Ok-taken-clause-linked
returns-in-Ok-taken-clause-linked c =
    let files = c.args.files.items in
    linked_is files c.in-Ok.program c.in-Ok-unit_order.order.items c.in-Ok-taken.linked
    (subst (λ (l : List SourceFile). IsOneProgram l c.in-Ok.program) c.as_slice-given.ensures.value c.in-Ok.ensures.program)
    (subst (λ (l : List SourceFile). IsOrdered l c.in-Ok.program c.in-Ok-unit_order.order.items) c.as_slice-given.ensures.value c.in-Ok-unit_order.ensures.ordered)
    c.in-Ok-taken.ensures.program (c.in-Ok-taken.ensures.units ∙ ap (filter_map (slice_get files)) c.as_slice.ensures.value)
