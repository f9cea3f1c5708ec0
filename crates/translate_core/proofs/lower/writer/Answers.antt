use Rattle.std.proofs.Common.{arith}
use Rattle.translate_core.proofs.WriterLemmas.{writer_is_tree, are_bytes, bytes_are_numbers}
use Rattle.translate_core.proofs.lower.writer.Goals as goal

pub returns-clause-tree : goal.returns-clause-tree
returns-clause-tree c =
    let small = bytes_are_numbers c.args.bytes.now (are_bytes c.args.bytes.now (λ i. omega (arith, c.type_inv.bytes i))) in
    rw (c.new.ensures, c.new-2.ensures, c.new-3.ensures, c.new-4.ensures, c.new-5.ensures, c.new-6.ensures, c.in_ok-push.ensures.ok, c.in_ok-body.ensures, c.return_of.ensures, c.number.ensures)
    (writer_is_tree c.args.bytes.now small)

pub returns-clause-bytes : goal.returns-clause-bytes
returns-clause-bytes c = are_bytes c.args.bytes.now (λ i. omega (arith, c.type_inv.bytes i))
