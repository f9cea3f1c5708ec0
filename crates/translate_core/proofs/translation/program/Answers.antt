use Rattle.std.proofs.Common.{subst, ◌∙◌, ap}
use Rattle.std.specs.List.{AllByRecursion}
use Rattle.agreement.specs.Laws.{IsByte}
use Rattle.agreement.specs.Writers.{writer_of}
use Rattle.translate_core.specs.Accepted.{Write}
use Rattle.translate_core.proofs.Made.{made}
use Rattle.translate_core.proofs.translation.program.Goals as goal

pub returns-clause-ok : goal.returns-clause-ok
returns-clause-ok c =
    made c.args.dialect c.args.texts.now c.in_ok-bytes.bytes.items c.in_ok-writer.field-0
    (subst (λ t. Write c.args.dialect t c.in_ok-bytes.bytes.items) (c.as_slice.ensures.value ∙ c.texts.view_is) c.in_ok-bytes.ensures.ok)
    (subst (AllByRecursion IsByte) c.deref.ensures.value c.in_ok-writer.ensures.bytes)
    (c.in_ok-writer.ensures.value ∙ ap writer_of c.deref.ensures.value)
    c.in_ok-writer.ensures.tree
