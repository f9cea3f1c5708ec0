use Rattle.std.proofs.Common.{◌∙◌, ap, ◌++◌, ◌∷◌, []}
use Rattle.c_cells.proofs.LastStructs.{grown}
use Rattle.c_cells.proofs.structs.StructPlaces.add.Goals as goal

pub returns : goal.returns
returns c = λ declared h.
    grown declared c.args.declaration.now c.args.self.now (record { latest = c.note.new.self.latest; earlier = c.push.new.self }) c.in_ok-before.before
    c.in_ok-before.ensures.before
    (c.in_ok-push.ensures.items ∙ ap (λ v. v.items ++ c.in_ok-before.before ∷ []) c.in_ok-before.ensures.earlier)
    h c.in_ok-before.ensures.latest
