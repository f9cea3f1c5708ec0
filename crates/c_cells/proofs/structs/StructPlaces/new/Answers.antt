use Rattle.std.proofs.Common.{◌∙◌, ◌++◌, ◌∷◌, [], List, take, ap, sym, subst}
use Rattle.std.proofs.lemmas.List.{take_all, take_more}
use Rattle.c_tree.specs.declared.program.CDeclaration.{CDeclaration}
use Rattle.c_cells.specs.Structs.{HoldsStructs}
use Rattle.c_cells.proofs.structs.StructPlaces.new.Goals as goal

pub loop-declaration-init : goal.loop-declaration-init
loop-declaration-init c = c.empty-places.ensures

pub loop-declaration-preserved : goal.loop-declaration-preserved
loop-declaration-preserved c =
    let all = c.args.declared.now in
    let at = c.loop-declaration.declaration-index in
    let one = c.declaration-item.result in
    subst (λ (ds : List CDeclaration). HoldsStructs ds c.add.new.self) (ap (λ (x : CDeclaration). take at all ++ x ∷ []) c.declaration-item.is ∙ sym (take_more all at one c.loop-declaration-test.true))
    (c.in_ok-add.ensures (take at all) c.loop-declaration.invariant)

pub returns : goal.returns
returns c = subst (λ (ds : List CDeclaration). HoldsStructs ds c.loop-declaration.places) (take_all c.loop-declaration.declaration-index c.args.declared.now c.loop-declaration-test.false) c.loop-declaration.invariant
