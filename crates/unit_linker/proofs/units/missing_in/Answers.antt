use Rattle.std.proofs.Common.{◌∙◌, sym}
use Rattle.unit_linker.proofs.FileLemmas.{missing_here, missing_later, missing_nowhere}
use Rattle.unit_linker.proofs.units.missing_in.Goals as goal

pub returns-in-None : goal.returns-in-None
returns-in-None c = missing_here _ c.in-Some.first.now _ _ _ c.in-Some.ensures.cases.0 (sym c.place_of.ensures ∙ c.in-None.is) c.loop-first.invariant

pub loop-first-preserved : goal.loop-first-preserved
loop-first-preserved c = missing_later _ c.in-Some.first.now _ _ _ _ c.in-Some.ensures.cases.0 (sym c.place_of.ensures ∙ c.in-Some-place_of.is) c.loop-first.invariant

pub returns : goal.returns
returns c = missing_nowhere _ _ _ c.in_default.ensures.cases c.loop-first.invariant
