-- Temporaries make no difference.
use Rattle.meanings.proofs.Simulation.{same}
use Rattle.pascal_meaning.specs.Laws.{TemporariesAreUnseen}
use Rattle.pascal_meaning.proofs.Steps.{of_perform}
use Rattle.pascal_meaning.proofs.Trees.{of_value, of_exec}

pub temporaries_are_unseen : TemporariesAreUnseen
temporaries_are_unseen = (of_value same, of_exec same, of_perform same)
