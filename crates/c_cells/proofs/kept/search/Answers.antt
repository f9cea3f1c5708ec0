use Rattle.std.proofs.Common.{rules}
use Rattle.std.proofs.lemmas.List.Sorted.{answers_always}
use Rattle.c_cells.proofs.Spread.{searched}
use Rattle.c_cells.proofs.kept.search.Goals as goal

-- the closure gives a number
pub returns : goal.returns
returns c =
    let facts = c.binary_search_by_key.ensures in
    let by_key = facts.position (λ one. one.number) (answers_always _ _ _ (λ f a r g called. search rules)) in
    searched _ c.args.made c.requires c.args.number _ facts.bound by_key
