use Rattle.std.proofs.Common.{◌≡◌, length}
use Rattle.c_stepper.specs.Spots.{list_in, todo_of}
use Rattle.c_stepper.proofs.spot.Spot.settle.Given as goal

abbrev pub invariant-loop-list : goal.invariant-loop-list
invariant-loop-list l = record {
  list : l.list ≡ list_in l.body l.self.outer.items;
  same : todo_of l.body l.self ≡ todo_of l.fn.body l.fn.self;
}

abbrev pub decreases-loop-list : goal.decreases-loop-list
decreases-loop-list l = length l.self.outer.items
