use Rattle.std.proofs.Common.{◌≡◌, Some, None}
use Rattle.c_cells.proofs.LastStructs.{from_latest, found, found_none, within, step_back, fewer_left}
use Rattle.c_cells.proofs.structs.Declared.last_struct.Goals as goal

pub loop-place-init : goal.loop-place-init
loop-place-init c = let s = c.args.self.now in from_latest s.list.now s.structs.now s.fits c.args.name.now c.args.above c.last-place.result c.last-place.ensures

pub returns-then-found-above-clause-place : goal.returns-then-found-above-clause-place
returns-then-found-above-clause-place c =
    let s = c.args.self.now in
    let is : c.loop-place.place ≡ Some c.in-Some.found = cc in
    found s.list.now s.structs.now s.fits c.args.name.now c.args.above c.loop-place.place c.loop-place.invariant c.in-Some.found is c.if-found-above.true

pub returns-then-found-above-clause-within : goal.returns-then-found-above-clause-within
returns-then-found-above-clause-within c =
    let s = c.args.self.now in
    let is : c.loop-place.place ≡ Some c.in-Some.found = cc in
    (c.if-found-above.true, within s.list.now s.structs.now s.fits c.args.name.now c.args.above c.loop-place.place c.loop-place.invariant c.in-Some.found is)

pub loop-place-smaller : goal.loop-place-smaller
loop-place-smaller c =
    let s = c.args.self.now in
    let is : c.loop-place.place ≡ Some c.in-Some.found = cc in
    fewer_left s.list.now s.structs.now s.fits c.args.name.now c.args.above c.loop-place.place c.loop-place.invariant c.in-Some.found is c.before-place.result c.before-place.ensures

pub loop-place-preserved : goal.loop-place-preserved
loop-place-preserved c =
    let s = c.args.self.now in
    let is : c.loop-place.place ≡ Some c.in-Some.found = cc in
    step_back s.list.now s.structs.now s.fits c.args.name.now c.args.above c.loop-place.place c.loop-place.invariant c.in-Some.found is c.before-place.result c.if-found-above.false c.before-place.ensures

pub returns-clause-place : goal.returns-clause-place
returns-clause-place c =
    let s = c.args.self.now in
    let none : c.loop-place.place ≡ None = cc in
    found_none s.list.now s.structs.now s.fits c.args.name.now c.args.above c.loop-place.place c.loop-place.invariant none
