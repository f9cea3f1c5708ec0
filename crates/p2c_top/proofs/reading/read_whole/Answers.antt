use Rattle.std.proofs.Common.{◌≡◌, Option, arith, refl, ◌∙◌, length, length-take, take, drop, subst}
use Rattle.p2c_outside.specs.Told.{Named, WhereTold}
use Rattle.p2c_top.proofs.FrontLemmas.{IsFront-nil, IsFront-append}
use Rattle.p2c_top.proofs.reading.read_whole.Goals as goal

pub loop-count-init : goal.loop-count-init
loop-count-init g c = record {
  bounded = omega arith;
  front = rw c.new-bytes.ensures.items (IsFront-nil (g.F.Files.told c.args.files.now) c.args.name.now);
  same = refl;
  none_missing = refl;
  no_fault = refl;
}

pub loop-count-preserved : goal.loop-count-preserved
loop-count-preserved g c =
    let longer = simp length-take at c.in-Ok-extend_from_slice.ensures.len in
    let P : Option Named → Type 0 = λ t. WhereTold t c.args.name.now (λ b. take c.in-Ok.count c.read.new.into ≡ take c.in-Ok.count (drop (length c.loop-count.bytes.items) b)) in
    let given : P (g.F.Files.told c.args.files.now) = subst P c.loop-count.invariant.same (rw (c.len.ensures ∙ c.loop-count.bytes.ok.0) at c.in-Ok.ensures.given) in
    let front = IsFront-append (g.F.Files.told c.args.files.now) c.args.name.now c.loop-count.bytes.items c.read.new.into c.in-Ok.count c.in-Ok.ensures.within c.loop-count.invariant.front given in
    let items = c.in-Ok-extend_from_slice.ensures.items in
    record {
      bounded = omega arith;
      front = rw items front;
      same = c.in-Ok.ensures.same ∙ c.loop-count.invariant.same;
      none_missing = c.in-Ok.ensures.none_missing ∙ c.loop-count.invariant.none_missing;
      no_fault = c.in-Ok.ensures.no_fault ∙ c.loop-count.invariant.no_fault;
    }
