use Rattle.std.proofs.Common.{◌≤◌, ◌-◌, length, arith, length-take, ◌∙◌}
use Rattle.held_bytes.proofs.ToldLemmas.{Gains-piece}
use Rattle.held_bytes.proofs.writing.offer.Goals as goal

pub loop-at-preserved : goal.loop-at-preserved
loop-at-preserved g c =
    let within = simp length-take at c.in_ok-count.ensures.within in
    let in_piece : c.in_ok-count.count ≤ c.min.result = omega arith in
    let in_rest : c.in_ok-count.count ≤ length c.args.text.now - c.loop-at.at = omega arith in
    record {
      within = omega arith;
      written = Gains-piece _ _ _ c.loop-at.at _ _ c.in_ok-count.count _ in_piece in_rest c.loop-at.invariant.written c.in_ok-count.ensures.put;
      no_fault = c.in_ok-count.ensures.no_fault ∙ c.loop-at.invariant.no_fault;
    }
