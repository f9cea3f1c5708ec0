use Rattle.std.proofs.Common.{sym}
use Rattle.dialect_lexer.proofs.Cutting.{first_and_after}
use Rattle.expr_parser.proofs.Capped.{pushed}
use Rattle.expr_parser.proofs.texts.append.Goals as goal

pub loop-rest-preserved : goal.loop-rest-preserved
loop-rest-preserved c = pushed _ _ _ _ _ _ _ _ c.loop-rest.invariant (sym (first_and_after c.loop-rest.rest.now c.in-len1-up.len_at_least)) c.in_ok-complete.ensures c.next-reading.ensures
