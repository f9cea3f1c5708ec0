use Rattle.std.proofs.Common.{◌≡◌, ◌<◌, length, arith, rules, ap, sym, ◌∙◌}
use Rattle.std.proofs.lemmas.Grind.{common_steps}
use Rattle.c_grammar.specs.Seen.{tokens_of}
use Rattle.c_parser.specs.Statements as spec
use Rattle.c_parser.proofs.Groups.{group_opens, group_ends, group_closes, group_goes_on, group_over, behind_shorter}
use Rattle.c_parser.proofs.statements.after_group.Goals as goal
use Rattle.c_parser.proofs.statements.after_group.Goals.{then-is, else-is+then-is-2+else-opened-eq0, else-is+else-is-2}

pub returns-then-opened-eq0 : goal.returns-then-opened-eq0
returns-then-opened-eq0 c =
    let e = group_ends (tokens_of c.loop-opened.rest.now) (sym c.is.ensures ∙ c.if-is.false) (sym c.is-else-is.ensures ∙ c.if-is-2.true) in
    let none = ap (λ n. spec.after_group n (tokens_of c.loop-opened.rest.now)) c.if-opened-eq0.true in
    c.after.ensures ∙ sym e ∙ sym none ∙ sym c.loop-opened.invariant.0

pub loop-opened-preserved : goal.loop-opened-preserved
loop-opened-preserved c =
    let some : 0 < length c.loop-opened.rest.now = first_of (search rules, grind (arith, common_steps)) in
    let less = behind_shorter c.loop-opened.rest.now c.after-rest.result.now c.after-rest.ensures some in
    elim c.if-is.branch [
      | then-is w ↦
          let e = group_opens c.loop-opened.opened (tokens_of c.loop-opened.rest.now) (sym c.is.ensures ∙ w.if-is.true) in
          (cc (e, w.opened-is, c.after-rest.ensures), omega (arith, less, w.opened-is))
      | else-is+then-is-2+else-opened-eq0 w ↦
          let left : 0 < c.loop-opened.opened = omega (arith, w.if-opened-eq0.false) in
          let e = group_closes c.loop-opened.opened (tokens_of c.loop-opened.rest.now) (sym c.is.ensures ∙ w.if-is.false) (sym w.is-else-is.ensures ∙ w.if-is-2.true) left in
          (cc (e, w.opened-is, c.after-rest.ensures), omega (arith, less, w.opened-is))
      | else-is+else-is-2 w ↦
          let e = group_goes_on c.loop-opened.opened (tokens_of c.loop-opened.rest.now) (sym c.is.ensures ∙ w.if-is.false) (sym w.is-else-is.ensures ∙ w.if-is-2.false) in
          (cc (e, w.opened-is, c.after-rest.ensures), omega (arith, less, w.opened-is))
    ]

pub returns : goal.returns
returns c =
    let none : length c.loop-opened.rest.now ≡ 0 = first_of (search rules, grind (arith, common_steps)) in
    group_over c.loop-opened.opened c.loop-opened.rest.now none ∙ sym c.loop-opened.invariant.0
