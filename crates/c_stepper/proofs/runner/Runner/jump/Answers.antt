use Rattle.std.proofs.Common.{◌≡◌, ◌∙◌, sym, ap, Some, None}
use Rattle.std.specs.Option.{option_map}
use Rattle.c_meaning.specs.declared.StuckKind.TheVariants as k
use Rattle.c_meaning.specs.Answer.{or_bad, ◌>>=◌}
use Rattle.c_meaning.specs.States.{State}
use Rattle.c_meaning.specs.Steps.{do_statement, to_do, go_on, next}
use Rattle.label_ways.specs.Labels.{path_of}
use Rattle.label_ways.specs.Ways.{way_of}
use Rattle.c_stepper.specs.Spots.{todo_at}
use Rattle.c_stepper.specs.Runners.{state_of, body_at}
use Rattle.c_stepper.proofs.LabelPaths.{jump_to, jump_none, same_body}
use Rattle.c_stepper.proofs.runner.Runner.jump.Goals as goal

pub returns-in_ok-follow-in-Some-clause-act : goal.returns-in_ok-follow-in-Some-clause-act
unfolding do_statement go_on next or_bad ◌>>=◌ to_do
returns-in_ok-follow-in-Some-clause-act c = λ input output calls.
    let p = c.args.program.now in
    let old = c.args.self.now in
    let st : State = state_of p old input output calls in
    let body = body_at p old.frame in
    let l = c.args.label.now in
    let way = c.in-Some.way.now in
    let found : path_of l 0 body ≡ Some (way_of way) = ap (path_of l 0) (sym (same_body p old.frame.function)) ∙ sym (c.get.ensures p c.requires.guide.labels) ∙ ap (option_map (λ w. way_of w.now)) c.in-Some.is in
    let spot = c.follow.new.self in
    let there : todo_at body way.outer.items way.at ≡ todo_at body spot.outer.items spot.at = ap (λ o. todo_at body o way.at) (sym c.in_ok-follow-in-Some.ensures.0) ∙ ap (todo_at body spot.outer.items) (sym c.in_ok-follow-in-Some.ensures.1) in
    sym (ap (λ o. go_on st (or_bad k.UnknownName o)) (jump_to l body (way_of way) found ∙ ap Some there))

pub returns-in-None-clause-act : goal.returns-in-None-clause-act
unfolding do_statement go_on next or_bad ◌>>=◌ to_do
returns-in-None-clause-act c = λ input output calls.
    let p = c.args.program.now in
    let old = c.args.self.now in
    let st : State = state_of p old input output calls in
    let body = body_at p old.frame in
    let l = c.args.label.now in
    let none : path_of l 0 body ≡ None = ap (path_of l 0) (sym (same_body p old.frame.function)) ∙ sym (c.get.ensures p c.requires.guide.labels) ∙ ap (option_map (λ w. way_of w.now)) c.in-None.is in
    sym (ap (λ o. go_on st (or_bad k.UnknownName o)) (jump_none l body none))
