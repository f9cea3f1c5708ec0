use Rattle.std.proofs.Common.{◌≡◌, ◌∙◌, ◌∷◌, [], sym, ap, subst, List}
use Rattle.std.specs.Option.{option_map}
use Rattle.c_meaning.specs.Answer.{Got}
use Rattle.c_cells.specs.Halts.{Refuses}
use Rattle.c_meaning.specs.Cells.{Blocks}
use Rattle.c_meaning.specs.States as s
use Rattle.c_meaning.specs.States.{State, without}
use Rattle.c_meaning.specs.Steps.{Onward, answered, leave_to}
use Rattle.c_stepper.specs.declared.runner.Runner.{Runner}
use Rattle.c_stepper.specs.Runners.{state_of, frame_of, frames_of}
use Rattle.c_stepper.specs.Leaving.{given_of, stored_in}
use Rattle.c_stepper.proofs.Acting.{refused}
use Rattle.c_stepper.proofs.Leaving.{stops_answer, leaves, leaves_stuck}
use Rattle.c_stepper.proofs.runner.Runner.leave_to.Goals as goal

pub returns-in_err-store-clause-act : goal.returns-in_err-store-clause-act
returns-in_err-store-clause-act c = λ input output calls.
    let p = c.args.program.now in
    let old = c.args.self.now in
    let st : State = state_of p old input output calls in
    let below = frames_of p old.below.items [] in
    let g = frame_of p c.args.frame in
    let answer = option_map given_of c.args.answer.now in
    let blocks = without st.frame.names st.blocks in
    stops_answer blocks p old input output calls c.in_err-store.field-0.0 c.from_residual.result (answered p.declarations blocks st.frame.target answer) (leave_to p st (g ∷ below) answer) c.from_residual.ensures.1 (c.in_err-store.ensures blocks) (λ kind h. leaves_stuck p st g below answer kind h)

pub returns-in_err-put_answer-clause-act : goal.returns-in_err-put_answer-clause-act
returns-in_err-put_answer-clause-act c = λ input output calls.
    let p = c.args.program.now in
    let old = c.args.self.now in
    let st : State = state_of p old input output calls in
    let below = frames_of p old.below.items [] in
    let g = frame_of p c.args.frame in
    let answer = option_map given_of c.args.answer.now in
    let blocks = without st.frame.names st.blocks in
    let e = c.in_err-put_answer.field-0.0 in
    let memory : c.forget_frame.new.self.memory ≡ blocks = ap (λ (it : Runner). it.memory) c.forget_frame.ensures in
    let a = answered p.declarations blocks st.frame.target answer in
    let same = ap (λ (m : Blocks). stored_in m c.in_ok-store.store) memory ∙ c.in_ok-store.ensures blocks in
    refused p (record c.forget_frame.new.self { memory = c.put_answer.new.memory }) input output calls e c.from_residual-in_err-put_answer.result a (leave_to p st (g ∷ below) answer) c.from_residual-in_err-put_answer.ensures.1 (subst (Refuses e) same c.in_err-put_answer.ensures.refused) (λ kind h. leaves_stuck p st g below answer kind h)

pub returns-clause-act : goal.returns-clause-act
returns-clause-act c = λ input output calls.
    let p = c.args.program.now in
    let old = c.args.self.now in
    let st : State = state_of p old input output calls in
    let below = frames_of p old.below.items [] in
    let g = frame_of p c.args.frame in
    let answer = option_map given_of c.args.answer.now in
    let blocks = without st.frame.names st.blocks in
    let memory : c.forget_frame.new.self.memory ≡ blocks = ap (λ (it : Runner). it.memory) c.forget_frame.ensures in
    let good : answered p.declarations blocks st.frame.target answer ≡ Got c.put_answer.new.memory = sym (c.in_ok-store.ensures blocks) ∙ ap (λ (m : Blocks). stored_in m c.in_ok-store.store) (sym memory) ∙ c.in_ok-put_answer.ensures.stored in
    let same : frames_of p c.forget_frame.new.self.below.items [] ≡ below = ap (λ (it : Runner). frames_of p it.below.items []) c.forget_frame.ensures in
    ap (λ (fs : List s.Frame). Onward (record st { frame = g; below = fs; blocks = c.put_answer.new.memory })) same ∙ sym (leaves p st g below answer c.put_answer.new.memory good)
