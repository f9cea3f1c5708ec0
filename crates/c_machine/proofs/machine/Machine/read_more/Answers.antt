use Rattle.std.proofs.Common.{◌≡◌, ◌≤◌, ◌++◌, ◌∙◌, [], refl, sym, subst, Some, inr, List, ℕ, Bool, true, false, Result, length}
use Rattle.c_meaning.specs.Steps.{CStep}
use Rattle.c_cells.specs.declared.halt.Halt.{Halt}
use Rattle.held_bytes.proofs.ToldLemmas.{Gains-append}
use Rattle.held_bytes.specs.Held.{bytes_in}
use Rattle.c_stepper.specs.Runners.{state_of, AsksForByte, Seeks}
use Rattle.c_machine.specs.Machines.{stood, Steps}
use Rattle.c_machine.proofs.Machining.{gained, sought_in_vain, put_before, takes_none}
use Rattle.c_machine.proofs.machine.Machine.read_more.Goals as goal

-- no place was found
pub returns-in-Err-clause-takes : goal.returns-in-Err-clause-takes
returns-in-Err-clause-takes g c =
    let p = c.args.program.now in
    let old = c.args.self.now in
    takes_none p old c.halt.new.self (g.I.Source.left c.args.input.now) (g.O.Sink.written c.args.out.now) (g.O.Sink.written c.halt.new.out) c.halt.result
    (λ rest output calls over count.
    let input = bytes_in old.input ++ rest in
    let vain = subst (λ (r : Result (Unit {0}) Halt). Seeks p (state_of p old.runner input output calls) r) c.in-Err.is (c.seek.ensures input output calls) in
    c.halt.ensures.step p old.runner (Some rest) input output calls (CStep p (stood p old rest output calls)) (sought_in_vain p old.runner input output calls c.in-Err.halt vain))
    (λ h. absurd (let k : ◌≡◌ {A = Bool} true false = sym h ∙ c.requires.dry.going in cc))
    (c.requires.is_for.ahead c.requires.going)
    (λ going. absurd (c.halt.ensures.not_going going))
    c.halt.ensures.no_input

pub returns-clause-takes : goal.returns-clause-takes
returns-clause-takes g c =
    let p = c.args.program.now in
    let old = c.args.self.now in
    let filled = c.fill.new.self in
    let w = g.O.Sink.written c.args.out.now in
    let w1 = g.O.Sink.written c.flush.new.out in
    let w2 = g.O.Sink.written c.read_held.new.out in
    let dry = c.requires.dry in
    let same = c.read_held.ensures.end in
    let asks : (rest output calls : List ℕ) → AsksForByte p (stood p old (bytes_in filled ++ rest) output calls) =
    λ rest output calls. c.in_default.ensures (bytes_in old.input ++ (bytes_in filled ++ rest)) output calls in
    record {
      taken = bytes_in filled;
      loses = c.in-Ok-fill.ensures.taken;
      step = λ rest output calls over count.
          let goes = c.read_held.ensures.step rest output calls (λ e. over (same ∙ c.in-Ok-fill.ensures.filled e)) count in
          let from_none = subst (λ (l : List ℕ). Steps p l old.calls c.read_held.new.self (Some rest) w1 w2 output calls c.read_held.result (CStep p (state_of p old.runner (bytes_in filled ++ rest) output calls))) c.in-Ok.ensures.empty goes in
          let here = subst (λ (l : List ℕ). Steps p [] old.calls c.read_held.new.self (Some rest) w1 w2 output calls c.read_held.result (CStep p (state_of p old.runner (l ++ (bytes_in filled ++ rest)) output calls))) (sym dry.empty) from_none in
          put_before p old.output.bytes.items old.calls c.read_held.new.self (Some rest) w w1 w2 output calls c.read_held.result (CStep p (stood p old (bytes_in filled ++ rest) output calls)) c.in-Ok.ensures.whole here;
      ends = λ h. absurd (let k : ◌≡◌ {A = Bool} true false = sym h ∙ dry.going in cc);
      few = λ rest output calls. inr (subst (λ (l : List ℕ). length (l ++ bytes_in filled) ≤ 4096) (sym dry.empty) c.in-Ok-fill.ensures.few, asks rest output calls);
      served = λ _ before rest output calls _ e.
          let none : bytes_in filled ≡ [] = subst (λ (l : List ℕ). l ++ bytes_in filled ≡ []) dry.empty e in
          let k : ◌≡◌ {A = Bool} true false = sym (same ∙ c.in-Ok-fill.ensures.filled none) ∙ before in cc;
      put_first = inr (record {
        dry = dry;
        asks = λ rest output calls. c.in_default.ensures (bytes_in old.input ++ rest) output calls;
        put = λ calls count.
            let goes = c.read_held.ensures.step [] [] calls (λ e. refl) count in
            let (more, put) = gained p c.flush.new.self.bytes.items old.calls c.read_held.new.self (Some []) w1 w2 [] calls c.read_held.result (CStep p (state_of p old.runner (bytes_in filled ++ []) [] calls)) goes in
            (more, Gains-append w w1 w2 old.output.bytes.items more c.in-Ok.ensures.whole put);
      });
      wants = λ h. absurd (c.read_held.ensures.no_input h);
    }
