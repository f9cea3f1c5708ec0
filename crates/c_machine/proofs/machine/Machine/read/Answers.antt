use Rattle.std.proofs.Common.{◌≡◌, [], sym, ◌∙◌, Bool, true, false}
use Rattle.held_bytes.specs.Held.{IsDry}
use Rattle.c_machine.proofs.Machining.{takes_none, met_end}
use Rattle.c_machine.proofs.machine.Machine.read.Goals as goal

pub returns-else-is_dry-clause-takes : goal.returns-else-is_dry-clause-takes
returns-else-is_dry-clause-takes g c =
    let p = c.args.program.now in
    let old = c.args.self.now in
    let ready : IsDry old.input → ⊥ = λ dry. let k : ◌≡◌ {A = Bool} true false = sym (c.is_dry.ensures.1 dry) ∙ c.if-is_dry.false in cc in
    let same = c.read_held.ensures.end in
    takes_none p old c.read_held.new.self (g.I.Source.left c.args.input.now) (g.O.Sink.written c.args.out.now) (g.O.Sink.written c.read_held.new.out) c.read_held.result
    (λ rest output calls over count.
    c.read_held.ensures.step rest output calls (λ e. met_end old.input.over (rest ≡ []) (λ going. ready (record { empty = e; going = going })) (λ h. over (same ∙ h))) count)
    (λ h. same ∙ h)
    (c.requires.is_for.ahead c.requires.going)
    (λ _ before rest output calls asks e. ready (record { empty = e; going = sym same ∙ before }))
    c.read_held.ensures.no_input
