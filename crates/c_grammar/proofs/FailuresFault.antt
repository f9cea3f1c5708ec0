-- Where a demand of a tree fails, its text has a fault of that kind.
use Rattle.std.proofs.Common.{◌≡◌, ℕ, zero, suc, ◌≤◌, List, [], ◌∷◌, ◌++◌, length, Some, refl, sym, ◌∙◌, ap, subst, arith}
use Rattle.std.specs.Prelude.{slice_get}
use Rattle.std.specs.List.{Contains}
use Rattle.c_tree.specs.declared.program.CProgram.{CProgram}
use Rattle.c_grammar.specs.declared.fault.CTextKind.TheVariants as kind
use Rattle.c_grammar.specs.Token.{Token, Placed, placed, Cut, nothing, white, token, IsTokens}
use Rattle.c_grammar.specs.Spelling.{program_tokens}
use Rattle.c_grammar.specs.Demands.{Demand, Level, Leads, Differs, Declared, Length, Cells, Demands, Holds, kind_of, program_demands}
use Rattle.c_grammar.specs.Text.{Spells, plain, TokenAt, DemandFails, Faults}
use Rattle.c_grammar.specs.Laws.{Stands}
use Rattle.c_grammar.proofs.Levels.{among_levels, somewhere}
use Rattle.c_grammar.proofs.LevelsProgram.{program_falls}
use Rattle.c_grammar.proofs.NoFaults.{plain_both}
use Rattle.c_grammar.proofs.Stand.{Stand}
use Rattle.c_grammar.proofs.StandProgram.{program_stand}

stands_at : (tokens : List Token) (all : Demands) (n : ℕ) (d : Demand) → Stand tokens all → Contains all (n, d) → Stands tokens (n, d)
stands_at tokens [] n d s (k, h, e) = absurd (grind arith)
stands_at tokens (x ∷ all) n d s (zero, h, e) = subst (Stands tokens) e s.0
stands_at tokens (x ∷ all) n d s (suc k, h, e) = stands_at tokens all n d s.1 (k, omega arith, e)

-- the token after so many others
record At (tokens : List Placed) (n : ℕ) : Type 0 where
  before : List Placed
  found : Placed
  later : List Placed
  whole : tokens ≡ before ++ found ∷ later
  long : length before ≡ n
  is : slice_get tokens n ≡ Some found

at : (tokens : List Placed) (n : ℕ) (t : Token) → slice_get (plain tokens) n ≡ Some t → At tokens n
at [] n t e = absurd (cc)
at (p ∷ tokens) zero t e = record { before = []; found = p; later = tokens; whole = refl; long = refl; is = refl }
at (p ∷ tokens) (suc n) t e =
    let a = at tokens n t e in
    record { before = p ∷ a.before; found = a.found; later = a.later; whole = ap (λ l. p ∷ l) a.whole; long = omega (arith, a.long); is = a.is }

token_of : (tokens : List Placed) (c : CProgram) (n : ℕ) (d : Demand) → Spells c (plain tokens) → Contains (program_demands c) (n, d) → At tokens n
token_of tokens c n d s contained =
    let stands = stands_at (program_tokens c) (program_demands c) n d (program_stand c) contained in
    at tokens n stands.0 (ap (λ l. slice_get l n) (sym s.spelled) ∙ stands.1)

demand_fails : (bytes : List ℕ) (tokens : List Placed) (c : CProgram) (n : ℕ) (d : Demand) → IsTokens bytes tokens → Spells c (plain tokens)
    → Contains (program_demands c) (n, d) → (Holds d → ⊥) → (place : ℕ) × DemandFails (kind_of d) bytes place
demand_fails bytes tokens c n d cut s contained fails =
    let a = token_of tokens c n d s contained in let t = a.found in
    (t.place, (tokens, c, cut, s, n, d, contained, refl, fails, t, a.is, refl))

-- ---- too deep

record Front (n : ℕ) (x : List ℕ) (tokens : List Placed) : Type 0 where
  rest : List ℕ
  cut : Cut n x tokens rest

cut_front : {n : ℕ} {x r : List ℕ} {ts : List Placed} → Cut n x ts r → (a b : List Placed) → ts ≡ a ++ b → Front n x a
cut_front (nothing n r) [] b e = record { rest = r; cut = nothing n r }
cut_front (nothing n r) (p ∷ a) b e = absurd (cc)
cut_front (white n b' v us r h c) a b e = let f = cut_front c a b e in record { rest = f.rest; cut = white n b' v a f.rest h f.cut }
cut_front (token n front v t us r l c) [] b e = record { rest = front ++ v; cut = nothing n (front ++ v) }
cut_front (token n front v t us r l c) (p ∷ a) b e =
    let f = cut_front c a b (cc) in
    let same : placed t n ≡ p = cc in
    record { rest = f.rest; cut = subst (λ q. Cut n (front ++ v) (q ∷ a) f.rest) same (token n front v t a f.rest l f.cut) }

cut_to : (bytes : List ℕ) (tokens before later : List Placed) (t : Placed) → IsTokens bytes tokens → tokens ≡ before ++ t ∷ later → TokenAt bytes before t
cut_to bytes tokens before later t (body, e, c) whole =
    let f = cut_front c (before ++ t ∷ []) later (whole ∙ regroup before) in (f.rest, (body, e, f.cut))
  where
    regroup : (before : List Placed) → before ++ t ∷ later ≡ (before ++ t ∷ []) ++ later
    regroup [] = refl
    regroup (p ∷ before) = ap (λ l. p ∷ l) (regroup before)

plain_long : (tokens : List Placed) → length (plain tokens) ≡ length tokens
plain_long [] = refl
plain_long (t ∷ tokens) = omega (arith, plain_long tokens)

too_deep : (bytes : List ℕ) (tokens : List Placed) (c : CProgram) (n l : ℕ) → IsTokens bytes tokens → Spells c (plain tokens)
    → Contains (program_demands c) (n, Level l) → (l ≤ 2400 → ⊥) → (place : ℕ) × Faults bytes kind.TooDeep place
too_deep bytes tokens c n l cut s contained fails =
    let falls = program_falls c in
    let (m, deep) = somewhere 2401 (program_demands c) (falls.lower l 2401 (among_levels n l (program_demands c) contained) (omega arith) (too_low l fails)) in
    let a = token_of tokens c m (Level 2401) s deep in let t = a.found in
    let place : m ≡ length (plain a.before) = omega (arith, a.long, plain_long a.before) in (
      t.place,
      (
        a.before,
        t,
        cut_to bytes tokens a.before a.later t cut a.whole,
        (
          c,
          plain (t ∷ a.later),
          record { of_grammar = s.of_grammar; spelled = s.spelled ∙ ap plain a.whole ∙ plain_both a.before (t ∷ a.later) },
          subst (λ k. Contains (program_demands c) (k, Level 2401)) place deep,
        ),
        refl,
      ),
    )
  where
    too_low : (l : ℕ) → (l ≤ 2400 → ⊥) → 2401 ≤ l
    too_low l fails = grind arith

pub failing_faults : (bytes : List ℕ) (tokens : List Placed) (c : CProgram) (n : ℕ) (d : Demand) → IsTokens bytes tokens → Spells c (plain tokens)
    → Contains (program_demands c) (n, d) → (Holds d → ⊥) → (place : ℕ) × Faults bytes (kind_of d) place
failing_faults bytes tokens c n (Level l) cut s contained fails = too_deep bytes tokens c n l cut s contained fails
failing_faults bytes tokens c n (Leads label labels) cut s contained fails = demand_fails bytes tokens c n (Leads label labels) cut s contained fails
failing_faults bytes tokens c n (Differs name others) cut s contained fails = demand_fails bytes tokens c n (Differs name others) cut s contained fails
failing_faults bytes tokens c n (Declared name above) cut s contained fails = demand_fails bytes tokens c n (Declared name above) cut s contained fails
failing_faults bytes tokens c n (Length k) cut s contained fails = demand_fails bytes tokens c n (Length k) cut s contained fails
failing_faults bytes tokens c n (Cells k) cut s contained fails = demand_fails bytes tokens c n (Cells k) cut s contained fails
