-- The lists of routines and of calls, one by one.
use Rattle.std.proofs.Common.{◌≡◌, ℕ, suc, ◌+◌, ◌-◌, ◌<◌, ◌≤◌, List, [], ◌++◌, sym, ap, ◌∙◌, append_assoc, arith}
use Rattle.std.proofs.lemmas.List.{append-nil}
use Rattle.std.specs.Prelude.{codes, decimal}
use Rattle.pascal_samples.specs.declared.routine.Drawn.{Drawn}
use Rattle.pascal_samples.specs.Draws.{draws}
use Rattle.pascal_samples.specs.Text.{routine_text, routines_text, calls_text}

pub routines_text-step : (x i e : ℕ) (d : Drawn) → d ≡ draws i x → i < e
    → routines_text x i (e - i) ≡ routine_text i d ++ routines_text d.state (i + 1) (e - (i + 1))
unfolding routines_text
routines_text-step x i e d drawn below = let left : e - i ≡ suc (e - (i + 1)) = omega arith in rw (left, drawn)

pub routines_text-end : (x i e : ℕ) → e ≤ i → routines_text x i (e - i) ≡ []
unfolding routines_text
routines_text-end x i e above = let left : e - i ≡ 0 = omega arith in rw left

pub calls_text-step : (i e : ℕ) → i < e → calls_text i (e - i) ≡ codes "p" ++ decimal i ++ codes "(1);\n" ++ calls_text (i + 1) (e - (i + 1))
unfolding calls_text
calls_text-step i e below = let left : e - i ≡ suc (e - (i + 1)) = omega arith in rw left

pub calls_text-end : (i e : ℕ) → e ≤ i → calls_text i (e - i) ≡ []
unfolding calls_text
calls_text-end i e above = let left : e - i ≡ 0 = omega arith in rw left

-- a piece is appended, and what is left to append is shorter by it
pub goes_on : (out new piece rest all whole : List ℕ) → new ≡ out ++ piece → all ≡ piece ++ rest → out ++ all ≡ whole → new ++ rest ≡ whole
goes_on out new piece rest all whole appended first left =
    ap (λ l. l ++ rest) appended ∙ append_assoc out piece rest ∙ sym (ap (λ l. out ++ l) first) ∙ left

-- nothing is left to append
pub ends : (out rest whole : List ℕ) → rest ≡ [] → out ++ rest ≡ whole → out ≡ whole
ends out rest whole none left = sym (append-nil out) ∙ sym (ap (λ l. out ++ l) none) ∙ left
