-- That a step finds whether demands hold.
use Rattle.std.proofs.Common.{◌≡◌, ℕ, suc, ◌+◌, Bool, true, false, ◌⊎◌, inl, inr, List, [], ◌∷◌, ◌++◌, Ok, Err, refl, sym, ap, subst, ◌∙◌, add_assoc, arith}
use Rattle.std.specs.Prelude.{MatchResult}
use Rattle.std.specs.List.{fold}
use Rattle.c_grammar.specs.declared.fault.CTextKind.{CTextKind}
use Rattle.c_grammar.specs.Spelling.{Spelling, count, spell_all}
use Rattle.c_grammar.specs.Demands.{Demand, Level, Demands, Holds, after, all_demands, kind_of}
use Rattle.c_grammar.proofs.Spelled.{Follow, count_more}
use Rattle.c_conditions.specs.World.{World}
use Rattle.c_conditions.specs.Steps.{Failure, Outcome, Step, go_on, each, pass, demand}
use Rattle.c_conditions.specs.Conditions.{HoldsButLevel, HoldAllButLevels, FailsAt}

-- the demands of what begins at a place, of which one fails so
abbrev pub Failing : ℕ → Demands → Failure → Type 0
Failing place [] f = ⊥
Failing place (d ∷ more) f = ((f.token ≡ place + d.0) × (kind_of d.1 ≡ f.kind) × (Holds d.1 → ⊥)) ⊎ Failing place more f

-- this world, but at a place
abbrev pub at : World → ℕ → World
at v place = record v { place = place }

abbrev pub MeetsBy : World → Demands → ℕ → World → Outcome → Type 0
MeetsBy w all n v (Ok u) = HoldAllButLevels all × (u ≡ at v (w.place + n))
MeetsBy w all n v (Err f) = Failing w.place all f

-- From the world w, which meets these demands in n tokens and then knows what v does, this comes out.
pub record Meets (w : World) (all : Demands) (n : ℕ) (v : World) (r : Outcome) : Type 0 where
  pub is : MeetsBy w all n v r

-- ---- demands in a row

hold_both : (a b : Demands) → HoldAllButLevels a → HoldAllButLevels b → HoldAllButLevels (a ++ b)
hold_both [] b g h = h
hold_both (d ∷ more) b g h = (g.0, hold_both more b g.1 h)

hold_after : (n : ℕ) (all : Demands) → HoldAllButLevels all → HoldAllButLevels (after n all)
hold_after n [] h = tt
hold_after n (d ∷ more) h = (h.0, hold_after n more h.1)

failing_first : (place : ℕ) (a b : Demands) (f : Failure) → Failing place a f → Failing place (a ++ b) f
failing_first place [] b f h = absurd h
failing_first place (d ∷ more) b f (inl h) = inl h
failing_first place (d ∷ more) b f (inr h) = inr (failing_first place more b f h)

failing_second : (place : ℕ) (a b : Demands) (f : Failure) → Failing place b f → Failing place (a ++ b) f
failing_second place [] b f h = h
failing_second place (d ∷ more) b f h = inr (failing_second place more b f h)

failing_after : (place n : ℕ) (all : Demands) (f : Failure) → Failing (place + n) all f → Failing place (after n all) f
failing_after place n [] f h = h
failing_after place n (d ∷ more) f (inl h) = inl (h.0 ∙ add_assoc place n d.0, h.1, h.2)
failing_after place n (d ∷ more) f (inr h) = inr (failing_after place n more f h)

-- ---- steps in a row

pub zero_more : (n : ℕ) → n + 0 ≡ n
zero_more n = omega arith

-- what comes later
pub pass_first : {w v x : World} {b : Demands} {n m : ℕ} {s : Outcome} (k : ℕ) → k ≡ n → v.place ≡ w.place + n → Meets v b m x s → Meets w (after k b) (n + m) x s
pass_first {w} {v} {x} {b} {n} {m} {s} k e p h = by s h.is
  where
    places : (a b c d : ℕ) → d ≡ a + b → d + c ≡ a + (b + c)
    places a b c d e = omega arith

    by : (s : Outcome) → MeetsBy v b m x s → Meets w (after k b) (n + m) x s
    by (Ok u) g = record { is = (hold_after k b g.0, g.1 ∙ ap (at x) (places w.place n m v.place p)) }
    by (Err f) g = record { is = failing_after w.place k b f (subst (λ z. Failing z b f) (p ∙ ap (λ z. w.place + z) (sym e)) g) }

pub seq : {w v x : World} {a b : Demands} {n m : ℕ} {r : Outcome} (next : Step) (k : ℕ) → k ≡ n → Meets w a n v r → Meets (at v (w.place + n)) b m x (next (at v (w.place + n)))
    → Meets w (a ++ after k b) (n + m) x (go_on r next)
seq {w} {v} {x} {a} {b} {n} {m} {r} next k e h g = by r h.is
  where
    both : HoldAllButLevels a → (s : Outcome) → MeetsBy w (after k b) (n + m) x s → Meets w (a ++ after k b) (n + m) x s
    both held (Ok u) l = record { is = (hold_both a (after k b) held l.0, l.1) }
    both held (Err f) l = record { is = failing_second w.place a (after k b) f l }

    by : (r : Outcome) → MeetsBy w a n v r → Meets w (a ++ after k b) (n + m) x (go_on r next)
    by (Ok u) l =
        let later = pass_first {w = w} {v = at v (w.place + n)} k e refl g in
        subst (λ z. Meets w (a ++ after k b) (n + m) x (next z)) (sym l.1) (both l.0 (next (at v (w.place + n))) later.is)
    by (Err f) l = record { is = failing_first w.place a (after k b) f l }

pub passed : (w : World) (n : ℕ) → Meets w [] n w (pass n w)
passed w n = record { is = (tt, refl) }

pub began : (w : World) → Meets w [] 0 w (Ok w)
began w = record { is = (tt, ap (at w) (sym (zero_more w.place))) }

pub stayed : (v : World) (place : ℕ) → Meets (at v place) [] 0 v (Ok (at v place))
stayed v place = record { is = (tt, ap (at v) (sym (zero_more place))) }

pub pass_last : {w v : World} {a : Demands} {n : ℕ} {r : Outcome} (m : ℕ) → Meets w a n v r → Meets w a (n + m) v (go_on r (pass m))
pass_last {w} {v} {a} {n} {r} m h = by r h.is
  where
    by : (r : Outcome) → MeetsBy w a n v r → Meets w a (n + m) v (go_on r (pass m))
    by (Ok u) l = record { is = (l.0, ap (λ (z : World). at z (z.place + m)) l.1 ∙ ap (at v) (add_assoc w.place n m)) }
    by (Err f) l = record { is = l }

-- what is known changes
pub changed : {w v : World} {a : Demands} {n : ℕ} {r : Outcome} (change : World → World) (x : World) → ((place : ℕ) → change (at v place) ≡ at x place)
    → Meets w a n v r → Meets w a n x (go_on r (λ u. Ok (change u)))
changed {w} {v} {a} {n} {r} change x c h = by r h.is
  where
    by : (r : Outcome) → MeetsBy w a n v r → Meets w a n x (go_on r (λ u. Ok (change u)))
    by (Ok u) l = record { is = (l.0, ap change l.1 ∙ c (w.place + n)) }
    by (Err f) l = record { is = l }

-- a test at the next token
pub tested : {w v : World} {a : Demands} {n : ℕ} {r : Outcome} (test : World → Bool) (kind : CTextKind) (k : ℕ) (d : Demand) → k ≡ n → kind_of d ≡ kind
    → (test (at v (w.place + n)) ≡ true → HoldsButLevel d) → (test (at v (w.place + n)) ≡ false → Holds d → ⊥)
    → Meets w a n v r → Meets w (a ++ (k, d) ∷ []) n v (go_on r (λ u. demand (test u) kind u))
tested {w} {v} {a} {n} {r} test kind k d e of_kind holds fails h = by r h.is
  where
    asked : HoldAllButLevels a → (b : Bool) → test (at v (w.place + n)) ≡ b → Meets w (a ++ (k, d) ∷ []) n v (demand b kind (at v (w.place + n)))
    asked held true t = record { is = (hold_both a ((k, d) ∷ []) held (holds t, tt), refl) }
    asked held false t = record { is = failing_second w.place a ((k, d) ∷ []) (record { kind = kind; token = w.place + n }) (inl (ap (λ z. w.place + z) (sym e), of_kind, fails t)) }

    by : (r : Outcome) → MeetsBy w a n v r → Meets w (a ++ (k, d) ∷ []) n v (go_on r (λ u. demand (test u) kind u))
    by (Ok u) l = subst (λ z. Meets w (a ++ (k, d) ∷ []) n v (demand (test z) kind z)) (sym l.1) (asked l.0 (test (at v (w.place + n))) refl)
    by (Err f) l = record { is = failing_first w.place a ((k, d) ∷ []) f l }

-- a level is no demand here
pub levelled : {w v : World} {a : Demands} {n : ℕ} {r : Outcome} (level : ℕ) → Meets w a n v r → Meets w ((0, Level level) ∷ a) n v r
levelled {w} {v} {a} {n} {r} level h = by r h.is
  where
    by : (r : Outcome) → MeetsBy w a n v r → Meets w ((0, Level level) ∷ a) n v r
    by (Ok u) l = record { is = ((tt, l.0), l.1) }
    by (Err f) l = record { is = inr l }

-- ---- the same, said otherwise

pub recount : {w v : World} {a : Demands} {n : ℕ} {r : Outcome} (m : ℕ) → n ≡ m → Meets w a n v r → Meets w a m v r
recount {w} {v} {a} {n} {r} m e h = subst (λ z. Meets w a z v r) e h

pub restate : {w v : World} {a : Demands} {n : ℕ} {r : Outcome} (b : Demands) → a ≡ b → Meets w a n v r → Meets w b n v r
restate {w} {v} {a} {n} {r} b e h = subst (λ z. Meets w z n v r) e h

pub retarget : {w v : World} {a : Demands} {n : ℕ} {r : Outcome} (x : World) → v ≡ x → Meets w a n v r → Meets w a n x r
retarget {w} {v} {a} {n} {r} x e h = subst (λ z. Meets w a n z r) e h

-- what is known then may rest on the demands
pub retarget_held : {w v : World} {a : Demands} {n : ℕ} {r : Outcome} (x : World) → (HoldAllButLevels a → v ≡ x) → Meets w a n v r → Meets w a n x r
retarget_held {w} {v} {a} {n} {r} x e h = by r h.is
  where
    by : (r : Outcome) → MeetsBy w a n v r → Meets w a n x r
    by (Ok u) l = record { is = (l.0, l.1 ∙ ap (λ z. at z (w.place + n)) (e l.0)) }
    by (Err f) l = record { is = l }

-- where it begins does not matter to what is known
pub rebase : {w : World} {a : Demands} {n : ℕ} {r : Outcome} (v : World) (place : ℕ) → Meets w a n (at v place) r → Meets w a n v r
rebase {w} {a} {n} {r} v place h = by r h.is
  where
    by : (r : Outcome) → MeetsBy w a n (at v place) r → Meets w a n v r
    by (Ok u) l = record { is = l }
    by (Err f) l = record { is = l }

-- ---- lists

module _ {S A : Type 0} (spell : Spelling A) (follow : Follow spell) (step : S → A → S) (demands : S → A → Demands) (does : A → Step) (scene : S → World) where
  -- what holds before each of them
  pub each_meets_where : (Fits : S → Type 0) → ((s : S) (a : A) → Fits s → Fits (step s a))
      → ((s : S) (a : A) (place : ℕ) → Fits s → Meets (at (scene s) place) (demands s a) (count spell a) (scene (step s a)) (does a (at (scene s) place)))
      → (s : S) → Fits s → (all : List A) (place : ℕ) → Meets (at (scene s) place) (all_demands spell step demands s all) (count (spell_all spell) all) (scene (fold step s all)) (each does all (at (scene s) place))
  unfolding each
  each_meets_where Fits keeps meets s h [] place = stayed (scene s) place
  each_meets_where Fits keeps meets s h (a ∷ more) place =
      recount (count (spell_all spell) (a ∷ more)) (sym (count_more spell follow a (spell_all spell more [])))
      (seq (each does more) (count spell a) refl (meets s a place h) (each_meets_where Fits keeps meets (step s a) (keeps s a h) more (place + count spell a)))

  pub each_meets : ((s : S) (a : A) (place : ℕ) → Meets (at (scene s) place) (demands s a) (count spell a) (scene (step s a)) (does a (at (scene s) place)))
      → (s : S) (all : List A) (place : ℕ) → Meets (at (scene s) place) (all_demands spell step demands s all) (count (spell_all spell) all) (scene (fold step s all)) (each does all (at (scene s) place))
  each_meets meets s all place = each_meets_where (λ s. Unit {0}) (λ s a h. tt) (λ s a place h. meets s a place) s tt all place

-- ---- failures

contained : (place : ℕ) (all : Demands) (f : Failure) → place ≡ 0 → Failing place all f → FailsAt all f.kind f.token
contained place [] f z h = absurd h
contained place (d ∷ more) f z (inl h) = record {
  demand = d.1;
  among = (0, omega arith, λ i. (sym (h.0 ∙ ap (λ k. k + d.0) z ∙ zero_first d.0) i, d.1));
  of_kind = h.1;
  fails = h.2;
}
  where
    zero_first : (n : ℕ) → 0 + n ≡ n
    zero_first n = omega arith
contained place (d ∷ more) f z (inr h) =
    let c = contained place more f z h in
    let inside = c.among in
    record { demand = c.demand; among = (suc inside.0, omega (arith, inside.1), inside.2); of_kind = c.of_kind; fails = c.fails }

-- what comes out of a program, from its first token
pub concluded : {w v : World} {all : Demands} {n : ℕ} {r : Outcome} → w.place ≡ 0 → Meets w all n v r → MatchResult r (λ u. HoldAllButLevels all) (λ f. FailsAt all f.kind f.token)
concluded {w} {v} {all} {n} {r} z h = by r h.is
  where
    by : (r : Outcome) → MeetsBy w all n v r → MatchResult r (λ u. HoldAllButLevels all) (λ f. FailsAt all f.kind f.token)
    by (Ok u) l = l.0
    by (Err f) l = contained w.place all f z l
