-- Demands stand at the tokens of which they speak: parts in a row, and lists.
use Rattle.std.proofs.Common.{◌≡◌, ℕ, suc, ◌+◌, List, [], ◌∷◌, ◌++◌, length, refl, ◌∙◌, ap, arith}
use Rattle.std.specs.Prelude.{slice_get}
use Rattle.std.specs.List.{AllByRecursion}
use Rattle.c_grammar.specs.Token.{Token}
use Rattle.c_grammar.specs.Spelling.{Spelling, count, spell_all, spell_next, spell_listed}
use Rattle.c_grammar.specs.Demands.{Demands, after, all_demands, listed_demands}
use Rattle.c_grammar.specs.Laws.{Stands}
use Rattle.c_grammar.proofs.Spelled.{Follow, count_more, next_follow}

abbrev pub Stand : List Token → Demands → Type 0
Stand tokens all = AllByRecursion (Stands tokens) all

-- these tokens come after n others
pub record Later (tokens : List Token) (n : ℕ) (ts : List Token) : Type 0 where
  pub front : List Token
  pub whole : tokens ≡ front ++ ts
  pub long : length front ≡ n

pub here : {ts : List Token} → Later ts 0 ts
here = record { front = []; whole = refl; long = refl }

pub one : {tokens ts : List Token} {n : ℕ} (t : Token) → Later tokens n ts → Later (t ∷ tokens) (n + 1) ts
one t l = record { front = t ∷ l.front; whole = ap (λ k. t ∷ k) l.whole; long = omega (arith, l.long) }

pub over : {A : Type 0} {tokens ts : List Token} {n : ℕ} (spell : Spelling A) → Follow spell → (a : A) → Later tokens n ts → Later (spell a tokens) (n + count spell a) ts
over {ts} spell follow a l = record {
  front = spell a l.front;
  whole = ap (spell a) l.whole ∙ follow a l.front ts;
  long = omega (arith, l.long, count_more spell follow a l.front);
}

get_after : (front ts : List Token) (n : ℕ) → slice_get (front ++ ts) (length front + n) ≡ slice_get ts n
get_after [] ts n = ap (slice_get ts) (omega arith)
get_after (t ∷ front) ts n = let e : length (t ∷ front) + n ≡ suc (length front + n) = omega arith in ap (slice_get (t ∷ (front ++ ts))) e ∙ get_after front ts n

pub stand_later : {tokens ts : List Token} {n : ℕ} → Later tokens n ts → (m : ℕ) (all : Demands) → m ≡ n → Stand ts all → Stand tokens (after m all)
stand_later l m [] e s = tt
stand_later {tokens} {ts} l m (d ∷ more) e s =
    let at = s.0 in
    let place : m + d.0 ≡ length l.front + d.0 = omega (arith, l.long) in
    ((at.0, ap (slice_get tokens) place ∙ ap (λ k. slice_get k (length l.front + d.0)) l.whole ∙ get_after l.front ts d.0 ∙ at.1, at.2), stand_later l m more e s.1)

pub stand_both : (tokens : List Token) (a b : Demands) → Stand tokens a → Stand tokens b → Stand tokens (a ++ b)
stand_both tokens [] b s t = t
stand_both tokens (d ∷ a) b s t = (s.0, stand_both tokens a b s.1 t)

module _ {S A : Type 0} (spell : Spelling A) (follow : Follow spell) (step : S → A → S) (demands : S → A → Demands) where
  abbrev pub EachStands : Type 0
  EachStands = (s : S) (a : A) (rest : List Token) → Stand (spell a rest) (demands s a)

  pub all_stand : EachStands → (s : S) (all : List A) (rest : List Token) → Stand (spell_all spell all rest) (all_demands spell step demands s all)
  all_stand each s [] rest = tt
  all_stand each s (a ∷ more) rest =
      stand_both (spell a (spell_all spell more rest)) (demands s a) (after (count spell a) (all_demands spell step demands (step s a) more)) (each s a (spell_all spell more rest))
      (stand_later (over spell follow a here) (count spell a) (all_demands spell step demands (step s a) more) (omega arith) (all_stand each (step s a) more rest))

pub listed_stand : {S A : Type 0} (spell : Spelling A) (follow : Follow spell) (step : S → A → S) (demands : S → A → Demands) → ((s : S) (a : A) (rest : List Token) → Stand (spell a rest) (demands s a))
    → (s : S) (all : List A) (rest : List Token) → Stand (spell_listed spell all rest) (listed_demands spell step demands s all)
listed_stand spell follow step demands each s [] rest = tt
listed_stand {S} {A} spell follow step demands each s (a ∷ more) rest =
    let next = spell_next spell in
    let inner : S → A → Demands = λ s a. after 1 (demands s a) in
    stand_both (spell a (spell_all next more rest)) (demands s a) (after (count spell a) (all_demands next step inner (step s a) more)) (each s a (spell_all next more rest))
    (stand_later (over spell follow a here) (count spell a) (all_demands next step inner (step s a) more) (omega arith)
    (all_stand next (next_follow spell follow) step inner (λ s a rest. stand_later (one _ here) 1 (demands s a) (omega arith) (each s a rest)) (step s a) more rest))
