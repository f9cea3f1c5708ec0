-- Looking names up after a change.
use Rattle.std.proofs.Common.{◌≡◌, ℕ, ◌+◌, ◌-◌, Bool, true, false, ◌||◌, cond, List, Option, Some, refl, ap, ◌∙◌}
use Rattle.std.specs.Option.{is_some, unwrap_or}
use Rattle.std.specs.Map.{update}
use Rattle.std.specs.Str.{bytes_eq}
use Rattle.c_conditions.specs.declared.table.Table.{Table}
use Rattle.c_conditions.specs.Names.{look, has_of, count_of, with_name, raised, lowered}

pub some_of : (b : Bool) (n : ℕ) (o : Option ℕ) → is_some (cond b (Some n) o) ≡ (b || is_some o)
some_of true n o = refl
some_of false n o = refl

pub added : (t u : Table) (name : List ℕ) (n : ℕ) → look u ≡ update bytes_eq (look t) name (Some n) → has_of u ≡ with_name name (has_of t)
unfolding has_of
added t u name n e = λ i q. (ap (λ f. is_some (f q)) e ∙ some_of (bytes_eq name q) n (look t q)) i

number_of : (b : Bool) (n : ℕ) (o : Option ℕ) → unwrap_or (cond b (Some n) o) 0 ≡ cond b n (unwrap_or o 0)
number_of true n o = refl
number_of false n o = refl

set_to : (t u : Table) (name : List ℕ) (n : ℕ) → look u ≡ update bytes_eq (look t) name (Some n) → (q : List ℕ) → count_of u q ≡ cond (bytes_eq name q) n (count_of t q)
unfolding count_of
set_to t u name n e q = ap (λ f. unwrap_or (f q) 0) e ∙ number_of (bytes_eq name q) n (look t q)

pub more : (t u : Table) (name : List ℕ) (n : ℕ) → n ≡ count_of t name + 1 → look u ≡ update bytes_eq (look t) name (Some n) → count_of u ≡ raised name (count_of t)
more t u name n h e = λ i q. (set_to t u name n e q ∙ ap (λ k. cond (bytes_eq name q) k (count_of t q)) h) i

pub less : (t u : Table) (name : List ℕ) (n : ℕ) → n ≡ count_of t name - 1 → look u ≡ update bytes_eq (look t) name (Some n) → count_of u ≡ lowered name (count_of t)
less t u name n h e = λ i q. (set_to t u name n e q ∙ ap (λ k. cond (bytes_eq name q) k (count_of t q)) h) i
