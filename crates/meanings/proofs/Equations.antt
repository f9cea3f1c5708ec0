-- Which programs are equal.
use Rattle.std.proofs.Common.{◌≡◌, Bool, true, false, refl}
use mathlib.Core.Path.{fun_ext}
use Rattle.meanings.specs.Worlds.{World}
use Rattle.meanings.specs.Outcomes.{Outcome, Normal, Exits, and_then, Checked, Passes, Fails, Lacks, Misfits, ◌&>◌, checked}
use Rattle.meanings.specs.Programs.{Prog, ◌>>=◌, ◌>>◌, pure, choose, check}

and_then_assoc : {X Y Z : Type 0} (r : Outcome X) (f : X → World → Outcome Y) (g : Y → World → Outcome Z) → and_then (and_then r f) g ≡ and_then r (λ x w. and_then (f x w) g)
and_then_assoc (Normal x w) f g = refl
and_then_assoc (Exits e w) f g = refl

pub bind_bind : {X Y Z : Type 0} (p : Prog X) (f : X → Prog Y) (g : Y → Prog Z) → ((p >>= f) >>= g) ≡ (p >>= λ x. f x >>= g)
unfolding ◌>>=◌
bind_bind p f g = fun_ext (λ s. fun_ext (λ l. fun_ext (λ w. and_then_assoc (p s l w) (λ x. f x s l) (λ y. g y s l))))

pub then_bind : {X Y Z : Type 0} (p : Prog X) (q : Prog Y) (g : Y → Prog Z) → ((p >> q) >>= g) ≡ (p >> (q >>= g))
unfolding ◌>>=◌ ◌>>◌
then_bind p q g = fun_ext (λ s. fun_ext (λ l. fun_ext (λ w. and_then_assoc (p s l w) (λ x. q s l) (λ y. g y s l))))

pub bind_then : {X Y Z : Type 0} (p : Prog X) (f : X → Prog Y) (q : Prog Z) → ((p >>= f) >> q) ≡ (p >>= λ x. f x >> q)
unfolding ◌>>=◌ ◌>>◌
bind_then p f q = fun_ext (λ s. fun_ext (λ l. fun_ext (λ w. and_then_assoc (p s l w) (λ x. f x s l) (λ y. q s l))))

pub then_then : {X Y Z : Type 0} (p : Prog X) (q : Prog Y) (q' : Prog Z) → ((p >> q) >> q') ≡ (p >> (q >> q'))
unfolding ◌>>◌
then_then p q q' = fun_ext (λ s. fun_ext (λ l. fun_ext (λ w. and_then_assoc (p s l w) (λ x. q s l) (λ y. q' s l))))

pub pure_bind : {X Y : Type 0} (x : X) (f : X → Prog Y) → (pure x >>= f) ≡ f x
unfolding ◌>>=◌ pure
pure_bind x f = refl

pub pure_then : {X Y : Type 0} (x : X) (q : Prog Y) → (pure x >> q) ≡ q
unfolding ◌>>◌ pure
pure_then x q = refl

and_then_normal : {X : Type 0} (r : Outcome X) → and_then r (λ x w. Normal x w) ≡ r
and_then_normal (Normal x w) = refl
and_then_normal (Exits e w) = refl

pub bind_pure : {X : Type 0} (p : Prog X) → (p >>= λ x. pure x) ≡ p
unfolding ◌>>=◌ pure
bind_pure p = fun_ext (λ s. fun_ext (λ l. fun_ext (λ w. and_then_normal (p s l w))))

and_then_unit : (r : Outcome (Unit {0})) → and_then r (λ x w. Normal tt w) ≡ r
and_then_unit (Normal x w) = refl
and_then_unit (Exits e w) = refl

pub then_pure : (q : Prog (Unit {0})) → (q >> pure tt) ≡ q
unfolding ◌>>◌ pure
then_pure q = fun_ext (λ s. fun_ext (λ l. fun_ext (λ w. and_then_unit (q s l w))))

pub choose_bind : {X Y : Type 0} (b : Bool) (p q : Prog X) (f : X → Prog Y) → (choose b p q >>= f) ≡ choose b (p >>= f) (q >>= f)
unfolding choose
choose_bind true p q f = refl
choose_bind false p q f = refl

-- two checks, one after the other, are one
checked_then : {X Y : Type 0} (c : Checked X) (f : X → Checked Y) (w : World) → and_then (checked c w) (λ x w. checked (f x) w) ≡ checked (c &> f) w
unfolding ◌&>◌
checked_then (Passes x) f w = refl
checked_then (Fails e) f w = refl
checked_then Lacks f w = refl
checked_then Misfits f w = refl

pub check_check : {X Y : Type 0} (c : _ → Checked X) (f : _ → X → Checked Y) → (check c >>= λ x. check (λ types. f types x)) ≡ check (λ types. c types &> f types)
unfolding ◌>>=◌ check
check_check c f = fun_ext (λ s. fun_ext (λ l. fun_ext (λ w. checked_then (c s.program.types) (f s.program.types) w)))
