-- A label that is added.
use Rattle.std.proofs.Common.{◌≡◌, ℕ, List, Bool, true, false, Option, Some, None, refl, sym, ap, ◌∙◌}
use Rattle.std.specs.Prelude.{if◌then◌else◌, cond}
use Rattle.std.specs.Option.{option_map}
use Rattle.std.specs.Map.{lookup}
use Rattle.std.specs.Str.{bytes_eq}
use Rattle.std.proofs.lemmas.Slice.Eq.{bytes_eq-Decides}
use Rattle.c_meaning.specs.Cells.{Name}
use Rattle.label_ways.specs.Labels as l
use Rattle.label_ways.specs.Labels.{or_way}
use Rattle.label_ways.specs.Ways.{way_of, way_in, way_if}
use Rattle.label_ways.specs.declared.level.Level.{Level}
use Rattle.label_ways.specs.declared.ways.Way.{Way}
use Rattle.label_ways.specs.declared.ways.Ways.{Ways}

pub or_none : (w : l.Way) → or_way w None ≡ w
or_none (Some p) = refl
or_none None = refl

turned : (x y : Name) → bytes_eq x y ≡ bytes_eq y x
turned x y = by (bytes_eq x y) (bytes_eq y x) refl refl where
  by : (a b : Bool) → bytes_eq x y ≡ a → bytes_eq y x ≡ b → a ≡ b
  by true true h k = refl
  by false false h k = refl
  by true false h k = sym ((bytes_eq-Decides y x).1 (sym ((bytes_eq-Decides x y).0 h))) ∙ k
  by false true h k = sym h ∙ (bytes_eq-Decides x y).1 (sym ((bytes_eq-Decides y x).0 k))

-- the label is there
pub kept : (t : Ways) (y : Name) (w p : List Level × ℕ) → Some p ≡ way_in t y → (x : Name) → way_in t x ≡ or_way (way_in t x) (way_if x y w)
kept t y w p h x = by (bytes_eq x y) refl where
  by : (b : Bool) → bytes_eq x y ≡ b → way_in t x ≡ or_way (way_in t x) (if b then Some w else None)
  by false k = sym (or_none (way_in t x))
  by true k = let e : way_in t x ≡ Some p = ap (way_in t) ((bytes_eq-Decides x y).0 k) ∙ sym h in e ∙ ap (λ o. or_way o (Some w)) (sym e)

way_put : (b : Bool) (w : Way) (o : Option Way) → option_map way_of (cond b (Some w) o) ≡ cond b (Some (way_of w)) (option_map way_of o)
way_put true w o = refl
way_put false w o = refl

-- the label is new
pub added : (t u : Ways) (y z : Name) (w : Way) (v : List Level × ℕ) → z ≡ y → way_of w ≡ v → way_in t y ≡ None
    → ((x : Name) → lookup (bytes_eq x) u.entries.entries ≡ cond (bytes_eq z x) (Some w) (lookup (bytes_eq x) t.entries.entries)) → (x : Name) → way_in u x ≡ or_way (way_in t x) (way_if x y v)
added t u y z w v same is h put x =
    ap (option_map way_of) (put x) ∙ way_put (bytes_eq z x) w (lookup (bytes_eq x) t.entries.entries) ∙ ap (λ v. cond (bytes_eq z x) (Some v) (way_in t x)) is
    ∙ ap (λ y. cond (bytes_eq y x) (Some v) (way_in t x)) same ∙ ap (λ b. cond b (Some v) (way_in t x)) (turned y x) ∙ by (bytes_eq x y) refl where
      by : (b : Bool) → bytes_eq x y ≡ b → cond b (Some v) (way_in t x) ≡ or_way (way_in t x) (if b then Some v else None)
      by false k = sym (or_none (way_in t x))
      by true k = ap (λ o. or_way o (Some v)) (sym (ap (way_in t) ((bytes_eq-Decides x y).0 k) ∙ h))
