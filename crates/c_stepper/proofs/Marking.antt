-- The marks of a name are those of its number.
use Rattle.std.proofs.Common.{◌≡◌, ℕ, List, [], ◌∷◌, true, false, refl, ap, ◌∙◌}
use Rattle.std.specs.Prelude.{◌-◌, ◌&&◌, if◌then◌else◌, nat_eq, nat_lt, nat_le}
use Rattle.std.specs.Option.{is_some}
use Rattle.c_meaning.specs.Entries.{Tail, Outside, Begun, Counted, with_digit, with_byte, tail_number, number_after, number_at_end}
use Rattle.c_stepper.specs.declared.names.Mark.{Mark}
use Rattle.c_stepper.specs.declared.names.Mark.TheVariants as k
use Rattle.c_stepper.specs.Marks.{after_digit, next_mark, has_number, numbered_after}

abbrev mark_of : Tail → Mark
mark_of Outside = k.Outside
mark_of Begun = k.Begun
mark_of (Counted n) = k.Counted

digit_marked : (d : ℕ) (tail : Tail) → mark_of (with_digit d tail) ≡ after_digit (mark_of tail)
unfolding with_digit
digit_marked d Outside = refl
digit_marked d Begun = refl
digit_marked d (Counted n) = refl

byte_marked : (x : ℕ) (tail : Tail) → mark_of (with_byte x tail) ≡ next_mark (mark_of tail) x
unfolding with_byte
byte_marked x tail = elim (nat_eq x 95) as (λ q. mark_of (if q then Begun else (if nat_le 48 x && nat_lt x 58 then with_digit (x - 48) tail else Outside)) ≡ (if q then k.Begun else (if nat_le 48 x && nat_lt x 58 then after_digit (mark_of tail) else k.Outside))) [
  | true ↦ refl
  | false ↦ elim (nat_le 48 x && nat_lt x 58) as (λ q. mark_of (if q then with_digit (x - 48) tail else Outside) ≡ (if q then after_digit (mark_of tail) else k.Outside)) [ true ↦ digit_marked (x - 48) tail | false ↦ refl ]
]

end_marked : (tail : Tail) → is_some (tail_number tail) ≡ has_number (mark_of tail)
unfolding tail_number
end_marked Outside = refl
end_marked Begun = refl
end_marked (Counted n) = refl

marked : (tail : Tail) (xs : List ℕ) → is_some (number_after tail xs) ≡ numbered_after (mark_of tail) xs
unfolding number_after
marked tail [] = end_marked tail
marked tail (x ∷ xs) = marked (with_byte x tail) xs ∙ ap (λ m. numbered_after m xs) (byte_marked x tail)

pub ends_so : (name : List ℕ) → is_some (number_at_end name) ≡ numbered_after k.Outside name
unfolding number_at_end
ends_so name = marked Outside name
