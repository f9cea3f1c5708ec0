-- Numbers in a range, as they are parsed.
use Rattle.std.proofs.Common.{◌≡◌, ℕ, List, Bool, true, false, Some, None, refl}
use Rattle.std.specs.Str.Parse.{digits_value, without_leading_plus}
use Rattle.clap.specs.Values.{IsUnsignedIn}
use Rattle.clap.specs.ValueTests.{is_unsigned_in}
use Rattle.clap.specs.declared.builder.value_parser.ValueParser.TheVariants as vp
use Rattle.clap.proofs.ValueTestLemmas.{accepts-Accepts, Accepts-accepts}
use Rattle.command_words.specs.Asked.{number_in}

pub inside : (least most : ℕ) (text : List ℕ) → IsUnsignedIn least most text → number_in least most text ≡ Some (digits_value 10 (without_leading_plus text))
inside least most text h = rw (Accepts-accepts false (vp.Unsigned least most) text h) refl

pub outside : (least most : ℕ) (text : List ℕ) → (IsUnsignedIn least most text → ⊥) → number_in least most text ≡ None
outside least most text differs = of (is_unsigned_in least most text) refl
  where
    of : (b : Bool) → is_unsigned_in least most text ≡ b → number_in least most text ≡ None
    of true e = absurd (differs (accepts-Accepts false (vp.Unsigned least most) text e))
    of false e = rw e refl
