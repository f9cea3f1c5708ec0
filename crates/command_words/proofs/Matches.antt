-- What a command line makes of words.
use Rattle.std.proofs.Common.{◌≡◌, List, [], ◌∷◌, Bool, true, false, ◌&&◌, Option, Some, None, inl, inr, refl, sym, ap, ◌∙◌}
use Rattle.std.specs.Prelude.{IsSomeAnd}
use Rattle.clap.specs.Words.{App, HasKind, IsAmong, Kinds, Row, Text, fault_of, kind_of, matches_of}
use Rattle.clap.specs.declared.error.Error.{Error}
use Rattle.clap.specs.declared.error.kind.ErrorKind.{ErrorKind}
use Rattle.clap.specs.declared.error.kind.ErrorKind.TheVariants.{OutOfMemory}
use Rattle.command_words.specs.Asked.{matched, where_none}

pub first_true : (a b : Bool) → (a && b) ≡ true → a ≡ true
first_true true b both = refl
first_true false b both = both

pub taken : (app : App) (words : List Text) (rows : List Row) → fault_of app words ≡ [] → rows ≡ matches_of app words → Some rows ≡ matched app words
taken app words rows none is = ap Some is ∙ sym (ap (λ k. where_none k (matches_of app words)) none)

some_kind : (kinds : Kinds) (k : ErrorKind) (rows : List Row) → IsAmong k kinds → None ≡ where_none kinds rows
some_kind [] k rows among = absurd among
some_kind (x ∷ kinds) k rows among = refl

pub refused : (app : App) (words : List Text) (e : Error) → HasKind (fault_of app words) e → (kind_of e ≡ OutOfMemory → ⊥) → None ≡ matched app words
refused app words e (inl memory) other = absurd (other memory)
refused app words e (inr among) other = some_kind (fault_of app words) (kind_of e) (matches_of app words) among

pub some_and : {X : Type 0} (o : Option X) (x : X) → IsSomeAnd o (λ y. y ≡ x) → o ≡ Some x
some_and None x some = absurd some
some_and (Some y) x some = ap Some some
