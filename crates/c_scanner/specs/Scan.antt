-- When a text is refused.
use Rattle.std.specs.Prelude.{◌≡◌, ℕ, List, alloc_error}
use Rattle.c_grammar.specs.declared.fault.CTextKind.TheVariants.{BadByte}
use Rattle.c_grammar.specs.Token.{Placed, IsTokens}
use Rattle.c_grammar.specs.Text.{Faults}
use Rattle.c_scanner.specs.declared.scanning.ScanFault.{ScanFault}
use Rattle.c_scanner.specs.declared.scanning.ScanFault.TheVariants.{At, Memory}

-- there are no tokens, and the fault is at this place
pub record HasNoTokens (bytes : List ℕ) (place : ℕ) : Type 0 where
  pub at : Faults bytes BadByte place
  pub none : (tokens : List Placed) → IsTokens bytes tokens → ⊥

abbrev pub IsRefused : List ℕ → ScanFault → Type 0
IsRefused bytes (At place) = HasNoTokens bytes place
IsRefused bytes (Memory e) = e ≡ alloc_error
