-- What a refusal in a chain of checks comes to.
use Rattle.std.proofs.Common.{◌≡◌, Some, None, Ok, Err, Option, refl, ap}
use Rattle.column.specs.declared.fault.Fault.{Fault}
use Rattle.column.specs.Refusal.{passes, or_else}

pub refused : (r : Option Fault) (f : Fault) → Err f ≡ passes r → r ≡ Some f
refused None f e = cc
refused (Some g) f e = cc

pub passed : (r : Option Fault) (u : Unit {0}) → Ok u ≡ passes r → r ≡ None
passed None u e = refl
passed (Some g) u e = cc

pub here : (r rest : Option Fault) (f : Fault) → r ≡ Some f → or_else r rest ≡ Some f
here r rest f e = ap (λ (x : Option Fault). or_else x rest) e

pub next : (r rest : Option Fault) → r ≡ None → or_else r rest ≡ rest
next r rest e = ap (λ (x : Option Fault). or_else x rest) e

pub no_first : (r rest : Option Fault) → or_else r rest ≡ None → (r ≡ None) × (rest ≡ None)
no_first None rest e = (refl, e)
no_first (Some f) rest e = (cc, cc)
