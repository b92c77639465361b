-- The last present cell. Assumes nothing.
use Rattle.std.proofs.Common.{◌≡◌, List, [], ◌∷◌, ◌++◌, Some, None, sym, refl, ap, ◌∙◌}
use Rattle.sessions.specs.Sessions.{Cell, later, last_present}

later_none : (c : Cell) → later None c ≡ c
later_none None = refl
later_none (Some x) = refl

later_assoc : (a b c : Cell) → later a (later b c) ≡ later (later a b) c
later_assoc a b None = refl
later_assoc a b (Some x) = refl

pub last_push : (cs : List Cell) (c : Cell) → last_present (cs ++ (c ∷ [])) ≡ later (last_present cs) c
last_push [] c = sym (later_none c)
last_push (b ∷ cs) c = ap (later b) (last_push cs c) ∙ later_assoc b (last_present cs) c
