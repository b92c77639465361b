-- The options that words give. Assumes nothing.
use Rattle.std.specs.Prelude.{◌≡◌, ℕ, ◌+◌, ◌<◌, ◌≤◌, ◌⊎◌, List, [], ◌∷◌, length, map, IsTrue, if◌then◌else◌, slice_index_or}
use Rattle.std.specs.Borrow.{Bor}
use Rattle.options.specs.declared.given.Given.{Given}
use Rattle.options.specs.declared.key.Key.{Key}
use Rattle.options.specs.declared.key.Key.TheVariants.{File}
use Rattle.options.specs.declared.misuse.Misuse.{Misuse}
use Rattle.options.specs.declared.misuse.Misuse.TheVariants as misuse
use Rattle.options.specs.Keys.{IsKey, NoKey, has_value}

-- the option stands at place k
abbrev pub At : List Given → Key → ℕ → Type 0
At gs key k = (k < length gs) × ((d : Given) → (slice_index_or gs k d).key ≡ key)

-- the option is not given
abbrev pub Absent : List Given → Key → Type 0
Absent gs key = (k : ℕ) → At gs key k → ⊥

-- the option is given with this value
abbrev pub ValueIs : List Given → Key → Bor (List ℕ) → Type 0
ValueIs gs key text = (k : ℕ) × At gs key k × ((d : Given) → (slice_index_or gs k d).text ≡ text)

-- word k
abbrev pub text_at : List (Bor (List ℕ)) → ℕ → List ℕ
text_at ws k = slice_index_or (map (λ w. w.now) ws) k []

-- an option with a value takes two words, any other and a file one
abbrev pub width : Given → ℕ
width g = if has_value g.key then 2 else 1

-- the value of an option that has one is the word behind, of a file the word itself
abbrev pub TextIs : List (Bor (List ℕ)) → ℕ → Given → Type 0
TextIs ws k g = (IsTrue (has_value g.key) → g.text.now ≡ text_at ws (k + 1)) × (g.key ≡ File → g.text.now ≡ text_at ws k)

-- word k gives an option, with the word behind it where the option has a value
pub record Reads (ws : List (Bor (List ℕ))) (k : ℕ) (g : Given) : Type 0 where
  pub within : k + width g ≤ length ws
  pub key : IsKey (text_at ws k) g.key
  pub text : TextIs ws k g

-- the words from k up to m give these options, one after the other
abbrev pub Run : List (Bor (List ℕ)) → ℕ → List Given → ℕ → Type 0
Run ws k [] m = k ≡ m
Run ws k (g ∷ gs) m = Reads ws k g × Run ws (k + width g) gs m

-- no option is given twice
abbrev pub Once : List Given → Type 0
Once gs = (key : Key) (i j : ℕ) → At gs key i → At gs key j → i ≡ j

-- the words give these options, each once
pub record Gives (ws : List (Bor (List ℕ))) (gs : List Given) : Type 0 where
  pub run : Run ws 0 gs (length ws)
  pub once : Once gs

-- word k gives nothing: it is an unknown option, or one without the value that it needs
abbrev pub OneFault : List (Bor (List ℕ)) → ℕ → Misuse → Type 0
OneFault ws k (misuse.UnknownOption word) = (word.now ≡ text_at ws k) × NoKey (text_at ws k)
OneFault ws k (misuse.WithoutValue key) = IsKey (text_at ws k) key × IsTrue (has_value key) × (length ws ≡ k + 1)
OneFault ws k misuse.Memory = ⊥
OneFault ws k misuse.NoFunction = ⊥
OneFault ws k (misuse.UnknownFunction word) = ⊥
OneFault ws k (misuse.Twice key) = ⊥
OneFault ws k (misuse.NotTaken function key) = ⊥
OneFault ws k (misuse.Missing function key) = ⊥
OneFault ws k (misuse.NoNumber key text) = ⊥
OneFault ws k (misuse.UnknownKind text) = ⊥
OneFault ws k (misuse.BadRows text) = ⊥
OneFault ws k (misuse.BadFrame text fault) = ⊥
OneFault ws k (misuse.TooManyWords word) = ⊥
OneFault ws k misuse.NoRefusal = ⊥
OneFault ws k (misuse.UnknownRefusal text) = ⊥

-- the option is given already
abbrev pub Repeats : List Given → Key → Misuse → Type 0
Repeats gs key m = (m ≡ misuse.Twice key) × ((j : ℕ) × At gs key j)

-- word k gives an option that the words before gave too
abbrev pub Again : List (Bor (List ℕ)) → List Given → ℕ → Misuse → Type 0
Again ws gs k m = (g : Given) × Reads ws k g × Repeats gs g.key m

-- the first word that is at fault: those before it give options, each once
pub record FirstFault (ws : List (Bor (List ℕ))) (m : Misuse) : Type 0 where
  pub before : List Given
  pub place : ℕ
  pub within : place < length ws
  pub run : Run ws 0 before place
  pub once : Once before
  pub fault : OneFault ws place m ⊎ Again ws before place m

-- why words give no options: want of memory, or the first word at fault
abbrev pub Ungiven : List (Bor (List ℕ)) → Misuse → Type 0
Ungiven ws m = (m ≡ misuse.Memory) ⊎ FirstFault ws m
