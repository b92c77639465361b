-- The options. Assumes nothing.
use Rattle.std.specs.Prelude.{◌≡◌, ℕ, Bool, true, false, List, codes, nat_eq, Result, MatchResult, IsTrue}
use Rattle.std.specs.List.{starts_with}
use Rattle.options.specs.declared.key.Key.{Key}
use Rattle.options.specs.declared.key.Key.TheVariants.{Of, PartitionBy, OrderBy, Offset, N, Default, IgnoreNulls, Frame, Kind, As, ByRows, Quiet, Rows, Partition, File}
use Rattle.options.specs.declared.key.UnknownKey.{UnknownKey}

-- the word of an option
abbrev pub key_text : Key → List ℕ
key_text Of = codes "--of"
key_text PartitionBy = codes "--partition-by"
key_text OrderBy = codes "--order-by"
key_text Offset = codes "--offset"
key_text N = codes "--n"
key_text Default = codes "--default"
key_text IgnoreNulls = codes "--ignore-nulls"
key_text Frame = codes "--frame"
key_text Kind = codes "--kind"
key_text As = codes "--as"
key_text ByRows = codes "--by-rows"
key_text Quiet = codes "--quiet"
key_text Rows = codes "--rows"
key_text Partition = codes "--partition"
key_text File = codes "FILE"

-- a value stands behind it
abbrev pub has_value : Key → Bool
has_value IgnoreNulls = false
has_value Quiet = false
has_value File = false
has_value Of = true
has_value PartitionBy = true
has_value OrderBy = true
has_value Offset = true
has_value N = true
has_value Default = true
has_value Frame = true
has_value Kind = true
has_value As = true
has_value ByRows = true
has_value Rows = true
has_value Partition = true

-- the word looks like an option
abbrev pub Dashed : List ℕ → Type 0
Dashed word = IsTrue (starts_with nat_eq word (codes "--"))

-- a word that does not look like an option is a file, any other the option of its text
abbrev pub IsKey : List ℕ → Key → Type 0
IsKey word File = ¬ (Dashed word)
IsKey word Of = word ≡ key_text Of
IsKey word PartitionBy = word ≡ key_text PartitionBy
IsKey word OrderBy = word ≡ key_text OrderBy
IsKey word Offset = word ≡ key_text Offset
IsKey word N = word ≡ key_text N
IsKey word Default = word ≡ key_text Default
IsKey word IgnoreNulls = word ≡ key_text IgnoreNulls
IsKey word Frame = word ≡ key_text Frame
IsKey word Kind = word ≡ key_text Kind
IsKey word As = word ≡ key_text As
IsKey word ByRows = word ≡ key_text ByRows
IsKey word Quiet = word ≡ key_text Quiet
IsKey word Rows = word ≡ key_text Rows
IsKey word Partition = word ≡ key_text Partition

-- it looks like an option, and is none
abbrev pub NoKey : List ℕ → Type 0
NoKey word = Dashed word × ((k : Key) → ¬ (word ≡ key_text k))

-- what a word is read as
abbrev pub NamesKey : List ℕ → Result Key UnknownKey → Type 0
NamesKey word r = MatchResult r (IsKey word) (λ _. NoKey word)
