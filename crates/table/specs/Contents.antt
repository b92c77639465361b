-- What raw fields say. Assumes nothing.
use Rattle.std.specs.Prelude.{◌≡◌, ℕ, List}
use Rattle.std.specs.Vec.{vec_items}
use Rattle.table.specs.declared.content.Content.{Content}
use Rattle.table.specs.declared.content.Content.TheVariants.{Plain as Borrowed, Unquoted}
use Rattle.table.specs.Fields.{IsField}

-- the bytes of a content
abbrev pub bytes_of : Content → List ℕ
bytes_of (Borrowed bytes) = bytes.now
bytes_of (Unquoted bytes) = vec_items bytes

-- a raw field has no other content
abbrev pub Says : List ℕ → List ℕ → Type 0
Says raw bytes = (content : List ℕ) → IsField raw content → bytes ≡ content
