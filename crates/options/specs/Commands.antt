-- The commands that words stand for. Assumes nothing.
use Rattle.std.specs.Prelude.{◌≡◌, ℕ, ◌≤◌, ◌⊎◌, true, false, List, [], ◌∷◌, codes, Option, None}
use Rattle.std.specs.Borrow.{Bor}
use Rattle.options.specs.declared.asked.Asked.{Asked}
use Rattle.options.specs.declared.command.Command.{Command}
use Rattle.options.specs.declared.command.Command.TheVariants.{Answer, Picture, Replay, Report, Explain, Help}
use Rattle.options.specs.declared.command.Topic.TheVariants as topic
use Rattle.options.specs.declared.command.Drawing.{Drawing}
use Rattle.options.specs.declared.function.Function.{Function}
use Rattle.options.specs.declared.given.Given.{Given}
use Rattle.options.specs.declared.key.Key.TheVariants.{Partition}
use Rattle.options.specs.declared.misuse.Misuse.{Misuse}
use Rattle.options.specs.declared.misuse.Misuse.TheVariants as misuse
use Rattle.options.specs.Asking.{Asks, NotAsked}
use Rattle.options.specs.FrameTexts.{Counts}
use Rattle.options.specs.Functions.{function_text}
use Rattle.options.specs.Given.{Gives, Ungiven}
use Rattle.options.specs.Keys.{Dashed}
use Rattle.options.specs.Values.{BadRows, ColumnsIs, FileIs, RowsAre}

-- no word, or one that names a file
abbrev pub OneFile : List (Bor (List ℕ)) → Option (Bor (List ℕ)) → Type 0
OneFile [] o = o ≡ None
OneFile (w ∷ []) o = ¬ (Dashed w.now) × FileIs w.now o
OneFile (w ∷ v ∷ ws) o = ⊥

-- a second word, or an option
abbrev pub NotOneFile : List (Bor (List ℕ)) → Misuse → Type 0
NotOneFile [] m = ⊥
NotOneFile (w ∷ []) m = Dashed w.now × (m ≡ misuse.UnknownOption w)
NotOneFile (w ∷ v ∷ ws) m = m ≡ misuse.TooManyWords v

-- a number from 1 to 20
abbrev pub RefusalIs : List ℕ → ℕ → Type 0
RefusalIs word n = Counts word n × (1 ≤ n) × (n ≤ 20)

-- one word, the number of a refusal
abbrev pub OneNumber : List (Bor (List ℕ)) → ℕ → Type 0
OneNumber [] n = ⊥
OneNumber (w ∷ []) n = RefusalIs w.now n
OneNumber (w ∷ v ∷ ws) n = ⊥

-- no word, a word that is no such number, or a second one
abbrev pub NotOneNumber : List (Bor (List ℕ)) → Misuse → Type 0
NotOneNumber [] m = m ≡ misuse.NoRefusal
NotOneNumber (w ∷ []) m = (m ≡ misuse.UnknownRefusal w) × ((n : ℕ) → ¬ (RefusalIs w.now n))
NotOneNumber (w ∷ v ∷ ws) m = m ≡ misuse.TooManyWords v

-- a word that names no function
abbrev pub NoName : Bor (List ℕ) → Misuse → Type 0
NoName word m = (m ≡ misuse.UnknownFunction word) × ((f : Function) → ¬ (word.now ≡ function_text f))

-- `--help` alone
abbrev pub IsHelp : List (Bor (List ℕ)) → Type 0
IsHelp [] = ⊥
IsHelp (w ∷ []) = w.now ≡ codes "--help"
IsHelp (w ∷ v ∷ ws) = ⊥

-- the words behind a function's name ask this of it
abbrev pub Wants : Function → List (Bor (List ℕ)) → Asked → Type 0
Wants f ws a = (gs : List Given) × Gives ws gs × Asks f false gs a

-- words that give no options, or options that ask nothing of the function
abbrev pub Unwanted : Function → List (Bor (List ℕ)) → Misuse → Type 0
Unwanted f ws m = Ungiven ws m ⊎ ((gs : List Given) × Gives ws gs × NotAsked f false gs m)

-- a function's name with `--help`, or with options
abbrev pub IsAnswer : List ℕ → List (Bor (List ℕ)) → Command → Type 0
IsAnswer name ws (Help topic.Program) = ⊥
IsAnswer name ws (Help (topic.Function f)) = (name ≡ function_text f) × IsHelp ws
IsAnswer name ws (Answer a) = (f : Function) × (name ≡ function_text f) × ¬ (IsHelp ws) × Wants f ws a
IsAnswer name ws (Picture d) = ⊥
IsAnswer name ws (Replay file) = ⊥
IsAnswer name ws (Report file) = ⊥
IsAnswer name ws (Explain n) = ⊥

-- no function's name, or words that are no options of the function
abbrev pub NotAnswer : Bor (List ℕ) → List (Bor (List ℕ)) → Misuse → Type 0
NotAnswer name ws m = NoName name m ⊎ ((f : Function) × (name.now ≡ function_text f) × ¬ (IsHelp ws) × Unwanted f ws m)

-- a picture of what options ask, and of the partition and the rows that they give
pub record Draws (f : Function) (gs : List Given) (d : Drawing) : Type 0 where
  pub asked : Asks f true gs d.asked
  pub partition : ColumnsIs gs Partition d.partition.items
  pub rows : RowsAre gs d.rows

-- options that ask nothing of the function, or give rows that are none
abbrev pub NotDrawn : Function → List Given → Misuse → Type 0
NotDrawn f gs m = NotAsked f true gs m ⊎ ((a : Asked) × Asks f true gs a × BadRows gs m)

-- the same for the words of options
abbrev pub WantsDrawing : Function → List (Bor (List ℕ)) → Drawing → Type 0
WantsDrawing f ws d = (gs : List Given) × Gives ws gs × Draws f gs d

abbrev pub UnwantedDrawing : Function → List (Bor (List ℕ)) → Misuse → Type 0
UnwantedDrawing f ws m = Ungiven ws m ⊎ ((gs : List Given) × Gives ws gs × NotDrawn f gs m)

-- a function's name and its options
abbrev pub IsDrawing : List (Bor (List ℕ)) → Drawing → Type 0
IsDrawing [] d = ⊥
IsDrawing (name ∷ ws) d = (f : Function) × (name.now ≡ function_text f) × WantsDrawing f ws d

abbrev pub NotDrawing : List (Bor (List ℕ)) → Misuse → Type 0
NotDrawing [] m = m ≡ misuse.NoFunction
NotDrawing (name ∷ ws) m = NoName name m ⊎ ((f : Function) × (name.now ≡ function_text f) × UnwantedDrawing f ws m)

-- no command's word
abbrev pub Other : List ℕ → Type 0
Other word = ¬ (word ≡ codes "report") × ¬ (word ≡ codes "replay") × ¬ (word ≡ codes "explain") × ¬ (word ≡ codes "picture")

-- the command of a word and those behind it: of the word's own, or else of a function's name
abbrev pub Says : List ℕ → List (Bor (List ℕ)) → Command → Type 0
Says word ws c = ((word ≡ codes "report") × ((file : Option (Bor (List ℕ))) × OneFile ws file × (c ≡ Report file)))
    ⊎ (((word ≡ codes "replay") × ((file : Option (Bor (List ℕ))) × OneFile ws file × (c ≡ Replay file)))
    ⊎ (((word ≡ codes "explain") × ((n : ℕ) × OneNumber ws n × (c ≡ Explain n)))
    ⊎ (((word ≡ codes "picture") × ((d : Drawing) × IsDrawing ws d × (c ≡ Picture d)))
    ⊎ (Other word × IsAnswer word ws c))))

-- what is wrong with a word and those behind it
abbrev pub SaysNothing : Bor (List ℕ) → List (Bor (List ℕ)) → Misuse → Type 0
SaysNothing w ws m = ((w.now ≡ codes "report") × NotOneFile ws m)
    ⊎ (((w.now ≡ codes "replay") × NotOneFile ws m)
    ⊎ (((w.now ≡ codes "explain") × NotOneNumber ws m)
    ⊎ (((w.now ≡ codes "picture") × NotDrawing ws m)
    ⊎ (Other w.now × NotAnswer w ws m))))

-- the command of words: help, or what the first says with those behind it
abbrev pub Means : List (Bor (List ℕ)) → Command → Type 0
Means [] c = ⊥
Means (w ∷ ws) c = (IsHelp (w ∷ ws) × (c ≡ Help topic.Program)) ⊎ (¬ (IsHelp (w ∷ ws)) × Says w.now ws c)

-- what is wrong with words that are no command
abbrev pub NoCommand : List (Bor (List ℕ)) → Misuse → Type 0
NoCommand [] m = m ≡ misuse.NoFunction
NoCommand (w ∷ ws) m = ¬ (IsHelp (w ∷ ws)) × SaysNothing w ws m
