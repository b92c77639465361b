use Rattle.std.proofs.Common.{rules}
use Rattle.options.specs.FrameTexts.{Stops}
use Rattle.options.proofs.frame_text.read_frame.Goals as goal

pub returns-in_err-read_words : goal.returns-in_err-read_words
returns-in_err-read_words c =
    let stops : Stops c.args.text.now c.in_err-read_words.field-0.0 = record { words = c.in_ok-words.words; cut = search rules; stop = search rules } in
    search (rules, stops)

pub returns : goal.returns
returns c = record { words = c.in_ok-words.words; cut = search rules; says = search rules; allowed = search rules }
