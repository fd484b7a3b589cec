-- What a word prints.
use Rattle.std.specs.Prelude.{ℕ, List}
use Rattle.std.specs.Fmt.{decimal}
use Rattle.amq_model.specs.Texts.{hex}
use Rattle.amq_print.specs.declared.words.Word.{Word}
use Rattle.amq_print.specs.declared.words.Word.TheVariants.{Text, Number, Hex}

-- the word's bytes
abbrev pub word_text : Word → List ℕ
word_text (Text text) = text.now
word_text (Number n) = decimal n
word_text (Hex bytes) = hex bytes.now
