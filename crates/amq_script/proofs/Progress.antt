-- A script that is read so far.
use Rattle.std.proofs.Common.{◌≡◌, ℕ, ◌+◌, ◌<◌, List, [], ◌++◌, length, get_or, drop, Option, Ok, Err, refl, sym, ap, ◌∙◌, arith}
use Rattle.std.proofs.lemmas.List.{at_drop_more, at_drop_all}
use Rattle.std.specs.Option.{option_to_list}
use Rattle.amq_model.specs.declared.script.Mode.{Mode}
use Rattle.amq_model.specs.declared.script.Said.{Said}
use Rattle.amq_model.specs.declared.script.ScriptCause.{ScriptCause}
use Rattle.amq_model.specs.Script.{lines_of, line_says, behind_line, said_from, made_of, script_of, producers_of}
use Rattle.amq_script.specs.Faults.{IsRefused, fault_at}
use Rattle.amq_script.specs.Reading.{HasRead, HasReadLine}
use Rattle.amq_script.specs.declared.faults.LineFault.{LineFault}
use Rattle.amq_script.specs.declared.faults.LineFault.TheVariants as f
use Rattle.amq_script.specs.declared.parsing.Reader.{Reader}

-- so many lines were read, and what they say is what the reader has
pub record IsAt (mode : Mode) (bytes : List ℕ) (count : ℕ) (reader : Reader) : Type 0 where
  pub saids : List Said
  pub read : HasRead saids reader
  pub rest : said_from mode 1 [] (lines_of bytes) ≡ said_from mode (count + 1) saids (drop count (lines_of bytes))

-- before the first line
pub starts : (mode : Mode) (bytes : List ℕ) (reader : Reader) → HasRead [] reader → IsAt mode bytes 0 reader
starts mode bytes reader read = record { saids = []; read = read; rest = refl }

-- the next line decides
pub next_line : (mode : Mode) (bytes : List ℕ) (count : ℕ) (reader : Reader) (at : IsAt mode bytes count reader) (line : List ℕ) → count < length (lines_of bytes) → said_from mode 1 [] (lines_of bytes) ≡ behind_line (count + 1) (λ said. said_from mode (count + 1 + 1) (at.saids ++ option_to_list said) (drop (count + 1) (lines_of bytes))) (line_says mode at.saids (get_or (lines_of bytes) count line))
next_line mode bytes count reader at line within = at.rest ∙ at_drop_more (said_from mode (count + 1) at.saids) (lines_of bytes) count line within

-- a line in the grammar
pub goes_on : (mode : Mode) (bytes : List ℕ) (count : ℕ) (reader new : Reader) (at : IsAt mode bytes count reader) (line : List ℕ) (said : Option Said) → count < length (lines_of bytes) → line ≡ get_or (lines_of bytes) count line → line_says mode at.saids line ≡ Ok said → HasRead (at.saids ++ option_to_list said) new → IsAt mode bytes (count + 1) new
goes_on mode bytes count reader new at line said within is says read = record {
  saids = at.saids ++ option_to_list said;
  read = read;
  rest = next_line mode bytes count reader at line within ∙ ap (behind_line (count + 1) (λ s. said_from mode (count + 1 + 1) (at.saids ++ option_to_list s) (drop (count + 1) (lines_of bytes)))) (ap (line_says mode at.saids) (sym is) ∙ says);
}

-- the first line that is not
pub stops : (mode : Mode) (bytes : List ℕ) (count : ℕ) (reader : Reader) (at : IsAt mode bytes count reader) (line : List ℕ) (cause : ScriptCause) → count < length (lines_of bytes) → line ≡ get_or (lines_of bytes) count line → line_says mode at.saids line ≡ Err cause → script_of mode bytes ≡ Err (count + 1, cause)
stops mode bytes count reader at line cause within is says =
    ap (made_of mode) (next_line mode bytes count reader at line within ∙ ap (behind_line (count + 1) (λ s. said_from mode (count + 1 + 1) (at.saids ++ option_to_list s) (drop (count + 1) (lines_of bytes)))) (ap (line_says mode at.saids) (sym is) ∙ says))

-- the fault of a line is the script's
pub refuses : (mode : Mode) (bytes : List ℕ) (count : ℕ) (reader new : Reader) (at : IsAt mode bytes count reader) (line : List ℕ) (fault : LineFault) → count < length (lines_of bytes) → line ≡ get_or (lines_of bytes) count line → HasReadLine mode at.saids line (Err fault) new → IsRefused (fault_at fault (count + 1)) (script_of mode bytes)
refuses mode bytes count reader new at line (f.Wrong cause) within is says = stops mode bytes count reader at line cause within is says
refuses mode bytes count reader new at line f.NoMemory within is says = tt

-- behind the last line
pub ends : (mode : Mode) (bytes : List ℕ) (count : ℕ) (reader : Reader) (at : IsAt mode bytes count reader) → count ≡ length (lines_of bytes) → script_of mode bytes ≡ Ok (producers_of mode at.saids)
ends mode bytes count reader at all = ap (made_of mode) (at.rest ∙ at_drop_all (said_from mode (count + 1) at.saids) (lines_of bytes) count (omega (arith, all)))
