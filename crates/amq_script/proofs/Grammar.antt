-- Reading a script, line by line.
use Rattle.std.proofs.Common.{◌≡◌, ℕ, ◌+◌, List, [], ◌∷◌, ◌++◌, length, Option, Result, Ok, Err, refl, sym, ap, ◌∙◌, arith}
use Rattle.std.specs.Option.{option_to_list}
use Rattle.amq_model.specs.declared.script.Mode.{Mode}
use Rattle.amq_model.specs.declared.script.Line.{Line}
use Rattle.amq_model.specs.declared.script.Said.{Said}
use Rattle.amq_model.specs.declared.script.ScriptCause.{ScriptCause}
use Rattle.amq_model.specs.Script.{lines_of, line_says, behind_line, said_from, made_of, script_of, producers_of}
use Rattle.amq_script.specs.Grammar.{AreSaid, IsFirstWrong}

-- ---- scripts that are read

-- lines that are said are read
pub reads : (mode : Mode) (number : ℕ) (before : List Said) (lines : List (List ℕ)) (all : List Said) → AreSaid mode before lines all → said_from mode number before lines ≡ Ok all
reads mode number before [] all h = ap Ok h
reads mode number before (line ∷ lines) all h =
    ap (behind_line number (λ said. said_from mode (number + 1) (before ++ option_to_list said) lines)) h.1 ∙ reads mode (number + 1) (before ++ option_to_list h.0) lines all h.2

said_line : (mode : Mode) (number : ℕ) (before : List Said) (line : List ℕ) (lines : List (List ℕ)) (all : List Said) (r : Result (Option Said) ScriptCause) → line_says mode before line ≡ r → behind_line number (λ s. said_from mode (number + 1) (before ++ option_to_list s) lines) r ≡ Ok all → ((s : Option Said) → said_from mode (number + 1) (before ++ option_to_list s) lines ≡ Ok all → AreSaid mode (before ++ option_to_list s) lines all) → AreSaid mode before (line ∷ lines) all
said_line mode number before line lines all (Ok s) e h rest = (s, e, rest s h)
said_line mode number before line lines all (Err cause) e h rest = absurd (cc h)

-- lines that are read are said
pub said : (mode : Mode) (number : ℕ) (before : List Said) (lines : List (List ℕ)) (all : List Said) → said_from mode number before lines ≡ Ok all → AreSaid mode before lines all
said mode number before [] all h = cc
said mode number before (line ∷ lines) all h = said_line mode number before line lines all (line_says mode before line) refl h (λ s. said mode (number + 1) (before ++ option_to_list s) lines all)

made : (mode : Mode) (bytes : List ℕ) (producers : List (List Line)) (r : Result (List Said) (ℕ × ScriptCause)) → said_from mode 1 [] (lines_of bytes) ≡ r → made_of mode r ≡ Ok producers → (saids : List Said) × AreSaid mode [] (lines_of bytes) saids × (producers_of mode saids ≡ producers)
made mode bytes producers (Ok saids) e h = (saids, said mode 1 [] (lines_of bytes) saids e, cc)
made mode bytes producers (Err wrong) e h = absurd (cc h)

pub script_said : (mode : Mode) (bytes : List ℕ) (producers : List (List Line)) → script_of mode bytes ≡ Ok producers → (saids : List Said) × AreSaid mode [] (lines_of bytes) saids × (producers_of mode saids ≡ producers)
script_said mode bytes producers h = made mode bytes producers (said_from mode 1 [] (lines_of bytes)) refl h

pub script_read : (mode : Mode) (bytes : List ℕ) (producers : List (List Line)) (saids : List Said) → AreSaid mode [] (lines_of bytes) saids → producers_of mode saids ≡ producers → script_of mode bytes ≡ Ok producers
script_read mode bytes producers saids h e = ap (made_of mode) (reads mode 1 [] (lines_of bytes) saids h) ∙ ap Ok e

-- ---- scripts that are refused

-- behind lines that are said stands one that is not
record IsWrong (mode : Mode) (number : ℕ) (before : List Said) (lines : List (List ℕ)) (at : ℕ) (cause : ScriptCause) : Type 0 where
  front : List (List ℕ)
  line : List ℕ
  back : List (List ℕ)
  saids : List Said
  whole : lines ≡ front ++ line ∷ back
  numbered : at ≡ length front + number
  said : AreSaid mode before front saids
  wrong : line_says mode saids line ≡ Err cause

wrong_line : (mode : Mode) (number : ℕ) (before : List Said) (line : List ℕ) (lines : List (List ℕ)) (at : ℕ) (cause : ScriptCause) (r : Result (Option Said) ScriptCause) → line_says mode before line ≡ r → behind_line {A = List Said} number (λ s. said_from mode (number + 1) (before ++ option_to_list s) lines) r ≡ Err (at, cause) → ((s : Option Said) → said_from mode (number + 1) (before ++ option_to_list s) lines ≡ Err (at, cause) → IsWrong mode (number + 1) (before ++ option_to_list s) lines at cause) → IsWrong mode number before (line ∷ lines) at cause
wrong_line mode number before line lines at cause (Ok s) e h rest =
    let w = rest s h in
    record {
      front = line ∷ w.front;
      line = w.line;
      back = w.back;
      saids = w.saids;
      whole = ap (λ l. line ∷ l) w.whole;
      numbered = omega (arith, w.numbered);
      said = (s, e, w.said);
      wrong = w.wrong;
    }
wrong_line mode number before line lines at cause (Err other) e h rest =
    let pair : (number, other) ≡ (at, cause) = cc h in
    record {
      front = [];
      line = line;
      back = lines;
      saids = before;
      whole = refl;
      numbered = let n = ap (λ (p : ℕ × ScriptCause). p.0) pair in omega (arith, n);
      said = refl;
      wrong = e ∙ ap (λ (p : ℕ × ScriptCause). Err p.1) pair;
    }

wrong_from : (mode : Mode) (number : ℕ) (before : List Said) (lines : List (List ℕ)) (at : ℕ) (cause : ScriptCause) → said_from mode number before lines ≡ Err (at, cause) → IsWrong mode number before lines at cause
wrong_from mode number before [] at cause h = absurd (cc h)
wrong_from mode number before (line ∷ lines) at cause h = wrong_line mode number before line lines at cause (line_says mode before line) refl h (λ s. wrong_from mode (number + 1) (before ++ option_to_list s) lines at cause)

unmade : (mode : Mode) (at : ℕ) (cause : ScriptCause) (r : Result (List Said) (ℕ × ScriptCause)) → made_of mode r ≡ Err (at, cause) → r ≡ Err (at, cause)
unmade mode at cause (Ok saids) h = absurd (cc h)
unmade mode at cause (Err wrong) h = let e : wrong ≡ (at, cause) = cc h in ap Err e

pub script_wrong : (mode : Mode) (bytes : List ℕ) (number : ℕ) (cause : ScriptCause) → script_of mode bytes ≡ Err (number, cause) → IsFirstWrong mode bytes number cause
script_wrong mode bytes number cause h =
    let w = wrong_from mode 1 [] (lines_of bytes) number cause (unmade mode number cause (said_from mode 1 [] (lines_of bytes)) h) in
    record { front = w.front; line = w.line; back = w.back; saids = w.saids; lines = w.whole; numbered = w.numbered; before = w.said; wrong = w.wrong }

stops_at : (mode : Mode) (number : ℕ) (before : List Said) (front : List (List ℕ)) (line : List ℕ) (back : List (List ℕ)) (saids : List Said) (cause : ScriptCause) → AreSaid mode before front saids → line_says mode saids line ≡ Err cause → said_from mode number before (front ++ line ∷ back) ≡ Err (length front + number, cause)
stops_at mode number before [] line back saids cause h wrong =
    let n : number ≡ 0 + number = omega arith in
    let here = ap (λ b. line_says mode b line) h ∙ wrong in
    ap (behind_line number (λ s. said_from mode (number + 1) (before ++ option_to_list s) back)) here ∙ ap (λ k. Err (k, cause)) n
stops_at mode number before (other ∷ front) line back saids cause h wrong =
    let n : length front + (number + 1) ≡ length (other ∷ front) + number = omega arith in
    ap (behind_line number (λ s. said_from mode (number + 1) (before ++ option_to_list s) (front ++ line ∷ back))) h.1
    ∙ stops_at mode (number + 1) (before ++ option_to_list h.0) front line back saids cause h.2 wrong
    ∙ ap (λ k. Err (k, cause)) n

pub wrong_script : (mode : Mode) (bytes : List ℕ) (number : ℕ) (cause : ScriptCause) → IsFirstWrong mode bytes number cause → script_of mode bytes ≡ Err (number, cause)
wrong_script mode bytes number cause w =
    ap (λ l. made_of mode (said_from mode 1 [] l)) w.lines
    ∙ ap (made_of mode) (stops_at mode 1 [] w.front w.line w.back w.saids cause w.before w.wrong)
    ∙ ap (λ k. Err (k, cause)) (sym w.numbered)
