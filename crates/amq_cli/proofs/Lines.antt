-- What playing a line promises, by how the line was answered.
use Rattle.std.proofs.Common.{◌≡◌, ℕ, ◌++◌, List, [], ◌∷◌, Option, None, Some, refl, sym, subst, ◌∙◌, arith}
use Rattle.std.specs.Prelude.{Result, Ok, Err, if◌then◌else◌}
use Rattle.std.proofs.lemmas.List.{append-nil}
use Rattle.amq_model.specs.Names.{same}
use Rattle.amq_model.specs.Calls.{Past}
use Rattle.amq_model.specs.Texts.{reply_line, refusal_line, bound_line}
use Rattle.amq_model.specs.declared.command.Command.{Command}
use Rattle.amq_model.specs.declared.history.Answer.{Answer}
use Rattle.amq_model.specs.declared.refusal.Refusal.{Refusal}
use Rattle.amq_model.specs.declared.refusal.Refusal.TheVariants as r
use Rattle.amq_model.specs.declared.script.Line.{Line}
use Rattle.amq_model.specs.declared.script.Line.TheVariants as l
use Rattle.amq_io.specs.Cause.{Faults}
use Rattle.amq_engine.specs.declared.chronicle.Kept.{Kept}
use Rattle.amq_engine.specs.Engine.{EngineOf}
use Rattle.amq_engine.proofs.GoingOn.{goes_still}
use Rattle.amq_cli.specs.declared.labels.Labels.{Labels}
use Rattle.amq_cli.specs.Labelled.{number_in}
use Rattle.amq_cli.specs.Offline.{lists_of}
use Rattle.amq_cli.specs.Playing.{IsPlaying, AreNumbersOf}
use Rattle.amq_cli.specs.Replaying.{Continues, GivesCommand, AnswersLine, PlaysLine}
use Rattle.amq_cli.proofs.Playing.{labels_behind}
use Rattle.amq_cli.proofs.Answering.{bound, with_each}
use Rattle.amq_cli.proofs.Beginning.{first_still}
use Rattle.amq_cli.proofs.DataFileLemmas.{so_far_unfinished}
use Rattle.amq_cli.proofs.Ending.{line_played, line_refused, refused_owed, none_noted}

module _ {D : Type 0} (past : D → Option Past) (faults : D → Faults) where
  -- no call was made, and there was no memory
  pub unasked : (T : Type 0) (e : EngineOf D Kept) → Continues {T = T} past faults (Err r.NoMemory) e e
  unasked T e = record {
    last = tt;
    closes = tt;
    unclosed = tt;
    same = (refl, refl);
    cause = (refl, refl);
    later = omega arith;
    goes_on = goes_still (past e.disk);
    first = first_still (lists_of e.chronicle);
    stands = λ first stands. stands;
    files = λ done first was. so_far_unfinished done e.config e.file e.end e.highest (lists_of e.chronicle) first (past e.disk) was;
  }

  -- no call was made, and the journal is open
  unasked_open : (e : EngineOf D Kept) → e.closed ≡ None → Continues {T = Unit {0}} past faults (Ok tt) e e
  unasked_open e unclosed = record {
    last = tt;
    closes = tt;
    unclosed = unclosed;
    same = (refl, refl);
    cause = (refl, refl);
    later = omega arith;
    goes_on = goes_still (past e.disk);
    first = first_still (lists_of e.chronicle);
    stands = λ first stands. stands;
    files = λ done first was. was;
  }

  -- a line without a label
  pub plain : (command : Command) (labels : List ℕ → ℕ) (number number' : ℕ) (result : Result Answer Refusal) (old new : EngineOf D Kept) → GivesCommand past faults command number number' result old new → AnswersLine past faults (l.Plain command) labels labels number number' result old new
  plain command labels number number' result old new gives = record {
    played = λ answered labelled was. with_each result (λ answer. IsPlaying old.config.buffer_timeout (answered ++ (l.Plain command, Some answer) ∷ []) number' new) (λ answer. AreNumbersOf labels (answered ++ (l.Plain command, Some answer) ∷ []))
        (λ answer. labels_behind labels labels answered (l.Plain command, Some answer) labelled (λ other. refl))
        (gives.played answered (l.Plain command) refl was);
    kept = gives.kept;
    next = gives.next;
    continues = gives.continues;
  }

  -- the same of values that are the same
  pub answered_so : (line line' : Line) (labels : List ℕ → ℕ) (behind behind' : Labels) (number next next' : ℕ) (result result' : Result Answer Refusal) (old new new' : EngineOf D Kept) → line' ≡ line → behind' ≡ behind → next' ≡ next → result' ≡ result → new' ≡ new
      → AnswersLine past faults line labels (number_in behind) number next result old new → AnswersLine past faults line' labels (number_in behind') number next' result' old new'
  answered_so line line' labels behind behind' number next next' result result' old new new' a b c d e answers =
      subst (λ (x : Line). AnswersLine past faults x labels (number_in behind') number next' result' old new') (sym a)
      (subst (λ (x : Labels). AnswersLine past faults line labels (number_in x) number next' result' old new') (sym b)
      (subst (λ (x : ℕ). AnswersLine past faults line labels (number_in behind) number x result' old new') (sym c)
      (subst (λ (x : Result Answer Refusal). AnswersLine past faults line labels (number_in behind) number next x old new') (sym d)
      (subst (λ (x : EngineOf D Kept). AnswersLine past faults line labels (number_in behind) number next result old x) (sym e) answers))))

  module _ (line : Line) (labels labels' : List ℕ → ℕ) (number number' : ℕ) (before after : List ℕ) (old : EngineOf D Kept) where
    -- a line that was answered, and whose line of text is written
    pub answered_plays : (new : EngineOf D Kept) (answer : Answer) → AnswersLine past faults line labels labels' number number' (Ok answer) old new → after ≡ before ++ reply_line answer → PlaysLine past faults line labels labels' number number' before after (Ok tt) old new
    answered_plays new answer answers is = record {
      played = λ done was. line_played old.config.buffer_timeout done line (Some answer) labels labels' number number' old new before after was answers.played is;
      ended = λ done was. tt;
      owed = λ done was. tt;
      next = answers.next;
      continues = record {
        last = tt;
        closes = tt;
        unclosed = answers.continues.unclosed;
        same = answers.continues.same;
        cause = answers.continues.cause;
        later = answers.continues.later;
        goes_on = answers.continues.goes_on;
        first = answers.continues.first;
        stands = answers.continues.stands;
        files = answers.continues.files;
      };
    }

    -- a line that ended the replay
    pub refused_plays : (new : EngineOf D Kept) (refusal : Refusal) → AnswersLine past faults line labels labels' number number' (Err refusal) old new → after ≡ before ++ refusal_line refusal → PlaysLine past faults line labels labels' number number' before after (Err refusal) old new
    refused_plays new refusal answers is = record {
      played = λ done was. tt;
      ended = λ done was. line_refused old.config.buffer_timeout done line labels number old new before after (refusal_line refusal) was answers.kept is;
      owed = λ done was. refused_owed old.config.buffer_timeout done line labels number old new before was answers.kept;
      next = answers.next;
      continues = record {
        last = answers.continues.last;
        closes = answers.continues.closes;
        unclosed = tt;
        same = answers.continues.same;
        cause = answers.continues.cause;
        later = answers.continues.later;
        goes_on = answers.continues.goes_on;
        first = answers.continues.first;
        stands = answers.continues.stands;
        files = answers.continues.files;
      };
    }

  module _ (line : Line) (labels labels' : List ℕ → ℕ) (number : ℕ) (before after : List ℕ) (e : EngineOf D Kept) where
    -- a line that wasn't answered for want of memory
    pub unasked_plays : after ≡ before → PlaysLine past faults line labels labels' number number before after (Err r.NoMemory) e e
    unasked_plays is = record {
      played = λ done was. tt;
      ended = λ done was. line_refused e.config.buffer_timeout done line labels number e e before after [] was (none_noted e.durable e.appended (lists_of e.chronicle)) (is ∙ sym (append-nil before));
      owed = λ done was. refused_owed e.config.buffer_timeout done line labels number e e before was (none_noted e.durable e.appended (lists_of e.chronicle));
      next = omega arith;
      continues = unasked (Unit {0}) e;
    }

    -- a bind
    pub bind_plays : (label : List ℕ) (tx : ℕ) → line ≡ l.Bind label tx → ((other : List ℕ) → labels' other ≡ (if same label other then tx else labels other)) → e.closed ≡ None → after ≡ before ++ bound_line tx
        → PlaysLine past faults line labels labels' number number before after (Ok tt) e e
    bind_plays label tx line_is set unclosed is = subst (λ (x : Line). PlaysLine past faults x labels labels' number number before after (Ok tt) e e) (sym line_is) (record {
      played = λ done was. line_played e.config.buffer_timeout done (l.Bind label tx) None labels labels' number number e e before after was
          (λ answered labelled playing. (
            bound e.config.buffer_timeout answered number e label tx playing,
            labels_behind labels labels' answered (l.Bind label tx, None) labelled set,
          ))
          is;
      ended = λ done was. tt;
      owed = λ done was. tt;
      next = omega arith;
      continues = unasked_open e unclosed;
    })
