use Rattle.std.proofs.Common.{ℕ, List, ◌∷◌, ◌++◌, [], get_or, sym, ap, ◌∙◌, append_assoc, arith}
use Rattle.std.specs.Vec.{vec_capacity}
use Rattle.amq_print.specs.declared.words.Word.{Word}
use Rattle.amq_print.specs.declared.words.Word.TheVariants.{Text}
use Rattle.amq_print.specs.Words.{word_text}
use Rattle.amq_print.proofs.Joins.{first_word, next_word, no_room, take_front, on_err}
use Rattle.amq_print.proofs.words.write_words.Goals.{then-i-gt0+in_ok-push, else-i-gt0}
use Rattle.amq_print.proofs.words.write_words.Goals as goal

-- the word that a list has past its end
abbrev past : Word
past = Text record { ref_ptr = (0, 0); now = [] }

pub loop-i-preserved : goal.loop-i-preserved
loop-i-preserved c =
    elim c.if-i-gt0.branch [
      | then-i-gt0+in_ok-push w ↦
          let o = ap (λ v. v.items) w.out-is in (
            next_word word_text c.args.words.now c.loop-i.i past c.args.out.now.items c.write_word.new.out.items c.loop-i-test.true w.if-i-gt0.true
                (cc (c.in_ok-write_word.ensures.ok, w.in_ok-push.ensures.items, o)),
            omega (arith, c.loop-i.invariant.1, w.in_ok-push.ensures.capacity, ap vec_capacity w.out-is, c.in_ok-write_word.ensures.capacity),
          )
      | else-i-gt0 w ↦
          let o = ap (λ v. v.items) w.out-is in (
            first_word word_text c.args.words.now c.loop-i.i past c.args.out.now.items c.write_word.new.out.items c.loop-i-test.true w.if-i-gt0.false
                (cc (c.in_ok-write_word.ensures.ok, o)),
            omega (arith, c.loop-i.invariant.1, ap vec_capacity w.out-is, c.in_ok-write_word.ensures.capacity),
          )
    ]

pub returns-in_err-push-clause-full : goal.returns-in_err-push-clause-full
returns-in_err-push-clause-full c =
    let words = c.args.words.now in
    let old = c.args.out.now.items in
    let word : List ℕ = word_text (get_or words c.loop-i.i past) in
    let items = (c.loop-i.out.items ++ 32 ∷ []) ++ word in
    on_err c.from_residual.result
    (no_room word_text words c.loop-i.i (vec_capacity c.args.out.now) old c.loop-i.out.items (32 ∷ word)
    (sym (append_assoc c.loop-i.out.items (32 ∷ []) word) ∙ next_word word_text words c.loop-i.i past old items c.loop-i-test.true c.if-i-gt0.true (cc c.loop-i.invariant.0))
    (omega (arith, c.loop-i.invariant.1, c.in_err-push.ensures.full, c.loop-i.out.ok.0)))

pub returns-in_err-write_word-clause-full : goal.returns-in_err-write_word-clause-full
returns-in_err-write_word-clause-full c =
    let words = c.args.words.now in
    let old = c.args.out.now.items in
    let mid = c.if-i-gt0.out.items in
    let word : List ℕ = word_text (get_or words c.loop-i.i past) in
    on_err c.from_residual-in_err-write_word.result
    (no_room word_text words c.loop-i.i (vec_capacity c.args.out.now) old mid word
    (elim c.if-i-gt0.branch [
      | then-i-gt0+in_ok-push w ↦
          let o = ap (λ v. v.items) w.out-is in
          next_word word_text words c.loop-i.i past old (mid ++ word) c.loop-i-test.true w.if-i-gt0.true (cc (c.loop-i.invariant.0, w.in_ok-push.ensures.items, o))
      | else-i-gt0 w ↦
          let o = ap (λ v. v.items) w.out-is in
          first_word word_text words c.loop-i.i past old (mid ++ word) c.loop-i-test.true w.if-i-gt0.false (cc (c.loop-i.invariant.0, o))
    ])
    (elim c.if-i-gt0.branch [
      | then-i-gt0+in_ok-push w ↦ omega (arith, c.loop-i.invariant.1, w.in_ok-push.ensures.capacity, ap vec_capacity w.out-is, c.in_err-write_word.ensures.full)
      | else-i-gt0 w ↦ omega (arith, c.loop-i.invariant.1, ap vec_capacity w.out-is, c.in_err-write_word.ensures.full)
    ]))

pub returns-in_err-write_word-clause-err : goal.returns-in_err-write_word-clause-err
returns-in_err-write_word-clause-err c =
    on_err c.from_residual-in_err-write_word.result
    (elim c.if-i-gt0.branch [
      | then-i-gt0+in_ok-push w ↦
          take_front c.loop-i.out.items c.args.out.now.items _ c.write_word.new.out.items c.loop-i.invariant.0
          (take_front c.if-i-gt0.out.items c.loop-i.out.items (32 ∷ []) c.write_word.new.out.items
          (let o = ap (λ v. v.items) w.out-is in cc (w.in_ok-push.ensures.items, o))
          c.in_err-write_word.ensures.err)
      | else-i-gt0 w ↦
          take_front c.if-i-gt0.out.items c.args.out.now.items _ c.write_word.new.out.items (ap (λ v. v.items) w.out-is ∙ c.loop-i.invariant.0) c.in_err-write_word.ensures.err
    ])
