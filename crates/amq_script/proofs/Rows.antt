-- Scripts that are computed.
use Rattle.std.proofs.Common.{◌≡◌, [], ◌∷◌, codes, Ok, Err, refl}
use Rattle.amq_model.specs.declared.command.Command.TheVariants as c
use Rattle.amq_model.specs.declared.script.Mode.TheVariants.{Replay, Run}
use Rattle.amq_model.specs.declared.script.Line.TheVariants as l
use Rattle.amq_model.specs.declared.script.ScriptCause.TheVariants as w
use Rattle.amq_model.specs.Script.{script_of}

added : script_of Replay (codes "add 1 7 6869\nflush\n") ≡ Ok ((l.Plain (c.Add 1 7 (104 ∷ 105 ∷ [])) ∷ l.Plain c.Flush ∷ []) ∷ [])
added = refl

in_transaction : script_of Replay (codes "begin a\n\n  addtx a 3 7  aF\n# b\ncommit a") ≡ Ok ((l.Labelled (codes "a") c.Begin ∷ l.Labelled (codes "a") (c.AddTx 0 3 7 (175 ∷ [])) ∷ l.Labelled (codes "a") (c.Commit 0) ∷ []) ∷ [])
in_transaction = refl

nothing : script_of Replay (codes "") ≡ Ok ([] ∷ [])
nothing = refl

no_section : script_of Run (codes "# none\n") ≡ Ok []
no_section = refl

two_sections : script_of Run (codes "producer\nbind b 5\nproducer\n") ≡ Ok ((l.Bind (codes "b") 5 ∷ []) ∷ [] ∷ [])
two_sections = refl

unknown_word : script_of Replay (codes "flush\n\nfrob 1\nflush 1") ≡ Err (3, w.UnknownWord)
unknown_word = refl

of_the_other_mode : script_of Run (codes "step 1") ≡ Err (1, w.UnknownWord)
of_the_other_mode = refl

before_a_section : script_of Run (codes "flush x") ≡ Err (1, w.Section)
before_a_section = refl

too_few : script_of Replay (codes "add A 256") ≡ Err (1, w.Arguments)
too_few = refl

no_label : script_of Replay (codes "begin a\ncommit A") ≡ Err (2, w.Label)
no_label = refl

of_another_section : script_of Run (codes "producer\nbegin a\nproducer\nprepare a z") ≡ Err (4, w.Unbegun)
of_another_section = refl

no_number : script_of Replay (codes "add 1 256 z") ≡ Err (1, w.Number)
no_number = refl

no_body : script_of Replay (codes "add 1 255 6") ≡ Err (1, w.Hex)
no_body = refl

-- ---- each line, and the bounds of its words

outside_transactions : script_of Replay (codes "update 18 255 -\ndelete 9223372036854775807\nadd 0 007 aBfF") ≡ Ok ((l.Plain (c.Update 18 255 []) ∷ l.Plain (c.Delete 9223372036854775807) ∷ l.Plain (c.Add 0 7 (171 ∷ 255 ∷ [])) ∷ []) ∷ [])
outside_transactions = refl

bound : script_of Replay (codes "bind b 0000000000000000007\nupdatetx b 1 0 A0\ndeletetx b 1 -\nprepare b 00\nrollback b") ≡ Ok ((l.Bind (codes "b") 7 ∷ l.Labelled (codes "b") (c.UpdateTx 0 1 0 (160 ∷ [])) ∷ l.Labelled (codes "b") (c.DeleteTx 0 1 []) ∷ l.Labelled (codes "b") (c.Prepare 0 (0 ∷ [])) ∷ l.Labelled (codes "b") (c.Rollback 0) ∷ []) ∷ [])
bound = refl

of_a_replay : script_of Replay (codes "tick 0\nreclaim\ncompact\nstep 0000001\nstep 1000000") ≡ Ok ((l.Tick 0 ∷ l.Reclaim ∷ l.Compact ∷ l.Step 1 ∷ l.Step 1000000 ∷ []) ∷ [])
of_a_replay = refl

sixteen_letters : script_of Replay (codes "begin abcdefghijklmnop") ≡ Ok ((l.Labelled (codes "abcdefghijklmnop") c.Begin ∷ []) ∷ [])
sixteen_letters = refl

seventeen_letters : script_of Replay (codes "begin abcdefghijklmnopq") ≡ Err (1, w.Label)
seventeen_letters = refl

-- a comment begins with the line's first byte
indented_comment : script_of Replay (codes "# x\n # x") ≡ Err (2, w.UnknownWord)
indented_comment = refl

-- a tab or a carriage return is part of a word
tab : script_of Replay (codes "flush\n\nadd\t1 7 -") ≡ Err (3, w.UnknownWord)
tab = refl

carriage_return : script_of Replay (codes "delete 1\r\n") ≡ Err (1, w.Number)
carriage_return = refl

twenty_digits : script_of Replay (codes "delete 00000000000000000001") ≡ Err (1, w.Number)
twenty_digits = refl

above_the_greatest : script_of Replay (codes "delete 9223372036854775808") ≡ Err (1, w.Number)
above_the_greatest = refl

four_digits : script_of Replay (codes "add 1 0255 -") ≡ Err (1, w.Number)
four_digits = refl

no_steps : script_of Replay (codes "step 0") ≡ Err (1, w.Number)
no_steps = refl

too_many_steps : script_of Replay (codes "step 1000001") ≡ Err (1, w.Number)
too_many_steps = refl

eight_digits : script_of Replay (codes "step 00000001") ≡ Err (1, w.Number)
eight_digits = refl

no_digit : script_of Replay (codes "add 1 7 0g") ≡ Err (1, w.Hex)
no_digit = refl

two_dashes : script_of Replay (codes "add 1 7 --") ≡ Err (1, w.Hex)
two_dashes = refl

-- ---- the order of the causes

unknown_before_section : script_of Run (codes "frob") ≡ Err (1, w.UnknownWord)
unknown_before_section = refl

section_before_arguments : script_of Run (codes "delete") ≡ Err (1, w.Section)
section_before_arguments = refl

first_section_with_a_word : script_of Run (codes "producer x") ≡ Err (1, w.Arguments)
first_section_with_a_word = refl

arguments_before_label : script_of Replay (codes "begin A 1") ≡ Err (1, w.Arguments)
arguments_before_label = refl

label_before_unbegun : script_of Replay (codes "addtx A x y z") ≡ Err (1, w.Label)
label_before_unbegun = refl

unbegun_before_number : script_of Replay (codes "addtx a x y z") ≡ Err (1, w.Unbegun)
unbegun_before_number = refl

label_before_number : script_of Replay (codes "bind A x") ≡ Err (1, w.Label)
label_before_number = refl
