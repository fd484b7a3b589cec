-- The script of a number, computed.
use Rattle.std.proofs.Common.{◌≡◌, [], ◌∷◌, codes, Ok, refl}
use Rattle.amq_model.specs.declared.command.Command.TheVariants as c
use Rattle.amq_model.specs.declared.script.Mode.TheVariants.{Replay}
use Rattle.amq_model.specs.declared.script.Line.TheVariants as l
use Rattle.amq_model.specs.Script.{script_of}
use Rattle.amq_model.specs.Generator.{x_at, r_at, body_made, delete_behind, upkeep_behind, made_from}

first_number : x_at 1 1 ≡ 7806831264735756412
first_number = refl

second_number : x_at 2 2 ≡ 16917806452429146372
second_number = refl

its_upper_bits : r_at 2 2 ≡ 1969491882
its_upper_bits = refl

-- a body that begins anew behind ff
wraps : body_made 4607 ≡ 255 ∷ 0 ∷ 1 ∷ 2 ∷ 3 ∷ 4 ∷ 5 ∷ []
wraps = refl

-- a multiple of 200 makes no byte
empty : body_made (r_at 17 1) ≡ []
empty = refl

no_delete : delete_behind 16 ≡ []
no_delete = refl

first_delete : delete_behind 17 ≡ l.Labelled (codes "t") c.Begin ∷ l.Labelled (codes "t") (c.DeleteTx 0 1 []) ∷ l.Labelled (codes "t") (c.Commit 0) ∷ []
first_delete = refl

no_upkeep : upkeep_behind 65 ≡ []
no_upkeep = refl

flushed : upkeep_behind 128 ≡ l.Plain c.Flush ∷ []
flushed = refl

reclaimed : upkeep_behind 256 ≡ l.Plain c.Flush ∷ l.Reclaim ∷ []
reclaimed = refl

nothing : made_from 0 ≡ [] ∷ []
nothing = refl

-- the script of 2 is that of this text
as_read : script_of Replay (codes "begin t\naddtx t 1 31 ecedeeeff0f1f2f3f4f5f6f7f8f9fafbfcfdfeff000102030405060708090a0b0c0d0e0f101112131415161718191a1b1c1d1e1f202122232425262728292a2b2c2d2e2f303132333435363738393a3b3c3d3e3f404142434445464748494a4b4c4d4e4f505152535455565758595a5b5c5d5e5f606162636465666768696a6b6c6d6e6f7071727374757677\ncommit t\nbegin t\naddtx t 2 31 aaabacadaeafb0b1b2b3b4b5b6b7b8b9babbbcbdbebfc0c1c2c3c4c5c6c7c8c9cacbcccdcecfd0d1d2d3d4d5d6d7d8d9dadbdcdddedfe0e1e2e3e4e5e6e7e8e9eaebecedeeeff0f1f2f3f4f5f6f7f8f9fafb\ncommit t\n") ≡ Ok (made_from 2)
as_read = refl
