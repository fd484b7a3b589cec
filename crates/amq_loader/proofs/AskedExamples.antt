-- The calls of loads by their answers, computed.
use Rattle.std.proofs.Common.{◌≡◌, ℕ, ◌+◌, ◌≤◌, zero, suc, List, [], ◌∷◌, length, map, codes, refl, sym, ap, subst, ◌∙◌, arith}
use Rattle.std.specs.Prelude.{Ok, Err, slice_index}
use Rattle.amq_model.proofs.Literals.{unequal}
use Rattle.std.proofs.lemmas.List.{length-map}
use Rattle.std.proofs.lemmas.List.Elements.{All-head}
use Rattle.amq_model.specs.declared.record.Record.TheVariants.{Delete}
use Rattle.amq_model.specs.declared.record.Placed.{Placed}
use Rattle.amq_model.specs.declared.refusal.DiskCall.TheVariants.{Read}
use Rattle.amq_model.specs.declared.directory.DataFile.{DataFile}
use Rattle.amq_model.specs.declared.directory.DirFault.TheVariants.{TooLong, Version, TwoFiles}
use Rattle.amq_model.specs.RecordAt.{whole_len}
use Rattle.amq_model.specs.Files.{FileName, Files}
use Rattle.amq_model.specs.Calls.{Call, Event, listing, reading, fine}
use Rattle.amq_model.specs.LoadCalls.{listed, names_among, AreCallsUntil}
use Rattle.amq_model.specs.InFiles.{IsInOne, AreInFiles}
use Rattle.amq_loader.specs.declared.faults.LoadFault.TheVariants as f
use Rattle.amq_loader.specs.Asked.{HasLoadCalls, HasListCall, HasReads, HasRead, IsOwnFault}

abbrev event : Call → ℕ → Event
event call before = record { call = call; outcome = fine; before = before }

abbrev one : FileName
one = codes "activemq-data-1.amq"

abbrev two : FileName
two = codes "activemq-data-2.amq"

-- ---- whole loads

-- the directory has two data files
module _ (s : Files) (is : listed s ≡ (one, 20) ∷ (two, 16) ∷ []) where
  pub all_are_read : HasLoadCalls {T = ℕ} (Ok 1) s (event (reading two) 2 ∷ event (reading one) 1 ∷ event listing 0 ∷ [])
  all_are_read = ap (λ (l : List (FileName × ℕ)). listing ∷ map reading (names_among l)) (sym is)

  pub one_is_left_out : HasLoadCalls {T = ℕ} (Ok 1) s (event (reading one) 1 ∷ event listing 0 ∷ []) → ⊥
  one_is_left_out h =
      let e : listing ∷ reading one ∷ [] ≡ listing ∷ reading one ∷ reading two ∷ [] = h ∙ ap (λ (l : List (FileName × ℕ)). listing ∷ map reading (names_among l)) is in
      absurd (cc)

  pub a_read_failed : HasLoadCalls {T = ℕ} (Err (f.Disk Read)) s (event (reading one) 1 ∷ event listing 0 ∷ [])
  a_read_failed = (reading two ∷ [], ap (λ (l : List (FileName × ℕ)). listing ∷ map reading (names_among l)) (sym is))

  pub the_first_is_too_long : AreCallsUntil (TooLong one 20) s (event (reading one) 1 ∷ event listing 0 ∷ [])
  the_first_is_too_long = (one ∷ [], record { before = []; len = 20; behind = (two, 16) ∷ []; split = is; are = refl }, refl)

  pub two_share_an_id : HasLoadCalls {T = ℕ} (Err (f.Directory (TwoFiles 1 one two))) s (event (reading two) 2 ∷ event (reading one) 1 ∷ event listing 0 ∷ [])
  two_share_an_id = (one ∷ two ∷ [], ap names_among (sym is), refl)

  pub of_two_files_the_list_alone : AreCallsUntil (TwoFiles 1 one two) s (event listing 0 ∷ []) → ⊥
  of_two_files_the_list_alone h =
      let names : h.0 ≡ one ∷ two ∷ [] = h.1 ∙ ap names_among is in
      omega (arith, ap length h.2, length-map h.0 reading, ap length names)

pub a_control_file_ends_it : (s : Files) → HasLoadCalls {T = ℕ} (Err f.NotBuilt) s (event listing 0 ∷ [])
a_control_file_ends_it s = refl

pub no_read_beside_a_control_file : (s : Files) → HasLoadCalls {T = ℕ} (Err f.NotBuilt) s (event (reading one) 1 ∷ event listing 0 ∷ []) → ⊥
no_read_beside_a_control_file s h = absurd (cc)

-- ---- their parts

pub a_list : (s : Files) → HasListCall {T = ℕ} (Ok 1) s (event listing 0 ∷ [])
a_list s = refl

pub a_list_that_was_not_made : (s : Files) → HasListCall {T = ℕ} (Ok 1) s [] → ⊥
a_list_that_was_not_made s h = absurd (cc)

pub a_read : (s : Files) → HasRead {T = ℕ} (Ok 1) one 16 s (event (reading one) 1 ∷ [])
a_read s = refl

pub a_read_of_a_short_file : (s : Files) → HasRead {T = ℕ} (Ok 1) one 15 s (event (reading one) 1 ∷ []) → ⊥
a_read_of_a_short_file s h = absurd (cc)

pub of_this_file : IsOwnFault (Version one 3) one
of_this_file = refl

pub of_two_files_none : IsOwnFault (TwoFiles 1 one two) one → ⊥
of_two_files_none h = h

pub reads_in_their_order : (s : Files) → HasReads {T = ℕ} (Ok 1) ((one, 20) ∷ (two, 16) ∷ []) s (event (reading two) 2 ∷ event (reading one) 1 ∷ [])
reads_in_their_order s = refl

pub reads_in_another_order : (s : Files) → HasReads {T = ℕ} (Ok 1) ((one, 20) ∷ (two, 16) ∷ []) s (event (reading one) 2 ∷ event (reading two) 1 ∷ []) → ⊥
reads_in_another_order s h = unequal 50 49 tt (ap digit_of_first h) where
  digit_of_first : List Call → ℕ
  digit_of_first (reading name ∷ rest) = slice_index name 14
  digit_of_first _ = 0

-- ---- records in files

abbrev file : DataFile
file = record { name = one; id = 1; len = 52; version = 2 }

abbrev at : ℕ → Placed
at place = record { file = 1; place = place; compact = 0; rec = Delete 5 }

pub a_record_behind_the_end : AreInFiles (file ∷ []) (at 35 ∷ []) → ⊥
a_record_behind_the_end h = by (All-head (IsInOne (file ∷ [])) (at 35) [] h.each) where
  by : IsInOne (file ∷ []) (at 35) → ⊥
  by (g, (zero, low, is), stands) = let P : DataFile → Type 0 = λ f. 35 + whole_len f.version (Delete 5) ≤ f.len in omega (arith, subst P (sym is) stands.within)
  by (g, (suc k, low, is), stands) = omega (arith, low)
