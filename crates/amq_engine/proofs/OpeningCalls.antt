-- Which calls an opening makes up to its first receipt.
use Rattle.std.proofs.Common.{◌≡◌, inl, inr, ℕ, List, [], ◌∷◌, ◌++◌, map, Option, None, refl, ◌∙◌, ap, subst}
use Rattle.std.specs.Prelude.{Result, Ok}
use Rattle.std.specs.FinMap as finite
use Rattle.amq_model.specs.declared.directory.DataFile.{DataFile}
use Rattle.amq_model.specs.Directory.{FileOf, data_files}
use Rattle.amq_model.specs.Files.{Files}
use Rattle.amq_model.specs.Calls.{Call, Event, Past, syncing}
use Rattle.amq_model.specs.Leaves.{Told}
use Rattle.amq_model.specs.LoadCalls.{AreCalls, AreFirstCalls, Makes, load_calls}
use Rattle.amq_model.proofs.Making.{all_then, first_then, all_are_first, none_are_first, made_none, made_so, made_weaker, made_then}
use Rattle.amq_loader.specs.declared.faults.LoadFault.{LoadFault}
use Rattle.amq_loader.specs.declared.loaded.Loaded.{Loaded}
use Rattle.amq_loader.specs.Asked.{HasLoadCalls}
use Rattle.amq_loader.specs.Loads.{IsLoadOf, data_file}
use Rattle.amq_loader.proofs.Asking.{load_begins}
use Rattle.amq_engine.specs.Receipts.{AreOpeningCalls, AreFirstOpeningCalls}

-- no call was made
pub no_calls : (past : Option Past) → Makes AreFirstOpeningCalls past past
no_calls past = made_none AreFirstOpeningCalls past (λ s. inl (none_are_first (load_calls s)))

-- all of them are the first
pub first_of_all : (old new : Option Past) → Makes AreOpeningCalls old new → Makes AreFirstOpeningCalls old new
first_of_all old new made = made_weaker AreOpeningCalls AreFirstOpeningCalls old new (λ s events all. inr (all.0, all.1, all_are_first _ events all.2)) made

-- those of a load alone
pub load_alone : {T : Type 0} (result : Result T LoadFault) (old new : Option Past) → Makes (HasLoadCalls result) old new → Makes AreFirstOpeningCalls old new
load_alone result old new made = made_weaker (HasLoadCalls result) AreFirstOpeningCalls old new (λ s events calls. inl (load_begins result s events calls)) made

-- ---- the syncs behind it

-- a call for each data file, by its name
named_files : (files : List FileOf) → map (λ (f : DataFile). syncing f.name) (map data_file files) ≡ map (λ (f : FileOf). syncing f.name) files
named_files [] = refl
named_files (f ∷ fs) = ap (λ (cs : List Call). syncing f.name ∷ cs) (named_files fs)

module _ (wanted : ℕ) (l : Loaded) (a b c : Option Past) (told : Told a (IsLoadOf wanted l)) where
  -- the load, with what it told
  abbrev LoadedOf : Files → List Event → Type 0
  LoadedOf s events = AreCalls (load_calls s) events × IsLoadOf wanted l s

  loaded : Makes (HasLoadCalls {T = Loaded} (Ok l)) a b → Makes LoadedOf a b
  loaded made = made_so (HasLoadCalls {T = Loaded} (Ok l)) LoadedOf (IsLoadOf wanted l) a b (λ s events is calls. (calls, is)) told made

  syncs_are : (s : Files) (is : IsLoadOf wanted l s) → map (λ (f : DataFile). syncing f.name) l.files ≡ map (λ (f : FileOf). syncing f.name) (data_files (finite.entries is.image) None)
  syncs_are s is = ap (map (λ (f : DataFile). syncing f.name)) is.files ∙ named_files (data_files (finite.entries is.image) None)

  pub all_synced : Makes (HasLoadCalls {T = Loaded} (Ok l)) a b → Makes (λ s. AreCalls (map (λ (f : DataFile). syncing f.name) l.files)) b c → Makes AreOpeningCalls a c
  all_synced one two = made_then LoadedOf (λ s. AreCalls (map (λ (f : DataFile). syncing f.name) l.files)) AreOpeningCalls a b c
      (λ s now earlier later one two. (one.1.image, one.1.reading, subst (λ (cs : List Call). AreCalls (load_calls s ++ cs) (later ++ earlier)) (syncs_are s one.1) (all_then (load_calls s) (map (λ (f : DataFile). syncing f.name) l.files) earlier later one.0 two)))
      (loaded one) two

  pub some_synced : Makes (HasLoadCalls {T = Loaded} (Ok l)) a b → Makes (λ s. AreFirstCalls (map (λ (f : DataFile). syncing f.name) l.files)) b c → Makes AreFirstOpeningCalls a c
  some_synced one two = made_then LoadedOf (λ s. AreFirstCalls (map (λ (f : DataFile). syncing f.name) l.files)) AreFirstOpeningCalls a b c
      (λ s now earlier later one two. inr (one.1.image, one.1.reading, subst (λ (cs : List Call). AreFirstCalls (load_calls s ++ cs) (later ++ earlier)) (syncs_are s one.1) (first_then (load_calls s) (map (λ (f : DataFile). syncing f.name) l.files) earlier later one.0 two)))
      (loaded one) two
