-- What a scan finds behind a broken record and in a file of another id, and what loading makes of it.
use Rattle.std.proofs.Common.{◌≡◌, ⊎_elim, ℕ, ◌+◌, ◌%◌, ◌<◌, ◌≤◌, List, [], ◌∷◌, ◌++◌, length, slice_index, Option, Some, None, codes, refl, sym, ap, subst, ◌∙◌, mod-eq_of_lt, eq-or-lt_of_le, arith}
use Rattle.amq_model.specs.declared.record.Record.{Record}
use Rattle.amq_model.specs.declared.record.Record.TheVariants.{Add, Update, AddTx, UpdateTx, DeleteTx, Delete, Prepare, Commit, Rollback}
use Rattle.amq_model.specs.declared.directory.Control.{Control}
use Rattle.amq_model.specs.declared.directory.DirFault.TheVariants.{Version}
use Rattle.amq_model.specs.declared.state.EntryKind.TheVariants as kinds
use Rattle.amq_model.specs.declared.state.Entry.{Entry}
use Rattle.amq_model.specs.declared.state.LoadState.{LoadState}
use Rattle.amq_model.specs.RecordAt.{Spot, RecordAt, NoneAt, long, word, kind_of}
use Rattle.amq_model.specs.Scan.{IsScan}
use Rattle.amq_model.specs.Directory.{Listing, SaysControl, Loads, HasFault, fault}
use Rattle.amq_model.proofs.Literals.{are_bytes, unequal, read_at, at_least, none_behind, none_within, none_from}

abbrev pub header : ℕ → ℕ → List ℕ
header version id = 0 ∷ 0 ∷ 0 ∷ version ∷ 0 ∷ 0 ∷ 0 ∷ 0 ∷ 0 ∷ 0 ∷ 0 ∷ 0 ∷ 0 ∷ 0 ∷ 0 ∷ id ∷ []

-- an ADD of id 1 in file 1 with this check size
abbrev pub record_of_1 : ℕ → List ℕ
record_of_1 size = 0x0b ∷ 0 ∷ 0 ∷ 0 ∷ 1 ∷ 0 ∷ 0 ∷ 0 ∷ 0 ∷ 0 ∷ 0 ∷ 0 ∷ 0 ∷ 1 ∷ 0 ∷ 0 ∷ 0 ∷ 2 ∷ 7 ∷ 0x68 ∷ 0x69 ∷ 0 ∷ 0 ∷ 0 ∷ size ∷ []

-- it in a file of id 1, and one of id 2 behind it
abbrev pub adds : ℕ → List ℕ
adds size = header 2 1 ++ record_of_1 size
    ++ 0x0b ∷ 0 ∷ 0 ∷ 0 ∷ 1 ∷ 0 ∷ 0 ∷ 0 ∷ 0 ∷ 0 ∷ 0 ∷ 0 ∷ 0 ∷ 2 ∷ 0 ∷ 0 ∷ 0 ∷ 2 ∷ 7 ∷ 0x79 ∷ 0x6f ∷ 0 ∷ 0 ∷ 0 ∷ 0x19 ∷ []

-- the first one's check size is one too low
abbrev pub broken : List ℕ
broken = adds 0x18

abbrev pub second : Spot
second = record { place = 41; len = 25; compact = 0; rec = Add 2 7 (0x79 ∷ 0x6f ∷ []) }

pub second_stands : RecordAt broken 1 2 second
unfolding long word
second_stands = record {
  values = (omega arith, omega arith, record { short = omega arith; bytes = are_bytes (0x79 ∷ 0x6f ∷ []) tt });
  compact = (omega arith, λ e. refl);
  len = refl;
  within = omega arith;
  spelled = refl;
}

another_kind : (s : Spot) → s.place ≡ 16 → 1 ≤ s.len → RecordAt broken 1 2 s → 11 ≡ kind_of s.rec
another_kind s is low found = ap (λ p. slice_index broken (p + 0)) (sym is) ∙ read_at broken 1 s 0 low found

none_at_16 : (len compact : ℕ) (rec : Record) → RecordAt broken 1 2 (record { place = 16; len = len; compact = compact; rec = rec }) → ⊥
unfolding long word
none_at_16 len compact (Add id user_type []) found = let size = found.len in unequal 2 0 tt (read_at broken 1 _ 17 (omega arith) found)
none_at_16 len compact (Add id user_type (x ∷ [])) found = let size = found.len in unequal 2 1 tt (read_at broken 1 _ 17 (omega arith) found)
none_at_16 len compact (Add id user_type (x ∷ y ∷ [])) found = let size = found.len in unequal 0x18 0x19 tt (read_at broken 1 _ 24 (omega arith) found)
none_at_16 len compact (Add id user_type (x ∷ y ∷ z ∷ more)) found =
    let size : len ≡ 23 + length (x ∷ y ∷ z ∷ more) = found.len in
    let within : 16 + len ≤ 66 = found.within in
    let lowest : 2 ≡ length (x ∷ y ∷ z ∷ more) % 256 = read_at broken 1 _ 17 (omega arith) found in
    let fits : length (x ∷ y ∷ z ∷ more) % 256 ≡ length (x ∷ y ∷ z ∷ more) = mod-eq_of_lt (omega arith) in
    omega arith
none_at_16 len compact (Update id user_type body) found = let size = found.len in unequal 11 12 tt (another_kind _ refl (omega arith) found)
none_at_16 len compact (AddTx tx id user_type body) found = let size = found.len in unequal 11 13 tt (another_kind _ refl (omega arith) found)
none_at_16 len compact (UpdateTx tx id user_type body) found = let size = found.len in unequal 11 14 tt (another_kind _ refl (omega arith) found)
none_at_16 len compact (DeleteTx tx id body) found = let size = found.len in unequal 11 15 tt (another_kind _ refl (omega arith) found)
none_at_16 len compact (Delete id) found = let size = found.len in unequal 11 16 tt (another_kind _ refl (omega arith) found)
none_at_16 len compact (Prepare tx count extra) found = let size = found.len in unequal 11 17 tt (another_kind _ refl (omega arith) found)
none_at_16 len compact (Commit tx count) found = let size = found.len in unequal 11 18 tt (another_kind _ refl (omega arith) found)
none_at_16 len compact (Rollback tx) found = let size = found.len in unequal 11 19 tt (another_kind _ refl (omega arith) found)

pub none_before : (p : ℕ) → 16 ≤ p → p < 41 → NoneAt broken 1 2 p
none_before p low high s is found = ⊎_elim
    (λ e. none_at_16 s.len s.compact s.rec (subst (λ i. RecordAt broken 1 2 (record { place = i; len = s.len; compact = s.compact; rec = s.rec })) (is ∙ sym e) found))
    (λ e. none_within broken 1 17 24 tt p e (omega arith) s is found)
    (eq-or-lt_of_le low)

pub behind_a_broken_record : IsScan broken 1 2 (second ∷ [])
behind_a_broken_record = (omega arith, none_before, second_stands, λ p low. none_behind broken 1 p low)

-- a scan doesn't stop where none stands
pub stopped_short : IsScan broken 1 2 [] → ⊥
stopped_short h = h 41 (omega arith) second refl second_stands

-- and takes no broken one
pub a_broken_record : (spots : List Spot) → IsScan broken 1 2 (record { place = 16; len = 25; compact = 0; rec = Add 1 7 (0x68 ∷ 0x69 ∷ []) } ∷ spots) → ⊥
a_broken_record spots h = none_at_16 25 0 (Add 1 7 (0x68 ∷ 0x69 ∷ [])) h.2

-- a file of id 2 with a record of file 1
abbrev foreign : List ℕ
foreign = header 2 2 ++ record_of_1 0x19

pub of_another_file : IsScan foreign 2 2 []
unfolding long word
of_another_file p low s is found =
    let size = at_least s.rec in
    let whole = found.len in
    ⊎_elim
    (λ e. unequal 1 2 tt (ap (λ i. slice_index foreign (i + 4)) (e ∙ sym is) ∙ read_at foreign 2 s 4 (omega arith) found))
    (λ e. none_from foreign 2 17 tt p e s is found)
    (eq-or-lt_of_le low)

-- ---- loading

abbrev added : ℕ → List ℕ → Entry
added id body = record { kind = kinds.Add; id = id; user_type = 7; body = body }

abbrev one_broken : Listing
one_broken = (codes "activemq-data-1.amq", broken) ∷ []

abbrev of_version : ℕ → Listing
of_version version = (codes "activemq-data-1.amq", header version 1) ∷ []

no_control : (version : ℕ) → SaysControl (of_version version) None
no_control version bytes c e = absurd cc

pub loads_the_second : Loads one_broken 0 (record { live = added 2 (0x79 ∷ 0x6f ∷ []) ∷ []; in_doubt = [] })
loads_the_second = record {
  control = None;
  records = record { file = 1; place = 41; compact = 0; rec = Add 2 7 (0x79 ∷ 0x6f ∷ []) } ∷ [];
  read = record { says = λ bytes c e. absurd cc; joined = (second ∷ [], behind_a_broken_record, [], refl, refl) };
  sound = refl;
  is = refl;
}

pub a_header_alone_loads : Loads (of_version 2) 0 (record { live = []; in_doubt = [] })
a_header_alone_loads = record { control = None; records = []; read = record { says = no_control 2; joined = ([], λ p low. none_behind (header 2 1) 1 p low, [], refl, refl) }; sound = refl; is = refl }

pub a_fault_loads_nothing : (state : LoadState) → Loads (of_version 3) 0 state → ⊥
a_fault_loads_nothing state h = by h.control h.read.says h.sound where
  by : (control : Option Control) → SaysControl (of_version 3) control → fault (of_version 3) control 0 ≡ None → ⊥
  by None says e = absurd cc
  by (Some c) (bytes, there, more) e = absurd cc

pub has_its_fault : HasFault (of_version 3) 0 (Some (Version (codes "activemq-data-1.amq") 3))
has_its_fault = record { control = None; says = no_control 3; is = refl }

pub has_a_fault : HasFault (of_version 3) 0 None → ⊥
has_a_fault h = by h.control h.says h.is where
  by : (control : Option Control) → SaysControl (of_version 3) control → None ≡ fault (of_version 3) control 0 → ⊥
  by None says e = absurd cc
  by (Some c) (bytes, there, more) e = absurd cc
