-- The lines of the records in data files.
use Rattle.std.specs.Prelude.{ℕ, Bool, ◌==◌, List, [], ◌∷◌, ◌++◌, filter, codes}
use Rattle.std.specs.List.{flat_map}
use Rattle.std.specs.Fmt.{decimal}
use Rattle.amq_model.specs.declared.directory.DataFile.{DataFile}
use Rattle.amq_model.specs.declared.record.Placed.{Placed}
use Rattle.amq_model.specs.declared.record.Record.{Record}
use Rattle.amq_model.specs.declared.record.Record.TheVariants as r
use Rattle.amq_model.specs.Texts.{line, hex}

-- the kind's name
abbrev pub record_kind : Record → List ℕ
record_kind (r.Add id user_type body) = codes "ADD"
record_kind (r.Update id user_type body) = codes "UPDATE"
record_kind (r.AddTx tx id user_type body) = codes "ADD_TX"
record_kind (r.UpdateTx tx id user_type body) = codes "UPDATE_TX"
record_kind (r.DeleteTx tx id body) = codes "DELETE_TX"
record_kind (r.Delete id) = codes "DELETE"
record_kind (r.Prepare tx count extra) = codes "PREPARE"
record_kind (r.Commit tx count) = codes "COMMIT"
record_kind (r.Rollback tx) = codes "ROLLBACK"

-- an id, a user type and a body
abbrev pub stored_fields : ℕ → ℕ → List ℕ → List (List ℕ)
stored_fields id user_type body = codes "id" ∷ decimal id ∷ codes "type" ∷ decimal user_type ∷ codes "body" ∷ hex body ∷ []

-- the kind's fields, each behind its name
abbrev pub record_fields : Record → List (List ℕ)
record_fields (r.Add id user_type body) = stored_fields id user_type body
record_fields (r.Update id user_type body) = stored_fields id user_type body
record_fields (r.AddTx tx id user_type body) = codes "tx" ∷ decimal tx ∷ stored_fields id user_type body
record_fields (r.UpdateTx tx id user_type body) = codes "tx" ∷ decimal tx ∷ stored_fields id user_type body
record_fields (r.DeleteTx tx id body) = codes "tx" ∷ decimal tx ∷ codes "id" ∷ decimal id ∷ codes "body" ∷ hex body ∷ []
record_fields (r.Delete id) = codes "id" ∷ decimal id ∷ []
record_fields (r.Prepare tx count extra) = codes "tx" ∷ decimal tx ∷ codes "number" ∷ decimal count ∷ codes "extra" ∷ hex extra ∷ []
record_fields (r.Commit tx count) = codes "tx" ∷ decimal tx ∷ codes "number" ∷ decimal count ∷ []
record_fields (r.Rollback tx) = codes "tx" ∷ decimal tx ∷ []

-- the line of a record: its place, kind and compact count, then the kind's fields
abbrev pub record_line : Placed → List ℕ
record_line p = line (decimal p.place ∷ record_kind p.rec ∷ codes "compact" ∷ decimal p.compact ∷ record_fields p.rec)

-- a data file's own line
abbrev pub file_line : ℕ → DataFile → List ℕ
file_line user_version f = line (codes "file" ∷ decimal f.id ∷ f.name ∷ codes "version" ∷ decimal f.version ∷ codes "user" ∷ decimal user_version ∷ [])

-- the record stands in the file of that id
abbrev pub is_in : ℕ → Placed → Bool
is_in id p = p.file == id

-- a data file: its own line, then those of its records, in the order of the list
abbrev pub file_lines : List Placed → ℕ → DataFile → List ℕ
file_lines base user_version f = file_line user_version f ++ flat_map record_line (filter (is_in f.id) base)

-- the data files in the order of the list, each with its records
abbrev pub record_lines_of : List DataFile → List Placed → ℕ → List ℕ
record_lines_of files base user_version = flat_map (file_lines base user_version) files
