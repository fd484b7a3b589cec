use Rattle.std.proofs.Common.{◌≡◌, ◌∙◌, ℕ, List, Option, Vec, Global, None, Err, inl, inr, sym, refl, subst, arith, rules}
use Rattle.amq_model.specs.Calls.{reading}
use Rattle.std.specs.Prelude.{IfOk}
use Rattle.amq_model.specs.Leaves.{Unchanged, Told, HasBytes}
use Rattle.amq_loader.specs.declared.part.Part.{Part}
use Rattle.amq_loader.specs.Parts.{IsFound, HasFaultHere}
use Rattle.amq_model.proofs.Moments.{still}
use Rattle.amq_io.specs.Faults.{as_error}
use Rattle.amq_io.proofs.Called.{reading_only_asks}
use Rattle.amq_loader.proofs.Chain.{call_asks, still_asks}
use Rattle.amq_loader.specs.Causes.{load_fault}
use Rattle.amq_loader.proofs.Asking.{not_read, is_read_one, nothing_read, long_unread, read_failed, part_read}
use Rattle.amq_loader.proofs.OneFile.{nothing_found, long_cause, part_cause, part_found}
use Rattle.amq_loader.proofs.loading.read_file.Goals as goal
use Rattle.amq_loader.proofs.loading.read_file.Goals.{then-not-is_data-via-then-not-is_data, then-not-is_data-via-else-not-is_data+then-info-lt-HEADER_LEN}

pub returns-then-not-is_data-clause-found : goal.returns-then-not-is_data-clause-found
returns-then-not-is_data-clause-found g c =
    elim c.then-not-is_data.branch [
      | then-not-is_data-via-then-not-is_data w ↦ nothing_found c.args.user_version c.args.info.now (g.D.Disk.past c.args.disk.now) c.requires.listed (inl (sym c.is_data.ensures ∙ w.if-not-is_data.true))
      | then-not-is_data-via-else-not-is_data+then-info-lt-HEADER_LEN w ↦ nothing_found c.args.user_version c.args.info.now (g.D.Disk.past c.args.disk.now) c.requires.listed (inr (omega (arith, w.if-info-lt-HEADER_LEN.true)))
    ]

pub returns-then-not-is_data-clause-asks : goal.returns-then-not-is_data-clause-asks
returns-then-not-is_data-clause-asks g c = still_asks (g.D.Disk.past c.args.disk.now)

pub returns-then-not-is_data-clause-only_asks : goal.returns-then-not-is_data-clause-only_asks
returns-then-not-is_data-clause-only_asks g c = still Unchanged Unchanged (g.D.Disk.past c.args.disk.now) (λ s. refl)

pub returns-then-info-gt-MAX_LEN-clause-cause : goal.returns-then-info-gt-MAX_LEN-clause-cause
returns-then-info-gt-MAX_LEN-clause-cause g c =
    long_cause (Option Part) c.args.user_version c.args.info.now (g.D.Disk.past c.args.disk.now) c.too_long.result (g.D.Disk.faults c.args.disk.now) c.requires.listed (sym c.if-not-is_data.ensures) (omega (arith, c.if-info-gt-MAX_LEN.true)) c.too_long.ensures

pub returns-then-info-gt-MAX_LEN-clause-asks : goal.returns-then-info-gt-MAX_LEN-clause-asks
returns-then-info-gt-MAX_LEN-clause-asks g c = still_asks (g.D.Disk.past c.args.disk.now)

pub returns-then-info-gt-MAX_LEN-clause-only_asks : goal.returns-then-info-gt-MAX_LEN-clause-only_asks
returns-then-info-gt-MAX_LEN-clause-only_asks g c = still Unchanged Unchanged (g.D.Disk.past c.args.disk.now) (λ s. refl)

pub returns-in_err-bytes-clause-asks : goal.returns-in_err-bytes-clause-asks
returns-in_err-bytes-clause-asks g c = call_asks (reading c.as_str.result.now) (as_error c.read.result) (g.D.Disk.past c.args.disk.now) (g.D.Disk.past c.read.new.disk) tt c.read.ensures.note

pub returns-in_err-bytes-clause-only_asks : goal.returns-in_err-bytes-clause-only_asks
returns-in_err-bytes-clause-only_asks g c = reading_only_asks c.as_str.result.now (as_error c.read.result) (g.D.Disk.past c.args.disk.now) (g.D.Disk.past c.read.new.disk) c.read.ensures.note

pub returns-clause-found : goal.returns-clause-found
returns-clause-found g c =
    let past = g.D.Disk.past c.args.disk.now in
    let bytes = c.in_ok-bytes.bytes.items in
    let has = subst (λ (n : List ℕ). Told past (HasBytes n bytes)) c.as_str.ensures.text c.in_ok-bytes.ensures.bytes in
    part_found c.args.user_version c.args.info.now.name bytes past c.part_of.result has
    (subst (λ (b : List ℕ). IfOk c.part_of.result (IsFound c.args.user_version c.args.info.now.name b)) c.deref.ensures.value c.part_of.ensures.found)

pub returns-clause-cause : goal.returns-clause-cause
returns-clause-cause g c =
    let past = g.D.Disk.past c.args.disk.now in
    let bytes = c.in_ok-bytes.bytes.items in
    let has = subst (λ (n : List ℕ). Told past (HasBytes n bytes)) c.as_str.ensures.text c.in_ok-bytes.ensures.bytes in
    part_cause c.args.user_version c.args.info.now past bytes c.part_of.result (g.D.Disk.faults c.args.disk.now) (g.D.Disk.faults c.read.new.disk) c.requires.listed has (c.in_ok-bytes.ensures.cause.0, c.in_ok-bytes.ensures.cause.1)
    (subst (λ (b : List ℕ). HasFaultHere c.args.user_version c.args.info.now.name b c.part_of.result) c.deref.ensures.value c.part_of.ensures.fault)

pub returns-clause-asks : goal.returns-clause-asks
returns-clause-asks g c = call_asks (reading c.as_str.result.now) (as_error c.read.result) (g.D.Disk.past c.args.disk.now) (g.D.Disk.past c.read.new.disk) tt c.read.ensures.note

pub returns-clause-only_asks : goal.returns-clause-only_asks
returns-clause-only_asks g c = reading_only_asks c.as_str.result.now (as_error c.read.result) (g.D.Disk.past c.args.disk.now) (g.D.Disk.past c.read.new.disk) c.read.ensures.note

pub returns-then-not-is_data-clause-calls : goal.returns-then-not-is_data-clause-calls
returns-then-not-is_data-clause-calls g c =
    let name = c.args.info.now.name in
    let len = c.args.info.now.len in
    nothing_read (Option Part) None name len (g.D.Disk.past c.args.disk.now)
    (elim c.then-not-is_data.branch [
      | then-not-is_data-via-then-not-is_data w ↦ not_read name len (inl (sym c.is_data.ensures ∙ w.if-not-is_data.true))
      | then-not-is_data-via-else-not-is_data+then-info-lt-HEADER_LEN w ↦ not_read name len (inr (inl (omega (arith, w.if-info-lt-HEADER_LEN.true))))
    ])

pub returns-then-info-gt-MAX_LEN-clause-calls : goal.returns-then-info-gt-MAX_LEN-clause-calls
returns-then-info-gt-MAX_LEN-clause-calls g c = long_unread (Option Part) c.args.info.now.name c.args.info.now.len c.too_long.result (g.D.Disk.past c.args.disk.now) (omega (arith, c.if-info-gt-MAX_LEN.true)) c.too_long.ensures

pub returns-in_err-bytes-clause-calls : goal.returns-in_err-bytes-clause-calls
returns-in_err-bytes-clause-calls g c =
    let is : c.from_residual.result ≡ Err (load_fault c.in_err-bytes.field-0.0) = search rules in
    let read = is_read_one c.args.info.now.name c.args.info.now.len (sym c.if-not-is_data.ensures) (omega arith) (omega arith) in
    read_failed (Vec ℕ Global) _ c.as_str.result.now c.args.info.now.name c.args.info.now.len c.in_err-bytes.field-0.0 c.from_residual.result (g.D.Disk.past c.args.disk.now) (g.D.Disk.past c.read.new.disk) c.as_str.ensures.text read is c.in_err-bytes.ensures.note

pub returns-clause-calls : goal.returns-clause-calls
returns-clause-calls g c =
    let read = is_read_one c.args.info.now.name c.args.info.now.len (sym c.if-not-is_data.ensures) (omega arith) (omega arith) in
    part_read (Option Part) c.args.user_version c.as_str.result.now c.args.info.now.name c.in_ok-bytes.bytes.items c.args.info.now.len c.part_of.result (g.D.Disk.past c.args.disk.now) (g.D.Disk.past c.read.new.disk) c.as_str.ensures.text read c.in_ok-bytes.ensures.note
    (subst (λ (b : List ℕ). HasFaultHere c.args.user_version c.args.info.now.name b c.part_of.result) c.deref.ensures.value c.part_of.ensures.fault)
