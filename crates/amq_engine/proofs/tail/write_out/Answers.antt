use Rattle.std.proofs.Common.{◌≡◌, ◌+◌, ℕ, List, length, refl, sym, ap, subst}
use Rattle.amq_engine.specs.declared.tail.Tail.{Tail}
use Rattle.amq_engine.specs.Engine.{IsValid, end_of_tail, emptied}
use Rattle.amq_engine.proofs.Flushing.{valid_put, valid_failed, tail_by, some_bytes}
use Rattle.amq_engine.proofs.GoingOn.{goes_still}
use Rattle.amq_model.specs.Files.{FileName}
use Rattle.amq_model.specs.Leaves.{Told, IsThere, IsWithin, SparesAllBut}
use Rattle.amq_engine.specs.DataFiles.{Works}
use Rattle.amq_engine.proofs.DataFiles.{works_still, puts_works}
use Rattle.amq_engine.proofs.Tidying.{told_put}
use Rattle.amq_engine.proofs.tail.write_out.Goals as goal

pub returns-in_err-put-clause-valid : goal.returns-in_err-put-clause-valid
returns-in_err-put-clause-valid g c stage config table pool v =
    let t = c.args.tail.now in
    valid_failed stage (g.D.Disk.past c.args.disk.now) (g.D.Disk.past c.put.new.disk) (g.D.Disk.moment c.args.disk.now) (g.D.Disk.moment c.put.new.disk) (g.C.Chronicle.lists c.args.chronicle.now) (g.C.Chronicle.receipt_room c.args.chronicle.now) config table pool t c.as_str.result.now c.bytes.result.now c.as_str.ensures.text c.bytes.ensures (some_bytes c.is_empty.result t.buffer.bytes c.is_empty.ensures.bytes c.if-is_empty.false) c.put.ensures.crash c.put.ensures.later v

pub returns-clause-valid : goal.returns-clause-valid
returns-clause-valid g c stage config table pool v =
    let t = c.args.tail.now in
    let lists = g.C.Chronicle.lists in
    let room = g.C.Chronicle.receipt_room in
    let put =
    valid_put stage (g.D.Disk.past c.args.disk.now) (g.D.Disk.past c.put.new.disk) (g.D.Disk.moment c.args.disk.now) (g.D.Disk.moment c.put.new.disk) c.moment-moment.result (lists c.args.chronicle.now) (lists c.receipt.new.self) (room c.args.chronicle.now) (room c.receipt.new.self) config table pool t c.as_str.result.now c.bytes.result.now
    c.as_str.ensures.text c.bytes.ensures (some_bytes c.is_empty.result t.buffer.bytes c.is_empty.ensures.bytes c.if-is_empty.false) c.in_ok-put.ensures.ok c.moment-moment.ensures.told c.moment-moment.ensures.count c.in_ok-put.ensures.time c.receipt.ensures.noted v in
    subst (λ (u : Tail). IsValid stage (g.D.Disk.past c.put.new.disk) (g.D.Disk.moment c.put.new.disk) (lists c.receipt.new.self) (room c.receipt.new.self) config table pool u)
    (sym (tail_by t.file c.clear.new.self (emptied t.buffer) (t.end + length c.bytes-2.result.now) (end_of_tail t) t.appended t.appended c.clear.ensures (ap (λ (l : List ℕ). t.end + length l) c.bytes-2.ensures))) put

pub returns-then-is_empty-clause-goes_on : goal.returns-then-is_empty-clause-goes_on
returns-then-is_empty-clause-goes_on g c = goes_still (g.D.Disk.past c.args.disk.now)

pub returns-then-is_empty-clause-tidy : goal.returns-then-is_empty-clause-tidy
returns-then-is_empty-clause-tidy g c tidy = tidy

pub returns-clause-tidy : goal.returns-clause-tidy
returns-clause-tidy g c tidy =
    let past = g.D.Disk.past in
    let there : Told (past c.args.disk.now) (IsThere c.as_str.result.now) = subst (λ (n : FileName). Told (past c.args.disk.now) (IsThere n)) (sym c.as_str.ensures.text) c.requires.there in
    told_put c.as_str.result.now c.args.tail.now.end c.bytes.result.now (past c.args.disk.now) (past c.put.new.disk) there c.in_ok-put.ensures.ok tidy

pub returns-then-is_empty-clause-works : goal.returns-then-is_empty-clause-works
returns-then-is_empty-clause-works g c size first = works_still (SparesAllBut (λ n. n ≡ c.args.tail.now.file.name)) size first (g.D.Disk.past c.args.disk.now) (λ s n out. refl)

pub returns-in_err-put-clause-works : goal.returns-in_err-put-clause-works
returns-in_err-put-clause-works g c size first =
    let past = g.D.Disk.past in
    let t = c.args.tail.now in
    let there : Told (past c.args.disk.now) (IsThere c.as_str.result.now) = subst (λ (n : FileName). Told (past c.args.disk.now) (IsThere n)) (sym c.as_str.ensures.text) c.requires.there in
    let within : Told (past c.args.disk.now) (IsWithin c.as_str.result.now (t.end + length c.bytes.result.now)) =
    subst (λ (l : List ℕ). Told (past c.args.disk.now) (IsWithin c.as_str.result.now (t.end + length l))) (sym c.bytes.ensures) (subst (λ (n : FileName). Told (past c.args.disk.now) (IsWithin n (end_of_tail t))) (sym c.as_str.ensures.text) c.requires.within) in
    subst (λ (m : FileName). Works (SparesAllBut (λ n. n ≡ m)) size first first (past c.args.disk.now) (past c.put.new.disk)) c.as_str.ensures.text
    (puts_works c.as_str.result.now t.end c.bytes.result.now size first (past c.args.disk.now) (past c.put.new.disk) c.requires.start there within c.put.ensures.crash)

pub returns-clause-works : goal.returns-clause-works
returns-clause-works g c size first =
    let past = g.D.Disk.past in
    let t = c.args.tail.now in
    let there : Told (past c.args.disk.now) (IsThere c.as_str.result.now) = subst (λ (n : FileName). Told (past c.args.disk.now) (IsThere n)) (sym c.as_str.ensures.text) c.requires.there in
    let within : Told (past c.args.disk.now) (IsWithin c.as_str.result.now (t.end + length c.bytes.result.now)) =
    subst (λ (l : List ℕ). Told (past c.args.disk.now) (IsWithin c.as_str.result.now (t.end + length l))) (sym c.bytes.ensures) (subst (λ (n : FileName). Told (past c.args.disk.now) (IsWithin n (end_of_tail t))) (sym c.as_str.ensures.text) c.requires.within) in
    subst (λ (m : FileName). Works (SparesAllBut (λ n. n ≡ m)) size first first (past c.args.disk.now) (past c.put.new.disk)) c.as_str.ensures.text
    (puts_works c.as_str.result.now t.end c.bytes.result.now size first (past c.args.disk.now) (past c.put.new.disk) c.requires.start there within c.put.ensures.crash)
