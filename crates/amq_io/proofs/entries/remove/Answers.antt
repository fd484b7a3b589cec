use Rattle.std.proofs.Common.{List, ◌∙◌, ap, arith}
use Rattle.std.specs.FinMap as map
use Rattle.amq_io.specs.Entries.{files_of, synced_of}
use Rattle.amq_io.proofs.Places.{reads, syncs, drop_entry, removed_is, get_absent, first_in, absent_in}
use Rattle.amq_io.proofs.entries.remove.Goals as goal

pub loop-i-preserved : goal.loop-i-preserved
loop-i-preserved c =
    let first = first_in c.args.name.now c.deref.result.now c.loop-i.files.items c.in-Some.i c.deref.ensures.value c.in-Some.ensures.found in
    record {
      others = λ q ne. ap (λ (l : List _). map.get (files_of l) q) c.remove.ensures.items ∙ drop_entry reads c.args.name.now c.loop-i.files.items c.in-Some.i first q ne ∙ c.loop-i.invariant.others q ne;
      synced = λ q ne. ap (λ (l : List _). map.get (synced_of l) q) c.remove.ensures.items ∙ drop_entry syncs c.args.name.now c.loop-i.files.items c.in-Some.i first q ne ∙ c.loop-i.invariant.synced q ne;
      room = c.remove.ensures.capacity ∙ c.loop-i.invariant.room;
      len = omega (arith, c.remove.ensures.len, c.loop-i.invariant.len);
    }

pub returns-clause-gone : goal.returns-clause-gone
returns-clause-gone c =
    removed_is c.args.name.now (files_of c.loop-i.files.items) (files_of c.args.files.now.items)
    (get_absent reads c.args.name.now c.loop-i.files.items (absent_in c.args.name.now c.deref.result.now c.loop-i.files.items c.deref.ensures.value c.in_default.ensures.none))
    c.loop-i.invariant.others

pub returns-clause-synced : goal.returns-clause-synced
returns-clause-synced c =
    removed_is c.args.name.now (synced_of c.loop-i.files.items) (synced_of c.args.files.now.items)
    (get_absent syncs c.args.name.now c.loop-i.files.items (absent_in c.args.name.now c.deref.result.now c.loop-i.files.items c.deref.ensures.value c.in_default.ensures.none))
    c.loop-i.invariant.synced
