use Rattle.std.proofs.Common.{◌≡◌, ◌<◌, ◌++◌, List, ℕ, take, drop, length, rules, sym, ◌∙◌, ap, subst}
use Rattle.amq_io.specs.Versions.{Versions}
use Rattle.std.specs.Prelude.{reverse, slice_index}
use Rattle.amq_io.specs.declared.memory_file.Pending.{Pending}
use Rattle.amq_io.specs.MemoryFile.{all_picked}
use Rattle.amq_io.specs.Torn.{IsTornBy}
use Rattle.amq_io.proofs.Picking.{inside_reverse, length-all_picked, torn_by, written_back}
use Rattle.amq_io.proofs.memory_file.MemoryFile.left.Goals as goal

pub returns : goal.returns
returns c =
    let b = c.self.inside.bytes.items in
    let ps = c.self.inside.pending.items in
    let inside = inside_reverse (length b) ps c.self.invariant in
    let copied : c.in_ok-left.left.items ≡ b = search rules in
    let picks : c.pick_ranges.new.bytes ≡ all_picked c.args.pick b (reverse ps) =
    c.pick_ranges.ensures ∙ ap (λ (l : List ℕ). all_picked c.args.pick l (reverse c.deref-2.result.now)) (c.deref_mut.ensures.value ∙ copied) ∙ ap (λ (l : List Pending). all_picked c.args.pick b (reverse l)) c.deref-2.ensures.value in
    let back = written_back c.pick_ranges.new.bytes c.in_ok-left.left.items c.in_ok-left.left.len (ap length picks ∙ length-all_picked c.args.pick b (reverse ps) inside ∙ ap length (sym (c.deref_mut.ensures.value ∙ copied)) ∙ c.deref_mut.ensures.len) in
    let now = take c.in_ok-left.left.len (c.pick_ranges.new.bytes ++ drop (length c.pick_ranges.new.bytes) c.in_ok-left.left.items) in
    let B : List ℕ → Type 0 = λ l. (i : ℕ) → slice_index l i < 256 in
    let P : Versions → Type 0 = λ v. IsTornBy c.args.pick v.read v.synced now in
    subst P c.self.view_is (torn_by c.args.pick b now (reverse ps) inside (back ∙ picks) (subst B c.deref-3.ensures.value c.are_bytes.ensures))
