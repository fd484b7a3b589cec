use Rattle.std.proofs.Common.{true, false, refl, ◌∙◌, ap, subst, List, Bool}
use Rattle.std.specs.Prelude.{map as map_of}
use Rattle.amq_io.specs.declared.disk.FileInfo.{FileInfo}
use Rattle.amq_io.specs.Listing.{listed_of, IsPlace}
use Rattle.amq_io.proofs.Ordered.{put_found, put_new}
use Rattle.amq_io.proofs.listing.put.Goals as goal

pub returns-then-found : goal.returns-then-found
returns-then-found c =
    let n = c.args.info.name in
    let es = c.args.listed.now.items in
    let i = c.place-i.result.0 in
    let P : Bool → Type 0 = λ b. IsPlace n c.deref.result.now i b in
    let R : List FileInfo → Type 0 = λ l. IsPlace n l i true in
    put_found n c.args.info.len es i c.index_mut.result.now _ (subst R c.deref.ensures.value (subst P c.if-found.true c.place-i.ensures.place)) c.index_mut.ensures.value refl refl

pub returns-in_ok-insert : goal.returns-in_ok-insert
returns-in_ok-insert c =
    let n = c.args.info.name in
    let es = c.args.listed.now.items in
    let i = c.place-i.result.0 in
    let P : Bool → Type 0 = λ b. IsPlace n c.deref.result.now i b in
    let R : List FileInfo → Type 0 = λ l. IsPlace n l i false in
    let place = subst R c.deref.ensures.value (subst P c.if-found.false c.place-i.ensures.place) in
    ap (λ (l : List FileInfo). map_of listed_of l) c.in_ok-insert.ensures.items ∙ put_new n es i c.args.info place refl
