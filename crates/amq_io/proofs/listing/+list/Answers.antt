use Rattle.std.proofs.Common.{◌≡◌, length, ap}
use Rattle.amq_io.proofs.Ordered.{list_none, list_more}
use Rattle.amq_io.proofs.listing.+list.Goals as goal

pub returns-in-empty : goal.returns-in-empty
returns-in-empty t c = list_none c.args.files.now c.new.result.items c.in-empty.len_below c.new.ensures.items

pub returns-in_ok-put-in-len1-up : goal.returns-in_ok-put-in-len1-up
returns-in_ok-put-in-len1-up t c =
    let e = c.first-item.result in
    let name : c.in_ok-copy_name-in-len1-up.field-0 ≡ e.name = c.in_ok-copy_name-in-len1-up.ensures in
    let long : length c.bytes.result.now ≡ length e.file.read.bytes = ap length c.bytes.ensures in
    list_more c.args.files.now e c.in_ok-listed-in-len1-up.listed.items c.put.new.listed.items (record { name = c.in_ok-copy_name-in-len1-up.field-0; len = length c.bytes.result.now })
    c.in-len1-up.len_at_least c.first-item.is c.in_ok-listed-in-len1-up.ensures name long c.in_ok-put-in-len1-up.ensures
