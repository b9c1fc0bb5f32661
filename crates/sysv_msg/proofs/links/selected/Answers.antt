use Rattle.std.proofs.lemmas.Int.{to_z-of_z}
use Rattle.sysv_msg.proofs.Slots.{fits_of, told_selected}
use Rattle.sysv_msg.proofs.links.selected.Goals as goal

pub slot_of-requires : goal.slot_of-requires
slot_of-requires c = fits_of c.args.links.now.nodes c.requires

pub returns : goal.returns
returns c =
    let range = c.ranges.class in
    told_selected c.slot_of.result c.args.class c.args.links.now.nodes c.have_own_slots.ensures
    (simp to_z-of_z at c.slot_of.ensures)
